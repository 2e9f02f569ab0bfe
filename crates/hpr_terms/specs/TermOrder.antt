-- The order of expressions: that of these lists of numbers, in which the first difference decides.
--
-- unary_rank op     == the operator's place in the declared order, from 0
-- binary_rank op    == the same of an operator of two operands
-- name_code x rest  == the name as numbers, and then these
-- term_code t rest  == the term as numbers in preorder, and then these
-- code_of t         == the term as numbers
use Rattle.std.specs.Prelude.{ℕ, List, [], ◌∷◌}
use Rattle.hpr_terms.specs.declared.expr.Unary.{Unary}
use Rattle.hpr_terms.specs.declared.expr.Unary.TheVariants.{Neg, Not}
use Rattle.hpr_terms.specs.declared.expr.Binary.{Binary}
use Rattle.hpr_terms.specs.declared.expr.Binary.TheVariants.{Or, And, Equal, Differ, Less, LessEqual, Greater, GreaterEqual, Add, Sub, Mul, Div, Rem}
use Rattle.hpr_terms.specs.Term.{Term, num, var, prefix, infix', element}

abbrev pub unary_rank : Unary → ℕ
unary_rank Neg = 0
unary_rank Not = 1

abbrev pub binary_rank : Binary → ℕ
binary_rank Or = 0
binary_rank And = 1
binary_rank Equal = 2
binary_rank Differ = 3
binary_rank Less = 4
binary_rank LessEqual = 5
binary_rank Greater = 6
binary_rank GreaterEqual = 7
binary_rank Add = 8
binary_rank Sub = 9
binary_rank Mul = 10
binary_rank Div = 11
binary_rank Rem = 12

-- a name's bytes, each after a 1, and a 0 at the end
abbrev pub name_code : List ℕ → List ℕ → List ℕ
name_code [] rest = 0 ∷ rest
name_code (b ∷ bs) rest = 1 ∷ b ∷ name_code bs rest

-- a term as numbers: its kind, and then its parts in their order
abbrev pub term_code : Term → List ℕ → List ℕ
term_code (num n) rest = 0 ∷ n ∷ rest
term_code (var x) rest = 1 ∷ name_code x rest
term_code (prefix op a) rest = 2 ∷ unary_rank op ∷ term_code a rest
term_code (infix' op a b) rest = 3 ∷ binary_rank op ∷ term_code a (term_code b rest)
term_code (element x i) rest = 4 ∷ name_code x (term_code i rest)

abbrev pub code_of : Term → List ℕ
code_of t = term_code t []
