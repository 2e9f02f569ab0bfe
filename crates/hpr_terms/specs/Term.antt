-- Expressions as plain trees.
--
-- Term         == a literal, a name, an operator and its operands, or an element: the name of its array, and
--                 its index
-- levels t     == how many levels the term has
-- operators t  == how many operators and elements stand in the term
use Rattle.std.specs.Prelude.{ℕ, ◌+◌, List, max}
use Rattle.hpr_terms.specs.declared.expr.Unary.{Unary}
use Rattle.hpr_terms.specs.declared.expr.Binary.{Binary}

pub data Term : Type 0 where
  num : (value : ℕ) → Term
  var : (name : List ℕ) → Term
  prefix : (op : Unary) → (operand : Term) → Term
  infix' : (op : Binary) → (left right : Term) → Term
  element : (array : List ℕ) → (index : Term) → Term

-- how many levels a term has
abbrev pub levels : Term → ℕ
levels (num n) = 1
levels (var x) = 1
levels (prefix op a) = levels a + 1
levels (infix' op a b) = max (levels a) (levels b) + 1
levels (element x i) = levels i + 1

-- how many operators a term has; an element counts as one
abbrev pub operators : Term → ℕ
operators (num n) = 0
operators (var x) = 0
operators (prefix op a) = operators a + 1
operators (infix' op a b) = operators a + operators b + 1
operators (element x i) = operators i + 1
