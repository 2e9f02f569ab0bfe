-- How the tokens of an expression are read.
--
-- A context is what stands before an operand: the open brackets, the innermost first, with what waits outside
-- of each; what waits within it; and the count of operators.
--
-- Before context         == an operand must stand next
-- Named context name     == the operand name was read
-- After context value    == another operand, value, was read
-- start_after k          == nothing was read, and k operators before the expression count together with its
--                           own
-- start                  == nothing was read, and no operators stand before
-- counted_in reading     == the count of operators
-- counted c p            == the reading before an operand behind one more operator, with p waiting, where
--                           there may be one more
-- compare_next o c op e  == the reading behind the comparison op and its left operand e, where no comparison
--                           o waits yet
-- close_next os p n e    == the reading behind `)`, where the innermost of the brackets os is a round one
-- index_closed os p n e  == the reading behind `]`, where the innermost of the brackets os is the one around
--                           an index
-- opened c               == the context behind `(`
-- open_next c            == the reading behind it, where one more bracket may be open
-- may_index c x          == an index may follow: x is a plain name, and there may be one more open bracket
--                           and one more operator, which an element is
-- indexed c x            == the context behind the name x and `[`
-- index_next c x         == the reading behind them, where an index may follow
-- operand_next c t       == the reading after the token, where an operand must stand next
-- operator_next c e t    == the reading after the token, where the operand e was read
-- named_next c x t       == the reading after the token, where the operand was read that is the name x
-- read reading t         == the reading after the token, if the token can stand next
-- ended_in os p e        == the expression that ends with e, where none of the brackets os is open
-- ended reading          == the expression, if it can end here
-- can_end reading        == the expression can end here
use Rattle.std.specs.Prelude.{ℕ, ◌+◌, ◌^◌, Bool, ◌&&◌, nat_lt, if◌then◌else◌, List, [], ◌∷◌, length, Option, Some, None, is_some}
use Rattle.hpr_terms.specs.declared.limits.TheConstants.{MAX_BRACKETS, MAX_OPERATORS}
use Rattle.hpr_terms.specs.declared.expr.Expr.{Expr}
use Rattle.hpr_terms.specs.declared.expr.Expr.TheVariants.{Num, Var, Elem}
use Rattle.hpr_terms.specs.declared.expr.Unary.TheVariants as unary
use Rattle.hpr_terms.specs.declared.expr.Binary.{Binary}
use Rattle.hpr_terms.specs.declared.expr.Binary.TheVariants as binary
use Rattle.hpr_terms.specs.declared.keyword.Keyword.TheVariants.{And, Or, Not}
use Rattle.hpr_terms.specs.declared.token.Sign.TheVariants.{Open, Close, OpenSquare, CloseSquare, Plus, Minus, Star, Slash, Percent, Equal, Differ, Less, LessEqual, Greater, GreaterEqual}
use Rattle.hpr_terms.specs.declared.token.Token.{Token}
use Rattle.hpr_terms.specs.declared.token.Token.TheVariants.{Word, Name, Number, Mark}
use Rattle.hpr_terms.specs.Names.{is_name, array_of}
use Rattle.hpr_terms.specs.TermOf.{term_of}
use Rattle.hpr_expressions.specs.declared.pending.Left.{Left}
use Rattle.hpr_expressions.specs.declared.pending.Pending.{Pending}
use Rattle.hpr_expressions.specs.declared.expression.Outside.{Outside}
use Rattle.hpr_expressions.specs.declared.expression.Outside.TheVariants.{Round, Index}
use Rattle.hpr_expressions.specs.declared.expression.Context.{Context}
use Rattle.hpr_expressions.specs.declared.expression.Reading.{Reading}
use Rattle.hpr_expressions.specs.declared.expression.Reading.TheVariants.{Before, Named, After}
use Rattle.hpr_expressions.specs.Pending.{nothing_pending, whole, with_or, with_and, with_comparison, with_sum, with_term, with_prefix}

abbrev pub start_after : ℕ → Reading
start_after k = Before (record { outer = []; here = nothing_pending; count = k })

abbrev pub start : Reading
start = start_after 0

abbrev pub counted_in : Reading → ℕ
counted_in (Before c) = c.count
counted_in (Named c x) = c.count
counted_in (After c e) = c.count

abbrev pub counted : Context → Pending → Option Reading
counted c p = if nat_lt c.count MAX_OPERATORS then Some (Before (record { outer = c.outer; here = p; count = c.count + 1 })) else None

abbrev pub compare_next : Option Left → Context → Binary → Expr → Option Reading
compare_next None c op e = counted c (with_comparison c.here op e)
compare_next (Some l) c op e = None

abbrev pub close_next : List Outside → Pending → ℕ → Expr → Option Reading
close_next (Round p ∷ os) here count e = Some (After (record { outer = os; here = p; count = count }) (whole here e))
close_next _ here count e = None

abbrev pub index_closed : List Outside → Pending → ℕ → Expr → Option Reading
index_closed (Index p x ∷ os) here count e = Some (After (record { outer = os; here = p; count = count }) (Elem x (term_of (whole here e))))
index_closed _ here count e = None

abbrev pub opened : Context → Context
opened c = record { outer = Round c.here ∷ c.outer; here = nothing_pending; count = c.count }

abbrev pub open_next : Context → Option Reading
open_next c = if nat_lt (length c.outer) MAX_BRACKETS then Some (Before (opened c)) else None

abbrev pub may_index : Context → List ℕ → Bool
may_index c x = is_name x && nat_lt (length c.outer) MAX_BRACKETS && nat_lt c.count MAX_OPERATORS

abbrev pub indexed : Context → List ℕ → Context
indexed c x = record { outer = Index c.here (array_of x) ∷ c.outer; here = nothing_pending; count = c.count + 1 }

abbrev pub index_next : Context → List ℕ → Option Reading
index_next c x = if may_index c x then Some (Before (indexed c x)) else None

abbrev pub operand_next : Context → Token → Option Reading
operand_next c (Number n) = if nat_lt n (2 ^ 63) then Some (After c (Num n)) else None
operand_next c (Name x) = Some (Named c x)
operand_next c (Mark Open) = open_next c
operand_next c (Mark Minus) = counted c (with_prefix c.here unary.Neg)
operand_next c (Word Not) = counted c (with_prefix c.here unary.Not)
operand_next c _ = None

abbrev pub operator_next : Context → Expr → Token → Option Reading
operator_next c e (Word Or) = counted c (with_or c.here binary.Or e)
operator_next c e (Word And) = counted c (with_and c.here binary.And e)
operator_next c e (Mark Equal) = compare_next c.here.compared c binary.Equal e
operator_next c e (Mark Differ) = compare_next c.here.compared c binary.Differ e
operator_next c e (Mark Less) = compare_next c.here.compared c binary.Less e
operator_next c e (Mark LessEqual) = compare_next c.here.compared c binary.LessEqual e
operator_next c e (Mark Greater) = compare_next c.here.compared c binary.Greater e
operator_next c e (Mark GreaterEqual) = compare_next c.here.compared c binary.GreaterEqual e
operator_next c e (Mark Plus) = counted c (with_sum c.here binary.Add e)
operator_next c e (Mark Minus) = counted c (with_sum c.here binary.Sub e)
operator_next c e (Mark Star) = counted c (with_term c.here binary.Mul e)
operator_next c e (Mark Slash) = counted c (with_term c.here binary.Div e)
operator_next c e (Mark Percent) = counted c (with_term c.here binary.Rem e)
operator_next c e (Mark Close) = close_next c.outer c.here c.count e
operator_next c e (Mark CloseSquare) = index_closed c.outer c.here c.count e
operator_next c e _ = None

abbrev pub named_next : Context → List ℕ → Token → Option Reading
named_next c x (Mark OpenSquare) = index_next c x
named_next c x t = operator_next c (Var x) t

unfoldable pub read : Reading → Token → Option Reading
read (Before c) t = operand_next c t
read (Named c x) t = named_next c x t
read (After c e) t = operator_next c e t

abbrev pub ended_in : List Outside → Pending → Expr → Option Expr
ended_in [] here e = Some (whole here e)
ended_in (o ∷ os) here e = None

abbrev pub ended : Reading → Option Expr
ended (Before c) = None
ended (Named c x) = ended_in c.outer c.here (Var x)
ended (After c e) = ended_in c.outer c.here e

abbrev pub can_end : Reading → Bool
can_end r = is_some (ended r)
