-- The law of readings: they read what the grammar spells.
--
-- IsRead ts e          == the tokens lead from the start to a reading that can end, with the expression e
-- ReadAsSpelled        == what the grammar spells as an expression is read as that expression, and nothing
--                         else is read
-- SpellsAfter k ts e   == the tokens spell the expression e, within the limits, where k operators before it
--                         count together with its own
-- IsReadAfter k ts e   == the tokens lead from the start behind k operators to a reading that can end, with
--                         the expression e
-- ReadAsSpelledAfter   == the same law of expressions behind operators; and the count in a reading that can
--                         end is that of them and of its expression's
use Rattle.std.specs.Prelude.{◌≡◌, ℕ, ◌+◌, ◌≤◌, List, Some}
use Rattle.hpr_terms.specs.declared.limits.TheConstants.{MAX_BRACKETS, MAX_OPERATORS}
use Rattle.hpr_terms.specs.declared.expr.Expr.{Expr}
use Rattle.hpr_terms.specs.declared.token.Token.{Token}
use Rattle.hpr_terms.specs.Term.{operators}
use Rattle.hpr_terms.specs.TermOf.{term_of}
use Rattle.hpr_syntax.specs.Grammar.{expr, SpellsTerm, SpellsExpr}
use Rattle.hpr_scan.specs.Steps.{runs}
use Rattle.hpr_expressions.specs.declared.expression.Reading.{Reading}
use Rattle.hpr_expressions.specs.Expression.{start, start_after, counted_in, read, ended}

abbrev pub IsRead : List Token → Expr → Type 0
IsRead ts e = (r : Reading) × (runs read start ts ≡ Some r) × (ended r ≡ Some e)

pub record ReadAsSpelled : Type 0 where
  pub whole : (ts : List Token) (e : Expr) → SpellsExpr ts e → IsRead ts e
  pub sound : (ts : List Token) (e : Expr) → IsRead ts e → SpellsExpr ts e

abbrev pub SpellsAfter : ℕ → List Token → Expr → Type 0
SpellsAfter k ts e = SpellsTerm expr MAX_BRACKETS ts (term_of e) × (k + operators (term_of e) ≤ MAX_OPERATORS)

abbrev pub IsReadAfter : ℕ → List Token → Expr → Type 0
IsReadAfter k ts e = (r : Reading) × (runs read (start_after k) ts ≡ Some r) × (ended r ≡ Some e)

pub record ReadAsSpelledAfter : Type 0 where
  pub whole : (k : ℕ) (ts : List Token) (e : Expr) → SpellsAfter k ts e → IsReadAfter k ts e
  pub sound : (k : ℕ) (ts : List Token) (e : Expr) → k ≤ MAX_OPERATORS → IsReadAfter k ts e → SpellsAfter k ts e
  pub counts : (k : ℕ) (ts : List Token) (e : Expr) (r : Reading) → k ≤ MAX_OPERATORS → runs read (start_after k) ts ≡ Some r → ended r ≡ Some e
      → counted_in r ≡ k + operators (term_of e)
