-- A top block that is made group by group.
--
-- after stmts rest       == these statements, and then what is drawn behind them
-- step kind left serial words == a group of this kind, and then the groups of what is left
-- CanHave base author x  == the base can have a part more, the first of this author, which assigns x and is
--                           named first by `end`
use Rattle.std.specs.Prelude.{◌≡◌, ℕ, ◌+◌, ◌-◌, ◌<◌, ◌≤◌, ◌^◌, List, [], ◌∷◌, None}
use Rattle.std.specs.Str.{bytes_eq}
use Rattle.hpr_terms.specs.declared.limits.TheConstants.{MAX_PARTS}
use Rattle.hpr_terms.specs.Names.{IsName}
use Rattle.hpr_syntax.specs.declared.tree.Stmt.{Stmt}
use Rattle.hpr_syntax.specs.Body.{Body, part_count}
use Rattle.hpr_syntax.specs.BodyOf.{body_of}
use Rattle.hpr_syntax.specs.Issued.{issued_to}
use Rattle.hpr_syntax.specs.Shape.{IsProgram, first_repeated}
use Rattle.hpr_syntax.specs.Tree.{Tree}
use Rattle.hpr_edit.specs.Places.{joined}
use Rattle.hpr_sample.specs.Draws.{Drawn}
use Rattle.hpr_sample.specs.Sample.{assignment, by_kind, conditional, followed_by, groups, repetition}

abbrev pub after : List Stmt → Drawn Body → Drawn Body
after stmts rest = record { made = joined (body_of stmts) rest.made; words = rest.words }

abbrev pub step : (kind left serial words : ℕ) → Drawn Body
step kind left serial words =
    by_kind kind
    (followed_by (assignment serial words) (groups (left - 1) (serial + 1)))
    (followed_by (conditional serial words) (groups (left - 3) (serial + 3)))
    (followed_by (repetition serial words) (groups (left - 4) (serial + 4)))

pub record CanHave (base : Tree) (author : ℕ) (x : List ℕ) : Type 0 where
  pub program : IsProgram base
  pub number : author < 2 ^ 32
  pub new : issued_to author base.issued ≡ 0
  pub name : IsName x
  pub names : first_repeated bytes_eq [] (x ∷ base.finals) ≡ None
  pub room : part_count base.body + 1 ≤ MAX_PARTS
