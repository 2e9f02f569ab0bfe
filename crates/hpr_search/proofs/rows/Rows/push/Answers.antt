use Rattle.std.proofs.Common.{◌∙◌, ℕ, List, length, ap, subst, arith}
use Rattle.hpr_search.specs.Rows.{numbers_of, IsPushed}
use Rattle.hpr_search.proofs.RowLists.{length_rows}
use Rattle.hpr_search.proofs.RowLaws.{pushed_at, length_with, within_with}
use Rattle.hpr_search.proofs.rows.Rows.push.Goals as goal

pub push_at-requires : goal.push_at-requires
push_at-requires c = omega (arith, c.requires.at, ap length c.self.view_is, length_rows c.self.inside.rows.items)

pub invariant_of-self : goal.invariant_of-self
invariant_of-self c = rw c.in_err-push_at.ensures.err c.self.invariant

pub invariant_of-self-2 : goal.invariant_of-self-2
invariant_of-self-2 c =
    rw c.in_ok-push_at.ensures.ok
    (within_with (numbers_of c.self.inside.rows.items) c.args.at c.args.number (omega (arith, c.requires.at, ap length c.self.view_is)) (omega (arith, c.requires.number, ap length c.self.view_is)) c.self.invariant)

pub returns-in_err-push_at-clause-count : goal.returns-in_err-push_at-clause-count
returns-in_err-push_at-clause-count c = ap length c.in_err-push_at.ensures.err ∙ ap length c.self.view_is

pub returns-clause-count : goal.returns-clause-count
returns-clause-count c =
    ap length c.in_ok-push_at.ensures.ok ∙ length_with (numbers_of c.self.inside.rows.items) c.args.at c.args.number ∙ ap length c.self.view_is

pub returns-clause-pushed : goal.returns-clause-pushed
returns-clause-pushed c =
    subst (λ (old : List (List ℕ)). IsPushed old c.args.at c.args.number (numbers_of c.push_at.new.rows.items)) c.self.view_is
    (rw c.in_ok-push_at.ensures.ok (pushed_at (numbers_of c.self.inside.rows.items) c.args.at c.args.number (omega (arith, c.requires.at, ap length c.self.view_is))))
