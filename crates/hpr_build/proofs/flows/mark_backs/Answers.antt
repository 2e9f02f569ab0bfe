use Rattle.std.proofs.Common.{◌⊎◌, ◌↔◌, List, Contains, sym, subst, arith}
use Rattle.std.proofs.lemmas.List.{get_or_default, take_all}
use Rattle.hpr_search.specs.Marks.{IsMarked}
use Rattle.hpr_paths.specs.declared.spot.Step.{Step}
use Rattle.hpr_reach.specs.Reaches.{back_to}
use Rattle.hpr_build.proofs.Rounds.{backs_more, backs_same}
use Rattle.hpr_build.proofs.flows.mark_backs.Goals as goal
use Rattle.hpr_build.proofs.flows.mark_backs.Goals.{then-step, else-step}

pub loop-step-preserved : goal.loop-step-preserved
loop-step-preserved c =
    elim c.if-step.branch [
      | then-step w ↦ record {
        len = rw w.round-is c.loop-step.invariant.len;
        marks = rw w.round-is
            (backs_more _ c.args.steps.now c.loop-step.step-index _ _ c.loop-step.invariant.marks c.loop-step-test.true (sym (get_or_default c.args.steps.now c.loop-step.step-index _ _ c.loop-step-test.true)) _ w.if-step.true c.requires
            (omega (arith, c.loop-step.invariant.len)));
      }
      | else-step w ↦ rw w.round-is (record {
        len = c.loop-step.invariant.len;
        marks = backs_same _ c.args.steps.now c.loop-step.step-index _ _ c.loop-step.invariant.marks c.loop-step-test.true (sym (get_or_default c.args.steps.now c.loop-step.step-index _ _ c.loop-step-test.true)) w.if-step.false;
      })
    ]

pub returns-clause-marks : goal.returns-clause-marks
returns-clause-marks c = λ w.
    let P : List Step → Type 0 = λ xs. IsMarked c.loop-step.round.items w ↔ (IsMarked c.args.round.now.items w ⊎ Contains xs (back_to w)) in
    subst P (take_all c.loop-step.step-index c.args.steps.now (omega (arith, c.loop-step-test.false))) (c.loop-step.invariant.marks w)
