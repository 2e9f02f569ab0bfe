use Rattle.std.proofs.Common.{◌↔◌, ℕ, List, Contains, get_or, subst, arith}
use Rattle.std.proofs.lemmas.List.{get_or_default, take_all}
use Rattle.hpr_search.specs.Marks.{IsMarked}
use Rattle.hpr_build.proofs.Rounds.{marks_more}
use Rattle.hpr_build.proofs.flows.marked.Goals as goal

pub loop-point-preserved : goal.loop-point-preserved
loop-point-preserved c =
    let ps = c.args.points.now in
    let k = c.loop-point.point-index in
    let q : ℕ = get_or ps k 0 in
    record {
      len = c.loop-point.invariant.len;
      marks = marks_more ps k q c.loop-point.row.items c.loop-point-test.true (get_or_default ps k 0 q c.loop-point-test.true) (omega (arith, c.requires k 0 c.loop-point-test.true, c.loop-point.invariant.len, c.loop-point.row.ok.0)) c.loop-point.invariant.marks;
    }

pub returns : goal.returns
returns c = λ p.
    subst (λ (xs : List ℕ). IsMarked c.loop-point.row.items p ↔ Contains xs p) (take_all c.loop-point.point-index c.args.points.now (omega (arith, c.loop-point-test.false))) (c.loop-point.invariant.marks p)
