use Rattle.std.proofs.Common.{◌<◌, ◌⊎◌, ◌↔◌, ℕ, List, All, false, length, Contains, ap, get_or, sym, subst, arith}
use Rattle.std.proofs.lemmas.List.{get_or_default, length-replicate}
use Rattle.hpr_search.specs.Marks.{IsMarked}
use Rattle.hpr_search.proofs.Marked.{marked_within}
use Rattle.hpr_paths.specs.declared.spot.Step.{Step}
use Rattle.hpr_reach.specs.Reaches.{back_to}
use Rattle.hpr_build.proofs.Rounds.{turns_begun, turns_more, turns_same, turns_all}
use Rattle.hpr_build.proofs.flows.rounds.Goals as goal
use Rattle.hpr_build.proofs.flows.rounds.Goals.{then-leaves, else-leaves}

pub leaves-requires-clause-point : goal.leaves-requires-clause-point
leaves-requires-clause-point c =
    let ps = c.points-points.result.now in
    let k = c.loop-point.point-index in
    let q : ℕ = get_or ps k 0 in
    let l = marked_within c.args.row.now q ((c.points-points.ensures.marked q).0 (k, c.loop-point-test.true, sym (get_or_default ps k 0 q c.loop-point-test.true))) in
    omega (arith, l, c.requires.size)

pub next-requires-then-leaves : goal.next-requires-then-leaves
next-requires-then-leaves c =
    let ps = c.points-points.result.now in
    let k = c.loop-point.point-index in
    let q : ℕ = get_or ps k 0 in
    let l = marked_within c.args.row.now q ((c.points-points.ensures.marked q).0 (k, c.loop-point-test.true, sym (get_or_default ps k 0 q c.loop-point-test.true))) in
    omega (arith, l, c.requires.size)

pub loop-point-preserved : goal.loop-point-preserved
loop-point-preserved c =
    let s = c.args.succ.now in
    let n = c.loop-point.point-index in
    let ps = c.points-points.result.now in
    let x = c.args.name.now in
    let d = c.args.from in
    elim c.if-leaves.branch [
      | then-leaves w ↦ rw w.round-is (record {
        len = omega (arith, w.mark_backs-then-leaves.ensures.len, c.loop-point.invariant.len);
        marks = turns_more s x d ps n c.loop-point.round.items c.loop-point.invariant.marks _
            (λ v. let P : List Step → Type 0 = λ xs. IsMarked w.mark_backs-then-leaves.new.round.items v ↔ (IsMarked c.loop-point.round.items v ⊎ Contains xs (back_to v)) in
            subst P w.next-then-leaves.ensures.next (w.mark_backs-then-leaves.ensures.marks v)) (c.leaves.ensures.0 w.if-leaves.true);
      })
      | else-leaves w ↦ rw w.round-is (record {
        len = c.loop-point.invariant.len;
        marks = turns_same s x d ps n c.loop-point.round.items c.loop-point.invariant.marks (λ on. let t = c.leaves.ensures.1 on in absurd (cc (t, w.if-leaves.false)));
      })
    ]

pub returns : goal.returns
returns c = λ w. turns_all c.args.succ.now c.args.name.now c.args.from c.points-points.result.now c.loop-point.point-index w c.args.row.now _ (omega (arith, c.loop-point-test.false)) c.points-points.ensures.marked c.requires.row (c.loop-point.invariant.marks w)

pub loop-point-init : goal.loop-point-init
loop-point-init c = record {
  len = omega (arith, c.mark_backs.ensures.len, c.in_ok-round.round.ok.0, ap length c.in_ok-round.ensures, length-replicate c.points.result false, c.points.ensures.points);
  marks = turns_begun c.args.succ.now c.args.name.now c.args.from c.points-points.result.now _ _ c.points.result c.next.result.now c.in_ok-round.ensures c.next.ensures.next c.mark_backs.ensures.marks;
}

pub mark_backs-requires-then-leaves : goal.mark_backs-requires-then-leaves
mark_backs-requires-then-leaves c =
    subst (λ (n : ℕ). All (λ s. s.to < n) c.next-then-leaves.result.now) (sym c.loop-point.invariant.len) c.next-then-leaves.ensures.within
