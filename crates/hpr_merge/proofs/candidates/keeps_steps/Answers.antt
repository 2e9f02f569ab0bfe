use Rattle.std.proofs.Common.{inl, inr, sym, ap, refl, length, subst, arith}
use Rattle.std.proofs.lemmas.Bool.{cases_eq}
use Rattle.hpr_search.specs.Marks.{IsMarked}
use Rattle.hpr_graph.specs.Numbered.{row_items}
use Rattle.hpr_merge.proofs.NewLinks.{followed_rows, within_row}
use Rattle.hpr_merge.proofs.candidates.keeps_steps.Goals as goal
use Rattle.hpr_merge.proofs.candidates.keeps_steps.Goals.{else-is_marked-via-then-is_marked+else-not-has_followed, else-is_marked-via-else-is_marked}

pub loop-to-preserved : goal.loop-to-preserved
loop-to-preserved c = λ t less marked. elim (cases_eq t c.loop-to.to) [
  | inl e ↦ elim c.else-is_marked.branch [
    | else-is_marked-via-then-is_marked+else-not-has_followed w ↦
        followed_rows c.args.variant.now c.args.merged.now c.loop-to.to t w.edges_into.result.now w.edges_into-then-is_marked.result.now
        (sym (ap row_items w.edges_into.ensures.row)) (sym (ap row_items w.edges_into-then-is_marked.ensures.row)) e
        (w.has_followed.ensures.0 w.if-not-has_followed.false)
    | else-is_marked-via-else-is_marked w ↦ absurd
        (let m = c.is_marked.ensures.1 (subst (IsMarked c.args.near.now) e marked) in let n = w.if-is_marked.false in cc)
  ]
  | inr ne ↦ c.loop-to.invariant t (omega (arith, less, ne)) marked
]

pub returns : goal.returns
returns c = (
  λ t to marked l has.
      (let below = within_row c.args.variant.now c.vertices-to-end.ensures.numbered to l has in
      let count = ap length c.vertices-to-end.ensures.vertices in
      let all = c.loop-to-test.false in
      c.loop-to.invariant to (omega (arith, below, count, all)) marked l has),
  λ h. refl,
)
