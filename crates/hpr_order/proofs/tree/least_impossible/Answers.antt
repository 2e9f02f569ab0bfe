use Rattle.std.proofs.Common.{◌∙◌, ◌+◌, Bor, refl, Option, Some, ap, length, sym, subst, arith}
use Rattle.std.specs.Option.{option_copied}
use Rattle.hpr_terms.proofs.Facts.{get_below}
use Rattle.hpr_graph.specs.declared.vertex.Vertex.{Vertex}
use Rattle.hpr_order.proofs.Places.{IsLeastTo, least_more, least_kept, least_whole, clear_whole, copied_none}
use Rattle.hpr_order.proofs.tree.least_impossible.Goals as goal
use Rattle.hpr_order.proofs.tree.least_impossible.Goals.{then-is_impossible, else-is_impossible}

pub loop-at-preserved : goal.loop-at-preserved
loop-at-preserved c = elim c.if-is_impossible.branch [
  | then-is_impossible w ↦
      least_more c.args.graph.now c.loop-at.at w.vertex.result.now w.vertex.ensures (option_copied c.loop-at.least) c.loop-at.invariant
      (w.if-is_impossible.ensures.impossible refl w.vertex.result.now w.vertex.ensures) (option_copied c.if-is_impossible.least)
      (ap option_copied w.least-is ∙ ap (λ (v : Vertex). Some v) w.lesser_vertex.ensures)
  | else-is_impossible w ↦
      (let (v, is) = get_below c.args.graph.now.vertices c.loop-at.at (omega (arith, c.loop-at-test.true, ap length c.vertices-at-end.ensures.vertices)) in
      subst (λ (o : Option (Bor Vertex)). IsLeastTo c.args.graph.now (c.loop-at.at + 1) (option_copied o)) (sym w.least-is)
      (least_kept c.args.graph.now c.loop-at.at v is (option_copied c.loop-at.least) c.loop-at.invariant (λ ne. w.if-is_impossible.ensures.possible refl v is ne)))
]

pub returns-clause-least : goal.returns-clause-least
returns-clause-least c =
    least_whole c.args.graph.now c.loop-at.at (option_copied c.loop-at.least) (omega (arith, c.loop-at-test.false, c.loop-at.auto.at-end, ap length c.vertices-at-end.ensures.vertices)) c.loop-at.invariant

pub returns-clause-none : goal.returns-clause-none
returns-clause-none c = λ none.
    clear_whole c.args.graph.now c.loop-at.at (option_copied c.loop-at.least) (omega (arith, c.loop-at-test.false, c.loop-at.auto.at-end, ap length c.vertices-at-end.ensures.vertices)) c.loop-at.invariant (copied_none c.loop-at.least none)
