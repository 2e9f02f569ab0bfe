use Rattle.std.proofs.Common.{◌≡◌, ◌∙◌, inl, inr, Some, length, ap, arith}
use Rattle.hpr_graph.proofs.Lists.{read_at}
use Rattle.hpr_graph.proofs.Placed.{all_begun, all_more}
use Rattle.hpr_graph.proofs.sets.add_vertices.Goals as goal

pub loop-vertex-init : goal.loop-vertex-init
loop-vertex-init c = all_begun c.args.source.now c.args.target.now _ c.new-numbers.ensures.items

pub loop-vertex-preserved : goal.loop-vertex-preserved
loop-vertex-preserved c =
    all_more c.args.source.now c.args.target.now c.loop-vertex.target _ c.loop-vertex.numbers.items _ c.loop-vertex.vertex-index c.in_ok-add_vertex.field-0 c.vertex-item.result c.loop-vertex.invariant
    (read_at _ _ c.loop-vertex.vertex-index c.vertex-item.result c.vertices-vertex-items.ensures.vertices c.loop-vertex-test.true c.vertex-item.is)
    c.in_ok-add_vertex.ensures.grown c.in_ok-add_vertex.ensures.edges (c.in_ok-add_vertex.ensures.there ∙ ap Some c.in_ok-copy.ensures)
    (λ x h. elim (c.in_ok-add_vertex.ensures.only x h) [ inl was ↦ inl was | inr now ↦ inr (now ∙ c.in_ok-copy.ensures) ]) c.in_ok-push.ensures.items

pub returns-clause-placed : goal.returns-clause-placed
returns-clause-placed c = c.loop-vertex.invariant.placed

pub returns-clause-all : goal.returns-clause-all
returns-clause-all c = λ i l.
    let all : length c.vertices-vertex-items.result.now ≡ length c.args.source.now.vertices = ap length c.vertices-vertex-items.ensures.vertices in
    c.loop-vertex.invariant.all i (omega (arith, l, all, c.loop-vertex-test.false))

pub returns-clause-grown : goal.returns-clause-grown
returns-clause-grown c = c.loop-vertex.invariant.grown

pub returns-clause-edges : goal.returns-clause-edges
returns-clause-edges c = c.loop-vertex.invariant.edges

pub returns-clause-only : goal.returns-clause-only
returns-clause-only c = c.loop-vertex.invariant.only
