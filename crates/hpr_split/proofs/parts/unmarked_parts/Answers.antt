use Rattle.hpr_graph.proofs.Reordered.{vertices_sorted}
use Rattle.hpr_split.proofs.Chosen.{sorted_split}
use Rattle.hpr_split.proofs.parts.unmarked_parts.Goals as goal

pub returns : goal.returns
returns c = (
  vertices_sorted c.in_ok-parts.parts.items c.sort_unstable.new.self.items c.in_ok-parts.ensures.once c.sort_unstable.ensures.permutation c.sort_unstable.ensures.sorted,
  sorted_split c.args.graph.now c.args.keep.now c.vertices.result.now c.in_ok-parts.parts.items c.sort_unstable.new.self.items c.vertices.ensures.numbered.once c.vertices.ensures.vertices c.in_ok-parts.ensures.parts
      c.sort_unstable.ensures.permutation,
)
