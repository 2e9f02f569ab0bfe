use Rattle.hpr_graph.specs.Numbered.{graph_in}
use Rattle.hpr_graph.proofs.Laws.{within_from_same}
use Rattle.hpr_graph.proofs.Twinned.{same_by_counts, same_counts}
use Rattle.hpr_graph.proofs.graph.Graph.same.Goals as goal

pub returns-then-have_same_counts : goal.returns-then-have_same_counts
returns-then-have_same_counts c =
    let g = c.args.self.now in
    let h = c.args.other.now in
    let (numbered, numbered') = c.have_same_counts.ensures.numbered in (
      λ t. same_by_counts g h numbered numbered' (c.have_same_counts.ensures.counts.0 c.if-have_same_counts.true) (c.is_within.ensures.0 t),
      λ same. c.is_within.ensures.1 (within_from_same (graph_in g) (graph_in h) same),
    )

pub returns-else-have_same_counts : goal.returns-else-have_same_counts
returns-else-have_same_counts c =
    let (numbered, numbered') = c.have_same_counts.ensures.numbered in
    (λ t. absurd (let f = c.if-have_same_counts.false in cc), λ same. c.have_same_counts.ensures.counts.1 (same_counts c.args.self.now c.args.other.now numbered numbered' same))
