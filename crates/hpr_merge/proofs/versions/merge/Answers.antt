use Rattle.std.proofs.Common.{[], ◌∷◌}
use Rattle.hpr_graph.specs.Numbered.{graph_in}
use Rattle.hpr_graph.specs.Points.{merged}
use Rattle.hpr_slice.specs.Vertices.{IsOneOf}
use Rattle.hpr_closure.proofs.WholeSlices.{merged_whole, whole_same}
use Rattle.hpr_merge.proofs.BothSides.{both_sides}
use Rattle.hpr_merge.proofs.MergedParts.{affected_points, ascending_read, conflicts_read}
use Rattle.hpr_merge.proofs.versions.merge.Goals as goal

pub both_conflicts-requires-clause-points_a : goal.both_conflicts-requires-clause-points_a
both_conflicts-requires-clause-points_a c = ascending_read c.deref.result.now c.in_ok-points.points.a.items c.deref.ensures.value c.in_ok-points.ensures.on_a.ascend

pub both_conflicts-requires-clause-points_b : goal.both_conflicts-requires-clause-points_b
both_conflicts-requires-clause-points_b c = ascending_read c.deref-2.result.now c.in_ok-points.points.b.items c.deref-2.ensures.value c.in_ok-points.ensures.on_b.ascend

pub both_conflicts-requires-clause-graph : goal.both_conflicts-requires-clause-graph
both_conflicts-requires-clause-graph c =
    let base = graph_in c.args.base.now in
    let a = graph_in c.args.a.now in
    let b = graph_in c.args.b.now in
    whole_same (graph_in c.in_ok-graph.graph) (merged base a b) c.in_ok-graph.ensures (merged_whole base (a ∷ b ∷ []) c.requires.base (c.requires.a, (c.requires.b, tt)))

pub returns-clause-conflicts : goal.returns-clause-conflicts
returns-clause-conflicts c =
    let base = c.args.base.now in
    let a = c.args.a.now in
    let b = c.args.b.now in
    let points = c.in_ok-points.points in
    let are = c.in_ok-points.ensures in
    let (ps, qs, all, on_a, on_b) = c.in_ok-conflicts.ensures in
    both_sides (graph_in base) (graph_in a) (graph_in b) (graph_in c.in_ok-graph.graph) c.in_ok-graph.ensures (IsOneOf a points.a.items) (IsOneOf b points.b.items)
    (affected_points a base points.a.items are.on_a) (affected_points b base points.b.items are.on_b) ps qs
    (conflicts_read c.in_ok-graph.graph a c.deref.result.now points.a.items ps c.deref.ensures.value on_a)
    (conflicts_read c.in_ok-graph.graph b c.deref-2.result.now points.b.items qs c.deref-2.ensures.value on_b)
    c.in_ok-conflicts.conflicts.items all
