use Rattle.std.proofs.Common.{arith}
use Rattle.hpr_graph.specs.Numbered.{graph_in, graphs_in}
use Rattle.hpr_graph.specs.Points.{merged_all}
use Rattle.hpr_closure.proofs.WholeSlices.{merged_whole, whole_same}
use Rattle.hpr_slice.specs.Vertices.{IsOneOf}
use Rattle.hpr_merge.proofs.MergedParts.{affected_points, ascending_read, conflicts_read}
use Rattle.hpr_merge_many.proofs.ManyConflicts.{many_all, many_more, many_none}
use Rattle.hpr_merge_many.proofs.ManyPoints.{own_points, row_inside, whole_one}
use Rattle.hpr_merge_many.proofs.versions.merge_many.Goals as goal

pub points_of-requires : goal.points_of-requires
points_of-requires c = record { base = c.requires.base; variants = c.requires.variants }

pub merged_graph-requires : goal.merged_graph-requires
merged_graph-requires c = record { affected = c.in_ok-points.ensures.affected; preserved = c.in_ok-points.ensures.preserved }

pub loop-at-init : goal.loop-at-init
loop-at-init c = many_none c.args.base.now c.args.variants.now c.new-conflicts.result.items c.new-conflicts.ensures.items

pub index-affected-requires : goal.index-affected-requires
index-affected-requires c =
    let points = c.in_ok-points.points in
    let inside = row_inside c.args.base.now c.args.variants.now points.affected.items c.in_ok-points.ensures.affected c.loop-at.at c.loop-at-test.true in
    omega (arith, inside, points.affected.ok.0)

pub push_conflicts-requires-clause-points : goal.push_conflicts-requires-clause-points
push_conflicts-requires-clause-points c =
    let points = c.in_ok-points.points in
    let row = c.index-affected.result.now in
    ascending_read c.deref.result.now row.items c.deref.ensures.value
    (own_points c.args.base.now c.args.variants.now points.affected.items c.in_ok-points.ensures.affected c.loop-at.at c.loop-at-test.true c.index-variants-at.result row c.index-variants-at.is c.index-affected.ensures).ascend

pub push_conflicts-requires-clause-variant : goal.push_conflicts-requires-clause-variant
push_conflicts-requires-clause-variant c = whole_one c.args.variants.now c.loop-at.at c.index-variants-at.result c.loop-at-test.true c.index-variants-at.is c.requires.variants

pub push_conflicts-requires-clause-merged : goal.push_conflicts-requires-clause-merged
push_conflicts-requires-clause-merged c =
    let base = graph_in c.args.base.now in
    let gs = graphs_in c.args.variants.now in
    whole_same (graph_in c.in_ok-graph.graph) (merged_all base gs) c.in_ok-graph.ensures (merged_whole base gs c.requires.base c.requires.variants)

pub loop-at-preserved : goal.loop-at-preserved
loop-at-preserved c =
    let base = c.args.base.now in
    let gs = c.args.variants.now in
    let graph = c.in_ok-graph.graph in
    let g = c.index-variants-at.result in
    let row = c.index-affected.result.now in
    let own = own_points base gs c.in_ok-points.points.affected.items c.in_ok-points.ensures.affected c.loop-at.at c.loop-at-test.true g row c.index-variants-at.is c.index-affected.ensures in
    let (ps, items, are) = c.in_ok-push_conflicts.ensures in
    many_more base gs (graph_in graph) c.in_ok-graph.ensures c.loop-at.at g c.loop-at-test.true c.index-variants-at.is (IsOneOf g row.items) (affected_points g base row.items own) ps
    (conflicts_read graph g c.deref.result.now row.items ps c.deref.ensures.value are) c.loop-at.conflicts.items c.push_conflicts.new.into.items c.loop-at.invariant items

pub returns-clause-graph : goal.returns-clause-graph
returns-clause-graph c = c.in_ok-graph.ensures

pub returns-clause-affected : goal.returns-clause-affected
returns-clause-affected c = c.in_ok-points.ensures.affected

pub returns-clause-numbers : goal.returns-clause-numbers
returns-clause-numbers c = c.loop-at.invariant.from_one

pub returns-clause-conflicts : goal.returns-clause-conflicts
returns-clause-conflicts c = many_all c.args.base.now c.args.variants.now c.loop-at.at c.loop-at.conflicts.items (omega (arith, c.loop-at-test.false, c.loop-at.auto.at-end)) c.loop-at.invariant
