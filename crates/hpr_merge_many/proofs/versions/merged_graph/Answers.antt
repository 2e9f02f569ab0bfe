use Rattle.std.proofs.Common.{arith}
use Rattle.std.proofs.lemmas.Result.{IfOk-weaker}
use Rattle.hpr_graph.specs.Graphs.{Same, union_of}
use Rattle.hpr_graph.specs.Numbered.{graph_in, graphs_in}
use Rattle.hpr_graph.specs.Points.{IsAffected, IsPreservedBy, changed, merged_all}
use Rattle.hpr_graph.specs.Slices.{slice_of}
use Rattle.hpr_graph.proofs.Laws.{same_then, union_same}
use Rattle.hpr_merge.proofs.MergedParts.{points_slice, points_within, union_either}
use Rattle.hpr_merge_many.proofs.ManyParts.{nothing_in, united_all, united_more}
use Rattle.hpr_merge_many.proofs.ManyPoints.{own_points, row_inside}
use Rattle.hpr_merge_many.proofs.versions.merged_graph.Goals as goal

pub loop-at-init : goal.loop-at-init
loop-at-init c = nothing_in c.in_ok-changed.changed c.in_ok-changed.ensures.vertices c.in_ok-changed.ensures.none

pub index-requires : goal.index-requires
index-requires c =
    let points = c.args.points.now in
    let inside = row_inside c.args.base.now c.args.variants.now points.affected.items c.requires.affected c.loop-at.at c.loop-at-test.true in
    omega (arith, inside, points.affected.ok.0)

pub slice-requires : goal.slice-requires
slice-requires c =
    let base = c.args.base.now in
    let g = c.index-variants-at.result in
    let row = c.index.result.now in
    let own = own_points base c.args.variants.now c.args.points.now.affected.items c.requires.affected c.loop-at.at c.loop-at-test.true g row c.index-variants-at.is c.index.ensures in
    points_within g (IsAffected (graph_in g) (graph_in base)) row.items own c.deref.result.now c.deref.ensures.value

pub slice-requires-2 : goal.slice-requires-2
slice-requires-2 c =
    let base = c.args.base.now in
    points_within base (IsPreservedBy (graph_in base) (graphs_in c.args.variants.now)) c.args.points.now.preserved.items c.requires.preserved c.deref-2.result.now c.deref-2.ensures.value

pub loop-at-preserved : goal.loop-at-preserved
loop-at-preserved c =
    let base = c.args.base.now in
    let gs = c.args.variants.now in
    let g = c.index-variants-at.result in
    let row = c.index.result.now in
    let l = c.loop-at-test.true in
    let own = own_points base gs c.args.points.now.affected.items c.requires.affected c.loop-at.at l g row c.index-variants-at.is c.index.ensures in
    united_more (graph_in base) gs c.loop-at.at g (graph_in c.loop-at.changed) (graph_in c.in_ok-part.part) (graph_in c.in_ok-changed-2.changed) l c.index-variants-at.is c.loop-at.invariant
    (points_slice g (IsAffected (graph_in g) (graph_in base)) row.items own c.deref.result.now (graph_in c.in_ok-part.part) c.deref.ensures.value c.in_ok-part.ensures) c.in_ok-changed-2.ensures

pub returns : goal.returns
returns c =
    let base = c.args.base.now in
    let gs = c.args.variants.now in
    let merged = graph_in c.loop-at.changed in
    let shared = graph_in c.in_ok-shared.shared in
    let all = changed (graph_in base) (graphs_in gs) in
    let kept = slice_of (graph_in base) (IsPreservedBy (graph_in base) (graphs_in gs)) in
    IfOk-weaker c.union-2.result (λ g. Same (graph_in g) (union_of shared merged)) (λ g. Same (graph_in g) (merged_all (graph_in base) (graphs_in gs)))
    (λ g same.
    same_then (graph_in g) (union_of merged shared) (union_of all kept) (same_then (graph_in g) (union_of shared merged) (union_of merged shared) same (union_either shared merged))
    (union_same merged all shared kept (united_all (graph_in base) gs c.loop-at.at merged (omega (arith, c.loop-at-test.false, c.loop-at.auto.at-end)) c.loop-at.invariant)
    (points_slice base (IsPreservedBy (graph_in base) (graphs_in gs)) c.args.points.now.preserved.items c.requires.preserved c.deref-2.result.now shared c.deref-2.ensures.value c.in_ok-shared.ensures)))
    c.union-2.ensures
