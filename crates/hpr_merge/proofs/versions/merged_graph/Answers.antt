use Rattle.std.proofs.lemmas.Result.{IfOk-weaker}
use Rattle.hpr_graph.specs.Graphs.{Same, union_of}
use Rattle.hpr_graph.specs.Numbered.{graph_in}
use Rattle.hpr_graph.specs.Points.{IsAffected, IsPreserved, merged}
use Rattle.hpr_graph.proofs.Laws.{same_then}
use Rattle.hpr_merge.proofs.BothSides.{merged_parts}
use Rattle.hpr_merge.proofs.MergedParts.{points_slice, points_within, union_either}
use Rattle.hpr_merge.proofs.versions.merged_graph.Goals as goal

pub slice-requires : goal.slice-requires
slice-requires c = points_within c.args.a.now (IsAffected (graph_in c.args.a.now) (graph_in c.args.base.now)) c.args.points.now.a.items c.requires.on_a c.deref.result.now c.deref.ensures.value

pub slice-requires-2 : goal.slice-requires-2
slice-requires-2 c = points_within c.args.b.now (IsAffected (graph_in c.args.b.now) (graph_in c.args.base.now)) c.args.points.now.b.items c.requires.on_b c.deref-2.result.now c.deref-2.ensures.value

pub slice-requires-3 : goal.slice-requires-3
slice-requires-3 c =
    points_within c.args.base.now (IsPreserved (graph_in c.args.base.now) (graph_in c.args.a.now) (graph_in c.args.b.now)) c.args.points.now.shared.items c.requires.on_base c.deref-3.result.now c.deref-3.ensures.value

pub returns : goal.returns
returns c =
    let base = c.args.base.now in
    let a = c.args.a.now in
    let b = c.args.b.now in
    let points = c.args.points.now in
    let changed = graph_in c.in_ok-changed.changed in
    let shared = graph_in c.in_ok-shared.shared in
    IfOk-weaker c.union-2.result (λ g. Same (graph_in g) (union_of shared changed)) (λ g. Same (graph_in g) (merged (graph_in base) (graph_in a) (graph_in b)))
    (λ g same.
    merged_parts (graph_in base) (graph_in a) (graph_in b) (graph_in c.in_ok-part_a.part_a) (graph_in c.in_ok-part_b.part_b) shared changed (graph_in g)
    (points_slice a (IsAffected (graph_in a) (graph_in base)) points.a.items c.requires.on_a c.deref.result.now (graph_in c.in_ok-part_a.part_a) c.deref.ensures.value c.in_ok-part_a.ensures)
    (points_slice b (IsAffected (graph_in b) (graph_in base)) points.b.items c.requires.on_b c.deref-2.result.now (graph_in c.in_ok-part_b.part_b) c.deref-2.ensures.value c.in_ok-part_b.ensures)
    (points_slice base (IsPreserved (graph_in base) (graph_in a) (graph_in b)) points.shared.items c.requires.on_base c.deref-3.result.now shared c.deref-3.ensures.value c.in_ok-shared.ensures)
    c.in_ok-changed.ensures (same_then (graph_in g) (union_of shared changed) (union_of changed shared) same (union_either shared changed)))
    c.union-2.ensures
