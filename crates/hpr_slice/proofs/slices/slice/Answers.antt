use Rattle.std.proofs.Common.{subst, sym}
use Rattle.std.proofs.lemmas.Result.{IfOk-weaker}
use Rattle.hpr_graph.specs.Graphs.{Same, restrict_to}
use Rattle.hpr_graph.specs.Numbered.{Numbered, graph_in, IsMarkedVertex}
use Rattle.hpr_graph.specs.Slices.{ReachesOne, slice_of}
use Rattle.hpr_graph.proofs.Laws.{same_then}
use Rattle.hpr_slice.specs.Vertices.{IsOneOf, MarksExactly}
use Rattle.hpr_slice.proofs.Marked.{marked_only}
use Rattle.hpr_slice.proofs.slices.slice.Goals as goal

pub returns : goal.returns
returns c =
    let graph = graph_in c.args.graph.now in
    let S = IsOneOf c.args.graph.now c.args.points.now in
    let marks = c.deref.result.now in
    let keep = subst (λ (g : Numbered). MarksExactly g (ReachesOne (graph_in g) (IsOneOf g c.args.points.now)) c.in_ok-keep.keep.items) c.of-sources.ensures c.in_ok-keep.ensures in
    let marked = subst (MarksExactly c.args.graph.now (ReachesOne graph S)) (sym c.deref.ensures.value) keep in
    IfOk-weaker c.restrict.result (λ g. Same (graph_in g) (restrict_to graph (IsMarkedVertex c.args.graph.now marks))) (λ g. Same (graph_in g) (slice_of graph S))
    (λ g same. same_then (graph_in g) (restrict_to graph (IsMarkedVertex c.args.graph.now marks)) (slice_of graph S) same (marked_only c.args.graph.now (ReachesOne graph S) marks marked))
    c.restrict.ensures
