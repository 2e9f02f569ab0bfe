use Rattle.std.proofs.Common.{[]}
use Rattle.std.proofs.lemmas.Result.{IfOk-weaker}
use Rattle.hpr_graph.specs.Answer.{IsWithoutConflict, merged_of}
use Rattle.hpr_graph.specs.Conflicts.{AreConflicts}
use Rattle.hpr_graph.specs.Graphs.{Same}
use Rattle.hpr_graph.specs.Numbered.{Numbered, graph_in}
use Rattle.hpr_graph.specs.ProgramGraph.{graph_of}
use Rattle.hpr_meaning.specs.UnionLaw.{KeepsSides}
use Rattle.hpr_engine.specs.Limit.{AreInLimit}
use Rattle.hpr_engine.specs.Made.{IsMergeOf}
use Rattle.hpr_engine.proofs.Merge.{graph_merged, conflicts_of, kept, whole_graph}
use Rattle.hpr_engine.proofs.Unsearched.{interference_weaker, judged_always, never_too_many}
use Rattle.hpr_engine.proofs.programs.merge_programs.Goals as goal

pub merge_graphs-requires-clause-base : goal.merge_graphs-requires-clause-base
merge_graphs-requires-clause-base c = whole_graph c.args.base.now c.in_ok-graphs.graphs.base c.in_ok-graphs.ensures.base

pub merge_graphs-requires-clause-a : goal.merge_graphs-requires-clause-a
merge_graphs-requires-clause-a c = whole_graph c.args.a.now c.in_ok-graphs.graphs.a c.in_ok-graphs.ensures.a

pub merge_graphs-requires-clause-b : goal.merge_graphs-requires-clause-b
merge_graphs-requires-clause-b c = whole_graph c.args.b.now c.in_ok-graphs.graphs.b c.in_ok-graphs.ensures.b

pub returns-clause-graph : goal.returns-clause-graph
returns-clause-graph c =
    let g = c.in_ok-graphs.graphs in
    let made = c.in_ok-graphs.ensures in
    IfOk-weaker c.merge_graphs.result (λ m. IsMergeOf (graph_in g.base) (graph_in g.a) (graph_in g.b) m) (λ m. Same (graph_in m) (merged_of c.args.base.now c.args.a.now c.args.b.now))
    (λ m is. graph_merged c.args.base.now c.args.a.now c.args.b.now g.base g.a g.b made.base made.a made.b m is.same)
    c.merge_graphs.ensures.merged

pub returns-clause-no_conflict : goal.returns-clause-no_conflict
returns-clause-no_conflict c =
    let g = c.in_ok-graphs.graphs in
    let made = c.in_ok-graphs.ensures in
    IfOk-weaker c.merge_graphs.result (λ m. IsMergeOf (graph_in g.base) (graph_in g.a) (graph_in g.b) m) (λ m. IsWithoutConflict c.args.base.now c.args.a.now c.args.b.now)
    (λ m is. conflicts_of c.args.base.now c.args.a.now c.args.b.now g.base g.a g.b made.base made.a made.b [] is.free)
    c.merge_graphs.ensures.merged

pub returns-clause-kept : goal.returns-clause-kept
returns-clause-kept c =
    let g = c.in_ok-graphs.graphs in
    let made = c.in_ok-graphs.ensures in
    IfOk-weaker c.merge_graphs.result (λ m. IsMergeOf (graph_in g.base) (graph_in g.a) (graph_in g.b) m) (λ m. KeepsSides c.args.base.now c.args.a.now c.args.b.now)
    (λ m is. kept c.args.base.now c.args.a.now c.args.b.now g.base g.a g.b made.base made.a made.b is.free)
    c.merge_graphs.ensures.merged

pub returns-clause-within : goal.returns-clause-within
returns-clause-within c = judged_always Numbered c.merge_graphs.result (AreInLimit c.args.base.now c.args.a.now c.args.b.now) c.in_ok-graphs.ensures.within

pub returns-clause-too_many : goal.returns-clause-too_many
returns-clause-too_many c = never_too_many Numbered c.merge_graphs.result _ c.merge_graphs.ensures.within

pub returns-clause-conflicts : goal.returns-clause-conflicts
returns-clause-conflicts c =
    let g = c.in_ok-graphs.graphs in
    let made = c.in_ok-graphs.ensures in
    interference_weaker Numbered c.merge_graphs.result (λ cs. AreConflicts (graph_in g.base) (graph_in g.a) (graph_in g.b) cs)
    (λ cs. AreConflicts (graph_of c.args.base.now) (graph_of c.args.a.now) (graph_of c.args.b.now) cs)
    (λ cs h. conflicts_of c.args.base.now c.args.a.now c.args.b.now g.base g.a g.b made.base made.a made.b cs h)
    c.merge_graphs.ensures.conflicts
