use Rattle.std.proofs.Common.{◌≡◌, ◌≤◌, ℕ, List, [], length, map, subst, sym}
use Rattle.std.proofs.lemmas.Result.{IfOk-weaker}
use Rattle.hpr_terms.specs.declared.limits.TheConstants.{MAX_VARIANTS}
use Rattle.hpr_graph.specs.declared.edge.Edge.{Edge}
use Rattle.hpr_graph.specs.declared.vertex.Vertex.{Vertex}
use Rattle.hpr_graph.specs.Answer.{AreWithoutConflict, graphs_of, merged_of_all}
use Rattle.hpr_graph.specs.Conflicts.{AreConflictsBy, told_many}
use Rattle.hpr_graph.specs.Graphs.{Same}
use Rattle.hpr_graph.specs.Numbered.{Numbered, graph_in, graphs_in}
use Rattle.hpr_graph.specs.ProgramGraph.{graph_of}
use Rattle.hpr_graph.specs.Whole.{AreAll, IsWhole}
use Rattle.hpr_engine.specs.Made.{AreGraphsOf}
use Rattle.hpr_engine.proofs.Merge.{all_conflicts_of, all_merged, as_many, each_whole, whole_graph}
use Rattle.hpr_many.specs.Made.{IsMergeOfAll}
use Rattle.hpr_many.proofs.Refused.{interference_weaker}
use Rattle.hpr_many.proofs.programs.merge_all_programs.Goals as goal

pub merge_graphs-requires-clause-most : goal.merge_graphs-requires-clause-most
merge_graphs-requires-clause-most c =
    let vs = c.args.variants.now in
    let many : length c.in_ok-graphs.graphs.variants.items ≡ length vs = as_many vs c.in_ok-graphs.graphs.variants.items c.in_ok-graphs.ensures.variants in
    let most : length c.in_ok-graphs.graphs.variants.items ≤ MAX_VARIANTS = subst (λ (n : ℕ). n ≤ MAX_VARIANTS) (sym many) c.requires.most in
    subst (λ (gs : List Numbered). length gs ≤ MAX_VARIANTS) (sym c.deref.ensures.value) most

pub merge_graphs-requires-clause-base : goal.merge_graphs-requires-clause-base
merge_graphs-requires-clause-base c = whole_graph c.args.base.now c.in_ok-graphs.graphs.base c.in_ok-graphs.ensures.base

pub merge_graphs-requires-clause-variants : goal.merge_graphs-requires-clause-variants
merge_graphs-requires-clause-variants c =
    subst (λ (gs : List Numbered). AreAll IsWhole (graphs_in gs)) (sym c.deref.ensures.value)
    (each_whole c.args.variants.now c.in_ok-graphs.graphs.variants.items c.in_ok-graphs.ensures.variants)

pub returns-clause-graph : goal.returns-clause-graph
returns-clause-graph c =
    let made = c.in_ok-graphs.ensures in
    let base = c.in_ok-graphs.graphs.base in
    let gs = c.deref.result.now in
    let vs = c.args.variants.now in
    let are : AreGraphsOf vs gs = subst (AreGraphsOf vs) (sym c.deref.ensures.value) made.variants in
    IfOk-weaker c.merge_graphs.result (λ m. IsMergeOfAll (graph_in base) (graphs_in gs) m) (λ m. Same (graph_in m) (merged_of_all c.args.base.now vs))
    (λ m is. all_merged c.args.base.now base vs gs made.base are m is.same)
    c.merge_graphs.ensures.merged

pub returns-clause-no_conflict : goal.returns-clause-no_conflict
returns-clause-no_conflict c =
    let made = c.in_ok-graphs.ensures in
    let base = c.in_ok-graphs.graphs.base in
    let gs = c.deref.result.now in
    let vs = c.args.variants.now in
    let are : AreGraphsOf vs gs = subst (AreGraphsOf vs) (sym c.deref.ensures.value) made.variants in
    IfOk-weaker c.merge_graphs.result (λ m. IsMergeOfAll (graph_in base) (graphs_in gs) m) (λ m. AreWithoutConflict {X = ℕ × Vertex × Edge} (λ t. t) c.args.base.now vs)
    (λ m is. all_conflicts_of c.args.base.now base vs gs made.base are {X = ℕ × Vertex × Edge} (λ t. t) [] is.free)
    c.merge_graphs.ensures.merged

pub returns-clause-conflicts : goal.returns-clause-conflicts
returns-clause-conflicts c =
    let made = c.in_ok-graphs.ensures in
    let base = c.in_ok-graphs.graphs.base in
    let gs = c.deref.result.now in
    let vs = c.args.variants.now in
    let are : AreGraphsOf vs gs = subst (AreGraphsOf vs) (sym c.deref.ensures.value) made.variants in
    interference_weaker Numbered c.merge_graphs.result (λ cs. AreConflictsBy {X = ℕ × Vertex × Edge} (λ t. t) (graph_in base) (graphs_in gs) (map told_many cs))
    (λ cs. AreConflictsBy {X = ℕ × Vertex × Edge} (λ t. t) (graph_of c.args.base.now) (graphs_of vs) (map told_many cs))
    (λ cs h. all_conflicts_of c.args.base.now base vs gs made.base are {X = ℕ × Vertex × Edge} (λ t. t) (map told_many cs) h)
    c.merge_graphs.ensures.conflicts
