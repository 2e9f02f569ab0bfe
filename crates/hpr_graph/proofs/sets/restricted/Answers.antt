use Rattle.std.proofs.Common.{◌⊎◌, ◌↔◌, Option, List, ℕ, subst}
use Rattle.hpr_graph.specs.Graphs.{restrict_to}
use Rattle.hpr_graph.specs.Numbered.{HasEdge, IsMarkedVertex, graph_in}
use Rattle.hpr_graph.specs.Moves.{MovesEdge}
use Rattle.hpr_graph.proofs.Joined.{no_more_links, restricted_same}
use Rattle.hpr_graph.proofs.Laws.{same_then}
use Rattle.hpr_graph.proofs.sets.restricted.Goals as goal

pub add_edges-requires-clause-known : goal.add_edges-requires-clause-known
add_edges-requires-clause-known c = no_more_links c.empty-kept.result c.push_marked.new.target c.empty.result c.empty-kept.ensures.links c.in_ok-numbers.ensures.grown c.empty.ensures.links

pub returns : goal.returns
returns c =
    same_then (graph_in c.finish.result) (graph_in c.add_edges.new.target) (restrict_to (graph_in c.args.graph.now) (IsMarkedVertex c.args.graph.now c.args.keep.now)) c.finish.ensures.same
    (restricted_same c.args.graph.now c.args.keep.now c.in_ok-numbers.numbers.items c.empty-kept.result c.push_marked.new.target c.add_edges.new.target
    c.requires.numbered.once c.empty-kept.ensures.links c.in_ok-numbers.ensures.placed c.in_ok-numbers.ensures.marked c.in_ok-numbers.ensures.grown
    c.in_ok-numbers.ensures.only c.in_ok-add_edges.ensures.vertices
    (λ e. subst (λ (ns : List (Option ℕ)). HasEdge c.add_edges.new.target e ↔ (HasEdge c.push_marked.new.target e ⊎ MovesEdge c.args.graph.now ns e)) c.deref.ensures.value (c.in_ok-add_edges.ensures.edges e)))
