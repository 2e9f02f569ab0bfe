use Rattle.std.proofs.Common.{◌⊎◌, ◌↔◌, Option, List, ℕ, subst}
use Rattle.hpr_graph.specs.Graphs.{Same, union_of}
use Rattle.hpr_graph.specs.Numbered.{Numbered, HasLink, HasEdge, graph_in}
use Rattle.hpr_graph.specs.Moves.{MovesEdge}
use Rattle.hpr_graph.proofs.Joined.{united_same}
use Rattle.hpr_graph.proofs.Laws.{same_then}
use Rattle.hpr_graph.proofs.sets.united.Goals as goal

pub add_edges-requires-clause-known : goal.add_edges-requires-clause-known
add_edges-requires-clause-known c = λ at l.
    let grown = c.in_ok-numbers.ensures.grown in
    subst (λ (a : Numbered). HasLink a at l ↔ HasLink c.add_vertices.new.target at l) c.in_ok-draft.ensures (grown.kept at l, grown.only at l)

pub returns : goal.returns
returns c =
    same_then (graph_in c.finish.result) (graph_in c.add_edges.new.target) (union_of (graph_in c.args.a.now) (graph_in c.args.b.now)) c.finish.ensures.same
    (subst (λ (a : Numbered). Same (graph_in c.add_edges.new.target) (union_of (graph_in a) (graph_in c.args.b.now))) c.in_ok-draft.ensures
    (united_same c.in_ok-draft.draft c.args.b.now c.in_ok-numbers.numbers.items c.add_vertices.new.target c.add_edges.new.target
    c.in_ok-numbers.ensures.placed c.in_ok-numbers.ensures.all c.in_ok-numbers.ensures.grown c.in_ok-numbers.ensures.edges
    c.in_ok-numbers.ensures.only c.in_ok-add_edges.ensures.vertices
    (λ e. subst (λ (ns : List (Option ℕ)). HasEdge c.add_edges.new.target e ↔ (HasEdge c.add_vertices.new.target e ⊎ MovesEdge c.args.b.now ns e)) c.deref.ensures.value (c.in_ok-add_edges.ensures.edges e))))
