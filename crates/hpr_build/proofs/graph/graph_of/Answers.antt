use Rattle.std.proofs.Common.{◌∙◌, ℕ, Err, List, sym, ap, subst, arith}
use Rattle.std.proofs.lemmas.Result.{err_from_is_err_and}
use Rattle.hpr_syntax.specs.Tree.{Tree}
use Rattle.hpr_graph.specs.declared.vertex.Vertex.{Vertex}
use Rattle.hpr_graph.specs.Graphs.{Same, HasMoreEdges, IsOnce}
use Rattle.hpr_graph.specs.Numbered.{graph_in}
use Rattle.hpr_graph.specs.ProgramGraph.{graph_of}
use Rattle.hpr_graph.proofs.Laws.{same_then}
use Rattle.hpr_build.specs.declared.error.BuildError.{BuildError}
use Rattle.hpr_build.specs.declared.error.BuildError.TheVariants.{TooManyEdges}
use Rattle.hpr_build.proofs.Bridge.{once_vertices, same_graph, more_edges, no_more_edges}
use Rattle.hpr_graph.proofs.NamesOnce.{names_once}
use Rattle.hpr_build.proofs.LinkTurns.{no_count, same_error}
use Rattle.hpr_build.proofs.graph.graph_of.Goals as goal

pub from_vertices-requires : goal.from_vertices-requires
from_vertices-requires c =
    let t = c.in_ok-tables.tables in
    let are = c.in_ok-tables.ensures.tables in
    subst (λ (vs : List Vertex). IsOnce vs) (sym c.in_ok-tables.ensures.vertices) (once_vertices t.program.now t.inits.items are.program are.inits (names_once t.inits.items are.inits_ascending))

pub push_edges-requires-clause-begun : goal.push_edges-requires-clause-begun
push_edges-requires-clause-begun c = record {
  vertices = c.in_ok-draft.ensures.vertices ∙ c.in_ok-tables.ensures.vertices;
  links = λ to l h. absurd (c.in_ok-draft.ensures.none to l h);
  room = omega (arith, no_count c.in_ok-draft.draft c.in_ok-draft.ensures.none);
}

pub returns-in_err-push_edges-clause-too_many : goal.returns-in_err-push_edges-clause-too_many
returns-in_err-push_edges-clause-too_many c = λ e.
    let t = c.in_ok-tables.tables in
    let are = c.in_ok-tables.ensures.tables in
    let p = err_from_is_err_and c.from_residual-in_err-push_edges.result c.from_residual-in_err-push_edges.ensures.1 in
    let more = c.in_err-push_edges.ensures.too_many (ap (λ (z : BuildError). Err z) (same_error c.from_residual-in_err-push_edges.result p.0 _ TooManyEdges p.1 p.2 e)) in
    subst (λ (tree : Tree). HasMoreEdges (graph_of tree) c.args.most_edges) c.in_ok-tables.ensures.program
    (subst (λ (n : ℕ). HasMoreEdges (graph_of t.program.now) n) c.in_ok-tables.ensures.most (more_edges t.program.now t.inits.items are.program are.inits t.most more))

pub returns-clause-graph : goal.returns-clause-graph
returns-clause-graph c =
    let t = c.in_ok-tables.tables in
    let are = c.in_ok-tables.ensures.tables in
    subst (λ (tree : Tree). Same (graph_in c.finish.result) (graph_of tree)) c.in_ok-tables.ensures.program
    (same_then (graph_in c.finish.result) (graph_in c.push_edges.new.graph) (graph_of t.program.now) c.finish.ensures.same
    (same_graph t.program.now t.inits.items are.program are.inits c.push_edges.new.graph c.in_ok-push_edges.ensures.begun.vertices c.in_ok-push_edges.ensures.exact))

pub returns-clause-within : goal.returns-clause-within
returns-clause-within c =
    let t = c.in_ok-tables.tables in
    let are = c.in_ok-tables.ensures.tables in
    subst (λ (tree : Tree). ¬ HasMoreEdges (graph_of tree) c.args.most_edges) c.in_ok-tables.ensures.program
    (no_more_edges t.program.now c.args.most_edges c.push_edges.new.graph c.vertices-vertices.ensures.numbered
    (same_graph t.program.now t.inits.items are.program are.inits c.push_edges.new.graph c.in_ok-push_edges.ensures.begun.vertices c.in_ok-push_edges.ensures.exact) (omega (arith, c.in_ok-push_edges.ensures.begun.room, c.in_ok-tables.ensures.most)))
