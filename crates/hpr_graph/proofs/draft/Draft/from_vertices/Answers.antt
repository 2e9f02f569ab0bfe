use Rattle.std.proofs.Common.{◌∙◌, ℕ, List, [], ap, length, replicate, subst, sym, arith}
use Rattle.hpr_graph.proofs.Blank.{blank_counted, blank_none}
use Rattle.hpr_graph.specs.declared.vertex.Vertex.{Vertex}
use Rattle.hpr_graph.specs.Graphs.{IsOnce}
use Rattle.hpr_graph.specs.Numbered.{rows_of}
use Rattle.hpr_graph.proofs.draft.Draft.from_vertices.Goals as goal

pub invariant_of-result : goal.invariant_of-result
invariant_of-result c =
    let vs = c.in_ok-vertices.vertices.keys in
    blank_counted vs (rows_of c.in_ok-links.links.items)
    (subst (λ (l : List Vertex). IsOnce l) (sym c.in_ok-vertices.ensures) c.requires)
    (c.in_ok-links.ensures ∙ ap (λ (n : ℕ). replicate n []) (omega (arith, c.len.ensures, c.args.vertices.ok.0, ap (λ (l : List Vertex). length l) c.in_ok-vertices.ensures)))

pub returns-clause-none : goal.returns-clause-none
returns-clause-none c = λ to l. blank_none (rows_of c.in_ok-links.links.items) c.len.result to l c.in_ok-links.ensures
