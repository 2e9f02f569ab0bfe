use Rattle.std.proofs.Common.{◌≡◌, ◌∙◌, List, map, sym, ap, subst}
use Rattle.hpr_graph.specs.declared.vertex.Vertex.{Vertex}
use Rattle.hpr_graph.specs.Graphs.{IsOnce, name_of}
use Rattle.hpr_graph.specs.Numbered.{Numbered, rows_of}
use Rattle.hpr_graph.proofs.Named.{counted_named}
use Rattle.hpr_graph.proofs.draft.Draft.with_vertices.Goals as goal

pub invariant_of-result : goal.invariant_of-result
invariant_of-result c =
    let listed = c.in_ok-indexed.ensures in
    let names : map name_of c.in_ok-indexed.field-0.keys ≡ map name_of c.self.inside.vertices.keys =
    ap (map name_of) listed ∙ c.requires.names ∙ sym (ap (λ (g : Numbered). map name_of g.vertices) c.self.view_is) in
    counted_named c.self.inside.vertices.keys c.in_ok-indexed.field-0.keys names (rows_of c.self.inside.links.items) (rows_of c.in_ok-copy_rows.field-0.items) c.self.inside.edges
    (c.in_ok-copy_rows.ensures ∙ ap rows_of c.deref.ensures.value)
    (subst (λ (vs : List Vertex). IsOnce vs) (sym listed) c.requires.once) c.self.invariant
