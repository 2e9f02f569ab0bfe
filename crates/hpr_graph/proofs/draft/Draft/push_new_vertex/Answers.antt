use Rattle.std.proofs.Common.{◌↔◌, Contains, subst}
use Rattle.hpr_graph.specs.Numbered.{Numbered, HasEdge, IsGrown, rows_of}
use Rattle.hpr_graph.proofs.Numbers.{numbered, counted_vertex, grown_vertex}
use Rattle.hpr_graph.proofs.Laws.{grown_edges}
use Rattle.hpr_graph.proofs.draft.Draft.push_new_vertex.Goals as goal

pub invariant_of-self-2 : goal.invariant_of-self-2
invariant_of-self-2 c =
    counted_vertex c.self.inside.vertices.keys _ (rows_of c.self.inside.links.items) _ _ c.args.vertex c.self.invariant
    (λ h. c.requires (subst (λ (g : Numbered). Contains g.vertices c.args.vertex) c.self.view_is h)) c.in_ok-push_with_row.ensures.vertex c.in_ok-push_with_row.ensures.row

pub returns-clause-grown : goal.returns-clause-grown
returns-clause-grown c =
    subst (λ (g : Numbered). IsGrown g (numbered c.push_with_row.new.vertices.keys (rows_of c.push_with_row.new.links.items))) c.self.view_is
    (grown_vertex c.self.inside.vertices.keys _ (rows_of c.self.inside.links.items) _ c.args.vertex c.in_ok-push_with_row.ensures.vertex c.in_ok-push_with_row.ensures.row)

pub returns-clause-edges : goal.returns-clause-edges
returns-clause-edges c =
    let old : Numbered = numbered c.self.inside.vertices.keys (rows_of c.self.inside.links.items) in
    let new : Numbered = numbered c.push_with_row.new.vertices.keys (rows_of c.push_with_row.new.links.items) in
    let grown : IsGrown old new = grown_vertex _ _ _ _ c.args.vertex c.in_ok-push_with_row.ensures.vertex c.in_ok-push_with_row.ensures.row in
    λ e. subst (λ (g : Numbered). HasEdge new e ↔ HasEdge g e) c.self.view_is (grown_edges old new c.self.invariant.numbered grown e)
