use Rattle.std.proofs.Common.{◌↔◌, Vec, Global, subst, arith}
use Rattle.std.proofs.lemmas.List.{length-map}
use Rattle.hpr_graph.specs.declared.link.Link.{Link}
use Rattle.hpr_graph.specs.Numbered.{Numbered, HasLink, rows_of}
use Rattle.hpr_graph.proofs.Numbers.{numbered}
use Rattle.hpr_graph.proofs.Reordered.{row_sorted, rows_same_links, counted_sorted}
use Rattle.hpr_graph.proofs.draft.Draft.sort_rows.Goals as goal

pub invariant_of-self : goal.invariant_of-self
invariant_of-self c =
    counted_sorted (rows_of c.self.inside.links.items) (rows_of c.sort_rows.new.rows.items) c.sort_rows.ensures.same c.self.inside.vertices.keys c.self.inside.edges c.self.invariant
    (omega (arith, c.sort_rows.ensures.count, length-map c.self.inside.links.items (λ (r : Vec Link Global). r.items), length-map c.sort_rows.new.rows.items (λ (r : Vec Link Global). r.items)))

pub returns-clause-links : goal.returns-clause-links
returns-clause-links c = λ at l.
    let new : Numbered = numbered c.self.inside.vertices.keys (rows_of c.sort_rows.new.rows.items) in
    subst (λ (g : Numbered). HasLink new at l ↔ HasLink g at l) c.self.view_is
    (rows_same_links (rows_of c.self.inside.links.items) (rows_of c.sort_rows.new.rows.items) c.sort_rows.ensures.same at l)

pub returns-clause-rows : goal.returns-clause-rows
returns-clause-rows c = λ at. row_sorted _ _ (c.self.invariant.numbered.links_once at) (c.sort_rows.ensures.same at) (c.sort_rows.ensures.sorted at)
