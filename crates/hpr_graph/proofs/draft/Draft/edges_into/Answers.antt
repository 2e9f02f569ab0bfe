use Rattle.std.proofs.Common.{◌<◌, Some, slice_get, List, Vec, Global, Contains, length, sym, ap, ◌∙◌, subst, arith}
use Rattle.std.proofs.lemmas.List.{length-map}
use Rattle.hpr_graph.specs.declared.link.Link.{Link}
use Rattle.hpr_graph.specs.Numbered.{Numbered, IsLink, row_items}
use Rattle.hpr_graph.proofs.Rows.{row_read}
use Rattle.hpr_graph.proofs.draft.Draft.edges_into.Goals as goal

pub returns-clause-links : goal.returns-clause-links
returns-clause-links c = λ l h.
    let within : c.args.at < length c.self.inside.links.items = omega (arith, c.requires, ap (λ (g : Numbered). length g.vertices) c.self.view_is, c.self.invariant.numbered.rows, length-map c.self.inside.links.items (λ (r : Vec Link Global). r.items)) in
    let row = row_read c.self.inside.links.items c.args.at c.index.result.now within c.index.ensures in
    subst (λ (g : Numbered). IsLink g c.args.at l) c.self.view_is
    (c.self.invariant.numbered.links c.args.at l (subst (λ (xs : List Link). Contains xs l) (c.deref.ensures.value ∙ sym (ap row_items row)) h))

pub returns-clause-row : goal.returns-clause-row
returns-clause-row c =
    let within : c.args.at < length c.self.inside.links.items = omega (arith, c.requires, ap (λ (g : Numbered). length g.vertices) c.self.view_is, c.self.invariant.numbered.rows, length-map c.self.inside.links.items (λ (r : Vec Link Global). r.items)) in
    ap (λ (g : Numbered). slice_get g.links c.args.at) (sym c.self.view_is) ∙ row_read c.self.inside.links.items c.args.at c.index.result.now within c.index.ensures ∙ ap Some (sym c.deref.ensures.value)
