use Rattle.std.proofs.Common.{◌≡◌, ◌↔◌, ◌<◌, ℕ, List, Contains, length, sym, ap, ◌∙◌, subst}
use Rattle.std.proofs.lemmas.Result.{IfOk-weaker}
use Rattle.hpr_graph.specs.declared.link.Link.{Link}
use Rattle.hpr_graph.specs.declared.vertex.Vertex.{Vertex}
use Rattle.hpr_graph.specs.Numbered.{row_items}
use Rattle.hpr_build.specs.Links.{exit_of, IsFlowLink}
use Rattle.hpr_build.specs.NewLinks.{target_of}
use Rattle.hpr_build.specs.Reaching.{IsFlowKind}
use Rattle.hpr_build.proofs.Sources.{reaching_sources, target_within}
use Rattle.hpr_build.proofs.TargetNumbers.{target_of_number}
use Rattle.hpr_build.proofs.reaching.row_for.Goals as goal

pub edges_into-requires : goal.edges_into-requires
edges_into-requires c =
    let t = c.args.tables.now.program.now in
    let v = c.args.variable.now in
    let to = c.target_of-to.result in
    let is : to ≡ target_of (exit_of t) v.final_number c.args.user = c.target_of-to.ensures ∙ ap (λ (e : ℕ). target_of e v.final_number c.args.user) c.requires.tables.exit in
    subst (λ (vs : List Vertex). to < length vs) (sym c.requires.vertices)
    (target_within t c.args.tables.now.inits.items v.name.now c.args.user to (target_of_number t v c.requires.variable c.args.user to c.requires.user is))

pub returns-clause-exact : goal.returns-clause-exact
returns-clause-exact c =
    let t = c.args.tables.now.program.now in
    let inits = c.args.tables.now.inits.items in
    let v = c.args.variable.now in
    let to = c.target_of-to.result in
    let is : to ≡ target_of (exit_of t) v.final_number c.args.user = c.target_of-to.ensures ∙ ap (λ (e : ℕ). target_of e v.final_number c.args.user) c.requires.tables.exit in
    let flows : (l : Link) → IsFlowKind l.kind → Contains c.edges_into.result.now l ↔ IsFlowLink t inits to l =
    λ l kind. subst (λ (ls : List Link). Contains ls l ↔ IsFlowLink t inits to l) (ap row_items c.edges_into.ensures.row) (c.requires.flows to l kind) in
    IfOk-weaker c.sources_among.result _ _
    (λ row exact. reaching_sources t inits v c.requires.variable c.args.user to c.requires.user is c.edges_into.result.now flows c.args.definers.now c.requires.definers row.items exact)
    c.sources_among.ensures.exact
