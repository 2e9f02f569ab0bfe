use Rattle.std.proofs.Common.{List, inl, inr, sym, ◌∙◌, subst}
use Rattle.hpr_graph.specs.Graphs.{IsOnce}
use Rattle.hpr_build.specs.declared.pushes.NewLink.{NewLink}
use Rattle.hpr_build.specs.Links.{IsControlLink}
use Rattle.hpr_build.proofs.ControlFamily.{controls_exact}
use Rattle.hpr_build.proofs.StageTurns.{to_family, stage_added, on_ok}
use Rattle.hpr_build.proofs.controls.push_controls.Goals as goal

pub push_links-requires-clause-once : goal.push_links-requires-clause-once
push_links-requires-clause-once c = subst (λ (ns : List NewLink). IsOnce ns) (sym c.deref-2.ensures.value) c.in_ok-links.ensures.once

pub push_links-requires-clause-links : goal.push_links-requires-clause-links
push_links-requires-clause-links c = λ n h.
    let t = c.args.tables.now in
    inl (to_family (IsControlLink t.program.now t.inits.items) c.deref-2.result.now c.in_ok-links.links.items c.deref-2.ensures.value
    (controls_exact t.program.now t.inits.items c.deref.result.now (c.deref.ensures.value ∙ c.requires.tables.parts) c.args.tables.now.vertex_count c.requires.tables.count c.in_ok-links.links.items c.in_ok-links.ensures.exact)
    n.to n.link h)

pub push_links-requires-clause-fresh : goal.push_links-requires-clause-fresh
push_links-requires-clause-fresh c = λ n h. c.requires.none n.to n.link

pub returns-clause-exact : goal.returns-clause-exact
returns-clause-exact c =
    let t = c.args.tables.now in
    on_ok c.push_links.result _ _ (λ added to l.
    let a = stage_added (IsControlLink t.program.now t.inits.items) c.deref-2.result.now c.in_ok-links.links.items c.deref-2.ensures.value
    (controls_exact t.program.now t.inits.items c.deref.result.now (c.deref.ensures.value ∙ c.requires.tables.parts) c.args.tables.now.vertex_count c.requires.tables.count c.in_ok-links.links.items c.in_ok-links.ensures.exact)
    c.args.graph.now c.push_links.new.graph added to l in
    ((λ h. elim (a.0 h) [ inl was ↦ absurd (c.requires.none to l was) | inr f ↦ f ]), (λ f. a.1 (inr f)))) c.push_links.ensures.added
