use Rattle.std.proofs.Common.{◌≡◌, ◌↔◌, ◌∙◌, ℕ, List, Contains, map, ap, sym, subst}
use Rattle.hpr_build.specs.declared.pushes.NewLink.{NewLink}
use Rattle.hpr_build.specs.Links.{exit_of}
use Rattle.hpr_build.specs.NewLinks.{target_of, order_link, OrdersAt}
use Rattle.hpr_graph.specs.Graphs.{IsOnce}
use Rattle.hpr_build.proofs.OrderFamily.{parts_within, orders_of_links, links_of_orders, order_links_once, made_orders}
use Rattle.hpr_build.proofs.order_links.links_at.Goals as goal

pub order_of-requires-clause-parts : goal.order_of-requires-clause-parts
order_of-requires-clause-parts c =
    parts_within c.args.tables.now.program.now c.args.variable.now c.requires.variable c.deref.result.now (c.deref.ensures.value ∙ c.requires.tables.parts) c.args.reaching.now
    (λ p h. ((c.requires.reaching p).0 h).0)

pub returns-clause-exact : goal.returns-clause-exact
returns-clause-exact c = λ n.
    let t = c.args.tables.now.program.now in
    let v = c.args.variable.now in
    let u = c.args.user in
    let number = c.target_of-number.result in
    let is : number ≡ target_of (exit_of t) v.final_number u = c.target_of-number.ensures ∙ ap (λ (e : ℕ). target_of e v.final_number u) c.requires.tables.exit in
    let parts = c.deref.result.now in
    let pairs = c.in_ok-pairs.pairs.items in
    let made : c.in_ok-links.links.items ≡ map (order_link number) pairs = made_orders number pairs c.deref-2.result.now c.in_ok-links.links.items c.in_ok-links.ensures c.deref-2.ensures.value in
    subst (λ (ns : List NewLink). Contains ns n ↔ OrdersAt t v.name.now u n.to n.link) (sym made) (
      orders_of_links t v c.requires.variable u number c.requires.user is parts (c.deref.ensures.value ∙ c.requires.tables.parts) c.args.reaching.now c.requires.reaching pairs c.in_ok-pairs.ensures.exact n.to n.link,
      links_of_orders t v c.requires.variable u number c.requires.user is parts (c.deref.ensures.value ∙ c.requires.tables.parts) c.args.reaching.now c.requires.reaching pairs c.in_ok-pairs.ensures.exact n.to n.link,
    )

pub returns-clause-once : goal.returns-clause-once
returns-clause-once c =
    let number = c.target_of-number.result in
    let pairs = c.in_ok-pairs.pairs.items in
    let made : c.in_ok-links.links.items ≡ map (order_link number) pairs = made_orders number pairs c.deref-2.result.now c.in_ok-links.links.items c.in_ok-links.ensures c.deref-2.ensures.value in
    subst (λ (ns : List NewLink). IsOnce ns) (sym made) (order_links_once c.args.tables.now.program.now c.args.variable.now c.requires.variable number pairs
    c.in_ok-pairs.ensures.once)
