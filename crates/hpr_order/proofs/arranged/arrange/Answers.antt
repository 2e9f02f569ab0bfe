use Rattle.std.proofs.Common.{sym, subst}
use Rattle.std.proofs.lemmas.Result.{IfOk-weaker}
use Rattle.hpr_graph.specs.Arrangements.{IsArrangement}
use Rattle.hpr_graph.specs.Numbered.{graph_in}
use Rattle.hpr_order.specs.Arranging.{IsPreorderOf}
use Rattle.hpr_order.specs.Numbers.{AreItemsOf}
use Rattle.hpr_order.proofs.Given.{order_parts, listed_program}
use Rattle.hpr_order.proofs.arranged.arrange.Goals as goal

pub items_at-requires-clause-numbers : goal.items_at-requires-clause-numbers
items_at-requires-clause-numbers c =
    let (p, r, pre) = c.requires.arrangement in
    order_parts c.args.graph.now c.vertices-vertices.ensures.numbered c.args.issued.now c.args.order.now p r pre

pub program_as_listed-requires-clause-made : goal.program_as_listed-requires-clause-made
program_as_listed-requires-clause-made c =
    let are : AreItemsOf c.args.graph.now c.args.order.now c.deref.result.now = subst (AreItemsOf c.args.graph.now c.args.order.now) (sym c.deref.ensures.value) c.in_ok-items.ensures in
    let (p, r, pre) = c.requires.arrangement in
    (p, r.program, listed_program c.args.graph.now c.vertices-vertices.ensures.numbered c.args.issued.now c.args.order.now p r pre c.deref.result.now are)

pub returns-clause-arrangement : goal.returns-clause-arrangement
returns-clause-arrangement c =
    let are : AreItemsOf c.args.graph.now c.args.order.now c.deref.result.now = subst (AreItemsOf c.args.graph.now c.args.order.now) (sym c.deref.ensures.value) c.in_ok-items.ensures in
    let (p, r, pre) = c.requires.arrangement in
    IfOk-weaker c.program_as_listed.result _ _
    (λ m same. subst (IsArrangement (graph_in c.args.graph.now) c.args.issued.now)
    (sym (same p (listed_program c.args.graph.now c.vertices-vertices.ensures.numbered c.args.issued.now c.args.order.now p r pre c.deref.result.now are))) r) c.program_as_listed.ensures

pub returns-clause-preorder : goal.returns-clause-preorder
returns-clause-preorder c =
    let are : AreItemsOf c.args.graph.now c.args.order.now c.deref.result.now = subst (AreItemsOf c.args.graph.now c.args.order.now) (sym c.deref.ensures.value) c.in_ok-items.ensures in
    let (p, r, pre) = c.requires.arrangement in
    IfOk-weaker c.program_as_listed.result _ _
    (λ m same. subst (IsPreorderOf c.args.graph.now c.args.order.now)
    (sym (same p (listed_program c.args.graph.now c.vertices-vertices.ensures.numbered c.args.issued.now c.args.order.now p r pre c.deref.result.now are))) pre) c.program_as_listed.ensures

pub returns-clause-only : goal.returns-clause-only
returns-clause-only c =
    let are : AreItemsOf c.args.graph.now c.args.order.now c.deref.result.now = subst (AreItemsOf c.args.graph.now c.args.order.now) (sym c.deref.ensures.value) c.in_ok-items.ensures in
    IfOk-weaker c.program_as_listed.result _ _
    (λ m same p r pre. sym (same p (listed_program c.args.graph.now c.vertices-vertices.ensures.numbered c.args.issued.now c.args.order.now p r pre c.deref.result.now are))) c.program_as_listed.ensures
