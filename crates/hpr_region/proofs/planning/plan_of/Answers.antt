use Rattle.std.proofs.Common.{Contains, Option, IfSome, IfNone, List, ℕ, Vec, sym, subst}
use Rattle.std.specs.Global.{Global}
use Rattle.hpr_forest.specs.declared.blocks.Blocks.{Blocks}
use Rattle.hpr_terms.specs.Names.{IsVariable}
use Rattle.hpr_graph.specs.declared.vertex.Vertex.{Vertex}
use Rattle.hpr_graph.specs.declared.vertex.Vertex.TheVariants.{Final}
use Rattle.hpr_graph.specs.Numbered.{graph_in}
use Rattle.hpr_order.specs.declared.item.Item.{Item}
use Rattle.hpr_order.specs.Numbers.{AreItemsOf, ArePartsOf, AreRanked}
use Rattle.hpr_order.specs.Ordered.{AreChoices}
use Rattle.hpr_region.specs.Openings.{IsOpen, IsShut}
use Rattle.hpr_region.specs.Tables.{AreFlowsOf}
use Rattle.hpr_region.proofs.Finals.{finals_there}
use Rattle.hpr_region.proofs.Planned.{plan_is}
use Rattle.hpr_region.proofs.planning.plan_of.Goals as goal

pub returns : goal.returns
returns c =
    let g = c.args.graph.now in
    let numbers = c.into_parts-numbers.result.0 in
    let items = c.into_parts-numbers.result.1 in
    let choices = c.into_parts-numbers.result.2 in
    let are = c.in_ok-parts.ensures in
    let is_numbers = sym c.into_parts-numbers.ensures.numbers in
    let is_items = sym c.into_parts-numbers.ensures.items in
    let is_choices = sym c.into_parts-numbers.ensures.choices in
    let (xs, finals) = finals_there g (subst (λ (vs : List Vertex). (x : List ℕ) → Contains vs (Final x) → IsVariable x) c.vertices.ensures.vertices c.read_finals.ensures) in
    plan_is g c.vertices.ensures.numbered c.requires.regions.possible c.args.rank.now _ items choices xs
    (subst (λ (v : Vec ℕ Global). ArePartsOf g v.items) is_numbers are.parts)
    (subst (λ (v : Vec ℕ Global). AreRanked g c.args.rank.now v.items) is_numbers are.ranked)
    (subst (λ (v : Vec ℕ Global). AreItemsOf g v.items items.items) is_numbers (subst (λ (v : Vec Item Global). AreItemsOf g c.in_ok-parts.parts.numbers.items v.items) is_items are.items))
    (subst (λ (o : Option Blocks). AreChoices (graph_in g) items.items o) is_choices (subst (λ (v : Vec Item Global). AreChoices (graph_in g) v.items c.in_ok-parts.parts.choices) is_items are.choices))
    finals
    (subst (λ (xs : List ℕ). AreFlowsOf g xs c.in_ok-flows.flows) c.deref.ensures.value c.in_ok-flows.ensures.flows)
    c.in_ok-choices.ensures.same
    (subst (λ (xs : List Item). IfSome c.in_ok-choices.choices (λ b. IsOpen xs b)) c.deref-3.ensures.value c.in_ok-choices.ensures.open)
    (subst (λ (xs : List Item). IfNone c.in_ok-choices.choices (IsShut xs choices)) c.deref-3.ensures.value c.in_ok-choices.ensures.shut)
