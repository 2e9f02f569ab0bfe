use Rattle.std.proofs.Common.{ℕ, List}
use Rattle.hpr_graph.specs.Numbered.{graph_in}
use Rattle.hpr_order.specs.Limits.{IsWithinLimits}
use Rattle.hpr_order.specs.Ordered.{AreAskedSiblings}
use Rattle.hpr_order.proofs.Tabled.{orders_allowed}
use Rattle.hpr_order.proofs.Tabling.{if_none, if_some, lifted_siblings}
use Rattle.hpr_order.proofs.blocks.choices_of.Goals as goal

pub returns-in_default : goal.returns-in_default
returns-in_default c = if_none c.in_ok-asked.field-0 c.in_ok-asked.ensures.never c.in_default.is

pub returns : goal.returns
returns c =
    let within : IsWithinLimits c.args.items.now = if_some (λ _. IsWithinLimits c.args.items.now) c.in_ok-asked.field-0 c.in-Some.asked c.in_ok-asked.ensures.limits c.in-Some.is in
    let (pairs, are, lifted) = if_some (λ (asked : List (List ℕ)). AreAskedSiblings (graph_in c.args.graph.now) c.args.items.now asked) c.in_ok-asked.field-0 c.in-Some.asked c.in_ok-asked.ensures.asked c.in-Some.is in
    let tables = c.in_ok-blocks.ensures in
    (tables.count, (λ orders list. orders_allowed (graph_in c.args.graph.now) c.args.items.now pairs c.in-Some.asked c.in_ok-blocks.blocks tables lifted are orders within list))

pub blocks_of-requires-clause-siblings : goal.blocks_of-requires-clause-siblings
blocks_of-requires-clause-siblings c =
    let (pairs, are, lifted) = if_some (λ (asked : List (List ℕ)). AreAskedSiblings (graph_in c.args.graph.now) c.args.items.now asked) c.in_ok-asked.field-0 c.in-Some.asked c.in_ok-asked.ensures.asked c.in-Some.is in
    lifted_siblings c.args.items.now pairs c.in-Some.asked lifted
