use Rattle.std.proofs.Common.{◌∙◌}
use Rattle.hpr_order.proofs.Preorders.{number_more, numbers_whole}
use Rattle.hpr_order.proofs.Steps.{read_of}
use Rattle.hpr_graph_calls.proofs.orders.numbers_of.Goals as goal

pub loop-row-preserved : goal.loop-row-preserved
loop-row-preserved c =
    number_more c.args.graph.now.vertices c.deref-row-items.result.now c.loop-row.row-index c.loop-row.numbers.items c.push.new.self.items c.row-item.result c.in-Some.number c.in_ok-copy.field-0
    (read_of c.deref-row-items.result.now c.loop-row.row-index c.row-item.result c.loop-row-test.true c.row-item.is) c.in-Some.ensures.found c.in_ok-copy.ensures c.in_ok-push.ensures.items
    c.loop-row.invariant

pub returns : goal.returns
returns c =
    numbers_whole c.args.graph.now c.args.program.now c.deref-row-items.result.now c.loop-row.row-index c.loop-row.numbers.items (c.deref-row-items.ensures.value ∙ c.in_ok-rows.ensures)
    c.loop-row-test.false c.loop-row.invariant
