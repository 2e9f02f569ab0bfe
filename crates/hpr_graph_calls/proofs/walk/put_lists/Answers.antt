use Rattle.std.proofs.Common.{◌∙◌}
use Rattle.hpr_graph_calls.proofs.WalkExample.{example_free}
use Rattle.hpr_graph_calls.proofs.walk.put_lists.Goals as goal

pub first_order-requires-clause-choices : goal.first_order-requires-clause-choices
first_order-requires-clause-choices c = example_free c.args.blocked

pub next_order-requires-clause-choices : goal.next_order-requires-clause-choices
next_order-requires-clause-choices c = example_free c.args.blocked

pub next_order-requires-clause-row : goal.next_order-requires-clause-row
next_order-requires-clause-row c = c.first_order.ensures.row ∙ c.in_ok-marks.ensures.len

pub next_order-requires-2-clause-choices : goal.next_order-requires-2-clause-choices
next_order-requires-2-clause-choices c = example_free c.args.blocked

pub next_order-requires-2-clause-row : goal.next_order-requires-2-clause-row
next_order-requires-2-clause-row c = c.next_order.ensures.row ∙ c.first_order.ensures.row ∙ c.in_ok-marks.ensures.len

pub next_order-requires-3-clause-choices : goal.next_order-requires-3-clause-choices
next_order-requires-3-clause-choices c = example_free c.args.blocked

pub next_order-requires-3-clause-row : goal.next_order-requires-3-clause-row
next_order-requires-3-clause-row c = c.next_order-2.ensures.row ∙ c.next_order.ensures.row ∙ c.first_order.ensures.row ∙ c.in_ok-marks.ensures.len
