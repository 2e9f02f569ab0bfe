use Rattle.std.proofs.lemmas.Result.{IfOk-weaker}
use Rattle.hpr_order.proofs.ItemRows.{children_listed}
use Rattle.hpr_order.proofs.blocks.child_rows.Goals as goal

pub returns : goal.returns
returns c = IfOk-weaker c.lists_of.result _ _ (λ lists listed. children_listed c.args.items.now c.in_ok-children.children lists.items c.in_ok-children.ensures.count c.in_ok-children.ensures.children listed) c.lists_of.ensures
