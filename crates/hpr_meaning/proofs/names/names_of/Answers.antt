use Rattle.hpr_syntax.specs.Rows.{content_of}
use Rattle.hpr_meaning.proofs.NamesInOrder.{in_order_of}
use Rattle.hpr_meaning.proofs.names.names_of.Goals as goal

pub returns : goal.returns
returns c =
    in_order_of (λ v. v.items) (content_of c.args.stmt.now) c.in_ok-used_names.field-0.items c.in_order.result c.in_ok-used_names.ensures c.in_order.ensures.ascending c.in_order.ensures.same
