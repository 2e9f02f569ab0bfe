use Rattle.std.proofs.Common.{Some, sym, ap, ◌∙◌, arith}
use Rattle.std.proofs.lemmas.Option.{slice_get_within}
use Rattle.std.proofs.lemmas.Result.{IfOk-weaker}
use Rattle.std.specs.Option.{option_copied}
use Rattle.hpr_order.proofs.Steps.{read_of}
use Rattle.hpr_region.proofs.Made.{defined_more}
use Rattle.hpr_region.proofs.tables.defined_names.Goals as goal

pub loop-item-preserved : goal.loop-item-preserved
loop-item-preserved c =
    defined_more c.args.items.now c.loop-item.item-index c.item-item.result c.loop-item.names.items c.push.new.self.items _
    (read_of c.args.items.now c.loop-item.item-index c.item-item.result c.loop-item-test.true c.item-item.is) (sym c.assigned.ensures ∙ ap option_copied c.in-Some.is ∙ ap Some (sym c.in_ok-copy.ensures)) c.in_ok-push.ensures.items c.loop-item.invariant

pub returns-clause-all : goal.returns-clause-all
returns-clause-all c =
    IfOk-weaker c.in_order.result _ _ (λ names same k i x at is. (same x).1 (c.loop-item.invariant k i x (let lt = slice_get_within c.args.items.now k i at in omega (arith, lt, c.loop-item-test.false)) at is)) c.in_order.ensures.same
