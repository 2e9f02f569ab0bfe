use Rattle.std.proofs.Common.{sym, ◌∙◌, arith}
use Rattle.hpr_region.proofs.Definers.{definers_more, definers_none, definers_skip, definers_whole}
use Rattle.hpr_region.proofs.rivals.definers_of.Goals as goal

pub loop-item-init : goal.loop-item-init
loop-item-init c = definers_none c.args.flows.now c.in_ok-rows.rows.items c.in_ok-rows.ensures.count c.in_ok-rows.ensures.blank

pub loop-item-preserved-in_default : goal.loop-item-preserved-in_default
loop-item-preserved-in_default c = definers_skip c.args.flows.now c.loop-item.rows.items c.loop-item.item (sym c.variable.ensures ∙ c.in_default.is) c.loop-item.invariant

pub loop-item-preserved : goal.loop-item-preserved
loop-item-preserved c =
    definers_more c.args.flows.now c.loop-item.rows.items c.push_at.new.rows.items c.loop-item.item c.in-Some.variable (sym c.variable.ensures ∙ c.in-Some.is) c.in_ok-push_at.ensures.count
    c.in_ok-push_at.ensures.pushed c.loop-item.invariant

pub returns : goal.returns
returns c = definers_whole c.args.flows.now c.loop-item.rows.items c.loop-item.item (omega (arith, c.loop-item-test.false, c.size-item-end.ensures)) c.loop-item.invariant
