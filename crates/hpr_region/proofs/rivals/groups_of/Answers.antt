use Rattle.std.proofs.Common.{◌≡◌, length, vec_len, arith, rules}
use Rattle.hpr_region.proofs.Rivalry.{groups_whole}
use Rattle.hpr_region.proofs.rivals.groups_of.Goals as goal

pub returns-clause-groups : goal.returns-clause-groups
returns-clause-groups c =
    let i = c.loop-item.invariant in
    let l : length c.loop-item.groups.items ≡ vec_len c.loop-item.groups = search rules in
    groups_whole c.args.flows.now c.args.definers.now c.loop-item.groups.items c.loop-item.item (omega (arith, c.loop-item-test.false, c.size-item-end.ensures))
    (omega (arith, l, i.count, i.end, c.loop-item-test.false, c.size-item-end.ensures)) i.groups
