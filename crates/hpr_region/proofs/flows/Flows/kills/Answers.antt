use Rattle.std.proofs.Common.{sym, ◌∙◌}
use Rattle.hpr_region.proofs.Needed.{kills_counted, kills_nothing_else}
use Rattle.hpr_region.proofs.flows.Flows.kills.Goals as goal

pub returns-in_default : goal.returns-in_default
returns-in_default c = kills_nothing_else c.args.self.now c.args.rivals.now c.requires.rivals c.args.placed.now c.args.child (sym c.group.ensures ∙ c.in_default.is)

pub returns : goal.returns
returns c =
    let grouped = sym c.group.ensures ∙ c.in-Some.is in
    kills_counted c.args.self.now c.args.rivals.now c.requires.rivals c.args.placed.now c.args.child c.in-Some.group _ _ grouped c.requires.once c.requires.fresh
    (c.requires.needs.each c.in-Some.group (c.requires.rivals.within c.args.child c.in-Some.group grouped)) c.own.ensures
