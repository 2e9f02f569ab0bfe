use Rattle.std.proofs.Common.{refl}
use Rattle.hpr_graph.proofs.Lists.{read_at}
use Rattle.hpr_split.proofs.Chosen.{none_chosen, chosen_more, chosen_all}
use Rattle.hpr_split.proofs.parts.chosen.Goals as goal

pub loop-at-init : goal.loop-at-init
loop-at-init c = none_chosen c.args.vertices.now c.args.keep.now _ c.new-parts.ensures.items

pub loop-at-preserved : goal.loop-at-preserved
loop-at-preserved c =
    chosen_more c.args.vertices.now c.args.keep.now c.loop-at.at c.loop-at.parts.items c.index-vertices-at.result _ c.requires.once c.loop-at.invariant
    (read_at c.args.vertices.now c.args.vertices.now c.loop-at.at c.index-vertices-at.result refl c.loop-at-test.true c.index-vertices-at.is) refl _ c.in_ok-push_chosen.ensures

pub returns-clause-once : goal.returns-clause-once
returns-clause-once c = c.loop-at.invariant.once

pub returns-clause-parts : goal.returns-clause-parts
returns-clause-parts c = chosen_all c.args.vertices.now c.args.keep.now c.loop-at.at c.loop-at.parts.items c.loop-at.invariant c.loop-at-test.false
