use Rattle.std.proofs.Common.{◌∙◌, ap, map}
use Rattle.std.proofs.lemmas.List.{take_all}
use Rattle.hpr_build.specs.NewLinks.{order_link}
use Rattle.hpr_build.proofs.order_links.order_links.Goals as goal

pub returns : goal.returns
returns c = c.loop-pair.invariant ∙ ap (map (order_link c.args.user)) (take_all c.loop-pair.pair-index c.args.pairs.now c.loop-pair-test.false)
