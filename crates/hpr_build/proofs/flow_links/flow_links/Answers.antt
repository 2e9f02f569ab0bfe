use Rattle.std.proofs.Common.{◌∙◌, ap, map}
use Rattle.std.proofs.lemmas.List.{take_all}
use Rattle.hpr_build.specs.NewLinks.{flow_link}
use Rattle.hpr_build.proofs.flow_links.flow_links.Goals as goal

pub returns : goal.returns
returns c = c.loop-flow.invariant ∙ ap (map (flow_link c.args.exit c.args.final_number c.args.source)) (take_all c.loop-flow.flow-index c.args.flows.now c.loop-flow-test.false)
