use Rattle.std.proofs.Common.{◌≡◌, map, take}
use Rattle.hpr_build.specs.NewLinks.{flow_link}
use Rattle.hpr_build.proofs.flow_links.flow_links.Given as goal

abbrev pub invariant-loop-flow : goal.invariant-loop-flow
invariant-loop-flow l = l.links.items ≡ map (flow_link l.exit l.final_number l.source) (take l.flow-index l.flows)
