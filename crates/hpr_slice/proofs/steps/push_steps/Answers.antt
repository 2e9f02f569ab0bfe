use Rattle.std.proofs.Common.{◌++◌, ◌∙◌, List, sym, ap}
use Rattle.std.proofs.lemmas.List.{append-nil, drop_all}
use Rattle.hpr_graph.specs.declared.link.Link.{Link}
use Rattle.hpr_slice.specs.Steps.{steps_into}
use Rattle.hpr_slice.proofs.steps.push_steps.Goals as goal

pub returns : goal.returns
returns c =
    sym (append-nil c.loop-link.into.items)
    ∙ sym (ap (λ (xs : List Link). c.loop-link.into.items ++ steps_into c.args.to xs) (drop_all c.loop-link.link-index c.args.links.now c.loop-link-test.false))
    ∙ c.loop-link.invariant
