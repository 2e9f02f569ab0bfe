use Rattle.std.proofs.Common.{◌++◌, ◌∙◌, List, sym, ap}
use Rattle.std.proofs.lemmas.List.{append-nil, drop_all}
use Rattle.hpr_graph.specs.declared.link.Link.{Link}
use Rattle.hpr_slice.specs.Neighbours.{sources_of}
use Rattle.hpr_slice.proofs.sources.push_sources.Goals as goal

pub returns : goal.returns
returns c =
    sym (append-nil c.loop-link.into.items)
    ∙ sym (ap (λ (xs : List Link). c.loop-link.into.items ++ sources_of xs) (drop_all c.loop-link.link-index c.args.links.now c.loop-link-test.false))
    ∙ c.loop-link.invariant
