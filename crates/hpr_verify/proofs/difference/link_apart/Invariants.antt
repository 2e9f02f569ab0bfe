use Rattle.std.proofs.Common.{ℕ, ◌<◌, ◌↔◌}
use Rattle.hpr_graph.specs.declared.link.Link.{Link}
use Rattle.hpr_graph.specs.Numbered.{HasLink}
use Rattle.hpr_verify.proofs.difference.link_apart.Given as goal

abbrev pub invariant-loop-to : goal.invariant-loop-to
invariant-loop-to l = (t : ℕ) (k : Link) → t < l.to → HasLink l.offered t k ↔ HasLink l.merged t k
