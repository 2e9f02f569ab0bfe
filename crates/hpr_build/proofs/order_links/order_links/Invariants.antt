use Rattle.std.proofs.Common.{◌≡◌, map, take}
use Rattle.hpr_build.specs.NewLinks.{order_link}
use Rattle.hpr_build.proofs.order_links.order_links.Given as goal

abbrev pub invariant-loop-pair : goal.invariant-loop-pair
invariant-loop-pair l = l.links.items ≡ map (order_link l.user) (take l.pair-index l.pairs)
