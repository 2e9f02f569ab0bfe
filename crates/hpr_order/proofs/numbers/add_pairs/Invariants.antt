use Rattle.std.proofs.Common.{◌≡◌, ◌↔◌, ◌⊎◌, ℕ, Contains, take}
use Rattle.hpr_order.specs.Numbers.{IsAskedBy}
use Rattle.hpr_order.proofs.numbers.add_pairs.Given as goal

abbrev pub invariant-loop-link : goal.invariant-loop-link
invariant-loop-link l = (s t : ℕ) → Contains l.pairs.items (s, t) ↔ (Contains l.fn.pairs.items (s, t) ⊎ ((t ≡ l.item) × IsAskedBy l.places (take l.link-index l.links) s))
