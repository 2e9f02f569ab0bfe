use Rattle.std.proofs.Common.{◌≡◌, drop}
use Rattle.hpr_region.specs.Private.Rivals.{first_in}
use Rattle.hpr_region.proofs.rivals.first_in.Given as goal

abbrev pub invariant-loop-definer : goal.invariant-loop-definer
invariant-loop-definer l = first_in l.flows l.definers l.item ≡ first_in l.flows (drop l.definer-index l.definers) l.item
