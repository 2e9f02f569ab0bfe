use Rattle.std.proofs.Common.{◌≡◌, ◌+◌}
use Rattle.hpr_sample.specs.Private.Making.{after}
use Rattle.hpr_sample.specs.Sample.{groups}
use Rattle.hpr_sample.proofs.base.body.Given as goal

abbrev pub invariant-loop-left : goal.invariant-loop-left
invariant-loop-left l = record {
  serials : l.serial + l.left ≡ l.fn.parts + 1;
  made : after l.stmts.items (groups l.left l.serial l.words) ≡ groups l.fn.parts 1 l.fn.words;
}

abbrev pub decreases-loop-left : goal.decreases-loop-left
decreases-loop-left l = l.left
