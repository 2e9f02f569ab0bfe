use Rattle.std.proofs.Common.{◌≡◌, ◌+◌, ◌-◌, ◌*◌, ◌^◌, false, if◌then◌else◌, length, sum}
use Rattle.hpr_merge.specs.Words.{IsClosed, IsSpread}
use Rattle.hpr_merge.proofs.words.spread.Given as goal

abbrev pub invariant-loop-more : goal.invariant-loop-more
invariant-loop-more l = record {
  spread : IsSpread l.steps l.fn.words.items l.words.items;
  closed : l.more ≡ false → IsClosed l.steps l.words.items;
}

abbrev pub decreases-loop-more : goal.decreases-loop-more
decreases-loop-more l = (if l.more then 1 else 0) + (length l.words.items * 2 ^ 64 - sum l.words.items)
