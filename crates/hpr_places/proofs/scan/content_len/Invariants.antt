use Rattle.std.proofs.Common.{◌≡◌, ◌+◌, drop}
use Rattle.hpr_places.specs.declared.scan.Before.TheVariants.{Gap}
use Rattle.hpr_places.specs.Private.Walk.{content_len}
use Rattle.hpr_places.proofs.scan.content_len.Given as goal

abbrev pub invariant-loop-place : goal.invariant-loop-place
invariant-loop-place l = content_len Gap l.bytes ≡ l.place + content_len l.before (drop l.place l.bytes)
