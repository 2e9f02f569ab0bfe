use Rattle.std.proofs.Common.{◌≡◌, length, take, vec_len}
use Rattle.hpr_build.specs.Uses.{AreEndsBy}
use Rattle.hpr_build.proofs.tables.final_numbers.Given as goal

abbrev pub invariant-loop-one : goal.invariant-loop-one
invariant-loop-one l = record {
  len : vec_len l.numbers ≡ length l.names;
  exact : AreEndsBy l.exit (take l.one-index l.uses) l.names l.numbers.items;
}
