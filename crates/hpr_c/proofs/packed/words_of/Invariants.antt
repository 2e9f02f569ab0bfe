use Rattle.std.proofs.Common.{◌≡◌, ◌++◌, length, map, string_bytes}
use Rattle.std.specs.List.{AllByRecursion}
use Rattle.hpr_c.specs.Packed.{IsText, packed}
use Rattle.hpr_c.proofs.packed.words_of.Given as goal

abbrev pub invariant-loop-rest : goal.invariant-loop-rest
invariant-loop-rest l = record {
  texts : AllByRecursion IsText (map string_bytes l.words.items);
  so_far : l.fn.bytes ≡ packed (map string_bytes l.words.items) ++ l.rest;
}

abbrev pub decreases-loop-rest : goal.decreases-loop-rest
decreases-loop-rest l = length l.rest
