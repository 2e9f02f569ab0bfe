use Rattle.std.proofs.Common.{◌≡◌, ◌++◌, drop, map}
use Rattle.hpr_syntax.specs.Print.{after_commas, pair_text}
use Rattle.hpr_print.proofs.program.put_more_pairs.Given as goal

abbrev pub invariant-loop-pair : goal.invariant-loop-pair
invariant-loop-pair l = l.out.items ++ after_commas (map pair_text (drop l.pair-index l.pairs)) ≡ l.initial.out.items ++ after_commas (map pair_text l.pairs)
