use Rattle.std.proofs.Common.{◌≤◌, ◌-◌, length, take}
use Rattle.hpr_merge.specs.Beside.{AreLeastLinks}
use Rattle.hpr_merge.proofs.beside.Beside.links_by_words.Given as goal

abbrev pub invariant-loop-start : goal.invariant-loop-start
invariant-loop-start l = record {
  within : l.start ≤ length l.numbers;
  links : AreLeastLinks l.self (take l.start l.numbers) l.links.items;
}

abbrev pub decreases-loop-start : goal.decreases-loop-start
decreases-loop-start l = length l.numbers - l.start
