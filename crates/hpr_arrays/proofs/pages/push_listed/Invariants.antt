use Rattle.std.proofs.Common.{◌≡◌, ◌++◌, take}
use Rattle.hpr_arrays.specs.Pages.{listed}
use Rattle.hpr_arrays.proofs.pages.push_listed.Given as goal

abbrev pub invariant-loop-place : goal.invariant-loop-place
invariant-loop-place l = l.entries.items ≡ l.initial.entries.items ++ listed l.first (take l.place l.row)
