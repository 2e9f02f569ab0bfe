use Rattle.std.proofs.Common.{◌≡◌, take}
use Rattle.hpr_arrays.specs.Pages.{rows_of, numbers_of, listed}
use Rattle.hpr_arrays.proofs.cells.Cells.entries.Given as goal

abbrev pub invariant-loop-page : goal.invariant-loop-page
invariant-loop-page l = l.entries.items ≡ listed 0 (numbers_of (rows_of (take l.page l.numbers-items)))
