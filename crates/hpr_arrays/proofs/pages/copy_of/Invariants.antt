use Rattle.std.proofs.Common.{◌≡◌, take}
use Rattle.hpr_arrays.specs.Pages.{rows_of}
use Rattle.hpr_arrays.proofs.pages.copy_of.Given as goal

abbrev pub invariant-loop-row : goal.invariant-loop-row
invariant-loop-row l = rows_of l.copy.items ≡ rows_of (take l.row-index l.pages)
