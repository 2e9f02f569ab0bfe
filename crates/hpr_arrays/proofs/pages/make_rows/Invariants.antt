use Rattle.std.proofs.Common.{◌≡◌, length}
use Rattle.hpr_arrays.specs.Pages.{rows_of, elements_of, IsLaidOut}
use Rattle.hpr_arrays.proofs.pages.make_rows.Given as goal

abbrev pub invariant-loop : goal.invariant-loop
invariant-loop l = IsLaidOut (rows_of l.pages.items) × (elements_of (rows_of l.pages.items) ≡ elements_of (rows_of l.initial.pages.items)) × (length l.pages.items ≡ l.counter)
