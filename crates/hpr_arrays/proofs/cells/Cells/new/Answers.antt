use Rattle.std.proofs.Common.{sym, subst}
use Rattle.hpr_arrays.proofs.Rows.{IsKept, blank_kept}
use Rattle.hpr_arrays.proofs.cells.Cells.new.Goals as goal

pub invariant_of-result : goal.invariant_of-result
invariant_of-result c = subst (λ pages. IsKept pages 0) (sym c.new.ensures.items) blank_kept
