use Rattle.hpr_graph.specs.Numbered.{rows_of}
use Rattle.hpr_graph.proofs.Reordered.{RowsSorted}
use Rattle.hpr_graph.proofs.draft.sort_rows.Given as goal

abbrev pub invariant-loop-row : goal.invariant-loop-row
invariant-loop-row l = RowsSorted (rows_of l.fn.rows.items) (rows_of l.row-items) l.row-index
