use Rattle.std.proofs.Common.{◌≡◌, take}
use Rattle.hpr_graph.specs.Numbered.{rows_of}
use Rattle.hpr_graph.proofs.draft.copy_rows.Given as goal

abbrev pub invariant-loop-row : goal.invariant-loop-row
invariant-loop-row l = rows_of l.copies.items ≡ rows_of (take l.row-index l.rows)
