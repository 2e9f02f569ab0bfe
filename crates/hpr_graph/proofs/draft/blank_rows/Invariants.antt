use Rattle.std.proofs.Common.{◌≡◌, [], replicate}
use Rattle.hpr_graph.specs.Numbered.{rows_of}
use Rattle.hpr_graph.proofs.draft.blank_rows.Given as goal

abbrev pub invariant-loop : goal.invariant-loop
invariant-loop l = rows_of l.rows.items ≡ replicate l.counter []
