use Rattle.std.proofs.Common.{◌≡◌, ◌++◌}
use Rattle.hpr_report.proofs.Rows.{lines_past}
use Rattle.hpr_report.proofs.edges.put_edges.Given as goal

abbrev pub invariant-loop-to : goal.invariant-loop-to
invariant-loop-to l = l.out.items ++ lines_past l.of.graph.now l.to ≡ l.initial.out.items ++ lines_past l.of.graph.now 0
