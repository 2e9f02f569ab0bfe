use Rattle.std.proofs.Common.{◌≡◌, ◌++◌}
use Rattle.hpr_json.proofs.Rows.{edges_past}
use Rattle.hpr_drawn.specs.Pictures.{edges_text}
use Rattle.hpr_drawn.proofs.edges.put_edges.Given as goal

abbrev pub invariant-loop-to : goal.invariant-loop-to
invariant-loop-to l = l.out.items ++ edges_text l.left_out (edges_past l.graph l.to) ≡ l.initial.out.items ++ edges_text l.left_out (edges_past l.graph 0)
