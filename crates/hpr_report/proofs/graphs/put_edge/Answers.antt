use Rattle.std.proofs.Common.{string_bytes}
use Rattle.hpr_report.proofs.Ends.{edge_put, on_ok}
use Rattle.hpr_report.proofs.graphs.put_edge.Goals as goal

pub returns : goal.returns
returns c =
    on_ok c.put_tail.result
    (edge_put (string_bytes c.args.text.now) (string_bytes c.put_head.new.text) (string_bytes c.put_vertex.new.text) (string_bytes c.put_behind.new.text) (string_bytes c.put_tail.new.text)
    c.args.edge.now c.in_ok-put_head.ensures c.in_ok-put_vertex.ensures c.in_ok-put_behind.ensures)
    c.put_tail.ensures
