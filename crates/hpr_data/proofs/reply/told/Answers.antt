use Rattle.hpr_data.proofs.ToldLemmas.{graph_told, points_told}
use Rattle.hpr_data.proofs.reply.told.Goals as goal

pub returns-in_ok-points_value-in-Affected : goal.returns-in_ok-points_value-in-Affected
returns-in_ok-points_value-in-Affected c =
    let e = c.in_ok-points_value-in-Affected.ensures in
    rw c.in-Affected.is
    (points_told c.in-Affected.graph c.in-Affected.points c.deref-in-Affected.result.now _ c.line-in-Affected.result c.deref-in-Affected.ensures.value e.data
    c.line-in-Affected.ensures.status c.line-in-Affected.ensures.text)

pub returns-in_ok-graph_value-in-Graph : goal.returns-in_ok-graph_value-in-Graph
returns-in_ok-graph_value-in-Graph c =
    rw c.in-Graph.is
    (graph_told c.in-Graph.graph _ c.line-in-Graph.result c.in_ok-graph_value-in-Graph.ensures.data c.line-in-Graph.ensures.status c.line-in-Graph.ensures.text)
