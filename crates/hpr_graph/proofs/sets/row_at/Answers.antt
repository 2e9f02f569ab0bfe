use Rattle.std.proofs.Common.{◌≤◌, ap, length, sym, arith}
use Rattle.std.proofs.lemmas.Option.{slice_get_past}
use Rattle.hpr_graph.specs.Numbered.{row_items}
use Rattle.hpr_graph.proofs.sets.row_at.Goals as goal

pub returns-then-at-vertices-clause-row : goal.returns-then-at-vertices-clause-row
returns-then-at-vertices-clause-row c = sym (ap row_items c.edges_into.ensures.row)

pub returns-else-at-vertices-clause-row : goal.returns-else-at-vertices-clause-row
returns-else-at-vertices-clause-row c =
    let past : length c.args.graph.now.links ≤ c.args.at = omega (arith, c.vertices.ensures.numbered.rows, ap length c.vertices.ensures.vertices, c.if-at-vertices.false) in
    sym (ap row_items (slice_get_past c.args.graph.now.links c.args.at past))

pub returns-else-at-vertices-clause-ascend : goal.returns-else-at-vertices-clause-ascend
returns-else-at-vertices-clause-ascend c = λ k d low high. absurd (omega (arith, high))
