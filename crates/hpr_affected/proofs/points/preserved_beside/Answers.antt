use Rattle.std.proofs.Common.{List, [], ◌∷◌, refl}
use Rattle.std.proofs.lemmas.Result.{IfOk-weaker}
use Rattle.hpr_graph.specs.Numbered.{Numbered, graph_in, graphs_in}
use Rattle.hpr_graph.specs.Points.{IsPreserved, IsPreservedBy}
use Rattle.hpr_affected.specs.Numbers.{AreNumbersOf}
use Rattle.hpr_affected.specs.Shared.{MarksUnshared}
use Rattle.hpr_affected.proofs.ChangedPoints.{marks_beside}
use Rattle.hpr_affected.proofs.SharedPoints.{unshared_one, unshared_read}
use Rattle.hpr_affected.proofs.points.preserved_beside.Goals as goal

pub returns : goal.returns
returns c =
    let base = c.args.base.now in
    let a = c.args.with_a.now in
    let b = c.args.with_b.now in
    let marks = c.in_ok-unshared.unshared.items in
    IfOk-weaker c.shared_points.result
    (λ points. (gs : List Numbered) → MarksUnshared base gs c.deref.result.now → AreNumbersOf base (IsPreservedBy (graph_in base) (graphs_in gs)) points.items)
    (λ points. AreNumbersOf base (IsPreserved (graph_in base) (graph_in a.other) (graph_in b.other)) points.items)
    (λ points h.
    h (a.other ∷ b.other ∷ [])
    (unshared_read base (a.other ∷ b.other ∷ []) c.mark_affected.new.unshared.items c.deref.result.now c.deref.ensures.value
    (c.in_ok-mark_affected.ensures (a.other ∷ []) (unshared_one base a.other marks (marks_beside a base marks marks c.requires.a refl c.in_ok-unshared.ensures)))))
    c.shared_points.ensures
