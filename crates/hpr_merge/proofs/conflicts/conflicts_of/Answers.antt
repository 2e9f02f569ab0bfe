use Rattle.std.proofs.Common.{arith}
use Rattle.std.proofs.lemmas.List.{nil_from_length}
use Rattle.std.proofs.lemmas.Result.{IfOk-weaker}
use Rattle.hpr_graph.specs.Numbered.{graph_in}
use Rattle.hpr_slice.specs.Vertices.{IsOneOf}
use Rattle.hpr_merge.specs.PointConflicts.{ArePointConflicts}
use Rattle.hpr_merge.proofs.MergedParts.{conflicts_read}
use Rattle.hpr_merge.proofs.ConflictPoints.{all_conflicts, no_conflicts}
use Rattle.hpr_merge.proofs.conflicts.conflicts_of.Goals as goal

pub returns-then-is_empty : goal.returns-then-is_empty
returns-then-is_empty c =
    no_conflicts c.args.merged.now c.args.variant.now c.args.points.now c.in_ok-kept.kept.items c.new.result.items c.in_ok-kept.ensures (nil_from_length c.in_ok-kept.kept.items (grind (arith, c.is_empty.ensures, c.if-is_empty.true))) c.new.ensures.items

pub returns : goal.returns
returns c =
    let m = c.args.merged.now in
    let g = c.args.variant.now in
    IfOk-weaker c.conflicts_at.result (λ ps. ArePointConflicts (graph_in m) (graph_in g) (IsOneOf g c.deref.result.now) ps.items)
    (λ ps. ArePointConflicts (graph_in m) (graph_in g) (IsOneOf g c.args.points.now) ps.items)
    (λ ps h.
    all_conflicts m g c.args.points.now c.in_ok-kept.kept.items ps.items c.in_ok-kept.ensures
    (conflicts_read m g c.deref.result.now c.in_ok-kept.kept.items ps.items c.deref.ensures.value h))
    c.conflicts_at.ensures
