use Rattle.std.proofs.Common.{◌≡◌, ◌+◌, ◌++◌, ◌∷◌, [], List, sym, ap, ◌∙◌, subst, take}
use Rattle.std.proofs.lemmas.Result.{IfOk-weaker}
use Rattle.hpr_graph.specs.Numbered.{Numbered, graph_in, graphs_in}
use Rattle.hpr_graph.specs.Points.{IsPreservedBy}
use Rattle.hpr_graph.specs.Whole.{IsWhole}
use Rattle.hpr_affected.specs.Comparison.{Sides}
use Rattle.hpr_affected.specs.Numbers.{AreNumbersOf}
use Rattle.hpr_affected.specs.Shared.{MarksUnshared, others_of}
use Rattle.hpr_affected.proofs.SharedPoints.{all_others, base_at, other_at, others_more, unshared_none, unshared_read}
use Rattle.hpr_affected.proofs.points.preserved_by.Goals as goal

pub mark_affected-requires-clause-base : goal.mark_affected-requires-clause-base
mark_affected-requires-clause-base c =
    ap (λ (s : Sides). s.graph) c.comparison-item.is ∙ base_at c.args.base.now c.args.comparisons.now c.loop-comparison.comparison-index c.comparison-item.result c.loop-comparison-test.true c.requires.base

pub mark_affected-requires-clause-other : goal.mark_affected-requires-clause-other
mark_affected-requires-clause-other c =
    subst (λ (s : Sides). IsWhole (graph_in s.other)) (sym c.comparison-item.is)
    (other_at c.args.comparisons.now c.loop-comparison.comparison-index c.comparison-item.result c.loop-comparison-test.true c.requires.others)

pub loop-comparison-preserved : goal.loop-comparison-preserved
loop-comparison-preserved c =
    let base = c.args.base.now in
    let cs = c.args.comparisons.now in
    let i = c.loop-comparison.comparison-index in
    let item = c.comparison-item.result in
    let more : others_of (take (i + 1) cs) ≡ others_of (take i cs) ++ item.other ∷ [] =
    others_more cs i item c.loop-comparison-test.true ∙ ap (λ (s : Sides). others_of (take i cs) ++ s.other ∷ []) (sym c.comparison-item.is) in
    subst (λ (gs : List Numbered). MarksUnshared base gs c.mark_affected.new.unshared.items) (sym more) (c.in_ok-mark_affected.ensures (others_of (take i cs)) c.loop-comparison.invariant)

pub returns : goal.returns
returns c =
    let base = c.args.base.now in
    let cs = c.args.comparisons.now in
    IfOk-weaker c.shared_points.result
    (λ points. (gs : List Numbered) → MarksUnshared base gs c.deref.result.now → AreNumbersOf base (IsPreservedBy (graph_in base) (graphs_in gs)) points.items)
    (λ points. AreNumbersOf base (IsPreservedBy (graph_in base) (graphs_in (others_of cs))) points.items)
    (λ points h.
    h (others_of cs)
    (unshared_read base (others_of cs) c.loop-comparison.unshared.items c.deref.result.now c.deref.ensures.value
    (all_others base cs c.loop-comparison.comparison-index c.loop-comparison.unshared.items c.loop-comparison-test.false c.loop-comparison.invariant)))
    c.shared_points.ensures

pub loop-comparison-init : goal.loop-comparison-init
loop-comparison-init c = unshared_none c.args.base.now _ _ c.vertex_count.ensures c.in_ok-unshared.ensures
