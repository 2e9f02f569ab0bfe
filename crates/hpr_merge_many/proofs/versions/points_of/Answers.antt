use Rattle.std.proofs.Common.{List, sym, subst}
use Rattle.hpr_search.specs.Rows.{numbers_of}
use Rattle.hpr_graph.specs.Numbered.{Numbered, graph_in, graphs_in}
use Rattle.hpr_graph.specs.Points.{IsPreservedBy}
use Rattle.hpr_graph.specs.Whole.{AreAll, IsWhole}
use Rattle.hpr_affected.specs.Numbers.{AreNumbersOf}
use Rattle.hpr_merge_many.proofs.ManyPoints.{affected_all, affected_more, affected_none, beside_more, read_base, read_others, whole_one}
use Rattle.hpr_merge_many.proofs.versions.points_of.Goals as goal

pub loop-variant-init : goal.loop-variant-init
loop-variant-init c = (affected_none c.args.base.now c.in_ok-affected.affected.items c.in_ok-affected.ensures.items, c.in_ok-beside.ensures.items)

pub push_points-requires-clause-base : goal.push_points-requires-clause-base
push_points-requires-clause-base c = c.requires.base

pub push_points-requires-clause-variant : goal.push_points-requires-clause-variant
push_points-requires-clause-variant c = whole_one c.args.variants.now c.loop-variant.variant-index c.variant-item.result c.loop-variant-test.true c.variant-item.is c.requires.variants

pub loop-variant-preserved : goal.loop-variant-preserved
loop-variant-preserved c =
    let base = c.args.base.now in
    let gs = c.args.variants.now in
    let i = c.loop-variant.variant-index in
    let g = c.variant-item.result in
    let new = c.push_points.new in
    let (row, rows, own) = c.in_ok-push_points.ensures.affected in
    let (side, sides, is_base, is_other) = c.in_ok-push_points.ensures.beside in (
      affected_more base gs i g c.loop-variant.affected.items new.affected.items row c.loop-variant-test.true c.variant-item.is c.loop-variant.invariant.0 own rows,
      beside_more base gs i g c.loop-variant.beside.items new.beside.items side c.loop-variant-test.true c.variant-item.is c.loop-variant.invariant.1 is_base is_other sides,
    )

pub preserved_by-requires-clause-base : goal.preserved_by-requires-clause-base
preserved_by-requires-clause-base c =
    read_base c.args.base.now c.args.variants.now c.loop-variant.variant-index c.loop-variant.beside.items c.deref.result.now c.loop-variant-test.false c.loop-variant.invariant.1 c.deref.ensures.value

pub preserved_by-requires-clause-whole : goal.preserved_by-requires-clause-whole
preserved_by-requires-clause-whole c = c.requires.base

pub preserved_by-requires-clause-others : goal.preserved_by-requires-clause-others
preserved_by-requires-clause-others c =
    subst (λ (hs : List Numbered). AreAll IsWhole (graphs_in hs))
    (sym (read_others c.args.base.now c.args.variants.now c.loop-variant.variant-index c.loop-variant.beside.items c.deref.result.now c.loop-variant-test.false c.loop-variant.invariant.1 c.deref.ensures.value))
    c.requires.variants

pub returns-clause-affected : goal.returns-clause-affected
returns-clause-affected c =
    affected_all c.args.base.now c.args.variants.now c.loop-variant.variant-index (numbers_of c.loop-variant.affected.items) c.loop-variant-test.false c.loop-variant.invariant.0

pub returns-clause-preserved : goal.returns-clause-preserved
returns-clause-preserved c =
    let base = c.args.base.now in
    subst (λ (hs : List Numbered). AreNumbersOf base (IsPreservedBy (graph_in base) (graphs_in hs)) c.in_ok-preserved.preserved.items)
    (read_others base c.args.variants.now c.loop-variant.variant-index c.loop-variant.beside.items c.deref.result.now c.loop-variant-test.false c.loop-variant.invariant.1 c.deref.ensures.value)
    c.in_ok-preserved.ensures
