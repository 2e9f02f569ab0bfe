use Rattle.std.proofs.Common.{sym, ◌∙◌, subst}
use Rattle.hpr_graph.specs.Numbered.{Numbered, graph_in}
use Rattle.hpr_graph.specs.Whole.{IsWhole}
use Rattle.hpr_merge_many.proofs.ManyPoints.{points_found}
use Rattle.hpr_merge_many.proofs.versions.push_points.Goals as goal

pub affected-requires-clause-graph : goal.affected-requires-clause-graph
affected-requires-clause-graph c = subst (λ (g : Numbered). IsWhole (graph_in g)) (sym c.in_ok-comparison.ensures.graph) c.requires.variant

pub affected-requires-clause-other : goal.affected-requires-clause-other
affected-requires-clause-other c = subst (λ (g : Numbered). IsWhole (graph_in g)) (sym c.in_ok-comparison.ensures.other) c.requires.base

pub returns-clause-affected : goal.returns-clause-affected
returns-clause-affected c =
    let sides = c.in_ok-comparison.ensures in
    let row = c.in_ok-affected.field-0 in (
      row,
      c.in_ok-push.ensures.items,
      points_found c.args.base.now c.in_ok-comparison.comparison c.args.variant.now row.items sides.graph sides.other c.in_ok-affected.ensures,
    )

pub returns-clause-beside : goal.returns-clause-beside
returns-clause-beside c =
    let sides = c.in_ok-comparison.ensures in (
      c.turned.result,
      c.in_ok-push-2.ensures.items,
      c.turned.ensures.graph ∙ sides.other,
      c.turned.ensures.other ∙ sides.graph,
    )
