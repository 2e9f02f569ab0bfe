use Rattle.std.proofs.Common.{◌∙◌, List, subst, sym}
use Rattle.hpr_engine.specs.Made.{AreGraphsOf}
use Rattle.hpr_graph.specs.Numbered.{Numbered}
use Rattle.hpr_kit_calls.proofs.TwoGraphs.{two_graphs}
use Rattle.hpr_kit_calls.proofs.outcome.outcome_of.Goals as goal

pub merge_outcome-requires-clause-graphs : goal.merge_outcome-requires-clause-graphs
merge_outcome-requires-clause-graphs c =
    subst (λ (gs : List Numbered). AreGraphsOf c.args.variants.now gs) (sym (c.deref.ensures.value ∙ c.in-Ok.ensures))
    (two_graphs c.args.variants.now c.index-variants-0.result c.index-variants-1.result c.in_ok-first.first c.in_ok-second.second c.requires.two c.index-variants-0.is
    c.index-variants-1.is c.in_ok-first.ensures c.in_ok-second.ensures)
