use Rattle.std.proofs.Common.{IfOk, sym, subst}
use Rattle.hpr_graph.specs.Numbered.{Numbered, graph_in}
use Rattle.hpr_graph.specs.Points.{IsPreserved}
use Rattle.hpr_graph.specs.Whole.{IsWhole}
use Rattle.hpr_affected.specs.Numbers.{AreNumbersOf}
use Rattle.hpr_affected.proofs.points.preserved.Goals as goal

pub preserved_beside-requires-clause-a : goal.preserved_beside-requires-clause-a
preserved_beside-requires-clause-a c = c.in_ok-with_a.ensures.graph

pub preserved_beside-requires-clause-b : goal.preserved_beside-requires-clause-b
preserved_beside-requires-clause-b c = c.in_ok-with_b.ensures.graph

pub preserved_beside-requires-clause-whole_a : goal.preserved_beside-requires-clause-whole_a
preserved_beside-requires-clause-whole_a c = subst (λ (g : Numbered). IsWhole (graph_in g)) (sym c.in_ok-with_a.ensures.other) c.requires.a

pub preserved_beside-requires-clause-whole_b : goal.preserved_beside-requires-clause-whole_b
preserved_beside-requires-clause-whole_b c = subst (λ (g : Numbered). IsWhole (graph_in g)) (sym c.in_ok-with_b.ensures.other) c.requires.b

pub returns : goal.returns
returns c =
    let base = c.args.base.now in
    subst (λ (g : Numbered). IfOk c.preserved_beside.result (λ points. AreNumbersOf base (IsPreserved (graph_in base) (graph_in g) (graph_in c.args.b.now)) points.items)) c.in_ok-with_a.ensures.other
    (subst (λ (g : Numbered). IfOk c.preserved_beside.result (λ points. AreNumbersOf base (IsPreserved (graph_in base) (graph_in c.in_ok-with_a.with_a.other) (graph_in g)) points.items)) c.in_ok-with_b.ensures.other
    c.preserved_beside.ensures)
