use Rattle.std.proofs.Common.{ℕ, List, sym, subst}
use Rattle.hpr_graph.specs.Numbered.{Numbered, graph_in}
use Rattle.hpr_graph.specs.Points.{IsAffected, IsPreserved}
use Rattle.hpr_graph.specs.Whole.{IsWhole}
use Rattle.hpr_affected.specs.Numbers.{AreNumbersOf}
use Rattle.hpr_merge.proofs.versions.points_of.Goals as goal

pub affected-requires-clause-graph : goal.affected-requires-clause-graph
affected-requires-clause-graph c = subst (λ (g : Numbered). IsWhole (graph_in g)) (sym c.in_ok-with_a.ensures.graph) c.requires.a

pub affected-requires-clause-other : goal.affected-requires-clause-other
affected-requires-clause-other c = subst (λ (g : Numbered). IsWhole (graph_in g)) (sym c.in_ok-with_a.ensures.other) c.requires.base

pub affected-requires-2-clause-graph : goal.affected-requires-2-clause-graph
affected-requires-2-clause-graph c = subst (λ (g : Numbered). IsWhole (graph_in g)) (sym c.in_ok-with_b.ensures.graph) c.requires.b

pub affected-requires-2-clause-other : goal.affected-requires-2-clause-other
affected-requires-2-clause-other c = subst (λ (g : Numbered). IsWhole (graph_in g)) (sym c.in_ok-with_b.ensures.other) c.requires.base

pub shared_points-requires-clause-a : goal.shared_points-requires-clause-a
shared_points-requires-clause-a c = c.in_ok-with_a.ensures.other

pub shared_points-requires-clause-b : goal.shared_points-requires-clause-b
shared_points-requires-clause-b c = c.in_ok-with_b.ensures.other

pub shared_points-requires-clause-whole_a : goal.shared_points-requires-clause-whole_a
shared_points-requires-clause-whole_a c = subst (λ (g : Numbered). IsWhole (graph_in g)) (sym c.in_ok-with_a.ensures.graph) c.requires.a

pub shared_points-requires-clause-whole_b : goal.shared_points-requires-clause-whole_b
shared_points-requires-clause-whole_b c = subst (λ (g : Numbered). IsWhole (graph_in g)) (sym c.in_ok-with_b.ensures.graph) c.requires.b

pub returns : goal.returns
returns c =
    let base = c.args.base.now in
    let a = c.in_ok-with_a.ensures in
    let b = c.in_ok-with_b.ensures in
    let A : List ℕ → Numbered → Numbered → Type 0 = λ ns g h. AreNumbersOf g (IsAffected (graph_in g) (graph_in h)) ns in
    let P : Numbered → Numbered → Type 0 = λ g h. AreNumbersOf base (IsPreserved (graph_in base) (graph_in g) (graph_in h)) c.in_ok-shared.shared.items in
    let points_a : List ℕ = c.in_ok-affected_a.affected_a.items in
    let points_b : List ℕ = c.in_ok-affected_b.affected_b.items in
    record {
      on_a = subst (λ (g : Numbered). A points_a g base) a.graph (subst (λ (h : Numbered). A points_a c.in_ok-with_a.with_a.graph h) a.other c.in_ok-affected_a.ensures);
      on_b = subst (λ (g : Numbered). A points_b g base) b.graph (subst (λ (h : Numbered). A points_b c.in_ok-with_b.with_b.graph h) b.other c.in_ok-affected_b.ensures);
      on_base = subst (λ (g : Numbered). P g c.args.b.now) a.graph (subst (λ (h : Numbered). P c.in_ok-with_a.with_a.graph h) b.graph c.in_ok-shared.ensures);
    }
