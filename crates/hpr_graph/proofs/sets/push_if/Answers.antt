use Rattle.std.proofs.Common.{List, Contains, inl, inr, sym, subst}
use Rattle.std.proofs.lemmas.List.Elements.{Contains-push_cases}
use Rattle.hpr_graph.specs.declared.vertex.Vertex.{Vertex}
use Rattle.hpr_graph.proofs.Lists.{at_end}
use Rattle.hpr_graph.proofs.sets.push_if.Goals as goal

pub returns-clause-there : goal.returns-clause-there
returns-clause-there c = rw (c.in_ok-push_copy.ensures.vertices, c.in_ok-push_copy.ensures.next) (at_end c.args.target.now.vertices c.args.vertex.now)

pub returns-clause-only : goal.returns-clause-only
returns-clause-only c = λ v h.
    elim (Contains-push_cases c.args.target.now.vertices c.args.vertex.now v (subst (λ (vs : List Vertex). Contains vs v) c.in_ok-push_copy.ensures.vertices h)) [
      | inl was ↦ inl was
      | inr is ↦ inr (c.if-not-keep.false, sym is)
    ]
