use Rattle.std.proofs.Common.{List, length, ap, sym, ◌∙◌, ℕ, subst}
use Rattle.hpr_graph.specs.declared.vertex.Vertex.{Vertex}
use Rattle.hpr_slice.specs.Steps.{AreStepsWithin}
use Rattle.hpr_impact.proofs.Rows.{AreRowsOf, targets_by}
use Rattle.hpr_impact.proofs.targets.targets_of.Goals as goal

pub rows_of-requires : goal.rows_of-requires
rows_of-requires c =
    subst (λ (vs : List Vertex). AreStepsWithin (length vs) c.deref.result.now) (sym c.vertices-count.ensures.vertices)
    (subst (AreStepsWithin (length c.args.graph.now.vertices)) (sym c.deref.ensures.value) c.in_ok-steps.ensures.within)

pub returns-clause-rows : goal.returns-clause-rows
returns-clause-rows c =
    targets_by c.args.graph.now c.in_ok-steps.steps.items c.in_ok-rows.rows (c.in_ok-rows.ensures.count ∙ ap length c.vertices-count.ensures.vertices) c.in_ok-steps.ensures.steps
    (subst (λ (steps : List (ℕ × ℕ)). AreRowsOf steps c.in_ok-rows.rows) c.deref.ensures.value c.in_ok-rows.ensures.exact)
