use Rattle.std.proofs.Common.{◌≡◌, ◌∙◌, Some, is_some, refl, ap, sym, slice_get}
use Rattle.std.proofs.lemmas.Bool.{false≢true}
use Rattle.std.proofs.lemmas.Option.{slice_get_read, slice_get_past}
use Rattle.hpr_graph.specs.declared.vertex.Vertex.{Vertex}
use Rattle.hpr_graph.proofs.Lists.{some_inj}
use Rattle.hpr_affected.proofs.lacking.is_at.Goals as goal

pub returns-in-Some : goal.returns-in-Some
returns-in-Some c =
    let there : slice_get c.args.vertices.now c.args.at ≡ Some c.in-Some.there.now =
    slice_get_read _ _ c.args.at _ refl c.in-Some.ensures.lookup.3.0 c.in-Some.ensures.lookup.1 in (
      λ t. there ∙ ap (λ (v : Vertex). Some v) (c.same_vertex.ensures.0 t),
      λ h. c.same_vertex.ensures.1 (some_inj _ _ (sym there ∙ h)),
    )

pub returns-in-None : goal.returns-in-None
returns-in-None c = (λ t. absurd (false≢true t), λ h. ap is_some (sym (slice_get_past c.args.vertices.now c.args.at c.in-None.ensures.lookup.3) ∙ h))
