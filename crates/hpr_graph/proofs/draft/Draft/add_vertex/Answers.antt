use Rattle.std.proofs.Common.{◌≡◌, ◌⊎◌, ℕ, inl, inr, Result, Ok, Err, IfOk, OnOk, List, [], ◌∷◌, ◌++◌, Some, length, Contains, slice_get, refl, sym, ap, ◌∙◌, subst}
use Rattle.std.proofs.lemmas.List.Elements.{Contains-push_cases}
use Rattle.hpr_graph.specs.declared.vertex.Vertex.{Vertex}
use Rattle.hpr_graph.proofs.Lists.{contains_at, at_end}
use Rattle.hpr_graph.proofs.draft.Draft.add_vertex.Goals as goal

there_of : {E : Type 0} (r : Result ℕ E) (old new : List Vertex) (v : Vertex) → IfOk r (λ n. n ≡ length old) → OnOk r (new ≡ old ++ v ∷ []) → IfOk r (λ n. slice_get new n ≡ Some v)
there_of (Ok n) old new v at is = ap (λ (k : ℕ). slice_get new k) at ∙ ap (λ (vs : List Vertex). slice_get vs (length old)) is ∙ at_end old v
there_of (Err e) old new v at is = tt

only_of : {E : Type 0} (r : Result ℕ E) (old new : List Vertex) (v : Vertex) → OnOk r (new ≡ old ++ v ∷ []) → OnOk r ((w : Vertex) → Contains new w → Contains old w ⊎ (w ≡ v))
only_of (Ok n) old new v is = λ w h. elim (Contains-push_cases old v w (subst (λ (vs : List Vertex). Contains vs w) is h)) [ inl was ↦ inl was | inr e ↦ inr (sym e) ]
only_of (Err e) old new v is = tt

pub push_new_vertex-requires : goal.push_new_vertex-requires
push_new_vertex-requires c = c.in-None.ensures.stranger.0 refl

pub returns-in-Some-clause-next : goal.returns-in-Some-clause-next
returns-in-Some-clause-next c = λ fresh. absurd (fresh (contains_at c.args.self.now.vertices c.in-Some.at c.args.vertex c.in-Some.ensures.found))

pub returns-in-None-clause-there : goal.returns-in-None-clause-there
returns-in-None-clause-there c = there_of c.push_new_vertex.result _ _ c.args.vertex c.push_new_vertex.ensures.next c.push_new_vertex.ensures.vertices

pub returns-in-None-clause-known : goal.returns-in-None-clause-known
returns-in-None-clause-known c = λ known. absurd (c.in-None.ensures.stranger.0 refl known)

pub returns-in-None-clause-only : goal.returns-in-None-clause-only
returns-in-None-clause-only c = only_of c.push_new_vertex.result _ _ c.args.vertex c.push_new_vertex.ensures.vertices
