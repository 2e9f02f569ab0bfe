-- What an index of vertices finds and adds.
use Rattle.std.proofs.Common.{◌≡◌, ℕ, ◌↔◌, Bool, true, false, inl, inr, Option, Some, None, IfSome, IsNone, is_some, List, [], ◌∷◌, ◌++◌, get_or, position, Contains, slice_get, if◌then◌else◌, refl, sym, ap, ◌∙◌, subst, append_assoc}
use Rattle.std.specs.List.{list_any}
use Rattle.std.proofs.lemmas.List.{append-nil}
use Rattle.std.proofs.lemmas.List.Elements.{Contains-append_right}
use Rattle.indexmap.specs.IndexSet.{insert_key, insert_all}
use Rattle.std.proofs.lemmas.List.Quantifiers.{position-Some}
use Rattle.std.proofs.lemmas.Map.Views.{list_any-from_Contains, Contains-from_any}
use Rattle.std.proofs.lemmas.Option.{slice_get-get_or}
use Rattle.hpr_graph.specs.declared.vertex.Vertex.{Vertex}
use Rattle.hpr_graph.specs.contracts.vertex.VertexPartialEq.TheImpl as eqs
use Rattle.hpr_graph.specs.contracts.vertex.VertexEq.TheImpl.Laws as eq_laws
use Rattle.hpr_graph.specs.Graphs.{IsOnce}
use Rattle.hpr_graph.proofs.Lists.{in_none, in_cons, in_here, once_head, once_tail}
use Rattle.hpr_graph.proofs.VertexOrder.{vertex_equal}

abbrev pub eq : Vertex → Vertex → Bool
eq = (eqs.ghosts).eq

pub same_by_eq : (v w : Vertex) → eq v w ≡ true → v ≡ w
same_by_eq v w e = (vertex_equal v w true (sym e)).0 refl

pub found_at : (ks : List Vertex) (v : Vertex) (r : Option ℕ) → r ≡ position (eq v) ks → IfSome r (λ n. slice_get ks n ≡ Some v)
found_at ks v None e = tt
found_at ks v (Some n) e =
    let (l, hit, before) = position-Some (eq v) ks n v (sym e) in slice_get-get_or ks n v l ∙ ap Some (sym (same_by_eq v (get_or ks n v) hit))

pub stranger : (ks : List Vertex) (v : Vertex) (r : Option ℕ) → is_some r ≡ list_any (eq v) ks → IsNone r ↔ (¬ Contains ks v)
stranger ks v None e = (λ _ h. (let t : list_any (eq v) ks ≡ true = list_any-from_Contains eq_laws.laws-law v ks h in let f : false ≡ true = e ∙ t in cc), λ _. refl)
stranger ks v (Some n) e = (λ none. absurd cc, λ new. absurd (new (Contains-from_any same_by_eq v ks (sym e))))

added_by : (ks : List Vertex) (v : Vertex) (b : Bool) → list_any (eq v) ks ≡ b → ¬ Contains ks v → (if list_any (eq v) ks then ks else ks ++ v ∷ []) ≡ ks ++ v ∷ []
added_by ks v true e new = absurd (new (Contains-from_any same_by_eq v ks e))
added_by ks v false e new = ap (λ (b : Bool). if b then ks else ks ++ v ∷ []) e

pub added_last : (ks new_ks : List Vertex) (v : Vertex) → ¬ Contains ks v → new_ks ≡ (if list_any (eq v) ks then ks else ks ++ v ∷ []) → new_ks ≡ ks ++ v ∷ []
added_last ks new_ks v new is = is ∙ added_by ks v (list_any (eq v) ks) refl new

-- what stands once doesn't stand before its place
middle_new : (ks vs : List Vertex) (v : Vertex) → IsOnce (ks ++ v ∷ vs) → ¬ Contains ks v
middle_new [] vs v once h = in_none v h
middle_new (k ∷ ks) vs v once h = elim (in_cons k v ks h) [
  | inl e ↦ once_head k (ks ++ v ∷ vs) once (subst (λ (z : Vertex). Contains (ks ++ v ∷ vs) z) (sym e) (Contains-append_right ks (v ∷ vs) v (in_here v vs)))
  | inr later ↦ middle_new ks vs v (once_tail k (ks ++ v ∷ vs) once) later
]

key_last : (ks : List Vertex) (v : Vertex) → ¬ Contains ks v → insert_key eq ks v ≡ ks ++ v ∷ []
key_last ks v new = added_last ks (insert_key eq ks v) v new refl

-- vertices put behind others one by one
all_behind : (ks vs : List Vertex) → IsOnce (ks ++ vs) → insert_all eq ks vs ≡ ks ++ vs
all_behind ks [] once = sym (append-nil ks)
all_behind ks (v ∷ vs) once =
    let grouped : (ks ++ v ∷ []) ++ vs ≡ ks ++ v ∷ vs = append_assoc ks (v ∷ []) vs in
    ap (λ (l : List Vertex). insert_all eq l vs) (key_last ks v (middle_new ks vs v once))
    ∙ all_behind (ks ++ v ∷ []) vs (subst (λ (l : List Vertex). IsOnce l) (sym grouped) once) ∙ grouped

pub all_listed : (vs : List Vertex) → IsOnce vs → insert_all eq [] vs ≡ vs
all_listed vs once = all_behind [] vs once
