-- What renaming makes of a vertex.
use Rattle.std.proofs.Common.{◌≡◌, Bool, true, false, ℕ, suc, ◌+◌, ◌⊎◌, inl, inr, if◌then◌else◌, Option, Some, List, [], ◌∷◌, ◌++◌, length, map, Contains, slice_get, refl, sym, ap, ap₂, ◌∙◌, arith}
use Rattle.std.specs.Ordering.{is_eq}
use Rattle.hpr_terms.specs.declared.tag.Tag.{Tag}
use Rattle.hpr_terms.proofs.Facts.{contains_at, in_none, in_cons}
use Rattle.hpr_syntax.specs.declared.rows.Content.{Content}
use Rattle.hpr_graph.specs.declared.vertex.Vertex.{Vertex}
use Rattle.hpr_graph.specs.declared.vertex.Vertex.TheVariants.{Entry, Init, Part, Final}
use Rattle.hpr_graph.specs.Graphs.{IsOnce, name_of}
use Rattle.hpr_graph.specs.Order.{vertex_cmp}
use Rattle.hpr_graph.specs.Split.{new_tag, renamed, with_new_tags, with_tag}
use Rattle.hpr_graph.proofs.VertexOrder.{equal_by, vertex_itself, vertex_tied}

-- ---- a list of vertices with their new tags

new_tags_push : (z : ℕ) (vs : List Vertex) (v : Vertex) → with_new_tags z (vs ++ v ∷ []) ≡ with_new_tags z vs ++ (v, new_tag (z + length vs + 1)) ∷ []
new_tags_push z [] v = ap (λ (n : ℕ). (v, new_tag n) ∷ []) (omega arith)
new_tags_push z (u ∷ vs) v =
    ap (λ (rs : List (Vertex × Tag)). (u, new_tag (z + 1)) ∷ rs)
    (new_tags_push (z + 1) vs v ∙ ap (λ (n : ℕ). with_new_tags (z + 1) vs ++ (v, new_tag n) ∷ []) (omega arith))

pub new_tags_more : (z n : ℕ) (vs : List Vertex) (v : Vertex) (t : Tag) (rs next : List (Vertex × Tag)) → rs ≡ with_new_tags z vs → next ≡ rs ++ (v, t) ∷ [] → t ≡ new_tag n → n ≡ z + length vs + 1 → next ≡ with_new_tags z (vs ++ v ∷ [])
new_tags_more z n vs v t rs next so_far is tag place =
    is ∙ ap (λ (qs : List (Vertex × Tag)). qs ++ (v, t) ∷ []) so_far ∙ ap (λ (u : Tag). with_new_tags z vs ++ (v, u) ∷ []) (tag ∙ ap new_tag place) ∙ sym (new_tags_push z vs v)

pub new_tags_length : (z : ℕ) (vs : List Vertex) → length (with_new_tags z vs) ≡ length vs
new_tags_length z [] = refl
new_tags_length z (v ∷ vs) = omega (arith, new_tags_length (z + 1) vs)

-- ---- a vertex stays as it is, or gets another tag

abbrev IsKeptOrTagged : Vertex → Vertex → Type 0
IsKeptOrTagged v w = (w ≡ v) ⊎ ((t : Tag) × (w ≡ with_tag t v))

tagged_by : (b : Bool) (t : Tag) (v w : Vertex) → IsKeptOrTagged v w → IsKeptOrTagged v (if b then with_tag t v else w)
tagged_by true t v w h = inr (t, refl)
tagged_by false t v w h = h

kept_or_tagged : (rs : List (Vertex × Tag)) (v : Vertex) → IsKeptOrTagged v (renamed rs v)
kept_or_tagged [] v = inl refl
kept_or_tagged (r ∷ rs) v = tagged_by (is_eq (vertex_cmp r.0 v)) r.1 v (renamed rs v) (kept_or_tagged rs v)

tagged_name : (t : Tag) (v : Vertex) → name_of (with_tag t v) ≡ name_of v
tagged_name t Entry = refl
tagged_name t (Init x) = refl
tagged_name t (Part s c) = refl
tagged_name t (Final x) = refl

-- it defines the same name
pub renamed_name : (rs : List (Vertex × Tag)) (v : Vertex) → name_of (renamed rs v) ≡ name_of v
renamed_name rs v = elim (kept_or_tagged rs v) [ inl e ↦ ap name_of e | inr (t, e) ↦ ap name_of e ∙ tagged_name t v ]

pub renamed_names : (rs : List (Vertex × Tag)) (vs : List Vertex) → map name_of (map (renamed rs) vs) ≡ map name_of vs
renamed_names rs [] = refl
renamed_names rs (v ∷ vs) = ap₂ (λ (n : Option (List ℕ)) (ns : List (Option (List ℕ))). n ∷ ns) (renamed_name rs v) (renamed_names rs vs)

-- what is a part behind it was one before, with the same content
tagged_part : (s t : Tag) (c : Content) (v : Vertex) → with_tag s v ≡ Part t c → (u : Tag) × (v ≡ Part u c)
tagged_part s t c Entry e = absurd cc
tagged_part s t c (Init x) e = absurd cc
tagged_part s t c (Part u d) e = (u, let same : d ≡ c = cc in ap (λ (k : Content). Part u k) same)
tagged_part s t c (Final x) e = absurd cc

pub renamed_part : (rs : List (Vertex × Tag)) (v : Vertex) (t : Tag) (c : Content) → renamed rs v ≡ Part t c → (s : Tag) × (v ≡ Part s c)
renamed_part rs v t c is = elim (kept_or_tagged rs v) [ inl e ↦ (t, sym e ∙ is) | inr (s, e) ↦ tagged_part s t c v (sym e ∙ is) ]

-- ---- by its place among those that get new tags

abbrev IsPlaced : ℕ → List Vertex → Vertex → Type 0
IsPlaced z vs v = (k : ℕ) × (slice_get vs k ≡ Some v) × (renamed (with_new_tags z vs) v ≡ with_tag (new_tag (z + k + 1)) v)

abbrev IsStranger : ℕ → List Vertex → Vertex → Type 0
IsStranger z vs v = (¬ Contains vs v) × (renamed (with_new_tags z vs) v ≡ v)

found_or_later : (z : ℕ) (u : Vertex) (us : List Vertex) (v : Vertex) (b : Bool) → is_eq (vertex_cmp u v) ≡ b → IsPlaced (z + 1) us v ⊎ IsStranger (z + 1) us v → IsPlaced z (u ∷ us) v ⊎ IsStranger z (u ∷ us) v
found_or_later z u us v true e rest = inl (
  0,
  ap Some (vertex_tied u v (equal_by (vertex_cmp u v) e)),
  ap (λ (b : Bool). if b then with_tag (new_tag (z + 1)) v else renamed (with_new_tags (z + 1) us) v) e ∙ ap (λ (n : ℕ). with_tag (new_tag n) v) (omega arith),
)
found_or_later z u us v false e (inl (k, at, is)) = inl (
  suc k,
  at,
  ap (λ (b : Bool). if b then with_tag (new_tag (z + 1)) v else renamed (with_new_tags (z + 1) us) v) e ∙ is ∙ ap (λ (n : ℕ). with_tag (new_tag n) v) (omega arith),
)
found_or_later z u us v false e (inr (new, is)) = inr (
  λ h. elim (in_cons u v us h) [
    | inl same ↦ (let t : true ≡ false = sym (ap is_eq (ap (λ (x : Vertex). vertex_cmp x v) same ∙ vertex_itself v)) ∙ e in absurd cc)
    | inr later ↦ new later
  ],
  ap (λ (b : Bool). if b then with_tag (new_tag (z + 1)) v else renamed (with_new_tags (z + 1) us) v) e ∙ is,
)

pub placed_or_stranger : (z : ℕ) (vs : List Vertex) (v : Vertex) → IsPlaced z vs v ⊎ IsStranger z vs v
placed_or_stranger z [] v = inr (in_none v, refl)
placed_or_stranger z (u ∷ us) v = found_or_later z u us v (is_eq (vertex_cmp u v)) refl (placed_or_stranger (z + 1) us v)

pub renamed_there : (z : ℕ) (vs : List Vertex) (k : ℕ) (v : Vertex) → IsOnce vs → slice_get vs k ≡ Some v → renamed (with_new_tags z vs) v ≡ with_tag (new_tag (z + k + 1)) v
renamed_there z vs k v once at = elim (placed_or_stranger z vs v) [
  | inl (m, there, is) ↦ is ∙ ap (λ (n : ℕ). with_tag (new_tag (z + n + 1)) v) (once m k v there at)
  | inr (new, is) ↦ absurd (new (contains_at vs k v at))
]

pub renamed_stranger : (z : ℕ) (vs : List Vertex) (v : Vertex) → ¬ Contains vs v → renamed (with_new_tags z vs) v ≡ v
renamed_stranger z vs v new = elim (placed_or_stranger z vs v) [
  | inl (m, there, is) ↦ absurd (new (contains_at vs m v there))
  | inr (stranger, is) ↦ is
]
