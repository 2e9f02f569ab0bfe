-- The vertices by number are those of the program.
use Rattle.std.proofs.Common.{◌≡◌, ℕ, zero, suc, ◌+◌, ◌-◌, true, ◌⊎◌, ◌↔◌, inl, inr, Option, Some, None, List, [], ◌∷◌, ◌++◌, map, length, Contains, refl, sym, ap, ◌∙◌, subst, arith, rules}
use Rattle.std.specs.List.{slice_get}
use Rattle.std.specs.Option.{option_map}
use Rattle.std.specs.Str.{bytes_eq}
use Rattle.std.proofs.lemmas.Option.{slice_get-map}
use Rattle.hpr_terms.specs.declared.tag.Tag.{Tag}
use Rattle.hpr_terms.proofs.Facts.{contains_at, place_of, get_longer, at_append, get_in_map}
use Rattle.hpr_syntax.specs.declared.rows.Content.{Content}
use Rattle.hpr_syntax.specs.Nests.{Says}
use Rattle.hpr_syntax.specs.Initial.{IsInitial}
use Rattle.hpr_syntax.specs.Shape.{IsProgram}
use Rattle.hpr_syntax.specs.Tree.{Tree}
use Rattle.hpr_syntax.proofs.NoRefusal.{no_refusal}
use Rattle.hpr_syntax.proofs.Repeats.{places_once}
use Rattle.hpr_paths.specs.Spots.{part, role_at}
use Rattle.hpr_paths.specs.Successors.{spots}
use Rattle.hpr_paths.proofs.Nested.{says_of_number, number_of_says}
use Rattle.hpr_reach.proofs.Marked.{tags_once}
use Rattle.hpr_graph.specs.declared.vertex.Vertex.{Vertex}
use Rattle.hpr_graph.specs.declared.vertex.Vertex.TheVariants.{Entry, Init, Part, Final}
use Rattle.hpr_graph.specs.Graphs.{IsOnce}
use Rattle.hpr_graph.specs.ProgramGraph.{IsVertexOf}
use Rattle.hpr_build.specs.Places.{Place, places}
use Rattle.hpr_build.specs.Links.{part_vertex, vertices_of, exit_of, first_init}
use Rattle.hpr_build.proofs.PlaceIn.{PartAt, count_places, part_of_place, place_of_part}
use Rattle.hpr_build.proofs.PlaceLaws.{role_of_part, part_of_role, tag_of_part}

-- two lists, the one behind the other
get_second : {X : Type 0} (xs ys : List X) (k n : ℕ) (x : X) → n ≡ length xs + k → slice_get ys k ≡ Some x → slice_get (xs ++ ys) n ≡ Some x
get_second [] ys k n x e h = let same : n ≡ k = omega arith in ap (slice_get ys) same ∙ h
get_second (z ∷ xs) ys k zero x e h = absurd (omega (arith, e))
get_second (z ∷ xs) ys k (suc n) x e h = get_second xs ys k n x (omega (arith, e)) h

mapped_from : {X Y : Type 0} (f : X → Y) (o : Option X) (y : Y) → option_map f o ≡ Some y → (x : X) × (o ≡ Some x) × (y ≡ f x)
mapped_from f None y h = absurd cc
mapped_from f (Some x) y h = (x, refl, cc)

get_of_mapped : {X Y : Type 0} (f : X → Y) (xs : List X) (k : ℕ) (y : Y) → slice_get (map f xs) k ≡ Some y → (x : X) × (slice_get xs k ≡ Some x) × (y ≡ f x)
get_of_mapped f xs k y h = mapped_from f (slice_get xs k) y (sym (slice_get-map f xs k) ∙ h)

length_mapped : {X Y : Type 0} (f : X → Y) (xs : List X) → length (map f xs) ≡ length xs
length_mapped f [] = refl
length_mapped f (x ∷ xs) = ap suc (length_mapped f xs)

-- the names of `end` are distinct
name_same : (x : List ℕ) → bytes_eq x x ≡ true
name_same x = search rules

pub finals_once : (t : Tree) → IsProgram t → IsOnce t.finals
finals_once t prog i j x a b = places_once bytes_eq name_same [] t.finals i j x (no_refusal t prog.shape).names a b

-- a vertex by its number
module _ (t : Tree) (inits : List (List ℕ)) where
  abbrev Vs : List Vertex
  Vs = vertices_of t inits

  abbrev FirstOf : ℕ → Vertex → Type 0
  FirstOf n v = (n ≡ 0) × (v ≡ Entry)

  abbrev PartOf : ℕ → Vertex → Type 0
  PartOf n v = (x : Place) × PartAt t n x × (v ≡ part_vertex x)

  abbrev FinalOf : ℕ → Vertex → Type 0
  FinalOf n v = (k : ℕ) × (x : List ℕ) × (slice_get t.finals k ≡ Some x) × (n ≡ exit_of t + k) × (v ≡ Final x)

  abbrev InitOf : ℕ → Vertex → Type 0
  InitOf n v = (k : ℕ) × (x : List ℕ) × (slice_get inits k ≡ Some x) × (n ≡ first_init t + k) × (v ≡ Init x)

  count_parts : length (map part_vertex (places t)) + 1 ≡ exit_of t
  count_parts = omega (arith, length_mapped part_vertex (places t), count_places t.body 1 None [])

  -- which vertex has which number
  pub vertex_at_part : (p : ℕ) (x : Place) → PartAt t p x → slice_get Vs p ≡ Some (part_vertex x)
  vertex_at_part p x h =
      let k = place_of_part t p x h in
      get_second (Entry ∷ []) (map part_vertex (places t) ++ (map Final t.finals ++ map Init inits)) (p - 1) p (part_vertex x) (omega (arith, k.0))
      (get_longer (map part_vertex (places t)) (map Final t.finals ++ map Init inits) (p - 1) (part_vertex x) (get_in_map part_vertex (places t) (p - 1) x k.1))

  pub vertex_at_role : (p : ℕ) (v : Tag) (c : Content) → role_at (spots t) p ≡ Some (part v c) → slice_get Vs p ≡ Some (Part v c)
  vertex_at_role p v c is = let (x, h, e, f) = part_of_role t p v c is in vertex_at_part p x h ∙ (λ i. Some (Part (e i) (f i)))

  pub vertex_at_final : (k : ℕ) (x : List ℕ) → slice_get t.finals k ≡ Some x → slice_get Vs (exit_of t + k) ≡ Some (Final x)
  vertex_at_final k x h =
      get_second (Entry ∷ map part_vertex (places t)) (map Final t.finals ++ map Init inits) k (exit_of t + k) (Final x) (omega (arith, count_parts))
      (get_longer (map Final t.finals) (map Init inits) k (Final x) (get_in_map Final t.finals k x h))

  pub vertex_at_init : (k : ℕ) (x : List ℕ) → slice_get inits k ≡ Some x → slice_get Vs (first_init t + k) ≡ Some (Init x)
  vertex_at_init k x h =
      get_second (Entry ∷ map part_vertex (places t)) (map Final t.finals ++ map Init inits) (length t.finals + k) (first_init t + k) (Init x) (omega (arith, count_parts))
      (get_second (map Final t.finals) (map Init inits) k (length t.finals + k) (Init x) (omega (arith, length_mapped Final t.finals)) (get_in_map Init inits k x h))

  part_behind : (n : ℕ) (x : Place) → slice_get (places t) n ≡ Some x → PartAt t (suc n) x
  part_behind n x h =
      let one : suc n - 1 ≡ n = omega arith in
      part_of_place t (suc n) x (omega arith) (ap (slice_get (places t)) one ∙ h)

  pub vertex_cases : (n : ℕ) (v : Vertex) → slice_get Vs n ≡ Some v → FirstOf n v ⊎ (PartOf n v ⊎ (FinalOf n v ⊎ InitOf n v))
  vertex_cases zero v h = inl (refl, cc)
  vertex_cases (suc n) v h = elim (at_append (map part_vertex (places t)) (map Final t.finals ++ map Init inits) n v h) [
    | inl a ↦ (let (x, is, e) = get_of_mapped part_vertex (places t) n v a in
        inr (inl (x, part_behind n x is, e)))
    | inr (k, e, b) ↦ elim (at_append (map Final t.finals) (map Init inits) k v b) [
      | inl a ↦ (let (x, is, f) = get_of_mapped Final t.finals k v a in inr (inr (inl (k, x, is, omega (arith, e, count_parts), f))))
      | inr (j, f, c) ↦ (let (x, is, g) = get_of_mapped Init inits j v c in
          inr (inr (inr (j, x, is, omega (arith, e, f, count_parts, length_mapped Final t.finals), g))))
    ]
  ]

module _ (t : Tree) (inits : List (List ℕ)) (prog : IsProgram t) (once : IsOnce inits) where
  same_part : (p q : ℕ) (x y : Place) → PartAt t p x → PartAt t q y → part_vertex x ≡ part_vertex y → p ≡ q
  same_part p q x y h i e =
      let same : x.tag ≡ y.tag = cc in
      tags_once t prog p q y.tag (tag_of_part t p x h ∙ ap (λ (v : Tag). Some v) same) (tag_of_part t q y i)

  same_final : (i j : ℕ) (x y : List ℕ) → slice_get t.finals i ≡ Some x → slice_get t.finals j ≡ Some y → Final x ≡ Final y → i ≡ j
  same_final i j x y h k e =
      let same : x ≡ y = cc in
      finals_once t prog i j y (h ∙ ap (λ (z : List ℕ). Some z) same) k

  same_init : (i j : ℕ) (x y : List ℕ) → slice_get inits i ≡ Some x → slice_get inits j ≡ Some y → Init x ≡ Init y → i ≡ j
  same_init i j x y h k e =
      let same : x ≡ y = cc in
      once i j y (h ∙ ap (λ (z : List ℕ). Some z) same) k

  -- no vertex stands twice
  pub once_vertices : IsOnce (vertices_of t inits)
  once_vertices i j v a b = elim (vertex_cases t inits i v a) [
    | inl (e, f) ↦ elim (vertex_cases t inits j v b) [
      | inl (e', f') ↦ e ∙ sym e'
      | inr (inl (y, k, f')) ↦ absurd (let s : Entry ≡ part_vertex y = sym f ∙ f' in cc)
      | inr (inr (inl (k, y, at, e', f'))) ↦ absurd (let s : Entry ≡ Final y = sym f ∙ f' in cc)
      | inr (inr (inr (k, y, at, e', f'))) ↦ absurd (let s : Entry ≡ Init y = sym f ∙ f' in cc)
    ]
    | inr (inl (x, h, f)) ↦ elim (vertex_cases t inits j v b) [
      | inl (e', f') ↦ absurd (let s : part_vertex x ≡ Entry = sym f ∙ f' in cc)
      | inr (inl (y, k, f')) ↦ same_part i j x y h k (sym f ∙ f')
      | inr (inr (inl (k, y, at, e', f'))) ↦ absurd (let s : part_vertex x ≡ Final y = sym f ∙ f' in cc)
      | inr (inr (inr (k, y, at, e', f'))) ↦ absurd (let s : part_vertex x ≡ Init y = sym f ∙ f' in cc)
    ]
    | inr (inr (inl (m, x, h, e, f))) ↦ elim (vertex_cases t inits j v b) [
      | inl (e', f') ↦ absurd (let s : Final x ≡ Entry = sym f ∙ f' in cc)
      | inr (inl (y, k, f')) ↦ absurd (let s : Final x ≡ part_vertex y = sym f ∙ f' in cc)
      | inr (inr (inl (k, y, at, e', f'))) ↦ omega (arith, e, e', same_final m k x y h at (sym f ∙ f'))
      | inr (inr (inr (k, y, at, e', f'))) ↦ absurd (let s : Final x ≡ Init y = sym f ∙ f' in cc)
    ]
    | inr (inr (inr (m, x, h, e, f))) ↦ elim (vertex_cases t inits j v b) [
      | inl (e', f') ↦ absurd (let s : Init x ≡ Entry = sym f ∙ f' in cc)
      | inr (inl (y, k, f')) ↦ absurd (let s : Init x ≡ part_vertex y = sym f ∙ f' in cc)
      | inr (inr (inl (k, y, at, e', f'))) ↦ absurd (let s : Init x ≡ Final y = sym f ∙ f' in cc)
      | inr (inr (inr (k, y, at, e', f'))) ↦ omega (arith, e, e', same_init m k x y h at (sym f ∙ f'))
    ]
  ]

module _ (t : Tree) (inits : List (List ℕ)) (names : (x : List ℕ) → Contains inits x ↔ IsInitial t x) where
  -- a number has a vertex of the program
  pub vertex_stands : (n : ℕ) (v : Vertex) → slice_get (vertices_of t inits) n ≡ Some v → IsVertexOf t v
  vertex_stands n v h = elim (vertex_cases t inits n v h) [
    | inl (e, f) ↦ subst (IsVertexOf t) (sym f) tt
    | inr (inl (x, k, f)) ↦ subst (IsVertexOf t) (sym f) (says_of_number t n x.tag x.content (role_of_part t n x k))
    | inr (inr (inl (k, x, at, e, f))) ↦ subst (IsVertexOf t) (sym f) (contains_at t.finals k x at)
    | inr (inr (inr (k, x, at, e, f))) ↦ subst (IsVertexOf t) (sym f) ((names x).0 (contains_at inits k x at))
  ]

  -- a part of the program has a number
  pub number_of_part_says : (v : Tag) (c : Content) → Says t.body v c → (p : ℕ) × (x : Place) × PartAt t p x × (part_vertex x ≡ Part v c)
  number_of_part_says v c says =
      let k = number_of_says t v c says in
      let (x, h, e, f) = part_of_role t k.0 v c k.1 in
      (k.0, x, h, (λ i. Part (e i) (f i)))

  -- each vertex of the program has a number
  pub number_of_vertex : (v : Vertex) → IsVertexOf t v → (n : ℕ) × (slice_get (vertices_of t inits) n ≡ Some v)
  number_of_vertex Entry h = (0, refl)
  number_of_vertex (Init x) h = let k = place_of inits x ((names x).1 h) in (first_init t + k.0, vertex_at_init t inits k.0 x k.1)
  number_of_vertex (Part v c) h =
      let (p, x, k, e) = number_of_part_says v c h in
      (p, vertex_at_part t inits p x k ∙ ap (λ (y : Vertex). Some y) e)
  number_of_vertex (Final x) h = let k = place_of t.finals x h in (exit_of t + k.0, vertex_at_final t inits k.0 x k.1)

  pub vertex_of : (v : Vertex) → Contains (vertices_of t inits) v ↔ IsVertexOf t v
  vertex_of v = (
    (λ h. let k = place_of (vertices_of t inits) v h in vertex_stands k.0 v k.1),
    (λ h. let k = number_of_vertex v h in contains_at (vertices_of t inits) k.0 v k.1),
  )
