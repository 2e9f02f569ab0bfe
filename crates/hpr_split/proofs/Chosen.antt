-- The parts that aren't marked, found vertex by vertex.
use Rattle.std.proofs.Common.{◌≡◌, Bool, true, false, ℕ, ◌+◌, ◌<◌, ◌≤◌, ◌↔◌, ◌⊎◌, inl, inr, if◌then◌else◌, Some, List, [], ◌∷◌, ◌++◌, length, get_or, Contains, slice_get, refl, sym, ap, ◌∙◌, subst, arith}
use Rattle.std.specs.List.Sorted.{IsPermutation}
use Rattle.std.proofs.lemmas.List.Sorted.{Contains-permutation, IsPermutation-sym}
use Rattle.std.proofs.lemmas.List.Elements.{Contains-append_left, Contains-push, Contains-push_cases}
use Rattle.std.proofs.lemmas.Option.{slice_get_within}
use Rattle.hpr_search.specs.Marks.{IsMarked}
use Rattle.hpr_terms.proofs.Facts.{compared, some_inj, contains_at, in_none, place_of}
use Rattle.hpr_graph.specs.declared.vertex.Vertex.{Vertex}
use Rattle.hpr_graph.specs.declared.vertex.Vertex.TheVariants.{Entry, Init, Part, Final}
use Rattle.hpr_graph.specs.Fits.{IsPart}
use Rattle.hpr_graph.specs.Graphs.{IsOnce}
use Rattle.hpr_graph.specs.Numbered.{Numbered, HasVertex, IsMarkedVertex, graph_in}
use Rattle.hpr_graph.specs.Split.{AreSplitParts}
use Rattle.hpr_graph.proofs.Lists.{once_none, once_push}
use Rattle.hpr_split.specs.Marks.{IsUnmarked, IsChosenAt, is_chosen, with_chosen}

chosen_part : (b : Bool) (v : Vertex) → is_chosen b v ≡ true → IsPart v × (b ≡ false)
chosen_part b Entry e = absurd cc
chosen_part b (Init x) e = absurd cc
chosen_part false (Part t c) e = ((t, c, refl), refl)
chosen_part true (Part t c) e = absurd cc
chosen_part b (Final x) e = absurd cc

part_chosen : (b : Bool) (v : Vertex) → is_chosen b v ≡ false → IsPart v → b ≡ true
part_chosen b Entry e (t, c, is) = absurd cc
part_chosen b (Init x) e (t, c, is) = absurd cc
part_chosen false (Part s d) e (t, c, is) = absurd cc
part_chosen true (Part s d) e (t, c, is) = refl
part_chosen b (Final x) e (t, c, is) = absurd cc

pub record AreChosen (vs : List Vertex) (keep : List Bool) (n : ℕ) (parts : List Vertex) : Type 0 where
  pub once : IsOnce parts
  pub listed : (x : Vertex) → Contains parts x ↔ IsChosenAt vs keep n x

pub none_chosen : (vs : List Vertex) (keep : List Bool) (parts : List Vertex) → parts ≡ [] → AreChosen vs keep 0 parts
none_chosen vs keep parts e =
    subst (AreChosen vs keep 0) (sym e) (record {
      once = once_none;
      listed = λ x. (λ h. absurd (in_none x h), λ (at, below, there, part, unmarked). absurd (omega (arith, below)));
    })

chosen_below : (vs : List Vertex) (keep : List Bool) (n : ℕ) (x : Vertex) → IsChosenAt vs keep n x → IsChosenAt vs keep (n + 1) x
chosen_below vs keep n x (at, below, there, part, unmarked) = (at, omega (arith, below), there, part, unmarked)

last_or_before : (at n : ℕ) → at < n + 1 → (at < n) ⊎ (at ≡ n)
last_or_before at n below = elim (compared at n) [
  | inl l ↦ inl l
  | inr r ↦ (elim r [ inl e ↦ inr e | inr g ↦ absurd (omega (arith, below, g)) ])
]

module _ (vs : List Vertex) (keep : List Bool) (n : ℕ) (parts : List Vertex) (v : Vertex) (b : Bool) (once : IsOnce vs) (so_far : AreChosen vs keep n parts) (here : slice_get vs n ≡ Some v) (mark : b ≡ get_or keep n false) where
  step_by : (t : Bool) → is_chosen b v ≡ t → AreChosen vs keep (n + 1) (if t then parts ++ v ∷ [] else parts)
  step_by true chosen =
      let (part, unmarked) = chosen_part b v chosen in
      let clear : ¬ IsMarked keep n = λ (m : IsMarked keep n). (let e : true ≡ false = sym m ∙ sym mark ∙ unmarked in absurd cc) in
      let fresh : ¬ Contains parts v = λ (h : Contains parts v).
      (let (at, below, there, is_part, unmarked_at) = (so_far.listed v).0 h in
      let same : at ≡ n = once at n v there here in
      omega (arith, below, same)) in
      record {
        once = once_push parts v so_far.once fresh;
        listed = λ x. (
          λ h. elim (Contains-push_cases parts v x h) [
            | inl was ↦ chosen_below vs keep n x ((so_far.listed x).0 was)
            | inr e ↦ (n, omega arith, here ∙ ap Some e, subst IsPart e part, clear)
          ],
          λ (at, below, there, is_part, unmarked_at). elim (last_or_before at n below) [
            | inl l ↦ Contains-append_left parts (v ∷ []) x ((so_far.listed x).1 (at, l, there, is_part, unmarked_at))
            | inr e ↦ (let same : v ≡ x = some_inj v x (sym here ∙ ap (slice_get vs) (sym e) ∙ there) in
                subst (λ (y : Vertex). Contains (parts ++ v ∷ []) y) same (Contains-push parts v))
          ],
        );
      }
  step_by false chosen = record {
    once = so_far.once;
    listed = λ x. (
      λ h. chosen_below vs keep n x ((so_far.listed x).0 h),
      λ (at, below, there, is_part, unmarked_at). elim (last_or_before at n below) [
        | inl l ↦ (so_far.listed x).1 (at, l, there, is_part, unmarked_at)
        | inr e ↦ (let same : x ≡ v = some_inj x v (sym there ∙ ap (slice_get vs) e ∙ here) in
            let marked : IsMarked keep at = ap (λ (k : ℕ). get_or keep k false) e ∙ sym mark ∙ part_chosen b v chosen (subst IsPart same is_part) in
            absurd (unmarked_at marked))
      ],
    );
  }

  pub chosen_more : (next : List Vertex) → next ≡ with_chosen b v parts → AreChosen vs keep (n + 1) next
  chosen_more next is = subst (AreChosen vs keep (n + 1)) (sym is) (step_by (is_chosen b v) refl)

pub chosen_all : (vs : List Vertex) (keep : List Bool) (n : ℕ) (parts : List Vertex) → AreChosen vs keep n parts → length vs ≤ n → (x : Vertex) → Contains parts x ↔ IsChosenAt vs keep (length vs) x
chosen_all vs keep n parts all past x = (
  λ h. (let (at, below, there, part, unmarked) = (all.listed x).0 h in (at, slice_get_within vs at x there, there, part, unmarked)),
  λ (at, below, there, part, unmarked). (all.listed x).1 (at, omega (arith, below, past), there, part, unmarked),
)

-- of all vertices of a graph
marked_at : (g : Numbered) (keep : List Bool) (v : Vertex) (at : ℕ) → IsOnce g.vertices → slice_get g.vertices at ≡ Some v → IsMarkedVertex g keep v → IsMarked keep at
marked_at g keep v at once there (i, here, mark) = subst (IsMarked keep) (once i at v here there) mark

pub chosen_split : (g : Numbered) (keep : List Bool) → IsOnce g.vertices → (v : Vertex) → IsChosenAt g.vertices keep (length g.vertices) v ↔ (HasVertex g v × IsPart v × IsUnmarked g keep v)
chosen_split g keep once v = (
  λ (at, below, there, part, unmarked). (contains_at g.vertices at v there, part, λ m. unmarked (marked_at g keep v at once there m)),
  λ (has, part, unmarked). (let (at, there) = place_of g.vertices v has in
      (at, slice_get_within g.vertices at v there, there, part, λ m. unmarked (at, there, m))),
)

pub sorted_split : (g : Numbered) (keep : List Bool) (vs parts sorted : List Vertex) → IsOnce g.vertices → vs ≡ g.vertices → ((x : Vertex) → Contains parts x ↔ IsChosenAt vs keep (length vs) x) → IsPermutation parts sorted
    → (v : Vertex) → Contains sorted v ↔ (HasVertex g v × IsPart v × IsUnmarked g keep v)
sorted_split g keep vs parts sorted once e all moved v =
    let chosen : IsChosenAt vs keep (length vs) v ↔ IsChosenAt g.vertices keep (length g.vertices) v = (
      λ h. subst (λ (us : List Vertex). IsChosenAt us keep (length us) v) e h,
      λ h. subst (λ (us : List Vertex). IsChosenAt us keep (length us) v) (sym e) h,
    ) in (
      λ h. (chosen_split g keep once v).0 (chosen.0 ((all v).0 (Contains-permutation sorted parts v (IsPermutation-sym parts sorted moved) h))),
      λ h. Contains-permutation parts sorted v moved ((all v).1 (chosen.1 ((chosen_split g keep once v).1 h))),
    )

-- what isn't among them is marked
marked_by : (g : Numbered) (keep : List Bool) (v : Vertex) (at : ℕ) (b : Bool) → IsOnce g.vertices → slice_get g.vertices at ≡ Some v → get_or keep at false ≡ b → ¬ IsUnmarked g keep v → IsMarkedVertex g keep v
marked_by g keep v at true once there is not_unmarked = (at, there, is)
marked_by g keep v at false once there is not_unmarked =
    absurd (not_unmarked (λ m. (let e : true ≡ false = sym (marked_at g keep v at once there m) ∙ is in cc)))

pub marked_stranger : (g : Numbered) (keep : List Bool) (vs : List Vertex) → IsOnce g.vertices → AreSplitParts (graph_in g) (IsUnmarked g keep) vs → (v : Vertex) → HasVertex g v → IsPart v → ¬ Contains vs v → IsMarkedVertex g keep v
marked_stranger g keep vs once split v has part new =
    let (at, there) = place_of g.vertices v has in
    marked_by g keep v at (get_or keep at false) once there refl (λ unmarked. new ((split.1 v).1 (has, part, unmarked)))
