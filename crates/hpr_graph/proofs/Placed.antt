-- The numbers that the vertices of a graph get in another.
use Rattle.std.proofs.Common.{◌≡◌, ℕ, zero, suc, ◌+◌, ◌<◌, ◌≤◌, ◌↔◌, ◌⊎◌, inl, inr, Bool, Option, Some, None, IsSome, IfSome, List, [], ◌∷◌, ◌++◌, length, slice_get, refl, sym, ap, ◌∙◌, subst, arith, length-append, below_more}
use Rattle.std.proofs.lemmas.List.{get_or_append_left}
use Rattle.hpr_search.specs.Marks.{IsMarked}
use Rattle.hpr_search.proofs.Marked.{marked_within}
use Rattle.hpr_graph.specs.declared.vertex.Vertex.{Vertex}
use Rattle.hpr_graph.specs.declared.edge.Edge.{Edge}
use Rattle.hpr_graph.specs.Graphs.{IsOnce}
use Rattle.hpr_graph.specs.Numbered.{Numbered, HasVertex, HasEdge, IsGrown, IsMarkedVertex}
use Rattle.hpr_graph.specs.Moves.{number_at, HasNumber, ArePlaced}
use Rattle.hpr_graph.proofs.Lists.{contains_at}
use Rattle.hpr_graph.proofs.Numbers.{grown_itself, grown_then}

pub number_push : (ns : List (Option ℕ)) (o : Option ℕ) (i j : ℕ) → number_at (ns ++ o ∷ []) i ≡ Some j → (number_at ns i ≡ Some j) ⊎ ((i ≡ length ns) × (o ≡ Some j))
number_push [] o zero j h = inr (refl, h)
number_push [] o (suc i) j h = absurd cc
number_push (n ∷ ns) o zero j h = inl h
number_push (n ∷ ns) o (suc i) j h = elim (number_push ns o i j h) [ inl a ↦ inl a | inr b ↦ inr (ap suc b.0, b.1) ]

number_last : (ns : List (Option ℕ)) (o : Option ℕ) (n : ℕ) → length ns ≡ n → number_at (ns ++ o ∷ []) n ≡ o
number_last [] o zero e = refl
number_last [] o (suc n) e = absurd cc
number_last (x ∷ ns) o zero e = absurd cc
number_last (x ∷ ns) o (suc n) e = number_last ns o n (omega (arith, e))

number_kept : (ns : List (Option ℕ)) (o : Option ℕ) (i : ℕ) → i < length ns → number_at ns i ≡ number_at (ns ++ o ∷ []) i
number_kept ns o i l = sym (get_or_append_left ns (o ∷ []) None i l)

number_within : (ns : List (Option ℕ)) (i : ℕ) → HasNumber ns i → i < length ns
number_within [] zero h = absurd cc
number_within [] (suc i) h = absurd cc
number_within (n ∷ ns) zero h = omega arith
number_within (n ∷ ns) (suc i) h = let l = number_within ns i h in omega (arith, l)

-- one more number, or none, for the next vertex
placed_more : (vs us us' : List Vertex) (ns : List (Option ℕ)) (o : Option ℕ) (n : ℕ) (v : Vertex) → ArePlaced vs ns us → length ns ≡ n → slice_get vs n ≡ Some v → ((i : ℕ) (x : Vertex) → slice_get us i ≡ Some x → slice_get us' i ≡ Some x) → IfSome o (λ j. slice_get us' j ≡ Some v)
    → ArePlaced vs (ns ++ o ∷ []) us'
placed_more vs us us' ns o n v placed len at kept there i j h = elim (number_push ns o i j h) [
  | inl was ↦ (let (x, here, place) = placed i j was in (x, here, kept j x place))
  | inr now ↦ (v, ap (slice_get vs) (now.0 ∙ len) ∙ at, subst (λ (p : Option ℕ). IfSome p (λ k. slice_get us' k ≡ Some v)) now.1 there)
]

-- after the first `at` vertices were added
pub record AllPlaced (source old new : Numbered) (ns : List (Option ℕ)) (at : ℕ) : Type 0 where
  pub len : length ns ≡ at
  pub placed : ArePlaced source.vertices ns new.vertices
  pub all : (i : ℕ) → i < at → HasNumber ns i
  pub grown : IsGrown old new
  pub edges : (e : Edge) → HasEdge new e ↔ HasEdge old e
  pub only : (v : Vertex) → HasVertex new v → HasVertex old v ⊎ HasVertex source v

none_placed : (vs us : List Vertex) (i j : ℕ) → number_at [] i ≡ Some j → (v : Vertex) × (slice_get vs i ≡ Some v) × (slice_get us j ≡ Some v)
none_placed vs us zero j h = absurd cc
none_placed vs us (suc i) j h = absurd cc

pub all_begun : (source old : Numbered) (ns : List (Option ℕ)) → ns ≡ [] → AllPlaced source old old ns 0
all_begun source old ns e = rw e (record {
  len = refl;
  placed = none_placed source.vertices old.vertices;
  all = λ i l. absurd (omega (arith, l));
  grown = grown_itself old;
  edges = λ e. (λ h. h, λ h. h);
  only = λ v h. inl h;
})

pub all_more : (source old new next : Numbered) (ns ns' : List (Option ℕ)) (at n : ℕ) (v : Vertex) → AllPlaced source old new ns at → slice_get source.vertices at ≡ Some v → IsGrown new next → ((e : Edge) → HasEdge next e ↔ HasEdge new e)
    → slice_get next.vertices n ≡ Some v → ((x : Vertex) → HasVertex next x → HasVertex new x ⊎ (x ≡ v)) → ns' ≡ ns ++ Some n ∷ [] → AllPlaced source old next ns' (at + 1)
all_more source old new next ns ns' at n v s here grown edges there only is = rw is (record {
  len = omega (arith, s.len, length-append ns (Some n ∷ []));
  placed = placed_more source.vertices new.vertices next.vertices ns (Some n) at v s.placed s.len here grown.vertices there;
  all = below_more (λ i. HasNumber (ns ++ Some n ∷ []) i) at
      (λ i l. subst (λ (o : Option ℕ). IsSome o) (number_kept ns (Some n) i (omega (arith, l, s.len))) (s.all i l))
      (subst (λ (o : Option ℕ). IsSome o) (sym (number_last ns (Some n) at s.len)) refl);
  grown = grown_then old new next s.grown grown;
  edges = λ e. (λ h. (s.edges e).0 ((edges e).0 h), λ h. (edges e).1 ((s.edges e).1 h));
  only = λ x h. elim (only x h) [ inl was ↦ s.only x was | inr now ↦ inr (subst (HasVertex source) (sym now) (contains_at source.vertices at v here)) ];
})

-- after the marked ones of the first `at` vertices were added to a graph with no vertex
pub record MarkedPlaced (source : Numbered) (keep : List Bool) (old new : Numbered) (ns : List (Option ℕ)) (at : ℕ) : Type 0 where
  pub len : length ns ≡ at
  pub placed : ArePlaced source.vertices ns new.vertices
  pub marked : (i : ℕ) → i < at → HasNumber ns i ↔ IsMarked keep i
  pub grown : IsGrown old new
  pub only : (v : Vertex) → HasVertex new v → (i : ℕ) × (i < at) × (slice_get source.vertices i ≡ Some v) × IsMarked keep i

pub marked_begun : (source : Numbered) (keep : List Bool) (old : Numbered) (ns : List (Option ℕ)) → old.vertices ≡ [] → ns ≡ [] → MarkedPlaced source keep old old ns 0
marked_begun source keep old ns none e = rw e (record {
  len = refl;
  placed = none_placed source.vertices old.vertices;
  marked = λ i l. absurd (omega (arith, l));
  grown = grown_itself old;
  only = λ v h. absurd (let l : length old.vertices ≡ 0 = ap length none in omega (arith, h.1, l));
})

-- the next vertex isn't there
pub marked_fresh : (source : Numbered) (keep : List Bool) (old new : Numbered) (ns : List (Option ℕ)) (at : ℕ) (v : Vertex) → MarkedPlaced source keep old new ns at → IsOnce source.vertices → slice_get source.vertices at ≡ Some v → ¬ HasVertex new v
marked_fresh source keep old new ns at v s once here h =
    let (i, below, there, m) = s.only v h in
    let same : i ≡ at = once i at v there here in
    omega (arith, below, same)

pub marked_more : (source : Numbered) (keep : List Bool) (old new next : Numbered) (ns ns' : List (Option ℕ)) (at : ℕ) (o : Option ℕ) (v : Vertex) → MarkedPlaced source keep old new ns at → slice_get source.vertices at ≡ Some v → IsGrown new next → (IsSome o ↔ IsMarked keep at) → IfSome o (λ j. slice_get next.vertices j ≡ Some v) → ((x : Vertex) → HasVertex next x → HasVertex new x ⊎ (IsMarked keep at × (x ≡ v))) → ns' ≡ ns ++ o ∷ [] → MarkedPlaced source keep old next ns' (at + 1)
marked_more source keep old new next ns ns' at o v s here grown number there only is = rw is (record {
  len = omega (arith, s.len, length-append ns (o ∷ []));
  placed = placed_more source.vertices new.vertices next.vertices ns o at v s.placed s.len here grown.vertices there;
  marked = below_more (λ i. HasNumber (ns ++ o ∷ []) i ↔ IsMarked keep i) at
      (λ i l. subst (λ (p : Option ℕ). IsSome p ↔ IsMarked keep i) (number_kept ns o i (omega (arith, l, s.len))) (s.marked i l))
      (subst (λ (p : Option ℕ). IsSome p ↔ IsMarked keep at) (sym (number_last ns o at s.len)) number);
  grown = grown_then old new next s.grown grown;
  only = λ x h. elim (only x h) [
    | inl was ↦ (let (i, below, at_i, m) = s.only x was in (i, omega (arith, below), at_i, m))
    | inr now ↦ (at, omega arith, here ∙ ap Some (sym now.1), now.0)
  ];
})

pub marked_all : (source : Numbered) (keep : List Bool) (old new : Numbered) (ns : List (Option ℕ)) (at : ℕ) → MarkedPlaced source keep old new ns at → length keep ≤ at → (i : ℕ) → HasNumber ns i ↔ IsMarked keep i
marked_all source keep old new ns at s past i = (
  λ h. (let l = number_within ns i h in (s.marked i (omega (arith, l, s.len))).0 h),
  λ h. (let l = marked_within keep i h in (s.marked i (omega (arith, l, past))).1 h),
)

pub marked_only : (source : Numbered) (keep : List Bool) (old new : Numbered) (ns : List (Option ℕ)) (at : ℕ) → MarkedPlaced source keep old new ns at → (v : Vertex) → HasVertex new v → IsMarkedVertex source keep v
marked_only source keep old new ns at s v h = let (i, below, there, m) = s.only v h in (i, there, m)
