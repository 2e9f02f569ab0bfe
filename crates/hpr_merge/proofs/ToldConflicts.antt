-- The conflicts of any number of variants, one variant after another.
--
-- AreToldBelow at base gs n xs == the list has exactly the conflicts of the variants whose numbers are less than n, in their order
-- IsTelling at i tell          == tell makes of a pair the one thing that tells it of the variant i
use Rattle.std.proofs.Common.{◌≡◌, ℕ, ◌+◌, ◌<◌, ◌≤◌, ◌↔◌, inl, inr, Some, List, [], ◌++◌, length, map, Contains, slice_get, refl, sym, ap, ◌∙◌, subst, arith}
use Rattle.std.proofs.lemmas.Bool.{cases_eq}
use Rattle.std.proofs.lemmas.Option.{slice_get_within}
use Rattle.std.proofs.lemmas.List.Elements.{Contains-append_left, Contains-append_right, Contains-append_cases}
use Rattle.hpr_terms.proofs.Facts.{at_append, get_map, in_map, map_in}
use Rattle.hpr_graph.specs.declared.vertex.Vertex.{Vertex}
use Rattle.hpr_graph.specs.declared.edge.Edge.{Edge}
use Rattle.hpr_graph.specs.Graphs.{Graph, Same}
use Rattle.hpr_graph.specs.Points.{IsAffected, merged_all}
use Rattle.hpr_graph.specs.Conflicts.{graph_at, AreConflictsBy, ComesFirst, IsAdded, IsConflictOf, IsLeast}
use Rattle.hpr_graph.proofs.Laws.{same_turned, slice_at_same}
use Rattle.hpr_graph.proofs.Lists.{in_none, contains_at}
use Rattle.hpr_merge.specs.PointConflicts.{ArePointConflicts}
use Rattle.hpr_merge.proofs.NoneListed.{number_within}

pub record AreToldBelow {X : Type 0} (at : X → ℕ × Vertex × Edge) (base : Graph) (gs : List Graph) (n : ℕ) (xs : List X) : Type 0 where
  pub exact : (x : X) → Contains xs x ↔ (((at x).0 < n) × IsConflictOf base gs (at x).0 (at x).1 (at x).2)
  pub order : (i j : ℕ) (x y : X) → i < j → slice_get xs i ≡ Some x → slice_get xs j ≡ Some y → ComesFirst (at x).0 (at x).1 (at y).0 (at y).1

pub record IsTelling {X : Type 0} (at : X → ℕ × Vertex × Edge) (i : ℕ) (tell : Vertex × Edge → X) : Type 0 where
  pub tells : (p : Vertex × Edge) → at (tell p) ≡ (i, p.0, p.1)
  pub told : (x : X) → (at x).0 ≡ i → x ≡ tell ((at x).1, (at x).2)

added_same : (m m' g : Graph) (v : Vertex) (e : Edge) → Same m m' → IsAdded m g v e → IsAdded m' g v e
added_same m m' g v e same (in_m, new, there) = (((slice_at_same m m' v same).1 e).0 in_m, new, there)

least_same : (m m' g : Graph) (v : Vertex) (e : Edge) → Same m m' → IsLeast (IsAdded m g v) e → IsLeast (IsAdded m' g v) e
least_same m m' g v e same (adds, least) = (added_same m m' g v e same adds, λ f added. least f (added_same m' m g v f (same_turned m m' same) added))

module _ {X : Type 0} (at : X → ℕ × Vertex × Edge) (base : Graph) (gs : List Graph) where
  abbrev Is : ℕ × Vertex × Edge → Type 0
  Is t = IsConflictOf base gs t.0 t.1 t.2

  pub told_none : (xs : List X) → xs ≡ [] → AreToldBelow at base gs 0 xs
  told_none xs e =
      rw e (record {
        exact = λ x. (λ h. absurd (in_none x h), λ (less, is). absurd (omega (arith, less)));
        order = λ i j x y l at_i. absurd (in_none x (contains_at [] i x at_i));
      })

  pub told_all : (n : ℕ) (xs : List X) → length gs ≤ n → AreToldBelow at base gs n xs → AreConflictsBy at base gs xs
  told_all n xs l a = (
    λ x. (
      λ h. ((a.exact x).0 h).1,
      λ is. (let w = number_within gs (at x).0 (at x).1 is.0.0.0 in (a.exact x).1 (omega (arith, l, w), is)),
    ),
    a.order,
  )

  -- one variant more, by the points in conflict that it has in the merged graph
  module _ (m : Graph) (same : Same m (merged_all base gs)) (n : ℕ) (P : Vertex → Type 0) (affected : (v : Vertex) → P v ↔ IsAffected (graph_at gs n) base v) (ps : List (Vertex × Edge)) (are : ArePointConflicts m (graph_at gs n) P ps) (tell : Vertex × Edge → X) (t : IsTelling at n tell) (xs : List X) (a : AreToldBelow at base gs n xs) where
    abbrev G : Graph
    G = graph_at gs n

    of_pair : (p : Vertex × Edge) → Contains ps p → Is (n, p.0, p.1)
    of_pair p h =
        let (one, least) = (are.exact p).0 h in
        let least' = least_same m (merged_all base gs) G p.0 p.1 same least in
        (((affected p.0).0 one, λ alike. least'.0.1 ((alike.1 p.1).0 least'.0.0)), least')

    pair_of : (p : Vertex × Edge) → Is (n, p.0, p.1) → Contains ps p
    pair_of p ((is, differs), least) = (are.exact p).1 ((affected p.0).1 is, least_same (merged_all base gs) m G p.0 p.1 (same_turned m (merged_all base gs) same) least)

    at_tell : (p : Vertex × Edge) (x : X) → tell p ≡ x → at x ≡ (n, p.0, p.1)
    at_tell p x is = ap at (sym is) ∙ t.tells p

    listed : (x : X) → Contains (xs ++ map tell ps) x → ((at x).0 < n + 1) × Is (at x)
    listed x h = elim (Contains-append_cases xs (map tell ps) x h) [
      | inl old ↦ (let (less, is) = (a.exact x).0 old in (omega (arith, less), is))
      | inr new ↦
          (let (p, has, is) = map_in tell ps x new in
          subst (λ (q : ℕ × Vertex × Edge). (q.0 < n + 1) × Is q) (sym (at_tell p x is)) (omega arith, of_pair p has))
    ]

    lists : (x : X) → ((at x).0 < n + 1) × Is (at x) → Contains (xs ++ map tell ps) x
    lists x (less, is) = elim (cases_eq (at x).0 n) [
      | inl here ↦
          (let p : Vertex × Edge = ((at x).1, (at x).2) in
          let there = in_map tell ps p (pair_of p (subst (λ (k : ℕ). IsConflictOf base gs k (at x).1 (at x).2) here is)) in
          Contains-append_right xs (map tell ps) x (subst (Contains (map tell ps)) (sym (t.told x here)) there))
      | inr other ↦ Contains-append_left xs (map tell ps) x ((a.exact x).1 (omega (arith, less, other), is))
    ]

    both_new : (i j : ℕ) (x y : X) → i < j → slice_get (map tell ps) i ≡ Some x → slice_get (map tell ps) j ≡ Some y → ComesFirst (at x).0 (at x).1 (at y).0 (at y).1
    both_new i j x y l at_i at_j =
        let (p, p_at, is) = get_map tell ps i x at_i in
        let (q, q_at, is') = get_map tell ps j y at_j in
        subst (λ (r : ℕ × Vertex × Edge). ComesFirst r.0 r.1 (at y).0 (at y).1) (sym (at_tell p x is))
        (subst (λ (r : ℕ × Vertex × Edge). ComesFirst n p.0 r.0 r.1) (sym (at_tell q y is')) (inr (refl, are.ascend i j p q l p_at q_at)))

    number_new : (j : ℕ) (y : X) → slice_get (map tell ps) j ≡ Some y → (at y).0 ≡ n
    number_new j y at_j = let (q, q_at, is) = get_map tell ps j y at_j in ap (λ (r : ℕ × Vertex × Edge). r.0) (at_tell q y is)

    in_order : (i j : ℕ) (x y : X) → i < j → slice_get (xs ++ map tell ps) i ≡ Some x → slice_get (xs ++ map tell ps) j ≡ Some y → ComesFirst (at x).0 (at x).1 (at y).0 (at y).1
    in_order i j x y l at_i at_j = elim (at_append xs (map tell ps) i x at_i) [
      | inl old_i ↦ elim (at_append xs (map tell ps) j y at_j) [
        | inl old_j ↦ a.order i j x y l old_i old_j
        | inr (k, e, new_j) ↦ (let less = ((a.exact x).0 (contains_at xs i x old_i)).0 in let number = number_new k y new_j in inl (omega (arith, less, number)))
      ]
      | inr (h, e, new_i) ↦ elim (at_append xs (map tell ps) j y at_j) [
        | inl old_j ↦ absurd (let w = slice_get_within xs j y old_j in omega (arith, l, w, e))
        | inr (k, e', new_j) ↦ both_new h k x y (omega (arith, l, e, e')) new_i new_j
      ]
    ]

    pub told_more : AreToldBelow at base gs (n + 1) (xs ++ map tell ps)
    told_more = record { exact = λ x. (listed x, lists x); order = in_order }
