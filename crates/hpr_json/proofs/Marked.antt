-- The marks of the vertices with these numbers.
use Rattle.std.proofs.Common.{◌≡◌, ◌≢◌, ℕ, zero, suc, ◌+◌, ◌<◌, ◌≤◌, Bool, true, false, ◌⊎◌, ◌↔◌, inl, inr, List, [], ◌∷◌, ◌++◌, eqb, length, set, replicate, take, get_or, Contains, slice_index_or, sym, subst, ◌∙◌, arith}
use Rattle.std.proofs.lemmas.Bool.Decides.{eqb_tells}
use Rattle.std.proofs.lemmas.List.{get_or-set_same, get_or-set_other, take_more, take_all}
use Rattle.std.proofs.lemmas.List.Elements.{Contains-push, Contains-push_cases, Contains-append_left}
use Rattle.std.proofs.lemmas.Option.{slice_get_within, get_or_from_slice_get}
use Rattle.hpr_graph.specs.declared.vertex.Vertex.{Vertex}
use Rattle.hpr_graph.specs.Graphs.{Same, restrict_to}
use Rattle.hpr_graph.specs.Numbered.{Numbered, IsMarkedVertex, graph_in}
use Rattle.hpr_graph.specs.InOrder.{AreVerticesOf}
use Rattle.hpr_report.specs.AffectedText.{IsOneOf, ArePoints}

-- exactly these numbers are marked
abbrev pub AreMarksOf : List ℕ → List Bool → Type 0
AreMarksOf points marks = (p : ℕ) → (slice_index_or marks p false ≡ true) ↔ Contains points p

none_marked : (n p : ℕ) → ¬ (slice_index_or (replicate n false) p false ≡ true)
none_marked zero zero h = absurd cc
none_marked zero (suc p) h = absurd cc
none_marked (suc n) zero h = absurd cc
none_marked (suc n) (suc p) h = none_marked n p h

pub no_marks : (n : ℕ) → AreMarksOf [] (replicate n false)
no_marks n p = (λ h. absurd (none_marked n p h), λ h. absurd (omega (arith, h.1)))

pub one_more : (points : List ℕ) (marks : List Bool) (q : ℕ) → q < length marks → AreMarksOf points marks → AreMarksOf (points ++ q ∷ []) (set marks q true)
one_more points marks q within h p = by (eqb_tells p q)
  where
    by : ((eqb p q ≡ true) × (p ≡ q)) ⊎ ((eqb p q ≡ false) × (p ≢ q)) → (slice_index_or (set marks q true) p false ≡ true) ↔ Contains (points ++ q ∷ []) p
    by (inl (test, e)) = (
      λ m. subst (Contains (points ++ q ∷ [])) (sym e) (Contains-push points q),
      λ c. subst (λ n. slice_index_or (set marks q true) n false ≡ true) (sym e) (get_or-set_same marks q true false within),
    )
    by (inr (test, n)) = (
      λ m. Contains-append_left points (q ∷ []) p ((h p).0 (sym (get_or-set_other marks q p true false n) ∙ m)),
      λ c. elim (Contains-push_cases points q p c) [
        | inl before ↦ get_or-set_other marks q p true false n ∙ (h p).1 before
        | inr same ↦ absurd (n (sym same))
      ],
    )

-- with one more of the numbers of a list
pub next_more : (points : List ℕ) (marks : List Bool) (i : ℕ) → i < length points → get_or points i 0 < length marks → AreMarksOf (take i points) marks
    → AreMarksOf (take (i + 1) points) (set marks (get_or points i 0) true)
next_more points marks i below within h =
    let q = get_or points i 0 in
    subst (λ ps. AreMarksOf ps (set marks q true)) (sym (take_more points i 0 below)) (one_more (take i points) marks q within h)

pub all_more : (points : List ℕ) (marks : List Bool) (i : ℕ) → length points ≤ i → AreMarksOf (take i points) marks → AreMarksOf points marks
all_more points marks i past h = subst (λ ps. AreMarksOf ps marks) (take_all i points past) h

pub marked_vertices : (g : Numbered) (points : List ℕ) (marks : List Bool) → AreMarksOf points marks → (v : Vertex) → IsMarkedVertex g marks v ↔ IsOneOf g points v
marked_vertices g points marks h v = (λ (at, at_v, m). (at, (h at).0 m, at_v), λ (at, has, at_v). (at, at_v, (h at).1 has))

-- the vertices of what was restricted to the marks, in their order
pub points_kept : (g : Numbered) (points : List ℕ) (marks : List Bool) (kept : Numbered) (vs : List Vertex) → ((v : Vertex) → IsMarkedVertex g marks v ↔ IsOneOf g points v)
    → Same (graph_in kept) (restrict_to (graph_in g) (IsMarkedVertex g marks)) → AreVerticesOf (graph_in kept) vs → ArePoints (IsOneOf g points) vs
points_kept g points marks kept vs marked same (up, all) = (
  up,
  λ v. (
    λ has. (marked v).0 ((same.0 v).0 ((all v).0 has)).1,
    λ (at, listed, at_v). (all v).1 ((same.0 v).1 ((at, slice_get_within g.vertices at v at_v, get_or_from_slice_get g.vertices at v v at_v), (marked v).1 (at, listed, at_v))),
  ),
)
