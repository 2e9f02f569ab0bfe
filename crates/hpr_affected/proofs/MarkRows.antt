-- Rows of marks that grow.
use Rattle.std.proofs.Common.{◌≡◌, ℕ, ◌+◌, ◌<◌, ◌≤◌, ◌↔◌, ◌⊎◌, inl, inr, Bool, true, false, IsTrue, Option, Some, None, List, [], length, take, replicate, get_or, Contains, refl, sym, ◌∙◌, subst, arith}
use Rattle.std.proofs.lemmas.Bool.{cases_eq}
use Rattle.std.proofs.lemmas.List.{take_all, length-replicate}
use Rattle.std.proofs.lemmas.Option.{slice_get_within}
use Rattle.hpr_search.specs.Marks.{IsMarked}
use Rattle.hpr_search.proofs.Marked.{no_marks}
use Rattle.hpr_graph.specs.declared.link.Link.{Link}
use Rattle.hpr_graph.specs.Numbered.{Numbered, IsNumbered, row_of}
use Rattle.hpr_graph.specs.Moves.{number_at}
use Rattle.hpr_graph.proofs.Lists.{some_inj, in_none, in_taken}
use Rattle.hpr_closure.specs.Counts.{counts_at}
use Rattle.hpr_affected.specs.Lacking.{IsKnown, IsThere}
use Rattle.hpr_affected.specs.Differing.{CountsWithout, AreDiffering}

-- what is marked is what was and what has C
pub record AreMarked (first marks : List Bool) (C : ℕ → Type 0) : Type 0 where
  pub count : length marks ≡ length first
  pub exact : (n : ℕ) → n < length first → IsMarked marks n ↔ (IsMarked first n ⊎ C n)

pub unknown_none : (K : Link → Type 0) (first marks : List Bool) (links : List Link) (to : ℕ) → marks ≡ first → AreMarked first marks (CountsWithout K (take 0 links) to)
unknown_none K first marks links to e =
    rw e (record { count = refl; exact = λ n l. (λ h. inl h, λ h. elim h [ inl was ↦ was | inr (m, has, not_K, is) ↦ absurd (in_none m has) ]) })

-- one link more, which has K or not
pub unknown_more : (K : Link → Type 0) (first old new : List Bool) (links : List Link) (i : ℕ) (d : Link) (to at : ℕ) (test : Bool) → i < length links → at ≡ counts_at (get_or links i d).kind to → IsTrue test ↔ K (get_or links i d)
    → AreMarked first old (CountsWithout K (take i links) to) → length new ≡ length old → ((n : ℕ) → n < length old → IsMarked new n ↔ (IsMarked old n ⊎ ((test ≡ false) × (at ≡ n)))) → AreMarked first new (CountsWithout K (take (i + 1) links) to)
unknown_more K first old new links i d to at test l is known a count exact = record {
  count = count ∙ a.count;
  exact = λ n below.
      (let now = exact n (omega (arith, below, a.count)) in
      let was = a.exact n below in (
        λ h. elim (now.0 h) [
          | inl m ↦ elim (was.0 m) [ inl first_one ↦ inl first_one | inr (x, has, not_K, counts) ↦ inr (x, (in_taken links i d x l).1 (inl has), not_K, counts) ]
          | inr (fails, here) ↦
              inr (get_or links i d, (in_taken links i d (get_or links i d) l).1 (inr refl), (λ k. (let holds = known.1 k in cc)), sym is ∙ here)
        ],
        λ h. elim h [
          | inl first_one ↦ now.1 (inl (was.1 (inl first_one)))
          | inr (x, has, not_K, counts) ↦ elim ((in_taken links i d x l).0 has) [
            | inl before ↦ now.1 (inl (was.1 (inr (x, before, not_K, counts))))
            | inr same ↦ now.1 (inr (not_true test (λ t. not_K (subst K same (known.0 t))), is ∙ subst (λ (k : Link). counts_at k.kind to ≡ n) (sym same) counts))
          ]
        ],
      ));
}
  where
    not_true : (b : Bool) → ¬ IsTrue b → b ≡ false
    not_true true fails = absurd (fails refl)
    not_true false fails = refl

pub unknown_all : (K : Link → Type 0) (first marks : List Bool) (links : List Link) (i to : ℕ) → length links ≤ i → AreMarked first marks (CountsWithout K (take i links) to) → AreMarked first marks (CountsWithout K links to)
unknown_all K first marks links i to l a = subst (λ (ls : List Link). AreMarked first marks (CountsWithout K ls to)) (take_all i links l) a

-- links that have K are those that have L
pub without_same : (K L : Link → Type 0) (links links' : List Link) (to n : ℕ) → links ≡ links' → ((l : Link) → K l ↔ L l) → CountsWithout K links to n ↔ CountsWithout L links' to n
without_same K L links links' to n e same = (
  λ (l, has, not_K, counts). (l, subst (λ (xs : List Link). Contains xs l) e has, (λ k. not_K ((same l).1 k)), counts),
  λ (l, has, not_L, counts). (l, subst (λ (xs : List Link). Contains xs l) (sym e) has, (λ k. not_L ((same l).0 k)), counts),
)

pub marked_same : (first marks : List Bool) (C D : ℕ → Type 0) → ((n : ℕ) → C n ↔ D n) → ((n : ℕ) → n < length first → IsMarked marks n ↔ (IsMarked first n ⊎ C n)) → (n : ℕ) → n < length first → IsMarked marks n ↔ (IsMarked first n ⊎ D n)
marked_same first marks C D same exact n l = (
  λ h. elim ((exact n l).0 h) [ inl was ↦ inl was | inr c ↦ inr ((same n).0 c) ],
  λ h. (exact n l).1 (elim h [ inl was ↦ inl was | inr d ↦ inr ((same n).1 d) ]),
)

-- the marks by the links into the first so many vertices
module _ (g h : Numbered) (ns : List (Option ℕ)) where
  pub record AreDifferingBelow (marks : List Bool) (i : ℕ) : Type 0 where
    pub count : length marks ≡ length g.vertices
    pub exact : (n : ℕ) → n < length g.vertices → IsMarked marks n ↔ ((to : ℕ) × (to < i) × CountsWithout (IsThere h ns to) (row_of g to) to n)

  pub differing_none : (marks : List Bool) (k : ℕ) → k ≡ length g.vertices → marks ≡ replicate k false → AreDifferingBelow marks 0
  differing_none marks k size e =
      rw e (record {
        count = length-replicate k false ∙ size;
        exact = λ n l. (λ h. absurd (no_marks k n h), λ (to, less, counts). absurd (omega (arith, less)));
      })

  pub differing_more : (old new : List Bool) (i : ℕ) → AreDifferingBelow old i → length new ≡ length old → ((n : ℕ) → n < length old → IsMarked new n ↔ (IsMarked old n ⊎ CountsWithout (IsThere h ns i) (row_of g i) i n)) → AreDifferingBelow new (i + 1)
  differing_more old new i a count exact = record {
    count = count ∙ a.count;
    exact = λ n l.
        (let now = exact n (omega (arith, l, a.count)) in
        let was = a.exact n l in (
          λ h. elim (now.0 h) [
            | inl m ↦ (let (to, less, counts) = was.0 m in (to, omega (arith, less), counts))
            | inr counts ↦ (i, omega arith, counts)
          ],
          λ (to, less, counts). elim (cases_eq to i) [
            | inl same ↦ now.1 (inr (subst (λ (k : ℕ). CountsWithout (IsThere h ns k) (row_of g k) k n) same counts))
            | inr other ↦ now.1 (inl (was.1 (to, omega (arith, less, other), counts)))
          ],
        ));
  }

  pub differing_all : IsNumbered g → (marks : List Bool) (i : ℕ) → length g.vertices ≤ i → AreDifferingBelow marks i → AreDiffering g h ns marks
  differing_all kg marks i l a = record {
    count = a.count;
    exact = λ n below. (
      λ m. (let (to, less, counts) = (a.exact n below).0 m in (to, counts)),
      λ (to, (m, has, not_there, counts)).
          (let (e, is) = kg.links to m has in
          let w = slice_get_within g.vertices to e.to is.0 in
          (a.exact n below).1 (to, omega (arith, w, l), (m, has, not_there, counts))),
    );
  }

  -- a link into a vertex that has a number is there where it is known of that vertex
  pub known_there : (at to : ℕ) (known : List Link) → number_at ns at ≡ Some to → known ≡ row_of h to → (l : Link) → IsKnown ns known l ↔ IsThere h ns at l
  known_there at to known number is l = (
    λ (m, mv, has). (to, m, number, mv, subst (λ (xs : List Link). Contains xs m) is has),
    λ (to', m, number', mv, has).
        (let is_to : to' ≡ to = some_inj to' to (sym number' ∙ number) in
        (m, mv, subst (λ (xs : List Link). Contains xs m) (sym is) (subst (λ (n : ℕ). Contains (row_of h n) m) is_to has))),
  )

  -- into one that has none no link is there
  pub none_there : (at : ℕ) → number_at ns at ≡ None → (l : Link) → IsKnown ns [] l ↔ IsThere h ns at l
  none_there at none l = (
    λ (m, mv, has). absurd (in_none m has),
    λ (to, m, number, mv, has). absurd (let both : None ≡ Some to = sym none ∙ number in cc),
  )
