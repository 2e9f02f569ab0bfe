-- The loops to whose predicates a value comes round.
--
-- Backs old steps k marks == the marks of old, and one at each loop to which one of the first k steps is a back edge
-- Turns spots x d w p     == the value leaves p, from which a back edge leads to the loop w
use Rattle.std.proofs.Common.{◌≡◌, ℕ, ◌+◌, ◌<◌, ◌≤◌, Bool, true, false, IsTrue, List, length, replicate, get_or, set, take, All, Contains, ◌⊎◌, ◌↔◌, inl, inr, refl, sym, ap, ◌∙◌, subst, arith}
use Rattle.std.proofs.lemmas.Bool.{cases_eq}
use Rattle.std.proofs.lemmas.List.{get_or-set_same, get_or-set_other, get_or_default}
use Rattle.hpr_terms.proofs.Facts.{taken_item}
use Rattle.hpr_search.specs.Marks.{IsMarked}
use Rattle.hpr_search.proofs.Marked.{no_marks}
use Rattle.hpr_paths.specs.declared.spot.Step.{Step}
use Rattle.hpr_paths.specs.Spots.{Spot, next_at}
use Rattle.hpr_reach.specs.Reaches.{back_to}
use Rattle.hpr_reach.specs.Flows.{Leaves, ComesRound}
use Rattle.hpr_reach.proofs.Grown.{Below, turn_of_number}
use Rattle.hpr_reach.proofs.Avoids.{step_back}
use Rattle.hpr_build.specs.Flows.{CutsTo}

-- marks after a write
pub marked_then : (marks : List Bool) (p q : ℕ) → p < length marks → IsMarked (set marks p true) q ↔ (IsMarked marks q ⊎ (p ≡ q))
marked_then marks p q l = (
  (λ h. elim (cases_eq q p) [ inl e ↦ inr (sym e) | inr ne ↦ inl (sym (get_or-set_other marks p q true false ne) ∙ h) ]),
  (λ h. elim (cases_eq q p) [
    | inl e ↦ subst (IsMarked (set marks p true)) (sym e) (get_or-set_same marks p true false l)
    | inr ne ↦ (elim h [ inl m ↦ get_or-set_other marks p q true false ne ∙ m | inr e ↦ absurd (ne (sym e)) ])
  ]),
)

abbrev pub Backs : List Bool → List Step → ℕ → List Bool → Type 0
Backs old steps k marks = (w : ℕ) → IsMarked marks w ↔ (IsMarked old w ⊎ Contains (take k steps) (back_to w))

to_of : (s : Step) (w : ℕ) → s ≡ back_to w → (s.back ≡ true) × (s.to ≡ w)
to_of s w e = (ap (λ (x : Step). x.back) e, ap (λ (x : Step). x.to) e)

module _ (old : List Bool) (steps : List Step) (k : ℕ) (s : Step) (marks : List Bool) (before : Backs old steps k marks) (l : k < length steps) (is : s ≡ get_or steps k s) where
  pub backs_more : (n : ℕ) → s.back ≡ true → All (λ t. t.to < n) steps → n ≡ length marks → Backs old steps (k + 1) (set marks s.to true)
  backs_more n back all len = λ w.
      let within : s.to < length marks = subst (λ (t : Step). t.to < length marks) (sym is) (omega (arith, all k s l, len)) in
      let new = marked_then marks s.to w within in
      let more = taken_item steps k s (back_to w) l is in (
        (λ h. elim (new.0 h) [
          | inl was ↦ (elim ((before w).0 was) [ inl o ↦ inl o | inr t ↦ inr (more.1 (inl t)) ])
          | inr e ↦ inr (more.1 (inr (sym (step_back s back) ∙ ap back_to e)))
        ]),
        (λ h. elim h [
          | inl o ↦ new.1 (inl ((before w).1 (inl o)))
          | inr t ↦ (elim (more.0 t) [ inl t' ↦ new.1 (inl ((before w).1 (inr t'))) | inr e ↦ new.1 (inr (to_of s w e).1) ])
        ]),
      )

  pub backs_same : s.back ≡ false → Backs old steps (k + 1) marks
  backs_same calm = λ w.
      let more = taken_item steps k s (back_to w) l is in (
        (λ h. elim ((before w).0 h) [ inl o ↦ inl o | inr t ↦ inr (more.1 (inl t)) ]),
        (λ h. elim h [
          | inl o ↦ (before w).1 (inl o)
          | inr t ↦ (elim (more.0 t) [ inl t' ↦ (before w).1 (inr t') | inr e ↦ (let b = (to_of s w e).0 in absurd cc) ])
        ]),
      )

abbrev pub Turns : List Spot → List ℕ → ℕ → ℕ → ℕ → Type 0
Turns spots x d w p = Contains (next_at spots p) (back_to w) × Leaves spots x d p

-- the value leaves d itself, or one of the first n of these points, from which a back edge leads to the loop
abbrev pub Around : List Spot → List ℕ → ℕ → List ℕ → ℕ → ℕ → Type 0
Around spots x d ps n w = Contains (next_at spots d) (back_to w) ⊎ Below (λ k. Turns spots x d w (get_or ps k 0)) n

pub turns_begun : (spots : List Spot) (x : List ℕ) (d : ℕ) (ps : List ℕ) (blank marks : List Bool) (n : ℕ) (steps : List Step) → blank ≡ replicate n false → steps ≡ next_at spots d
    → ((w : ℕ) → IsMarked marks w ↔ (IsMarked blank w ⊎ Contains steps (back_to w))) → (w : ℕ) → IsMarked marks w ↔ Around spots x d ps 0 w
turns_begun spots x d ps blank marks n steps none is new w = (
  (λ h. elim ((new w).0 h) [
    | inl was ↦ absurd (no_marks n w (subst (λ (row : List Bool). IsMarked row w) none was))
    | inr t ↦ inl (subst (λ (ss : List Step). Contains ss (back_to w)) is t)
  ]),
  (λ h. elim h [
    | inl t ↦ (new w).1 (inr (subst (λ (ss : List Step). Contains ss (back_to w)) (sym is) t))
    | inr (k, l, t) ↦ absurd (omega (arith, l))
  ]),
)

module _ (spots : List Spot) (x : List ℕ) (d : ℕ) (ps : List ℕ) (n : ℕ) (marks : List Bool) (before : (w : ℕ) → IsMarked marks w ↔ Around spots x d ps n w) where
  one_more : (w : ℕ) → (Below (λ k. Turns spots x d w (get_or ps k 0)) n ⊎ Turns spots x d w (get_or ps n 0)) ↔ Below (λ k. Turns spots x d w (get_or ps k 0)) (n + 1)
  one_more w =
      let P : ℕ → Type 0 = λ k. Turns spots x d w (get_or ps k 0) in
      turn_of_number P n (Below P n) (Below P n ⊎ P n) ((λ h. h), (λ h. h)) ((λ h. h), (λ h. h))

  pub turns_more : (marks' : List Bool) → ((w : ℕ) → IsMarked marks' w ↔ (IsMarked marks w ⊎ Contains (next_at spots (get_or ps n 0)) (back_to w))) → Leaves spots x d (get_or ps n 0)
      → (w : ℕ) → IsMarked marks' w ↔ Around spots x d ps (n + 1) w
  turns_more marks' new on w = (
    (λ h. elim ((new w).0 h) [
      | inl was ↦ (elim ((before w).0 was) [ inl a ↦ inl a | inr b ↦ inr ((one_more w).0 (inl b)) ])
      | inr t ↦ inr ((one_more w).0 (inr (t, on)))
    ]),
    (λ h. elim h [
      | inl a ↦ (new w).1 (inl ((before w).1 (inl a)))
      | inr b ↦ (elim ((one_more w).1 b) [ inl was ↦ (new w).1 (inl ((before w).1 (inr was))) | inr t ↦ (new w).1 (inr t.0) ])
    ]),
  )

  pub turns_same : ¬ Leaves spots x d (get_or ps n 0) → (w : ℕ) → IsMarked marks w ↔ Around spots x d ps (n + 1) w
  turns_same off w = (
    (λ h. elim ((before w).0 h) [ inl a ↦ inl a | inr b ↦ inr ((one_more w).0 (inl b)) ]),
    (λ h. elim h [
      | inl a ↦ (before w).1 (inl a)
      | inr b ↦ (elim ((one_more w).1 b) [ inl was ↦ (before w).1 (inr was) | inr t ↦ absurd (off t.1) ])
    ]),
  )

-- the value comes round where a back edge leads on from where it is made, or from one of the points that it reaches and leaves
pub turns_all : (spots : List Spot) (x : List ℕ) (d : ℕ) (ps : List ℕ) (n w : ℕ) (row : List Bool) (A : Type 0) → length ps ≤ n → ((p : ℕ) → Contains ps p ↔ IsMarked row p)
    → CutsTo spots x d 0 row → A ↔ Around spots x d ps n w → A ↔ ComesRound spots x w d
turns_all spots x d ps n w row A l listed cuts all = (
  (λ h. elim (all.0 h) [ inl t ↦ (d, t, inl refl) | inr (k, q, (t, on)) ↦ (get_or ps k 0, t, on) ]),
  (λ (p, t, on). elim on [
    | inl e ↦ all.1 (inl (subst (λ (q : ℕ). Contains (next_at spots q) (back_to w)) e t))
    | inr (r, calm) ↦
        (let (k, within, is) = (listed p).1 ((cuts p).1 r) in
        let same : p ≡ get_or ps k 0 = sym is ∙ get_or_default ps k p 0 within in
        all.1 (inr (k, omega (arith, within, l), subst (Turns spots x d w) same (t, inr (r, calm)))))
  ]),
)

-- a row that marks the first k of these points, and one more
pub marks_more : (ps : List ℕ) (k q : ℕ) (row : List Bool) → k < length ps → q ≡ get_or ps k q → q < length row → ((p : ℕ) → IsMarked row p ↔ Contains (take k ps) p)
    → (p : ℕ) → IsMarked (set row q true) p ↔ Contains (take (k + 1) ps) p
marks_more ps k q row l is within before p =
    let new = marked_then row q p within in
    let more = taken_item ps k q p l is in (
      (λ h. elim (new.0 h) [ inl was ↦ more.1 (inl ((before p).0 was)) | inr e ↦ more.1 (inr e) ]),
      (λ h. elim (more.0 h) [ inl was ↦ new.1 (inl ((before p).1 was)) | inr e ↦ new.1 (inr e) ]),
    )

-- those of the first k points that are marked, and one more that may be
pub kept_more : (ps : List ℕ) (k q : ℕ) (row : List Bool) (test : Bool) (Old New : ℕ → Type 0) → k < length ps → q ≡ get_or ps k q → IsTrue test ↔ IsMarked row q
    → ((p : ℕ) → Old p ↔ (Contains (take k ps) p × IsMarked row p)) → ((p : ℕ) → New p ↔ (Old p ⊎ (IsTrue test × (q ≡ p))))
    → (p : ℕ) → New p ↔ (Contains (take (k + 1) ps) p × IsMarked row p)
kept_more ps k q row test Old New l is tests before new p =
    let more = taken_item ps k q p l is in (
      (λ h. elim ((new p).0 h) [
        | inl was ↦ (let (t, m) = (before p).0 was in (more.1 (inl t), m))
        | inr (t, e) ↦ (more.1 (inr e), subst (IsMarked row) e (tests.0 t))
      ]),
      (λ (t, m). elim (more.0 t) [
        | inl was ↦ (new p).1 (inl ((before p).1 (was, m)))
        | inr e ↦ (new p).1 (inr (tests.1 (subst (IsMarked row) (sym e) m), e))
      ]),
    )
