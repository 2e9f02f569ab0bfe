-- Rows of marks in runs.
use Rattle.std.proofs.Common.{◌≡◌, ℕ, zero, suc, ◌+◌, ◌-◌, ◌*◌, ◌/◌, ◌<◌, ◌≤◌, inl, inr, Bool, true, false, cond, List, [], ◌∷◌, length, set, get_or, replicate, refl, sym, ap, ◌∙◌, arith}
use Rattle.std.proofs.lemmas.Bool.{cases_eq, eq-eqb, ne_eqb}
use Rattle.std.proofs.lemmas.List.{get_or_default, get_or-replicate, get_or-set_same, get_or-set_other, length-replicate, length-set}
use Rattle.hpr_forest.specs.Counting.{one_if}
use Rattle.hpr_forest.specs.Runs.{AreRunsOf, is_in_run, marks_by}

-- one place changed
pub marks_set : (f : ℕ → Bool) (xs : List Bool) (p : ℕ) (v : Bool) → p < length xs
    → marks_by f (set xs p v) + one_if (cond (get_or xs p false) (f p) false) ≡ marks_by f xs + one_if (cond v (f p) false)
marks_set f [] p v lt = absurd (omega (arith, lt))
marks_set f (b ∷ xs) zero v lt = omega arith
marks_set f (b ∷ xs) (suc p) v lt = let rest = marks_set (λ i. f (suc i)) xs p v (omega (arith, lt)) in omega (arith, rest)

pub marks_there : (f : ℕ → Bool) (xs : List Bool) (p : ℕ) → get_or xs p false ≡ true → f p ≡ true → 1 ≤ marks_by f xs
marks_there f [] zero e h = absurd cc
marks_there f [] (suc p) e h = absurd cc
marks_there f (b ∷ xs) zero e h =
    let one : one_if (cond b (f 0) false) ≡ 1 = ap (λ z. one_if (cond z (f 0) false)) e ∙ ap one_if h in
    omega (arith, one)
marks_there f (b ∷ xs) (suc p) e h = let rest = marks_there (λ i. f (suc i)) xs p e h in omega (arith, rest)

one_most : (b : Bool) → one_if b ≤ 1
one_most true = omega arith
one_most false = omega arith

pub marks_most : (f : ℕ → Bool) (xs : List Bool) → marks_by f xs ≤ length xs
marks_most f [] = omega arith
marks_most f (b ∷ xs) = let rest = marks_most (λ i. f (suc i)) xs in let l = one_most (cond b (f 0) false) in omega (arith, rest, l)

pub marks_none : (f : ℕ → Bool) (n : ℕ) → marks_by f (replicate n false) ≡ 0
marks_none f zero = refl
marks_none f (suc n) = let rest = marks_none (λ i. f (suc i)) n in omega (arith, rest)

pub runs_blank : (marks : List Bool) (counts : List ℕ) (n : ℕ) → marks ≡ replicate n false → counts ≡ replicate (n / 64 + 1) 0 → AreRunsOf marks counts
runs_blank marks counts n is are = record {
  within = λ at lt.
      (let l = ap length is ∙ length-replicate n false in
      let k = ap length are ∙ length-replicate (n / 64 + 1) 0 in
      omega (arith, lt, l, k));
  each = λ run lt.
      ap (λ (xs : List ℕ). get_or xs run 0) are
      ∙ get_or-replicate (n / 64 + 1) run 0 0 (let k = ap length are ∙ length-replicate (n / 64 + 1) 0 in omega (arith, lt, k))
      ∙ sym (ap (marks_by (is_in_run run)) is ∙ marks_none (is_in_run run) n);
}

module _ (marks : List Bool) (counts : List ℕ) (are : AreRunsOf marks counts) (at m : ℕ) (lt : at < length marks) (read : m ≡ get_or counts (at / 64) m) where
  is_read : get_or counts (at / 64) 0 ≡ m
  is_read = get_or_default counts (at / 64) 0 m (are.within at lt) ∙ sym read

  here : is_in_run (at / 64) at ≡ true
  here = eq-eqb (at / 64) (at / 64) refl

  pub some_marked : get_or marks at false ≡ true → 1 ≤ m
  some_marked e = omega (arith, is_read, are.each (at / 64) (are.within at lt), marks_there (is_in_run (at / 64)) marks at e here)

  pub most_marked : m ≤ length marks
  most_marked = omega (arith, is_read, are.each (at / 64) (are.within at lt), marks_most (is_in_run (at / 64)) marks)

  one_put : (b : Bool) (run : ℕ) → b ≡ is_in_run run at → one_if (cond true b false) ≡ one_if b
  one_put true run e = refl
  one_put false run e = refl

  pub runs_put : get_or marks at false ≡ false → AreRunsOf (set marks at true) (set counts (at / 64) (m + 1))
  runs_put e = record {
    within = λ d l. omega (arith, are.within d (omega (arith, l, length-set marks at true)), length-set counts (at / 64) (m + 1));
    each = λ run l.
        (let f = is_in_run run in
        let one = marks_set f marks at true lt in
        let old : one_if (cond (get_or marks at false) (f at) false) ≡ 0 = ap (λ z. one_if (cond z (f at) false)) e in
        elim (cases_eq run (at / 64)) [
          | inl same ↦ (
              let new : one_if (cond true (f at) false) ≡ 1 = ap (λ z. one_if (cond true z false)) (eq-eqb (at / 64) run (sym same)) in
              let now : get_or (set counts (at / 64) (m + 1)) run 0 ≡ m + 1 = ap (λ z. get_or (set counts (at / 64) (m + 1)) z 0) same ∙ get_or-set_same counts (at / 64) (m + 1) 0 (are.within at lt) in
              let was : get_or counts run 0 ≡ m = ap (λ z. get_or counts z 0) same ∙ is_read in
              omega (arith, one, old, new, now, was, are.each run (omega (arith, l, length-set counts (at / 64) (m + 1)))))
          | inr ne ↦ (
              let new : one_if (cond true (f at) false) ≡ 0 = ap (λ z. one_if (cond true z false)) (ne_eqb (at / 64) run (λ s. ne (sym s))) in
              let now : get_or (set counts (at / 64) (m + 1)) run 0 ≡ get_or counts run 0 = get_or-set_other counts (at / 64) run (m + 1) 0 ne in
              omega (arith, one, old, new, now, are.each run (omega (arith, l, length-set counts (at / 64) (m + 1)))))
        ]);
  }

  pub runs_clear : get_or marks at false ≡ true → AreRunsOf (set marks at false) (set counts (at / 64) (m - 1))
  runs_clear e = record {
    within = λ d l. omega (arith, are.within d (omega (arith, l, length-set marks at false)), length-set counts (at / 64) (m - 1));
    each = λ run l.
        (let f = is_in_run run in
        let one = marks_set f marks at false lt in
        let new : one_if (cond false (f at) false) ≡ 0 = refl in
        elim (cases_eq run (at / 64)) [
          | inl same ↦ (
              let old : one_if (cond (get_or marks at false) (f at) false) ≡ 1 = ap (λ z. one_if (cond z (f at) false)) e ∙ ap (λ z. one_if (cond true z false)) (eq-eqb (at / 64) run (sym same)) in
              let now : get_or (set counts (at / 64) (m - 1)) run 0 ≡ m - 1 = ap (λ z. get_or (set counts (at / 64) (m - 1)) z 0) same ∙ get_or-set_same counts (at / 64) (m - 1) 0 (are.within at lt) in
              let was : get_or counts run 0 ≡ m = ap (λ z. get_or counts z 0) same ∙ is_read in
              omega (arith, one, old, new, now, was, some_marked e, are.each run (omega (arith, l, length-set counts (at / 64) (m - 1)))))
          | inr ne ↦ (
              let old : one_if (cond (get_or marks at false) (f at) false) ≡ 0 = ap (λ z. one_if (cond z (f at) false)) e ∙ ap (λ z. one_if (cond true z false)) (ne_eqb (at / 64) run (λ s. ne (sym s))) in
              let now : get_or (set counts (at / 64) (m - 1)) run 0 ≡ get_or counts run 0 = get_or-set_other counts (at / 64) run (m - 1) 0 ne in
              omega (arith, one, old, new, now, are.each run (omega (arith, l, length-set counts (at / 64) (m - 1)))))
        ]);
  }

not_marked : (b : Bool) → (b ≡ true → ⊥) → b ≡ false
not_marked true ne = absurd (ne refl)
not_marked false ne = refl

-- in a run with no mark no place is marked
pub run_unmarked : (marks : List Bool) (counts : List ℕ) → AreRunsOf marks counts → (at m : ℕ) → at < length marks → m ≡ get_or counts (at / 64) m → m ≡ 0
    → (d : ℕ) → at ≤ d → d < (at / 64 + 1) * 64 → get_or marks d false ≡ false
run_unmarked marks counts are at m lt read none d le less =
    not_marked (get_or marks d false) (λ e.
    let same : d / 64 ≡ at / 64 = omega arith in
    omega (arith, is_read marks counts are at m lt read, none, are.each (at / 64) (are.within at lt), marks_there (is_in_run (at / 64)) marks d e (eq-eqb (d / 64) (at / 64) same)))
