-- Steps that avoid the back edges to some loops.
use Rattle.std.proofs.Common.{◌≡◌, ℕ, Bool, true, false, ◌==◌, List, [], ◌∷◌, Contains, inl, inr, sym, ap, subst}
use Rattle.std.specs.List.{list_any}
use Rattle.std.proofs.lemmas.Bool.{or_cases, or_left, or_right, eqb-true, eq-eqb, and_parts, and_from, both_ways, false_from_ne_true}
use Rattle.hpr_terms.proofs.Facts.{in_none, in_here, in_later, in_cons}
use Rattle.hpr_paths.specs.declared.spot.Step.{Step}
use Rattle.hpr_reach.specs.Reaches.{back_to, AvoidsLoops}
use Rattle.hpr_reach.specs.OpenSteps.{is_back_to}

any_same : (q : ℕ) (xs : List ℕ) → list_any (λ w. w == q) xs ≡ true → Contains xs q
any_same q [] h = absurd cc
any_same q (x ∷ xs) h = elim (or_cases (x == q) (list_any (λ w. w == q) xs) h) [
  | inl e ↦ subst (Contains (x ∷ xs)) (eqb-true x q e) (in_here x xs)
  | inr later ↦ in_later x q xs (any_same q xs later)
]

same_any : (q : ℕ) (xs : List ℕ) → Contains xs q → list_any (λ w. w == q) xs ≡ true
same_any q [] h = absurd (in_none q h)
same_any q (x ∷ xs) h = elim (in_cons x q xs h) [
  | inl e ↦ or_left (x == q) (list_any (λ w. w == q) xs) (eq-eqb x q e)
  | inr later ↦ or_right (x == q) (list_any (λ w. w == q) xs) (same_any q xs later)
]

pub step_back : (s : Step) → s.back ≡ true → back_to s.to ≡ s
step_back s e = ap (λ (b : Bool). record { to = s.to; back = b }) (sym e)

pub avoids_none : (loops : List ℕ) → AvoidsLoops loops []
avoids_none loops = λ w h. in_none (back_to w)

pub avoids_nothing : (steps : List Step) → AvoidsLoops [] steps
avoids_nothing steps = λ w h. absurd (in_none w h)

-- the first step avoids the loops, and the others do
pub avoids_first : (loops : List ℕ) (s : Step) (steps : List Step) → AvoidsLoops loops (s ∷ steps) → is_back_to loops s ≡ false
avoids_first loops s steps avoids = false_from_ne_true (is_back_to loops s) (λ h.
    let p = and_parts s.back (list_any (λ w. w == s.to) loops) h in
    avoids s.to (any_same s.to loops p.1) (subst (Contains (s ∷ steps)) (sym (step_back s p.0)) (in_here s steps)))

pub avoids_rest : (loops : List ℕ) (s : Step) (steps : List Step) → AvoidsLoops loops (s ∷ steps) → AvoidsLoops loops steps
avoids_rest loops s steps avoids = λ w h there. avoids w h (in_later s (back_to w) steps there)

pub avoids_more : (loops : List ℕ) (s : Step) (steps : List Step) → is_back_to loops s ≡ false → AvoidsLoops loops steps → AvoidsLoops loops (s ∷ steps)
avoids_more loops s steps free avoids = λ w h there. elim (in_cons s (back_to w) steps there) [
  | inl e ↦ both_ways (is_back_to loops s) free (and_from s.back (list_any (λ v. v == s.to) loops) (ap (λ (x : Step). x.back) e)
      (same_any s.to loops (subst (Contains loops) (sym (ap (λ (x : Step). x.to) e)) h)))
  | inr later ↦ avoids w h later
]
