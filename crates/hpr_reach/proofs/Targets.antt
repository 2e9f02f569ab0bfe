-- Where open steps lead.
use Rattle.std.proofs.Common.{◌≡◌, ℕ, ◌<◌, Bool, true, false, cond, List, [], ◌∷◌, get_or, All, Contains, inl, inr, refl, sym, subst}
use Rattle.std.proofs.lemmas.List.Elements.{Contains-get_or, All-contains, All-nil}
use Rattle.hpr_terms.proofs.Facts.{in_none, in_here, in_later, in_cons}
use Rattle.hpr_paths.specs.declared.spot.Step.{Step}
use Rattle.hpr_reach.specs.OpenSteps.{is_back_to, targets}

-- a step that leads to a target
abbrev pub Free : List ℕ → List Step → ℕ → Type 0
Free loops steps q = (s : Step) × Contains steps s × (is_back_to loops s ≡ false) × (s.to ≡ q)

free_later : (loops : List ℕ) (t : Step) (steps : List Step) (q : ℕ) → Free loops steps q → Free loops (t ∷ steps) q
free_later loops t steps q (s, h, f, e) = (s, in_later t s steps h, f, e)

from_target_by : (loops : List ℕ) (t : Step) (steps : List Step) (q : ℕ) (b : Bool) → is_back_to loops t ≡ b → (Contains (targets loops steps) q → Free loops steps q) → Contains (cond b (targets loops steps) (t.to ∷ targets loops steps)) q → Free loops (t ∷ steps) q
from_target_by loops t steps q true is rest h = free_later loops t steps q (rest h)
from_target_by loops t steps q false is rest h = elim (in_cons t.to q (targets loops steps) h) [
  | inl e ↦ (t, in_here t steps, is, e)
  | inr later ↦ free_later loops t steps q (rest later)
]

pub from_target : (loops : List ℕ) (steps : List Step) (q : ℕ) → Contains (targets loops steps) q → Free loops steps q
from_target loops [] q h = absurd (in_none q h)
from_target loops (t ∷ steps) q h = from_target_by loops t steps q (is_back_to loops t) refl (from_target loops steps q) h

to_target_by : (loops : List ℕ) (t : Step) (steps : List Step) (q : ℕ) (b : Bool) → Contains (targets loops steps) q → Contains (cond b (targets loops steps) (t.to ∷ targets loops steps)) q
to_target_by loops t steps q true h = h
to_target_by loops t steps q false h = in_later t.to q (targets loops steps) h

pub to_target : (loops : List ℕ) (steps : List Step) (s : Step) → Contains steps s → is_back_to loops s ≡ false → Contains (targets loops steps) s.to
to_target loops [] s h free = absurd (in_none s h)
to_target loops (t ∷ steps) s h free = elim (in_cons t s steps h) [
  | inl e ↦ subst (λ (x : Step). Contains (targets loops (t ∷ steps)) x.to) e
      (let t_free : is_back_to loops t ≡ false = subst (λ (x : Step). is_back_to loops x ≡ false) (sym e) free in
      rw t_free (in_here t.to (targets loops steps)))
  | inr later ↦ to_target_by loops t steps s.to (is_back_to loops t) (to_target loops steps s later free)
]

pub targets_within : (n : ℕ) (loops : List ℕ) (steps : List Step) → All (λ s. s.to < n) steps → All (λ q. q < n) (targets loops steps)
targets_within n loops steps h k d l =
    let (s, there, free, to) = from_target loops steps (get_or (targets loops steps) k d) (Contains-get_or (targets loops steps) k d l) in
    subst (λ (x : ℕ). x < n) to (All-contains (λ t. t.to < n) steps s h there)

pub open_within : (n : ℕ) (b : Bool) (loops : List ℕ) (steps : List Step) → All (λ s. s.to < n) steps → All (λ q. q < n) (cond b [] (targets loops steps))
open_within n true loops steps h = All-nil (λ q. q < n)
open_within n false loops steps h = targets_within n loops steps h
