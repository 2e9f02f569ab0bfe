-- Lists of one or two elements.
use Rattle.std.proofs.Common.{◌≡◌, ◌<◌, ℕ, zero, suc, ◌⊎◌, inl, inr, [], ◌∷◌, refl, sym, arith}
use Rattle.std.specs.List.{slice_index_or, Contains}

one_at : {X : Type 0} (a x : X) (k : ℕ) → k < 1 → slice_index_or (a ∷ []) k x ≡ x → x ≡ a
one_at a x zero l e = sym e
one_at a x (suc k) l e = absurd (omega arith)

pub contains_one : {X : Type 0} (a x : X) → Contains (a ∷ []) x → x ≡ a
contains_one a x h = one_at a x h.0 (omega (arith, h.1)) h.2

two_at : {X : Type 0} (a b x : X) (k : ℕ) → k < 2 → slice_index_or (a ∷ b ∷ []) k x ≡ x → (x ≡ a) ⊎ (x ≡ b)
two_at a b x zero l e = inl (sym e)
two_at a b x (suc zero) l e = inr (sym e)
two_at a b x (suc (suc k)) l e = absurd (omega arith)

pub contains_two : {X : Type 0} (a b x : X) → Contains (a ∷ b ∷ []) x → (x ≡ a) ⊎ (x ≡ b)
contains_two a b x h = two_at a b x h.0 (omega (arith, h.1)) h.2

pub has_one : {X : Type 0} (a : X) → Contains (a ∷ []) a
has_one a = (0, omega arith, refl)

pub has_first : {X : Type 0} (a b : X) → Contains (a ∷ b ∷ []) a
has_first a b = (0, omega arith, refl)

pub has_second : {X : Type 0} (a b : X) → Contains (a ∷ b ∷ []) b
has_second a b = (1, omega arith, refl)
