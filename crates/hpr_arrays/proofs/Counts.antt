-- Counts of elements, and what the code reads of a number.
use Rattle.std.proofs.Common.{◌≡◌, ◌≢◌, ℕ, ℤ, pos, true, false, cond, to_z, of_z, w64, refl, sym, ap, ◌∙◌}
use Rattle.std.proofs.lemmas.Int.{to_z-of_z}
use Rattle.std.specs.Prelude.{FitsSigned}
use Rattle.std.specs.Ordering.{int_eq}
use Rattle.std.specs.Cmp.{signed_Decides}

pub zero_of : (x : ℤ) → FitsSigned w64 x → of_z w64 x ≡ 0 → x ≡ pos 0
zero_of x f e = sym (to_z-of_z w64 x f) ∙ ap (to_z w64) e

pub same_of : (x y : ℤ) → FitsSigned w64 x → FitsSigned w64 y → of_z w64 x ≡ of_z w64 y → x ≡ y
same_of x y f g e = sym (to_z-of_z w64 x f) ∙ ap (to_z w64) e ∙ to_z-of_z w64 y g

is_zero : (x : ℤ) → x ≡ pos 0 → int_eq x (pos 0) ≡ true
is_zero x e = (signed_Decides x (pos 0)).1 e

pub not_zero : (x : ℤ) → x ≢ pos 0 → int_eq x (pos 0) ≡ false
not_zero x ne = elim (int_eq x (pos 0)) as (λ b. int_eq x (pos 0) ≡ b → b ≡ false) [
  | true ↦ λ e. absurd (ne ((signed_Decides x (pos 0)).0 e))
  | false ↦ λ e. refl
] refl

pub extra_zero : (x : ℤ) → x ≡ pos 0 → ◌≡◌ {A = ℕ} (cond (int_eq x (pos 0)) 0 1) 0
extra_zero x e = ap (λ b. cond b 0 1) (is_zero x e)

pub extra_one : (x : ℤ) → x ≢ pos 0 → ◌≡◌ {A = ℕ} (cond (int_eq x (pos 0)) 0 1) 1
extra_one x ne = ap (λ b. cond b 0 1) (not_zero x ne)
