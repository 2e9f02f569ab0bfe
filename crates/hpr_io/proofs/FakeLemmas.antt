-- A fetch that does not fail.
use Rattle.std.proofs.Common.{◌≡◌, ℕ, List, Bool, false, Some, Result, Ok, Err, IsTrue, refl}
use Rattle.std.specs.Prelude.{IsOkUnless, IsErrOf}
use Rattle.hpr_io.specs.declared.FetchError.{FetchError}
use Rattle.hpr_io.specs.declared.FetchError.TheVariants.{Failed, Memory}
use Rattle.hpr_io.specs.Fakes.{ShelfState, stands_in, fetch_fails}
use Rattle.hpr_io.specs.Files.{lookup}

-- what does not hold, and a test that fails
neither : (P : Type 0) (b : Bool) → ¬ P → b ≡ false → (P → IsTrue b) × (IsTrue b → P)
neither P b never off = (λ p. absurd (never p), λ h. absurd (cc))

-- a fetch that is not to fail and finds a file does not fail
pub not_failed : (P : Type 0) (shelf : ShelfState) (name found : List ℕ)
    → stands_in shelf.calls shelf.failing ≡ false → lookup shelf.files name ≡ Some found → ¬ P
    → (P → IsTrue (fetch_fails shelf name)) × (IsTrue (fetch_fails shelf name) → P)
not_failed P shelf name found idle there never = neither P (fetch_fails shelf name) never (rw (idle, there) refl)

-- an answer whose only error is want of memory is no failure
pub memory_only : {X : Type 0} (r : Result X FetchError) → IsOkUnless r Memory → ¬ IsErrOf r Failed
memory_only (Ok v) is h = absurd cc
memory_only (Err e) is h = absurd cc
