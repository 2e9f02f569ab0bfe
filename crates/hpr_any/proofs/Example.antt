-- A program of another language: its one part says the text 7, which uses y.
use Rattle.std.proofs.Common.{◌≡◌, ℕ, ◌+◌, true, List, [], ◌∷◌, Option, Some, Result, Ok, Err, refl}
use native.Mathlib.Decide.{ℕ_discrete}
use Rattle.hpr_syntax.specs.Action.{assigns}
use Rattle.hpr_syntax.specs.Body.{done, action}
use Rattle.hpr_syntax.specs.Tree.{Tree}
use Rattle.hpr_meaning.specs.Any.Kept.{Ends}
use Rattle.hpr_any.specs.MeaningOf.{MeaningOf, by_reads}
use Rattle.hpr_any.specs.Opaque.{foreign, opaque}

stable_number : (v w : ℕ) → ¬ (¬ (v ≡ w)) → v ≡ w
stable_number v w n = go (ℕ_discrete v w)
  where
    go : Dec (v ≡ w) → v ≡ w
    go (yes e) = e
    go (no m) = absurd (n m)

-- the text 7 adds 100 to the one value that it uses; no other text is known
abbrev text : Option ℕ → List ℕ → Result ℕ ℕ
text (Some k) (v ∷ []) = Ok (v + 100)
text _ _ = Err 0

abbrev m : MeaningOf ℕ ℕ
m = opaque text (λ v. true) stable_number

abbrev program : Tree
program = record {
  issued = [];
  body = action (record { author = 1; serial = 1 }) (assigns (120 ∷ []) (foreign 7 ((121 ∷ []) ∷ []))) done;
  finals = (120 ∷ []) ∷ [];
}

-- from the state in which each name is 5, it ends with x being 105
ends_so : Ends (by_reads m) program (λ x. 5) 1 ((120 ∷ [], 105) ∷ [])
ends_so = (1, refl)
