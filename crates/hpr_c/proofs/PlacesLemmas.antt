-- What is told of places, and that no number of it is a float.
use Rattle.std.proofs.Common.{◌≡◌, ℕ, false, List, [], ◌∷◌, Result, Ok, Err, refl, codes}
use Rattle.std.specs.Prelude.{IfOk}
use Rattle.serde_json.specs.Written.{has_float}
use Rattle.hpr_syntax.specs.Grammar.{tagged}
use Rattle.hpr_refusals.specs.Refusals.{IsCauseIn}
use Rattle.hpr_refusals.specs.declared.files.Refusal.{Refusal}
use Rattle.hpr_places.specs.declared.place.Placed.{Placed}
use Rattle.hpr_json.specs.Answers.{json_line}
use Rattle.hpr_json.specs.Refusals.{refusal_data}
use Rattle.hpr_c.specs.Places.{TellsRefusal, places_data}

pub places_whole : (places : List Placed) → has_float (places_data places) ≡ false
places_whole [] = refl
places_whole (placed ∷ places) = places_whole places

-- the line of a refusal whose cause the bytes have
pub refusal_told : {A E : Type 0} (result : Result A E) (number : A → ℕ) (text : A → List ℕ) (bytes : List ℕ) (why : Refusal)
    → IsCauseIn tagged bytes why → IfOk result (λ a. text a ≡ json_line (refusal_data (codes "text") why))
    → IfOk result (λ a. number a ≡ 4 → TellsRefusal bytes (text a))
refusal_told (Ok a) number text bytes why cause told = λ _. (why, cause, told)
refusal_told (Err e) number text bytes why cause told = tt
