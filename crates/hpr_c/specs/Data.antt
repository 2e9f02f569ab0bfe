-- What a call that tells data hands out.
--
-- HandsOne size old new P == a text that has P was handed out: its size, and its front in the room
-- IsAnswer texts files number text == the text is the line of the object that tells what comes of the request
--                                     that these texts are taken as, if they are one, over these files; and
--                                     the number is that of its status
-- TellsData texts files number text == the same, or the number is 8 and the text empty: there was no memory
-- TellsNoData number text == the number is 64, or 8 where memory ran out first, and the text is empty
use Rattle.std.specs.Prelude.{◌≡◌, ◌⊎◌, ℕ, List, []}
use Rattle.hpr_io.specs.Files.{Files}
use Rattle.hpr_words.specs.Request.{Text}
use Rattle.hpr_words.specs.Taken.{taken}
use Rattle.hpr_decisions.specs.Number.{number_of}
use Rattle.hpr_json.specs.Answers.{json_line}
use Rattle.hpr_data.specs.Findings.{Finding, Finds}
use Rattle.hpr_data.specs.Told.{data_of, status_of}
use Rattle.hpr_c.specs.Call.{Puts}

abbrev pub HandsOne : ℕ → (old new : List ℕ) → (List ℕ → Type 0) → Type 0
HandsOne size old new P = (text : List ℕ) × Puts text size old new × P text

abbrev pub IsAnswer : List Text → Files → ℕ → List ℕ → Type 0
IsAnswer texts files number text =
    (f : Finding) × Finds (taken texts) files f × (number ≡ number_of (status_of f)) × (text ≡ json_line (data_of f))

abbrev pub TellsData : List Text → Files → ℕ → List ℕ → Type 0
TellsData texts files number text = IsAnswer texts files number text ⊎ ((number ≡ 8) × (text ≡ []))

abbrev pub TellsNoData : ℕ → List ℕ → Type 0
TellsNoData number text = ((number ≡ 64) ⊎ (number ≡ 8)) × (text ≡ [])
