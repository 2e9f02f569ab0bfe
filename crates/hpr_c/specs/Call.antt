-- What a call over memory hands out.
--
-- put_front text old == a room in which the first bytes of `old` are replaced by those of the text, as many
--                       as it holds
-- Puts text size old new == the text has this size, and the room `old` became `new` by taking its front
-- HandsOut sizes out_old out_new err_old err_new P == two texts that have P were handed out: their sizes, and
--                                                     their fronts in two rooms
-- change before now old new == what a sink became whose failures were and are so many, and whose text was and
--                              is this
-- kept text              == what a sink became that never failed and took this text
-- RanOut number out err  == the number is 8, and both texts are empty: there was no memory
-- IsTold texts files before now number out err == the number and the texts are those of a call of
--                                                 hpr_app::hpr with these words over a shelf that tells these
--                                                 files, and no write of it failed. `before` and `now` are
--                                                 the shelf's counts of failures
-- Tells texts files before now number out err == the same, or memory ran out
-- TellsOver texts files number out err == the same of a shelf that holds these files, and had not failed
--                                         before
-- TellsNothing number out err == the number is 64, or 8 where memory ran out first, and both texts are empty
use Rattle.std.specs.Prelude.{◌≡◌, ◌⊎◌, ℕ, min, List, [], ◌++◌, length, take, drop, Option, Some}
use Rattle.hpr_io.specs.Files.{Files}
use Rattle.hpr_words.specs.Request.{Text}
use Rattle.hpr_decisions.specs.Ends.{Change}
use Rattle.hpr_decisions.specs.Number.{number_of}
use Rattle.hpr_decisions.specs.declared.status.Status.{Status}
use Rattle.hpr_c.specs.Ends.{EndsAsHpr}
use Rattle.hpr_c.specs.declared.HprSizes.{HprSizes}

abbrev pub put_front : List ℕ → List ℕ → List ℕ
put_front text old = take (min (length text) (length old)) text ++ drop (min (length text) (length old)) old

abbrev pub Puts : List ℕ → ℕ → List ℕ → List ℕ → Type 0
Puts text size old new = (size ≡ length text) × (new ≡ put_front text old)

abbrev pub HandsOut : HprSizes → (out_old out_new err_old err_new : List ℕ) → (List ℕ → List ℕ → Type 0) → Type 0
HandsOut sizes out_old out_new err_old err_new P =
    (out err : List ℕ) × Puts out sizes.out out_old out_new × Puts err sizes.err err_old err_new × P out err

abbrev pub change : (before now : ℕ) → (old new : List ℕ) → Change
change before now old new = record { before = before; now = now; old = Some old; new = Some new }

abbrev pub kept : List ℕ → Change
kept text = change 0 0 [] text

abbrev pub RanOut : ℕ → List ℕ → List ℕ → Type 0
RanOut number out err = (number ≡ 8) × (out ≡ []) × (err ≡ [])

pub record IsTold (texts : List Text) (files : Option Files) (before now number : ℕ)
    (out err : List ℕ) : Type 0 where
  pub s : Status
  pub number_is : number ≡ number_of s
  pub ends : EndsAsHpr texts files s before now (kept out) (kept err)

abbrev pub Tells : List Text → Option Files → (before now number : ℕ) → (out err : List ℕ) → Type 0
Tells texts files before now number out err = IsTold texts files before now number out err ⊎ RanOut number out err

abbrev pub TellsOver : List Text → Files → ℕ → List ℕ → List ℕ → Type 0
TellsOver texts files number out err = (failed : ℕ) × Tells texts (Some files) 0 failed number out err

abbrev pub TellsNothing : ℕ → List ℕ → List ℕ → Type 0
TellsNothing number out err = ((number ≡ 64) ⊎ (number ≡ 8)) × (out ≡ []) × (err ≡ [])
