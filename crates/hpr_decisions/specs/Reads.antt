-- Which files a call reads.
--
-- files_of request         == the files that a request names, in the order in which they are read
-- files_of_taken request   == the same; none where the words are no call
-- MayRead request told file == the request comes to read this file: it names it, each file that it names
--                              before spells a program, and none of its state words is refused
-- ReadsNothing request     == whatever files the shelf tells, the request comes to read none of them:
--                             `sample`, a refused state word, or words that are no call
use Rattle.std.specs.Prelude.{◌≡◌, List, [], ◌∷◌, Option, Some, None, IsOk}
use Rattle.hpr_io.specs.Files.{Files}
use Rattle.hpr_words.specs.Request.{Request, Text, integrate, integrate_many, run, graph, slice, affected, trial, edit, tag, sample, verify}
use Rattle.hpr_inputs.specs.Reads.{IsReached}
use Rattle.hpr_inputs.specs.States.{states_of}

abbrev pub files_of : Request → List Text
files_of (integrate base a b tries) = base ∷ a ∷ b ∷ []
files_of (integrate_many base variants tries) = base ∷ variants
files_of (run file states steps trace) = file ∷ []
files_of (graph file json) = file ∷ []
files_of (slice file points program) = file ∷ []
files_of (affected base a) = base ∷ a ∷ []
files_of (trial base a b states steps) = base ∷ a ∷ b ∷ []
files_of (edit file script author) = file ∷ script ∷ []
files_of (tag file author) = file ∷ []
files_of (sample seed parts) = []
files_of (verify base a b offered) = base ∷ a ∷ b ∷ offered ∷ []

abbrev pub files_of_taken : Option Request → List Text
files_of_taken None = []
files_of_taken (Some request) = files_of request

abbrev pub MayRead : Request → Option Files → Text → Type 0
MayRead (integrate base a b tries) told file = IsReached told (base ∷ a ∷ b ∷ []) file
MayRead (integrate_many base variants tries) told file = IsReached told (base ∷ variants) file
MayRead (run named states steps trace) told file = (file ≡ named) × IsOk (states_of states)
MayRead (graph named json) told file = file ≡ named
MayRead (slice named points program) told file = file ≡ named
MayRead (affected base a) told file = IsReached told (base ∷ a ∷ []) file
MayRead (trial base a b states steps) told file = IsReached told (base ∷ a ∷ b ∷ []) file × IsOk (states_of states)
MayRead (edit named script author) told file = IsReached told (named ∷ script ∷ []) file
MayRead (tag named author) told file = file ≡ named
MayRead (sample seed parts) told file = ⊥
MayRead (verify base a b offered) told file = IsReached told (base ∷ a ∷ b ∷ offered ∷ []) file

abbrev pub MayReadIfTaken : Option Request → Option Files → Text → Type 0
MayReadIfTaken None told file = ⊥
MayReadIfTaken (Some request) told file = MayRead request told file

abbrev pub ReadsNothing : Option Request → Type 0
ReadsNothing request = (told : Option Files) (file : Text) → MayReadIfTaken request told file → ⊥
