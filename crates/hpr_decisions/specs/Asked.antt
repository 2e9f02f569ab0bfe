-- What is asked of a call, and what its output took.
--
-- asked_by words           == the request that the words are taken as, if they are one
-- WhereAsked words told P  == P of the request that the words are taken as and of the files that the shelf
--                             tells: where they are one, and it tells them
-- Took old new P           == from old to new an output took some bytes that have P, where it tells what it
--                             took
use Rattle.std.specs.Prelude.{◌≡◌, ℕ, List, Option, Some, String, map, string_bytes}
use Rattle.std.specs.Global.{Global}
use Rattle.hpr_io.specs.Files.{Files}
use Rattle.hpr_io.specs.Taken.{taken_then}
use Rattle.hpr_words.specs.Request.{Request}
use Rattle.hpr_words.specs.Taken.{taken}

abbrev pub asked_by : List (String Global) → Option Request
asked_by words = taken (map string_bytes words)

abbrev pub WhereAsked : List (String Global) → Option Files → (Request → Files → Type 0) → Type 0
WhereAsked words told P = (request : Request) (files : Files) → asked_by words ≡ Some request → told ≡ Some files → P request files

abbrev pub Took : Option (List ℕ) → Option (List ℕ) → (List ℕ → Type 0) → Type 0
Took old new P = (bytes : List ℕ) × (new ≡ taken_then old bytes) × P bytes
