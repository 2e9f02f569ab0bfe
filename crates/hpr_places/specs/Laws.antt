-- What is so of every text whose tokens have places.
--
-- bytes_at bytes p == the bytes at the place p
-- TokensStand      == the tokens are those of the text, and each is spelled by the bytes at its place
use Rattle.std.specs.Prelude.{ℕ, false, List, take, drop, All}
use Rattle.hpr_terms.specs.Tokens.{IsToken, Text}
use Rattle.hpr_places.specs.declared.place.Place.{Place}
use Rattle.hpr_places.specs.Places.{Located, TextAt, tokens_of}

abbrev pub bytes_at : List ℕ → Place → List ℕ
bytes_at bytes p = take p.length (drop p.first bytes)

abbrev pub TokensStand : Type 0
TokensStand =
    (bytes : List ℕ) (ts : List Located) → TextAt false 0 bytes ts → Text false bytes (tokens_of ts) × All (λ t. IsToken (bytes_at bytes t.place) t.token) ts
