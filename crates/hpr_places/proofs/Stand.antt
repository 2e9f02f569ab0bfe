-- Located tokens are the tokens of the text, each spelled by the bytes at its place.
use Rattle.std.proofs.Common.{◌≡◌, ℕ, zero, suc, ◌+◌, ◌<◌, List, ◌++◌, length, get_or, take, drop, All, Bool, false, refl, sym, ap, subst, ◌∙◌, arith}
use Rattle.std.proofs.Math.Seq.{take-append_seam}
use Rattle.hpr_terms.specs.Tokens.{IsToken, Text}
use Rattle.hpr_terms.specs.Tokens as tokens
use Rattle.hpr_places.specs.Places.{Located, TextAt, ending, token, tokens_of}
use Rattle.hpr_places.specs.Laws.{bytes_at}
use Rattle.hpr_places.proofs.Bytes.{drop_on}

text_of : {w : Bool} {n : ℕ} {bytes : List ℕ} {ts : List Located} → TextAt w n bytes ts → Text w bytes (tokens_of ts)
text_of (ending e) = tokens.ending e
text_of (token blanks text k h a more) = tokens.token blanks text k h a (text_of more)

stands : {w : Bool} {n : ℕ} {bs : List ℕ} {ts : List Located} → TextAt w n bs ts → (bytes : List ℕ) → drop n bytes ≡ bs → (k : ℕ) (d : Located) → k < length ts
    → IsToken (bytes_at bytes (get_or ts k d).place) (get_or ts k d).token
stands (ending e) bytes h k d lt = absurd (omega (arith, lt))
stands {n = n} (token blanks text {rest = rest} {t = t} b is a more) bytes h zero d lt =
    let here = drop_on n bytes blanks (text ++ rest) h in
    subst (λ v. IsToken v t) (sym (ap (take (length text)) here ∙ take-append_seam text rest)) is
stands {n = n} (token blanks text {rest = rest} b is a more) bytes h (suc k) d lt =
    let here = drop_on n bytes blanks (text ++ rest) h in
    stands more bytes (drop_on (n + length blanks) bytes text rest here) k d (omega arith)

pub tokens_stand : (bytes : List ℕ) (ts : List Located) → TextAt false 0 bytes ts → Text false bytes (tokens_of ts) × All (λ t. IsToken (bytes_at bytes t.place) t.token) ts
tokens_stand bytes ts x = (text_of x, stands x bytes refl)
