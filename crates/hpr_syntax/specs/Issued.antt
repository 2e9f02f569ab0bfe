-- Issued numbers: pairs of an author and the greatest serial that was ever issued to it.
--
-- Issued                == a list of pairs of an author and a number
-- IsIssued issued       == the authors ascend, and each number is at least 1
-- issued_to a issued    == the number of author a, 0 where it has none
-- raised a n issued     == author a's number is the greater of its own and n; every other author's is as it
--                          was
-- raised_by pairs issued == raised by each of the pairs in turn
-- place_of a issued     == the place of the first pair whose author is not below a
use Rattle.std.specs.Prelude.{ℕ, ◌+◌, ◌≤◌, ◌==◌, nat_lt, nat_le, max, if◌then◌else◌, List, [], ◌∷◌}

abbrev pub Issued : Type 0
Issued = List (ℕ × ℕ)

-- each author is above the one before it, and the first is above the author given
abbrev pub AscendsFrom : ℕ → Issued → Type 0
AscendsFrom low [] = Unit {0}
AscendsFrom low (p ∷ ps) = (low ≤ p.0) × (1 ≤ p.1) × AscendsFrom (p.0 + 1) ps

abbrev pub IsIssued : Issued → Type 0
IsIssued issued = AscendsFrom 0 issued

abbrev pub issued_to : ℕ → Issued → ℕ
issued_to a [] = 0
issued_to a (p ∷ ps) = if p.0 == a then p.1 else issued_to a ps

abbrev pub raised : ℕ → ℕ → Issued → Issued
raised a n [] = (a, n) ∷ []
raised a n (p ∷ ps) = if nat_lt a p.0 then (a, n) ∷ p ∷ ps else if p.0 == a then (a, max p.1 n) ∷ ps else p ∷ raised a n ps

abbrev pub raised_by : List (ℕ × ℕ) → Issued → Issued
raised_by [] issued = issued
raised_by (p ∷ ps) issued = raised_by ps (raised p.0 p.1 issued)

abbrev pub place_of : ℕ → Issued → ℕ
place_of a [] = 0
place_of a (p ∷ ps) = if nat_le a p.0 then 0 else place_of a ps + 1
