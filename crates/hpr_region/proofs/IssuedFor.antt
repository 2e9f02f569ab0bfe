-- Issued numbers that allow the tags of some items.
use Rattle.std.proofs.Common.{◌≡◌, ℕ, zero, suc, ◌<◌, ◌≤◌, ◌^◌, ◌==◌, nat_lt, max, inl, inr, Bool, true, false, if◌then◌else◌, Some, List, [], ◌∷◌, All, slice_get, refl, sym, subst, arith}
use Rattle.std.proofs.Math.Nat.{max-le, le-max_left, le-max_right}
use Rattle.std.proofs.lemmas.Bool.{cases_eq}
use Rattle.hpr_terms.specs.declared.tag.Tag.{Tag}
use Rattle.hpr_terms.proofs.Facts.{some_inj}
use Rattle.hpr_syntax.specs.Issued.{Issued, IsIssued, issued_to, raised}
use Rattle.hpr_syntax.specs.Proper.{IsProperPair, IsProperTag}
use Rattle.hpr_syntax.proofs.IssuedLemmas.{raised_keeps, raised_greater, raised_others}

max_below : (a b m : ℕ) → a < m → b < m → max a b < m
max_below a b zero la lb = absurd (omega (arith, la))
max_below a b (suc k) la lb = let le : max a b ≤ k = max-le (omega (arith, la)) (omega (arith, lb)) in omega (arith, le)

abbrev AllPairs : Issued → Type 0
AllPairs [] = Unit {0}
AllPairs (p ∷ ps) = IsProperPair p × AllPairs ps

pairs_at : (ps : Issued) → AllPairs ps → All IsProperPair ps
pairs_at [] h k d lt = absurd (omega (arith, lt))
pairs_at (p ∷ ps) h zero d lt = h.0
pairs_at (p ∷ ps) h (suc k) d lt = pairs_at ps h.1 k d (omega (arith, lt))

raised_pairs : (a n : ℕ) (ps : Issued) → a < 2 ^ 32 → n < 2 ^ 32 → AllPairs ps → AllPairs (raised a n ps)
raised_pairs a n [] la ln h = ((la, ln), tt)
raised_pairs a n (p ∷ ps) la ln h = at (nat_lt a p.0) (p.0 == a) (raised_pairs a n ps la ln h.1)
  where
    at : (b c : Bool) → AllPairs (raised a n ps) → AllPairs (if b then (a, n) ∷ p ∷ ps else if c then (a, max p.1 n) ∷ ps else p ∷ raised a n ps)
    at true c more = ((la, ln), h)
    at false true more = ((la, max_below p.1 n (2 ^ 32) h.0.1 ln), h.1)
    at false false more = (h.0, more)

-- the serial of each of these tags is at least 1, and both numbers are in range
abbrev pub MayBeIssued : List Tag → Type 0
MayBeIssued [] = Unit {0}
MayBeIssued (t ∷ ts) = ((1 ≤ t.serial) × IsProperTag t) × MayBeIssued ts

abbrev pub IsAllowedBy : Issued → Tag → Type 0
IsAllowedBy issued t = (1 ≤ t.serial) × (t.serial ≤ issued_to t.author issued)

abbrev pub AreAllowedBy : Issued → List Tag → Type 0
AreAllowedBy issued [] = Unit {0}
AreAllowedBy issued (t ∷ ts) = IsAllowedBy issued t × AreAllowedBy issued ts

higher : (a n : ℕ) (issued : Issued) (other : ℕ) → IsIssued issued → issued_to other issued ≤ issued_to other (raised a n issued)
higher a n issued other up = elim (cases_eq other a) [
  | inl same ↦ subst (λ z. issued_to z issued ≤ issued_to z (raised a n issued)) (sym same)
      (let e = raised_greater a n issued up in let le = le-max_left (issued_to a issued) n in omega (arith, e, le))
  | inr ne ↦ (let e = raised_others a n issued other ne in omega (arith, e))
]

still : (a n : ℕ) (issued : Issued) (ts : List Tag) → IsIssued issued → AreAllowedBy issued ts → AreAllowedBy (raised a n issued) ts
still a n issued [] up h = tt
still a n issued (t ∷ ts) up h = ((h.0.0, (let le = higher a n issued t.author up in let was = h.0.1 in omega (arith, le, was))), still a n issued ts up h.1)

pub issued_for : (ts : List Tag) → MayBeIssued ts → (issued : Issued) × (IsIssued issued × AllPairs issued) × AreAllowedBy issued ts
issued_for [] h = ([], (tt, tt), tt)
issued_for (t ∷ ts) h =
    let (issued, (up, pairs), all) = issued_for ts h.1 in (
      raised t.author t.serial issued,
      (raised_keeps t.author t.serial issued h.0.0 up, raised_pairs t.author t.serial issued h.0.1.0 h.0.1.1 pairs),
      (
        (h.0.0, (let e = raised_greater t.author t.serial issued up in let le = le-max_right (issued_to t.author issued) t.serial in omega (arith, e, le))),
        still t.author t.serial issued ts up all,
      ),
    )

pub proper_pairs : (issued : Issued) → AllPairs issued → All IsProperPair issued
proper_pairs issued h = pairs_at issued h

pub allowed_at : (issued : Issued) (ts : List Tag) (k : ℕ) (t : Tag) → AreAllowedBy issued ts → slice_get ts k ≡ Some t → IsAllowedBy issued t
allowed_at issued [] k t h e = absurd cc
allowed_at issued (u ∷ ts) zero t h e = subst (IsAllowedBy issued) (some_inj u t e) h.0
allowed_at issued (u ∷ ts) (suc k) t h e = allowed_at issued ts k t h.1 e

pub may_be_issued : (ts : List Tag) → ((k : ℕ) (t : Tag) → slice_get ts k ≡ Some t → (1 ≤ t.serial) × IsProperTag t) → MayBeIssued ts
may_be_issued [] h = tt
may_be_issued (t ∷ ts) h = (h 0 t refl, may_be_issued ts (λ k u e. h (suc k) u e))
