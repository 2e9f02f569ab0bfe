-- Two tags are the same or not, by their numbers; and so are the points of two parts.
use Rattle.std.proofs.Common.{◌≡◌, ap}
use native.Mathlib.Decide.{ℕ_discrete}
use Rattle.hpr_terms.specs.declared.tag.Tag.{Tag}
use Rattle.hpr_syntax.specs.Skeleton.{Point, at}

pub tag_discrete : (s t : Tag) → Dec (s ≡ t)
tag_discrete s t = go (ℕ_discrete s.author t.author) (ℕ_discrete s.serial t.serial)
  where
    go : Dec (s.author ≡ t.author) → Dec (s.serial ≡ t.serial) → Dec (s ≡ t)
    go (yes a) (yes b) = yes (λ i. record { author = a i; serial = b i })
    go (no n) d = no (λ e. n (ap (λ (x : Tag). x.author) e))
    go (yes a) (no n) = no (λ e. n (ap (λ (x : Tag). x.serial) e))

abbrev tag_or : Point → Tag → Tag
tag_or (at t) u = t
tag_or _ u = u

pub same_at : {t u : Tag} → at t ≡ at u → t ≡ u
same_at {t = t} e = ap (λ p. tag_or p t) e
