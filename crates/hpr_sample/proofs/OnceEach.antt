-- Tags that stand once each.
use Rattle.std.proofs.Common.{◌≡◌, ℕ, zero, suc, ◌+◌, ◌<◌, ◌≤◌, Bool, true, false, ◌||◌, List, [], ◌∷◌, Some, None, if◌then◌else◌, refl, sym, ap, subst, arith}
use Rattle.std.specs.List.{list_any}
use Rattle.hpr_terms.specs.declared.tag.Tag.{Tag}
use Rattle.hpr_syntax.specs.Parts.{same_tag}
use Rattle.hpr_syntax.specs.Shape.{first_repeated}
use Rattle.hpr_syntax.proofs.TagLemmas.{same_tag_is, same_tag_itself}
use Rattle.hpr_edit.specs.InPlace.{one_if}
use Rattle.hpr_edit.proofs.Tags.{count}
use Rattle.hpr_sample.specs.Sample.{tag}
use Rattle.hpr_sample.proofs.MadeBodies.{tags_from}

-- where each tag is listed once, and none of those seen is, none is repeated
pub none_repeated : (seen ts : List Tag) → ((t : Tag) → list_any (same_tag t) seen ≡ true → count t ts ≡ 0) → ((t : Tag) → count t ts ≤ 1) → first_repeated same_tag seen ts ≡ None
none_repeated seen [] new once = refl
none_repeated seen (u ∷ us) new once = go (list_any (same_tag u) seen) refl (λ h k. none_repeated (u ∷ seen) us h k)
  where
    own : count u (u ∷ us) ≡ suc (count u us)
    own = rw (same_tag_itself u) (omega arith)

    later : (t : Tag) (b : Bool) → same_tag t u ≡ b → (b || list_any (same_tag t) seen) ≡ true → count t us ≡ 0
    later t true same any = subst (λ (x : Tag). count x us ≡ 0) (sym (same_tag_is t u same)) (omega (arith, own, once u))
    later t false same any = omega (arith, new t any)

    go : (b : Bool) → list_any (same_tag u) seen ≡ b
        → (((t : Tag) → list_any (same_tag t) (u ∷ seen) ≡ true → count t us ≡ 0) → ((t : Tag) → count t us ≤ 1) → first_repeated same_tag (u ∷ seen) us ≡ None)
        → (if b then Some u else first_repeated same_tag (u ∷ seen) us) ≡ None
    go true any rest = absurd (omega (arith, own, new u any))
    go false any rest = rest (λ t h. later t (same_tag t u) refl h) (λ t. omega (arith, once t))

-- a tag of the list, and where its serial lies
pub record IsFrom (n serial : ℕ) (t : Tag) : Type 0 where
  pub author : t.author ≡ 1
  pub above : serial ≤ t.serial
  pub below : t.serial < serial + n

from_first : (n serial : ℕ) (t : Tag) → tag 1 serial ≡ t → IsFrom (suc n) serial t
from_first n serial t is =
    let author : 1 ≡ t.author = ap (λ (x : Tag). x.author) is in
    let serial_is : serial ≡ t.serial = ap (λ (x : Tag). x.serial) is in
    record { author = sym author; above = omega (arith, serial_is); below = omega (arith, serial_is) }

pub from_counted : (n serial : ℕ) (t : Tag) → 1 ≤ count t (tags_from n serial []) → IsFrom n serial t
from_counted zero serial t h = absurd (omega (arith, h))
from_counted (suc n) serial t h = go (same_tag (tag 1 serial) t) refl h (λ k. from_counted n (serial + 1) t k)
  where
    go : (b : Bool) → same_tag (tag 1 serial) t ≡ b → 1 ≤ one_if b + count t (tags_from n (serial + 1) [])
        → (1 ≤ count t (tags_from n (serial + 1) []) → IsFrom n (serial + 1) t) → IsFrom (suc n) serial t
    go true same k rest = from_first n serial t (same_tag_is (tag 1 serial) t same)
    go false same k rest =
        let later = rest (omega (arith, k)) in
        record { author = later.author; above = omega (arith, later.above); below = omega (arith, later.below) }

pub once_from : (n serial : ℕ) (t : Tag) → count t (tags_from n serial []) ≤ 1
once_from zero serial t = omega arith
once_from (suc n) serial t = go (same_tag (tag 1 serial) t) refl (count t (tags_from n (serial + 1) [])) refl (once_from n (serial + 1) t)
  where
    go : (b : Bool) → same_tag (tag 1 serial) t ≡ b → (k : ℕ) → count t (tags_from n (serial + 1) []) ≡ k → count t (tags_from n (serial + 1) []) ≤ 1 → one_if b + k ≤ 1
    go true same zero is le = omega arith
    go true same (suc k) is le =
        let later = from_counted n (serial + 1) t (omega (arith, is)) in
        let own : serial ≡ t.serial = ap (λ (x : Tag). x.serial) (same_tag_is (tag 1 serial) t same) in
        absurd (omega (arith, own, later.above))
    go false same k is le = omega (arith, is, le)
