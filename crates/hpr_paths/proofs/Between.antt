-- A definition between two parts of one block cuts every path between them.
use Rattle.hpr_terms.specs.declared.tag.Tag.{Tag}
use Rattle.std.proofs.Common.{◌≡◌, List, ◌⊎◌, Option, refl, sym, subst, ◌∙◌, inl, inr}
use Rattle.hpr_syntax.specs.Paths.{Path}
use Rattle.hpr_syntax.specs.Skeleton.{Skeleton, act, fork, round, Point, at, StandsIn, Distinct}
use Rattle.hpr_syntax.specs.Pairs.{Next, first_of, FollowsIn}
use Rattle.hpr_paths.proofs.Regions.{Within, FromFirst, last_entry}
use Rattle.hpr_paths.proofs.Ahead.{IsOutside, stands_in?, pair_from}
use Rattle.hpr_paths.proofs.DirectWays.{Inner, inner_after_act, inner_after_fork, inner_after_round}

-- s is the block, or what follows one of its parts
pub data Suffix (s : Skeleton) : Skeleton → Type 0 where
  self : Suffix s s
  by_act : {t : Tag} {k : Skeleton} → Suffix s k → Suffix s (act t k)
  by_fork : {t : Tag} {b c k : Skeleton} → Suffix s k → Suffix s (fork t b c k)
  by_round : {t : Tag} {b k : Skeleton} → Suffix s k → Suffix s (round t b k)

pub suffix_in : (s B : Skeleton) → Suffix s B → (p : Point) → StandsIn s p → StandsIn B p
suffix_in s _ self p i = i
suffix_in s _ (by_act {k = k} h) p i = inr (suffix_in s k h p i)
suffix_in s _ (by_fork {k = k} h) p i = inr (inr (inr (suffix_in s k h p i)))
suffix_in s _ (by_round {k = k} h) p i = inr (inr (suffix_in s k h p i))

suffix_head : (s B : Skeleton) (n : Next) → Distinct B → Suffix s B → StandsIn s (first_of B n).0 → (first_of s n).0 ≡ (first_of B n).0
suffix_head s _ n di self i = refl
suffix_head s _ n di (by_act {t = t} {k = k} h) i = absurd (di.0 (suffix_in s k h (at t) i))
suffix_head s _ n di (by_fork {t = t} {k = k} h) i = absurd (di.2 (suffix_in s k h (at t) i))
suffix_head s _ n di (by_round {t = t} {k = k} h) i = absurd (di.1 (suffix_in s k h (at t) i))

below : (s B k : Skeleton) (n : Next) → Inner B n k n → Distinct k → Suffix s k
    → ((a z : Point) (m : Option Tag) → FollowsIn k n a z m → ¬ StandsIn s a → StandsIn s z → (first_of s n).0 ≡ z)
    → (a z : Point) (m : Option Tag) → FollowsIn B n a z m → ¬ StandsIn s a → StandsIn s z → Dec (StandsIn k a) → (first_of s n).0 ≡ z
below s B k n u dk h ih a z m r na iz (yes ia) = ih a z m (u.inwards a z m r ia) na iz
below s B k n u dk h ih a z m r na iz (no nk) =
    let e = u.by_first a z m r nk (suffix_in s k h z iz) in
    suffix_head s k n dk h (subst (StandsIn s) (sym e) iz) ∙ e

pub suffix_entry : (s B : Skeleton) (n : Next) → Distinct B → IsOutside n B → Suffix s B
    → (a z : Point) (m : Option Tag) → FollowsIn B n a z m → ¬ StandsIn s a → StandsIn s z → (first_of s n).0 ≡ z
suffix_entry s _ n di fr self a z m r na iz = absurd (na (pair_from s n a z m r))
suffix_entry s _ n di fr (by_act {t = t} {k = k} h) a z m r na iz =
    below s (act t k) k n (inner_after_act t k n di fr) di.1 h (suffix_entry s k n di.1 (λ x. fr (inr x)) h) a z m r na iz (stands_in? k a)
suffix_entry s _ n di fr (by_fork {t = t} {b = b} {c = c} {k = k} h) a z m r na iz =
    below s (fork t b c k) k n (inner_after_fork t b c k n di fr) di.8 h (suffix_entry s k n di.8 (λ x. fr (inr (inr (inr x)))) h) a z m r na iz (stands_in? k a)
suffix_entry s _ n di fr (by_round {t = t} {b = b} {k = k} h) a z m r na iz =
    below s (round t b k) k n (inner_after_round t b k n di fr) di.4 h (suffix_entry s k n di.4 (λ x. fr (inr (inr x))) h) a z m r na iz (stands_in? k a)

-- c defines: a path from before c to after it passes c, so it is not undisturbed
pub cut : (B : Skeleton) (n : Next) (Stops : Point → Type 0) → Distinct B → IsOutside n B → (c : Tag) (k : Skeleton) → Suffix (act c k) B → Distinct (act c k) → Stops (at c)
    → (d u : Point) (ms : List (Option Tag)) → ¬ StandsIn (act c k) d → StandsIn k u → Path (FollowsIn B n) Stops d u ms → ⊥
cut B n Stops di fr c k h dc def d u ms nd iu p =
    go (last_entry (FollowsIn B n) (StandsIn (act c k)) Stops (at c) (stands_in? (act c k)) (suffix_entry (act c k) B n di fr h) d u ms p (inr iu))
  where
    go : (StandsIn (act c k) d × Path (Within (FollowsIn B n) (StandsIn (act c k))) Stops d u ms) ⊎ FromFirst (FollowsIn B n) (StandsIn (act c k)) Stops (at c) u → ⊥
    go (inl x) = nd x.0
    go (inr (inl e)) = dc.0 (subst (StandsIn k) (sym e) iu)
    go (inr (inr x)) = x.1 def
