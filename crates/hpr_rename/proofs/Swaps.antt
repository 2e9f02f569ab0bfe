-- What is replaced one to one is so replaced by a map that takes each back: it swaps each with its new one. So it is with the tags of a tree.
use Rattle.std.proofs.Common.{◌≡◌, ◌⊎◌, List, [], Contains, refl, sym, ap, subst, ◌∙◌, inl, inr}
use Rattle.hpr_terms.specs.declared.tag.Tag.{Tag}
use Rattle.hpr_syntax.specs.Body.{Body, done, action, branch, loop}
use Rattle.hpr_syntax.specs.Issued.{Issued}
use Rattle.hpr_syntax.specs.Parts.{tags_of}
use Rattle.hpr_syntax.specs.Skeleton.{at, StandsIn, skeleton}
use Rattle.hpr_syntax.specs.Tree.{Tree}
use Rattle.hpr_closure.proofs.Decided.{Decided}
use Rattle.hpr_closure.proofs.Decisions.{some_decided}
use Rattle.hpr_closure.proofs.TreeDecided.{tag_decided}
use Rattle.hpr_rename.specs.Renamed.{body_with, tree_with}
use Rattle.hpr_rename.specs.Replaced.{IsTagOf}
use Rattle.hpr_rename.proofs.Skeletons.{GoesBack}
use Rattle.hpr_rename.proofs.Tags.{listed}

module _ {X : Type 0} (decided : (t u : X) → Decided (t ≡ u)) (r : X → X) (ts : List X) where
  -- u is one of them, or none of them is
  abbrev pub Known : X → Type 0
  Known u = ((t : X) × Contains ts t × (t ≡ u)) ⊎ ((t : X) → Contains ts t → ¬ (t ≡ u))

  -- one of them is replaced by u, or none is
  abbrev pub Came : X → Type 0
  Came u = ((t : X) × Contains ts t × (r t ≡ u)) ⊎ ((t : X) → Contains ts t → ¬ (r t ≡ u))

  pub known : (u : X) → Known u
  known u = some_decided (λ t. t ≡ u) (λ t. decided t u) ts

  pub came : (u : X) → Came u
  came u = some_decided (λ t. r t ≡ u) (λ t. decided (r t) u) ts

  abbrev pub swap_by : (u : X) → Known u → Came u → X
  swap_by u (inl one) c = r u
  swap_by u (inr none) (inl (t, h, e)) = t
  swap_by u (inr none) (inr new) = u

  abbrev pub swap : X → X
  swap u = swap_by u (known u) (came u)

  of_known : (u : X) (k : Known u) (c : Came u) → Contains ts u → swap_by u k c ≡ r u
  of_known u (inl one) c h = refl
  of_known u (inr none) c h = absurd (none u h refl)

  of_new : (u : X) (k : Known u) (c : Came u) → ((t : X) → Contains ts t → ¬ (t ≡ u)) → ((t : X) → Contains ts t → ¬ (r t ≡ u)) → swap_by u k c ≡ u
  of_new u (inl (t, h, e)) c none new = absurd (none t h e)
  of_new u (inr n) (inl (t, h, e)) none new = absurd (new t h e)
  of_new u (inr n) (inr m) none new = refl

  pub swap_known : (u : X) → Contains ts u → swap u ≡ r u
  swap_known u h = of_known u (known u) (came u) h

  pub swap_new : (u : X) → ((t : X) → Contains ts t → ¬ (t ≡ u)) → ((t : X) → Contains ts t → ¬ (r t ≡ u)) → swap u ≡ u
  swap_new u none new = of_new u (known u) (came u) none new

  module _ (one_to_one : (u v : X) → Contains ts u → Contains ts v → r u ≡ r v → u ≡ v) (own_or_new : (u : X) → Contains ts u → (r u ≡ u) ⊎ ¬ Contains ts (r u)) where
    of_came : (u : X) (k : Known u) (c : Came u) → ¬ Contains ts u → (t : X) → Contains ts t → r t ≡ u → swap_by u k c ≡ t
    of_came u (inl (v, g, is)) c out t h e = absurd (out (subst (λ (w : X). Contains ts w) is g))
    of_came u (inr none) (inl (v, g, is)) out t h e = one_to_one v t g h (is ∙ sym e)
    of_came u (inr none) (inr new) out t h e = absurd (new t h e)

    swap_came : (u : X) → ¬ Contains ts u → (t : X) → Contains ts t → r t ≡ u → swap u ≡ t
    swap_came u out t h e = of_came u (known u) (came u) out t h e

    back_known : (u : X) → Contains ts u → (r u ≡ u) ⊎ ¬ Contains ts (r u) → swap (swap u) ≡ u
    back_known u h (inl own) = ap swap (swap_known u h ∙ own) ∙ swap_known u h ∙ own
    back_known u h (inr new) = ap swap (swap_known u h) ∙ swap_came (r u) new u h refl

    back_by : (u : X) → Known u → Came u → swap (swap u) ≡ u
    back_by u (inl (t, h, e)) c = let here = subst (λ (w : X). Contains ts w) e h in back_known u here (own_or_new u here)
    back_by u (inr none) (inl (t, h, e)) = ap swap (swap_came u (λ g. none u g refl) t h e) ∙ swap_known t h ∙ e
    back_by u (inr none) (inr new) = ap swap (swap_new u none new) ∙ swap_new u none new

    pub swap_back : (u : X) → swap (swap u) ≡ u
    swap_back u = back_by u (known u) (came u)

agree : (f r : Tag → Tag) (b : Body) → ((u : Tag) → StandsIn (skeleton b) (at u) → f u ≡ r u) → body_with f b ≡ body_with r b
agree f r done same = refl
agree f r (action t d rest) same = let p = same t (inl refl) in let q = agree f r rest (λ u h. same u (inr h)) in (λ i. action (p i) d (q i))
agree f r (branch t e a b rest) same =
    let p = same t (inl refl) in
    let left = agree f r a (λ u h. same u (inr (inl h))) in
    let right = agree f r b (λ u h. same u (inr (inr (inl h)))) in
    let q = agree f r rest (λ u h. same u (inr (inr (inr h)))) in
    (λ i. branch (p i) e (left i) (right i) (q i))
agree f r (loop t e b rest) same =
    let p = same t (inl refl) in
    let inside = agree f r b (λ u h. same u (inr (inl h))) in
    let q = agree f r rest (λ u h. same u (inr (inr h))) in
    (λ i. loop (p i) e (inside i) (q i))

-- different tags of the tree become different ones, and each of them itself or a tag that the tree doesn't have
pub record IsReplacement (r : Tag → Tag) (t : Tree) : Type 0 where
  pub one_to_one : (u v : Tag) → IsTagOf t u → IsTagOf t v → r u ≡ r v → u ≡ v
  pub own_or_new : (u : Tag) → IsTagOf t u → (r u ≡ u) ⊎ ¬ IsTagOf t (r u)

pub replaced : (r : Tag → Tag) (t : Tree) → IsReplacement r t
    → (f : Tag → Tag) × GoesBack f × ((u : Tag) → IsTagOf t u → f u ≡ r u) × ((issued : Issued) → tree_with f issued t ≡ tree_with r issued t)
replaced r t is =
    let ts = tags_of t.body [] in
    let same = agree (swap tag_decided r ts) r t.body (λ u h. swap_known tag_decided r ts u (listed t.body [] u h)) in (
      swap tag_decided r ts,
      swap_back tag_decided r ts is.one_to_one is.own_or_new,
      swap_known tag_decided r ts,
      λ issued i. record { issued = issued; body = same i; finals = t.finals },
    )
