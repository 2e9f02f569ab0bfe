-- Two parts with one control parent stand in one block: where one stands to the left of the other, the other stands behind it in a block inside
-- the program.
use Rattle.std.proofs.Common.{◌≡◌, Bool, true, false, List, [], ◌∷◌, ◌++◌, ◌⊎◌, Some, refl, sym, ap, subst, ◌∙◌, inl, inr}
use Rattle.std.proofs.lemmas.Option.{some_pair_parts}
use Rattle.hpr_terms.specs.declared.tag.Tag.{Tag}
use Rattle.hpr_syntax.specs.Body.{Body, done, action, branch, loop}
use Rattle.hpr_syntax.specs.Nests.{Standing, StandsAs}
use Rattle.hpr_syntax.specs.Pairs.{Next, first_of}
use Rattle.hpr_syntax.specs.Places.{StandsLeft}
use Rattle.hpr_syntax.specs.Rows.{Parent}
use Rattle.hpr_syntax.specs.Skeleton.{Skeleton, nil, act, fork, round, Point, at, StandsIn, Apart, Distinct, skeleton}
use Rattle.hpr_paths.proofs.Says.{standing_in}
use Rattle.hpr_region.proofs.Subblocks.{Subblock, whole, after_act, in_yes, in_no, after_fork, in_body, after_round}
use Rattle.hpr_paths.proofs.Between.{Suffix, self, by_act, by_fork, by_round}

-- the block b begins with the part d, and k follows it
pub data Heads (d : Tag) (k : Skeleton) : Skeleton → Type 0 where
  an_act : Heads d k (act d k)
  a_fork : {x y : Skeleton} → Heads d k (fork d x y k)
  a_round : {x : Skeleton} → Heads d k (round d x k)

-- d heads a block inside B, and c heads what follows it from some part on
pub record StandsBehind (B : Skeleton) (n : Next) (d c : Tag) : Type 0 where
  pub block : Skeleton
  pub next : Next
  pub rest : Skeleton
  pub from : Skeleton
  pub behind : Skeleton
  pub inside : Subblock block next B n
  pub heads : Heads d rest block
  pub suffix : Suffix from rest
  pub begins : Heads c behind from

-- c heads what follows from some part of the block on
abbrev IsOnTop : Skeleton → Tag → Type 0
IsOnTop B c = (s : Skeleton) × (k : Skeleton) × Suffix s B × Heads c k s

-- the control parent is the one around the block, or a part of the block
abbrev IsParentIn : Parent → Skeleton → Parent → Type 0
IsParentIn up B r = (r ≡ up) ⊎ ((p : Tag) × (l : Bool) × (r ≡ Some (p, l)) × StandsIn B (at p))

abbrev IsFresh : Parent → Skeleton → Type 0
IsFresh up B = (p : Tag) (l : Bool) → up ≡ Some (p, l) → ¬ StandsIn B (at p)

deeper_parent : (up : Parent) (B C : Skeleton) (r : Parent) → ((p : Point) → StandsIn B p → StandsIn C p) → IsParentIn up B r → IsParentIn up C r
deeper_parent up B C r f (inl e) = inl e
deeper_parent up B C r f (inr (p, l, e, i)) = inr (p, l, e, f (at p) i)

-- under a part of the block
inner_parent : (up : Parent) (t : Tag) (l : Bool) (B C : Skeleton) (r : Parent) → StandsIn C (at t) → ((p : Point) → StandsIn B p → StandsIn C p) → IsParentIn (Some (t, l)) B r
    → IsParentIn up C r
inner_parent up t l B C r i f (inl e) = inr (t, l, e, i)
inner_parent up t l B C r i f (inr (p, m, e, j)) = inr (p, m, e, f (at p) j)

pub parent_in : (B : Body) (nest : List Tag) (up : Parent) (v : Tag) (s : Standing) → StandsAs nest up B v s → IsParentIn up (skeleton B) s.parent
parent_in done nest up v s h = absurd h
parent_in (action t e rest) nest up v s (inl h) = inl (ap (λ (z : Standing). z.parent) h.1)
parent_in (action t e rest) nest up v s (inr h) = deeper_parent up (skeleton rest) (skeleton (action t e rest)) s.parent (λ p i. inr i) (parent_in rest nest up v s h)
parent_in (branch t e a b rest) nest up v s (inl h) = inl (ap (λ (z : Standing). z.parent) h.1)
parent_in (branch t e a b rest) nest up v s (inr (inl h)) =
    inner_parent up t true (skeleton a) (skeleton (branch t e a b rest)) s.parent (inl refl) (λ p i. inr (inl i)) (parent_in a nest (Some (t, true)) v s h)
parent_in (branch t e a b rest) nest up v s (inr (inr (inl h))) =
    inner_parent up t false (skeleton b) (skeleton (branch t e a b rest)) s.parent (inl refl) (λ p i. inr (inr (inl i))) (parent_in b nest (Some (t, false)) v s h)
parent_in (branch t e a b rest) nest up v s (inr (inr (inr h))) =
    deeper_parent up (skeleton rest) (skeleton (branch t e a b rest)) s.parent (λ p i. inr (inr (inr i))) (parent_in rest nest up v s h)
parent_in (loop t e b rest) nest up v s (inl h) = inl (ap (λ (z : Standing). z.parent) h.1)
parent_in (loop t e b rest) nest up v s (inr (inl h)) =
    inner_parent up t true (skeleton b) (skeleton (loop t e b rest)) s.parent (inl refl) (λ p i. inr (inl i)) (parent_in b (nest ++ (t ∷ [])) (Some (t, true)) v s h)
parent_in (loop t e b rest) nest up v s (inr (inr h)) =
    deeper_parent up (skeleton rest) (skeleton (loop t e b rest)) s.parent (λ p i. inr (inr i)) (parent_in rest nest up v s h)

-- two blocks apart, neither around the other and not under one slot, give no part the same parent
no_common : (up un : Parent) (B C : Skeleton) (r q : Parent) → r ≡ q → IsParentIn up B r → IsParentIn un C q → ¬ (up ≡ un) → IsFresh up C → IsFresh un B → Apart B C → ⊥
no_common up un B C r q same (inl e) (inl f) ne fu fn ap_ = ne (sym e ∙ same ∙ f)
no_common up un B C r q same (inl e) (inr (p, l, f, i)) ne fu fn ap_ = fu p l (sym e ∙ same ∙ f) i
no_common up un B C r q same (inr (p, l, e, i)) (inl f) ne fu fn ap_ = fn p l (sym f ∙ sym same ∙ e) i
no_common up un B C r q same (inr (p, l, e, i)) (inr (s, m, f, j)) ne fu fn ap_ =
    let is : p ≡ s = (some_pair_parts p s l m (sym e ∙ same ∙ f)).0 in
    ap_ (at p) i (subst (λ (z : Tag). StandsIn C (at z)) (sym is) j)

-- what is under the slot around the block stands on top of it
pub on_top : (B : Body) (nest : List Tag) (up : Parent) (v : Tag) (s : Standing) → IsFresh up (skeleton B) → StandsAs nest up B v s → s.parent ≡ up → IsOnTop (skeleton B) v
on_top done nest up v s fr h e = absurd h
on_top (action t e rest) nest up v s fr (inl h) is =
    subst (λ (z : Tag). IsOnTop (skeleton (action t e rest)) z) (sym h.0) (act t (skeleton rest), skeleton rest, self, an_act)
on_top (action t e rest) nest up v s fr (inr h) is =
    let (q, k, suffix, heads) = on_top rest nest up v s (λ p l e i. fr p l e (inr i)) h is in (q, k, by_act suffix, heads)
on_top (branch t e a b rest) nest up v s fr (inl h) is =
    subst (λ (z : Tag). IsOnTop (skeleton (branch t e a b rest)) z) (sym h.0) (fork t (skeleton a) (skeleton b) (skeleton rest), skeleton rest, self, a_fork)
on_top (branch t e a b rest) nest up v s fr (inr (inl h)) is = absurd (elim (parent_in a nest (Some (t, true)) v s h) [
  | inl f ↦ fr t true (sym is ∙ f) (inl refl)
  | inr (p, l, f, i) ↦ fr p l (sym is ∙ f) (inr (inl i))
])
on_top (branch t e a b rest) nest up v s fr (inr (inr (inl h))) is = absurd (elim (parent_in b nest (Some (t, false)) v s h) [
  | inl f ↦ fr t false (sym is ∙ f) (inl refl)
  | inr (p, l, f, i) ↦ fr p l (sym is ∙ f) (inr (inr (inl i)))
])
on_top (branch t e a b rest) nest up v s fr (inr (inr (inr h))) is =
    let (q, k, suffix, heads) = on_top rest nest up v s (λ p l e i. fr p l e (inr (inr (inr i)))) h is in (q, k, by_fork suffix, heads)
on_top (loop t e b rest) nest up v s fr (inl h) is =
    subst (λ (z : Tag). IsOnTop (skeleton (loop t e b rest)) z) (sym h.0) (round t (skeleton b) (skeleton rest), skeleton rest, self, a_round)
on_top (loop t e b rest) nest up v s fr (inr (inl h)) is = absurd (elim (parent_in b (nest ++ (t ∷ [])) (Some (t, true)) v s h) [
  | inl f ↦ fr t true (sym is ∙ f) (inl refl)
  | inr (p, l, f, i) ↦ fr p l (sym is ∙ f) (inr (inl i))
])
on_top (loop t e b rest) nest up v s fr (inr (inr h)) is =
    let (q, k, suffix, heads) = on_top rest nest up v s (λ p l e i. fr p l e (inr (inr i))) h is in (q, k, by_round suffix, heads)

-- nothing stands to the left of the head of a block
left_in : (B : Skeleton) (d u : Point) → StandsLeft B d u → StandsIn B u
left_in nil d u h = absurd h
left_in (act t k) d u (inl h) = inr h.1
left_in (act t k) d u (inr h) = inr (left_in k d u h)
left_in (fork t b c k) d u (inl h) = inr h.1
left_in (fork t b c k) d u (inr (inl (i, inl j))) = inr (inr (inl j))
left_in (fork t b c k) d u (inr (inl (i, inr j))) = inr (inr (inr j))
left_in (fork t b c k) d u (inr (inr (inl h))) = inr (inr (inr h.1))
left_in (fork t b c k) d u (inr (inr (inr (inl h)))) = inr (inl (left_in b d u h))
left_in (fork t b c k) d u (inr (inr (inr (inr (inl h))))) = inr (inr (inl (left_in c d u h)))
left_in (fork t b c k) d u (inr (inr (inr (inr (inr h))))) = inr (inr (inr (left_in k d u h)))
left_in (round t b k) d u (inl h) = inr h.1
left_in (round t b k) d u (inr (inl h)) = inr (inr h.1)
left_in (round t b k) d u (inr (inr (inl h))) = inr (inl (left_in b d u h))
left_in (round t b k) d u (inr (inr (inr h))) = inr (inr (left_in k d u h))

from_in : (B : Skeleton) (d u : Point) → StandsLeft B d u → StandsIn B d
from_in nil d u h = absurd h
from_in (act t k) d u (inl h) = inl h.0
from_in (act t k) d u (inr h) = inr (from_in k d u h)
from_in (fork t b c k) d u (inl h) = inl h.0
from_in (fork t b c k) d u (inr (inl (i, j))) = inr (inl i)
from_in (fork t b c k) d u (inr (inr (inl h))) = inr (inr (inl h.0))
from_in (fork t b c k) d u (inr (inr (inr (inl h)))) = inr (inl (from_in b d u h))
from_in (fork t b c k) d u (inr (inr (inr (inr (inl h))))) = inr (inr (inl (from_in c d u h)))
from_in (fork t b c k) d u (inr (inr (inr (inr (inr h))))) = inr (inr (inr (from_in k d u h)))
from_in (round t b k) d u (inl h) = inl h.0
from_in (round t b k) d u (inr (inl h)) = inr (inl h.0)
from_in (round t b k) d u (inr (inr (inl h))) = inr (inl (from_in b d u h))
from_in (round t b k) d u (inr (inr (inr h))) = inr (inr (from_in k d u h))

head_act : (t : Tag) (k : Skeleton) → Distinct (act t k) → (d : Point) → StandsLeft (act t k) d (at t) → ⊥
head_act t k di d (inl h) = di.0 h.1
head_act t k di d (inr h) = di.0 (left_in k d (at t) h)

head_fork : (t : Tag) (b c k : Skeleton) → Distinct (fork t b c k) → (d : Point) → StandsLeft (fork t b c k) d (at t) → ⊥
head_fork t b c k di d (inl (e, inl i)) = di.0 i
head_fork t b c k di d (inl (e, inr (inl i))) = di.1 i
head_fork t b c k di d (inl (e, inr (inr i))) = di.2 i
head_fork t b c k di d (inr (inl (i, inl j))) = di.1 j
head_fork t b c k di d (inr (inl (i, inr j))) = di.2 j
head_fork t b c k di d (inr (inr (inl h))) = di.2 h.1
head_fork t b c k di d (inr (inr (inr (inl h)))) = di.0 (left_in b d (at t) h)
head_fork t b c k di d (inr (inr (inr (inr (inl h))))) = di.1 (left_in c d (at t) h)
head_fork t b c k di d (inr (inr (inr (inr (inr h))))) = di.2 (left_in k d (at t) h)

head_round : (t : Tag) (b k : Skeleton) → Distinct (round t b k) → (d : Point) → StandsLeft (round t b k) d (at t) → ⊥
head_round t b k di d (inl (e, inl i)) = di.0 i
head_round t b k di d (inl (e, inr i)) = di.1 i
head_round t b k di d (inr (inl h)) = di.1 h.1
head_round t b k di d (inr (inr (inl h))) = di.0 (left_in b d (at t) h)
head_round t b k di d (inr (inr (inr h))) = di.1 (left_in k d (at t) h)

-- to the left inside a block that has both
left_after_act : (t : Tag) (k : Skeleton) → Distinct (act t k) → (d u : Point) → StandsLeft (act t k) d u → StandsIn k d → StandsLeft k d u
left_after_act t k di d u (inl h) i = absurd (di.0 (subst (StandsIn k) h.0 i))
left_after_act t k di d u (inr h) i = h

left_yes : (t : Tag) (b c k : Skeleton) → Distinct (fork t b c k) → (d u : Point) → StandsLeft (fork t b c k) d u → StandsIn b d → StandsIn b u → StandsLeft b d u
left_yes t b c k di d u (inl h) i j = absurd (di.0 (subst (StandsIn b) h.0 i))
left_yes t b c k di d u (inr (inl (h, inl g))) i j = absurd (di.3 u j g)
left_yes t b c k di d u (inr (inl (h, inr g))) i j = absurd (di.4 u j g)
left_yes t b c k di d u (inr (inr (inl h))) i j = absurd (di.4 u j h.1)
left_yes t b c k di d u (inr (inr (inr (inl h)))) i j = h
left_yes t b c k di d u (inr (inr (inr (inr (inl h))))) i j = absurd (di.3 u j (left_in c d u h))
left_yes t b c k di d u (inr (inr (inr (inr (inr h))))) i j = absurd (di.4 u j (left_in k d u h))

left_no : (t : Tag) (b c k : Skeleton) → Distinct (fork t b c k) → (d u : Point) → StandsLeft (fork t b c k) d u → StandsIn c d → StandsIn c u → StandsLeft c d u
left_no t b c k di d u (inl h) i j = absurd (di.1 (subst (StandsIn c) h.0 i))
left_no t b c k di d u (inr (inl (h, g))) i j = absurd (di.3 d h i)
left_no t b c k di d u (inr (inr (inl h))) i j = absurd (di.5 u j h.1)
left_no t b c k di d u (inr (inr (inr (inl h)))) i j = absurd (di.3 u (left_in b d u h) j)
left_no t b c k di d u (inr (inr (inr (inr (inl h))))) i j = h
left_no t b c k di d u (inr (inr (inr (inr (inr h))))) i j = absurd (di.5 u j (left_in k d u h))

left_after_fork : (t : Tag) (b c k : Skeleton) → Distinct (fork t b c k) → (d u : Point) → StandsLeft (fork t b c k) d u → StandsIn k d → StandsLeft k d u
left_after_fork t b c k di d u (inl h) i = absurd (di.2 (subst (StandsIn k) h.0 i))
left_after_fork t b c k di d u (inr (inl h)) i = absurd (di.4 d h.0 i)
left_after_fork t b c k di d u (inr (inr (inl h))) i = absurd (di.5 d h.0 i)
left_after_fork t b c k di d u (inr (inr (inr (inl h)))) i = absurd (di.4 d (from_in b d u h) i)
left_after_fork t b c k di d u (inr (inr (inr (inr (inl h))))) i = absurd (di.5 d (from_in c d u h) i)
left_after_fork t b c k di d u (inr (inr (inr (inr (inr h))))) i = h

left_body : (t : Tag) (b k : Skeleton) → Distinct (round t b k) → (d u : Point) → StandsLeft (round t b k) d u → StandsIn b d → StandsIn b u → StandsLeft b d u
left_body t b k di d u (inl h) i j = absurd (di.0 (subst (StandsIn b) h.0 i))
left_body t b k di d u (inr (inl h)) i j = absurd (di.2 u j h.1)
left_body t b k di d u (inr (inr (inl h))) i j = h
left_body t b k di d u (inr (inr (inr h))) i j = absurd (di.2 u j (left_in k d u h))

left_after_round : (t : Tag) (b k : Skeleton) → Distinct (round t b k) → (d u : Point) → StandsLeft (round t b k) d u → StandsIn k d → StandsLeft k d u
left_after_round t b k di d u (inl h) i = absurd (di.1 (subst (StandsIn k) h.0 i))
left_after_round t b k di d u (inr (inl h)) i = absurd (di.2 d h.0 i)
left_after_round t b k di d u (inr (inr (inl h))) i = absurd (di.2 d (from_in b d u h) i)
left_after_round t b k di d u (inr (inr (inr h))) i = h

-- inside a block inside
lifted : {B : Skeleton} {n : Next} {x : Skeleton} {nx : Next} → ((b : Skeleton) (m : Next) → Subblock b m x nx → Subblock b m B n) → (d c : Tag) → StandsBehind x nx d c → StandsBehind B n d c
lifted f d c h = record { block = h.block; next = h.next; rest = h.rest; from = h.from; behind = h.behind; inside = f h.block h.next h.inside; heads = h.heads; suffix = h.suffix; begins = h.begins }

-- the head of the block, and what stands on top of its rest
headed : (B : Skeleton) (n : Next) (k : Skeleton) (t d c : Tag) → Heads t k B → d ≡ t → IsOnTop k c → StandsBehind B n d c
headed B n k t d c h e (s, q, suffix, begins) =
    subst (λ (z : Tag). StandsBehind B n z c) (sym e)
    record { block = B; next = n; rest = k; from = s; behind = q; inside = whole; heads = h; suffix = suffix; begins = begins }

fresh_none : (t : Tag) (l : Bool) (B : Skeleton) → ¬ StandsIn B (at t) → IsFresh (Some (t, l)) B
fresh_none t l B n p m e i = n (subst (λ (z : Tag). StandsIn B (at z)) (sym (some_pair_parts t p l m e).0) i)

other_slot : (t : Tag) → ¬ (◌≡◌ {A = Parent} (Some (t, true)) (Some (t, false)))
other_slot t e = let labels : true ≡ false = (some_pair_parts t t true false e).1 in absurd cc

apart_nil : (B : Skeleton) → Apart nil B
apart_nil B p i j = i

apart_sym : (B C : Skeleton) → Apart B C → Apart C B
apart_sym B C f p i j = f p j i

-- of a part under the slot `up` itself
own : (up : Parent) (r : Parent) → r ≡ up → IsParentIn up nil r
own up r e = inl e

pub behind : (B : Body) (nest : List Tag) (up : Parent) (n : Next) → Distinct (skeleton B) → IsFresh up (skeleton B) → (d c : Tag) (s r : Standing) → StandsAs nest up B d s → StandsAs nest up B c r
    → s.parent ≡ r.parent → StandsLeft (skeleton B) (at d) (at c) → StandsBehind (skeleton B) n d c
behind done nest up n di fr d c s r h g same left = absurd h
behind (action t e rest) nest up n di fr d c s r h (inl g) same left = absurd (head_act t (skeleton rest) di (at d) (subst (λ (z : Tag). StandsLeft (act t (skeleton rest)) (at d) (at z)) g.0 left))
behind (action t e rest) nest up n di fr d c s r (inl h) (inr g) same left =
    headed (act t (skeleton rest)) n (skeleton rest) t d c an_act h.0
    (on_top rest nest up c r (λ p l e i. fr p l e (inr i)) g (sym same ∙ ap (λ (z : Standing). z.parent) h.1))
behind (action t e rest) nest up n di fr d c s r (inr h) (inr g) same left =
    lifted (λ x_ m_ q. after_act q) d c (behind rest nest up n di.1 (λ p l e i. fr p l e (inr i)) d c s r h g same
    (left_after_act t (skeleton rest) di (at d) (at c) left (standing_in rest nest up d s h)))
behind (branch t e a b rest) nest up n di fr d c s r h (inl g) same left =
    absurd (head_fork t (skeleton a) (skeleton b) (skeleton rest) di (at d) (subst (λ (z : Tag). StandsLeft (fork t (skeleton a) (skeleton b) (skeleton rest)) (at d) (at z)) g.0 left))
behind (branch t e a b rest) nest up n di fr d c s r (inl h) (inr (inl g)) same left =
    absurd (no_common up (Some (t, true)) nil (skeleton a) s.parent r.parent same (own up s.parent (ap (λ (z : Standing). z.parent) h.1)) (parent_in a nest (Some (t, true)) c r g)
    (λ e. fr t true e (inl refl)) (λ p l e i. fr p l e (inr (inl i))) (λ p l e i. i) (apart_nil (skeleton a)))
behind (branch t e a b rest) nest up n di fr d c s r (inl h) (inr (inr (inl g))) same left =
    absurd (no_common up (Some (t, false)) nil (skeleton b) s.parent r.parent same (own up s.parent (ap (λ (z : Standing). z.parent) h.1)) (parent_in b nest (Some (t, false)) c r g)
    (λ e. fr t false e (inl refl)) (λ p l e i. fr p l e (inr (inr (inl i)))) (λ p l e i. i) (apart_nil (skeleton b)))
behind (branch t e a b rest) nest up n di fr d c s r (inl h) (inr (inr (inr g))) same left =
    headed (fork t (skeleton a) (skeleton b) (skeleton rest)) n (skeleton rest) t d c a_fork h.0
    (on_top rest nest up c r (λ p l e i. fr p l e (inr (inr (inr i)))) g (sym same ∙ ap (λ (z : Standing). z.parent) h.1))
behind (branch t e a b rest) nest up n di fr d c s r (inr (inl h)) (inr (inl g)) same left =
    lifted (λ x_ m_ q. in_yes q) d c (behind a nest (Some (t, true)) (first_of (skeleton rest) n) di.6 (fresh_none t true (skeleton a) di.0) d c s r h g same
    (left_yes t (skeleton a) (skeleton b) (skeleton rest) di (at d) (at c) left (standing_in a nest (Some (t, true)) d s h) (standing_in a nest (Some (t, true)) c r g)))
behind (branch t e a b rest) nest up n di fr d c s r (inr (inl h)) (inr (inr (inl g))) same left =
    absurd (no_common (Some (t, true)) (Some (t, false)) (skeleton a) (skeleton b) s.parent r.parent same (parent_in a nest (Some (t, true)) d s h) (parent_in b nest (Some (t, false)) c r g)
    (other_slot t) (fresh_none t true (skeleton b) di.1) (fresh_none t false (skeleton a) di.0) di.3)
behind (branch t e a b rest) nest up n di fr d c s r (inr (inl h)) (inr (inr (inr g))) same left =
    absurd (no_common (Some (t, true)) up (skeleton a) (skeleton rest) s.parent r.parent same (parent_in a nest (Some (t, true)) d s h) (parent_in rest nest up c r g)
    (λ e. fr t true (sym e) (inl refl)) (fresh_none t true (skeleton rest) di.2) (λ p l e i. fr p l e (inr (inl i))) di.4)
behind (branch t e a b rest) nest up n di fr d c s r (inr (inr (inl h))) (inr (inl g)) same left =
    absurd (no_common (Some (t, false)) (Some (t, true)) (skeleton b) (skeleton a) s.parent r.parent same (parent_in b nest (Some (t, false)) d s h) (parent_in a nest (Some (t, true)) c r g)
    (λ e. other_slot t (sym e)) (fresh_none t false (skeleton a) di.0) (fresh_none t true (skeleton b) di.1) (apart_sym (skeleton a) (skeleton b) di.3))
behind (branch t e a b rest) nest up n di fr d c s r (inr (inr (inl h))) (inr (inr (inl g))) same left =
    lifted (λ x_ m_ q. in_no q) d c (behind b nest (Some (t, false)) (first_of (skeleton rest) n) di.7 (fresh_none t false (skeleton b) di.1) d c s r h g same
    (left_no t (skeleton a) (skeleton b) (skeleton rest) di (at d) (at c) left (standing_in b nest (Some (t, false)) d s h) (standing_in b nest (Some (t, false)) c r g)))
behind (branch t e a b rest) nest up n di fr d c s r (inr (inr (inl h))) (inr (inr (inr g))) same left =
    absurd (no_common (Some (t, false)) up (skeleton b) (skeleton rest) s.parent r.parent same (parent_in b nest (Some (t, false)) d s h) (parent_in rest nest up c r g)
    (λ e. fr t false (sym e) (inl refl)) (fresh_none t false (skeleton rest) di.2) (λ p l e i. fr p l e (inr (inr (inl i)))) di.5)
behind (branch t e a b rest) nest up n di fr d c s r (inr (inr (inr h))) (inr (inl g)) same left =
    absurd (no_common up (Some (t, true)) (skeleton rest) (skeleton a) s.parent r.parent same (parent_in rest nest up d s h) (parent_in a nest (Some (t, true)) c r g)
    (λ e. fr t true e (inl refl)) (λ p l e i. fr p l e (inr (inl i))) (fresh_none t true (skeleton rest) di.2) (apart_sym (skeleton a) (skeleton rest) di.4))
behind (branch t e a b rest) nest up n di fr d c s r (inr (inr (inr h))) (inr (inr (inl g))) same left =
    absurd (no_common up (Some (t, false)) (skeleton rest) (skeleton b) s.parent r.parent same (parent_in rest nest up d s h) (parent_in b nest (Some (t, false)) c r g)
    (λ e. fr t false e (inl refl)) (λ p l e i. fr p l e (inr (inr (inl i)))) (fresh_none t false (skeleton rest) di.2) (apart_sym (skeleton b) (skeleton rest) di.5))
behind (branch t e a b rest) nest up n di fr d c s r (inr (inr (inr h))) (inr (inr (inr g))) same left =
    lifted (λ x_ m_ q. after_fork q) d c (behind rest nest up n di.8 (λ p l e i. fr p l e (inr (inr (inr i)))) d c s r h g same
    (left_after_fork t (skeleton a) (skeleton b) (skeleton rest) di (at d) (at c) left (standing_in rest nest up d s h)))
behind (loop t e b rest) nest up n di fr d c s r h (inl g) same left =
    absurd (head_round t (skeleton b) (skeleton rest) di (at d) (subst (λ (z : Tag). StandsLeft (round t (skeleton b) (skeleton rest)) (at d) (at z)) g.0 left))
behind (loop t e b rest) nest up n di fr d c s r (inl h) (inr (inl g)) same left =
    absurd (no_common up (Some (t, true)) nil (skeleton b) s.parent r.parent same (own up s.parent (ap (λ (z : Standing). z.parent) h.1)) (parent_in b (nest ++ (t ∷ [])) (Some (t, true)) c r g)
    (λ e. fr t true e (inl refl)) (λ p l e i. fr p l e (inr (inl i))) (λ p l e i. i) (apart_nil (skeleton b)))
behind (loop t e b rest) nest up n di fr d c s r (inl h) (inr (inr g)) same left =
    headed (round t (skeleton b) (skeleton rest)) n (skeleton rest) t d c a_round h.0
    (on_top rest nest up c r (λ p l e i. fr p l e (inr (inr i))) g (sym same ∙ ap (λ (z : Standing). z.parent) h.1))
behind (loop t e b rest) nest up n di fr d c s r (inr (inl h)) (inr (inl g)) same left =
    lifted (λ x_ m_ q. in_body q) d c (behind b (nest ++ (t ∷ [])) (Some (t, true)) (at t, Some t) di.3 (fresh_none t true (skeleton b) di.0) d c s r h g same
    (left_body t (skeleton b) (skeleton rest) di (at d) (at c) left (standing_in b (nest ++ (t ∷ [])) (Some (t, true)) d s h) (standing_in b (nest ++ (t ∷ [])) (Some (t, true)) c r g)))
behind (loop t e b rest) nest up n di fr d c s r (inr (inl h)) (inr (inr g)) same left =
    absurd (no_common (Some (t, true)) up (skeleton b) (skeleton rest) s.parent r.parent same (parent_in b (nest ++ (t ∷ [])) (Some (t, true)) d s h) (parent_in rest nest up c r g)
    (λ e. fr t true (sym e) (inl refl)) (fresh_none t true (skeleton rest) di.1) (λ p l e i. fr p l e (inr (inl i))) di.2)
behind (loop t e b rest) nest up n di fr d c s r (inr (inr h)) (inr (inl g)) same left =
    absurd (no_common up (Some (t, true)) (skeleton rest) (skeleton b) s.parent r.parent same (parent_in rest nest up d s h) (parent_in b (nest ++ (t ∷ [])) (Some (t, true)) c r g)
    (λ e. fr t true e (inl refl)) (λ p l e i. fr p l e (inr (inl i))) (fresh_none t true (skeleton rest) di.1) (apart_sym (skeleton b) (skeleton rest) di.2))
behind (loop t e b rest) nest up n di fr d c s r (inr (inr h)) (inr (inr g)) same left =
    lifted (λ x_ m_ q. after_round q) d c (behind rest nest up n di.4 (λ p l e i. fr p l e (inr (inr i))) d c s r h g same
    (left_after_round t (skeleton b) (skeleton rest) di (at d) (at c) left (standing_in rest nest up d s h)))
