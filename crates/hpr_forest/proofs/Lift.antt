-- Whole orders that keep an order between items anywhere are those that keep the lifted order between siblings.
use Rattle.std.proofs.Common.{◌≡◌, ℕ, ◌<◌, Option, Some, None, List, [], ◌∷◌, ◌++◌, Contains, ◌⊎◌, inl, inr, refl, sym, ap, ◌∙◌, subst, append_assoc}
use Rattle.std.proofs.lemmas.List.Elements.{Contains-append_left, Contains-append_right, Contains-append_cases}
use Rattle.std.proofs.lemmas.List.{append-nil}
use Rattle.hpr_forest.specs.Choices.{Follows, IsWhole}
use Rattle.hpr_forest.proofs.Unique.{in_none, in_cons, in_first, in_later}
use Rattle.hpr_forest.specs.Forest.{Forest, IsForest, bare, can}
use Rattle.hpr_forest.specs.Lifted.{IsLeft, Leads, IsLifted, Respects}
use Rattle.hpr_forest.proofs.Members.{IsDistinct, split, has_all, is_in-true}
use Rattle.hpr_forest.proofs.May.{IsFull, IsUnder, May, may-from, from-may, follows_once, follows_within, follows_at, behind_has}

-- in a list without repeats what is behind an item isn't before it
pub once_parts : (l r : List ℕ) (x : ℕ) → IsDistinct (l ++ r) → Contains l x → Contains r x → ⊥
once_parts [] r x once h k = in_none x h
once_parts (y ∷ l) r x once h k = elim (in_cons y x l h) [
  | inl e ↦ once.0 (subst (λ w. Contains (l ++ r) w) (sym e) (Contains-append_right l r x k))
  | inr later ↦ once_parts l r x once.1 later k
]

-- two splits of a list without repeats at one item are one
same_split : (l1 l2 k1 k2 : List ℕ) (x : ℕ) → IsDistinct (l1 ++ x ∷ l2) → l1 ++ x ∷ l2 ≡ k1 ++ x ∷ k2 → l1 ≡ k1
same_split [] l2 [] k2 x once e = refl
same_split [] l2 (y ∷ k1) k2 x once e =
    let same : x ≡ y = cc in let rest : l2 ≡ k1 ++ x ∷ k2 = cc in
    absurd (once.0 (subst (λ w. Contains w x) (sym rest) (Contains-append_right k1 (x ∷ k2) x (in_first x k2))))
same_split (y ∷ l1) l2 [] k2 x once e =
    let same : y ≡ x = cc in
    absurd (once.0 (subst (λ w. Contains (l1 ++ x ∷ l2) w) (sym same) (Contains-append_right l1 (x ∷ l2) x (in_first x l2))))
same_split (y ∷ l1) l2 (z ∷ k1) k2 x once e =
    let same : y ≡ z = cc in let rest : l1 ++ x ∷ l2 ≡ k1 ++ x ∷ k2 = cc in
    ap (λ w. w ∷ l1) same ∙ ap (λ ws. z ∷ ws) (same_split l1 l2 k1 k2 x once.1 rest)

-- the order among siblings apart from the rest
module _ (f : Forest) where
  pub from_bare : (p l : List ℕ) → Follows (can (bare f)) p l
      → ((l1 l2 : List ℕ) (x d : ℕ) → l ≡ l1 ++ x ∷ l2 → Contains (f.before x) d → Contains (p ++ l1) d) → Follows (can f) p l
  from_bare p [] h ready = tt
  from_bare p (c ∷ l) h ready =
      let m = may-from (bare f) p c h.0 in (
        from-may f p c record { within = m.within; fresh = m.fresh; under = m.under; ready = λ d k. subst (λ w. Contains w d) (append-nil p) (ready [] l c d refl k) },
        from_bare (p ++ c ∷ []) l h.1 (λ l1 l2 x d e k. subst (λ w. Contains w d) (sym (append_assoc p (c ∷ []) l1)) (ready (c ∷ l1) l2 x d (ap (λ w. c ∷ w) e) k)),
      )

-- facts of one whole order
module _ (f : Forest) (it : IsForest f) (l : List ℕ) (w : IsWhole (can f) f.count l) where
  once : IsDistinct l
  once = (follows_once f [] l w.follows).1

  at : (l1 l2 : List ℕ) (x : ℕ) → l ≡ l1 ++ x ∷ l2 → May f l1 x
  at l1 l2 x e = may-from f l1 x (follows_at f [] l1 l2 x (subst (Follows (can f) []) e w.follows))

  -- the front before an item has the item above it
  above_in : (l1 l2 : List ℕ) (x p : ℕ) → l ≡ l1 ++ x ∷ l2 → f.parent x ≡ Some p → Contains l1 p
  above_in l1 l2 x p e is =
      let (xs, k, _) = subst (IsUnder f l1) is (at l1 l2 x e).under in
      let (front, e') = behind_has f l1 xs p k in
      subst (λ z. Contains z p) (sym e') (Contains-append_right front (p ∷ xs) p (in_first p xs))

  -- an item whose parent is in the second part of a front is in the second part
  stays_behind : (k xs rest : List ℕ) (p c a : ℕ) → l ≡ (k ++ p ∷ xs) ++ rest → f.parent c ≡ Some a → Contains (p ∷ xs) a → Contains (k ++ p ∷ xs) c → Contains xs c
  stays_behind k xs rest p c a e is ha hc = elim (Contains-append_cases k (p ∷ xs) c hc) [
    | inl front ↦ (
        let (k1, k2, ek) = split k c front in
        let whole : l ≡ k1 ++ c ∷ (k2 ++ (p ∷ xs ++ rest)) = e ∙ append_assoc k (p ∷ xs) rest ∙ ap (λ z. z ++ (p ∷ xs ++ rest)) ek ∙ append_assoc k1 (c ∷ k2) (p ∷ xs ++ rest) in
        let early : Contains k1 a = above_in k1 (k2 ++ (p ∷ xs ++ rest)) c a whole is in
        absurd (once_parts k1 (c ∷ (k2 ++ (p ∷ xs ++ rest))) a (subst IsDistinct whole once) early
        (in_later c a (k2 ++ (p ∷ xs ++ rest)) (Contains-append_right k2 (p ∷ xs ++ rest) a (Contains-append_left (p ∷ xs) rest a ha)))))
    | inr back ↦ elim (in_cons p c xs back) [
      | inr later ↦ later
      | inl same ↦ (
          let whole : l ≡ k ++ p ∷ (xs ++ rest) = e ∙ append_assoc k (p ∷ xs) rest in
          let early : Contains k a = above_in k (xs ++ rest) p a whole (subst (λ z. f.parent z ≡ Some a) (sym same) is) in
          absurd (once_parts k (p ∷ (xs ++ rest)) a (subst IsDistinct whole once) early (Contains-append_left (p ∷ xs) rest a ha)))
    ]
  ]

  all_below : (xs l1 : List ℕ) → ((d c : ℕ) → Contains xs d → f.parent c ≡ Some d → c < f.count → Contains xs c)
      → (via : List ℕ) (d s : ℕ) → Contains xs d → ((c : ℕ) → Contains via c → c < f.count) → Leads f d via s → Contains xs s
  all_below xs l1 step [] d s h ok leads = subst (λ z. Contains xs z) leads h
  all_below xs l1 step (c ∷ via) d s h ok leads = all_below xs l1 step via c s (step d c h leads.0 (ok c (in_first c via))) (λ e k. ok e (in_later c e via k)) leads.1

  -- all that stands under an item to the left of its sibling x is before x
  pub below_left : (l1 l2 : List ℕ) (x d s : ℕ) (via : List ℕ) → l ≡ l1 ++ x ∷ l2 → f.parent d ≡ f.parent x → Contains l1 d
      → ((c : ℕ) → Contains via c → c < f.count) → Leads f d via s → Contains l1 s
  below_left l1 l2 x d s via e sib h ok leads = at_parent (f.parent x) refl
    where
      at_parent : (v : Option ℕ) → f.parent x ≡ v → Contains l1 s
      at_parent None is =
          let full : IsFull f l1 l1 = subst (IsUnder f l1) is (at l1 l2 x e).under in
          all_below l1 l1 (λ a c ha p k. full a ha c (is_in-true (f.children a) c (it.up a c p))) via d s h ok leads
      at_parent (Some p) is =
          let (xs, k, full) = subst (IsUnder f l1) is (at l1 l2 x e).under in
          let (front, e') = behind_has f l1 xs p k in
          let whole : l ≡ (front ++ p ∷ xs) ++ x ∷ l2 = e ∙ ap (λ z. z ++ x ∷ l2) e' in
          let dx : Contains xs d = stays_behind front xs (x ∷ l2) p d p whole (sib ∙ is) (in_first p xs) (subst (λ z. Contains z d) e' h) in
          let sx : Contains xs s = all_below xs l1 (λ a c ha q b. stays_behind front xs (x ∷ l2) p c a whole q (in_later p a xs ha) (subst (λ z. Contains z c) e' (full a ha c (is_in-true (f.children a) c (it.up a c q))))) via d s dx ok leads in
          subst (λ z. Contains z s) (sym e') (Contains-append_right front (p ∷ xs) s (in_later p s xs sx))

  -- an item is left of all that stands under it
  pub left_of_below : (a c t : ℕ) (via : List ℕ) → ((e : ℕ) → Contains (c ∷ via) e → e < f.count) → Leads f a (c ∷ via) t → IsLeft l a t
  left_of_below a c t [] ok leads =
      let all : Contains l t = has_all f.count l once (follows_within f [] l w.follows) w.len t (subst (λ z. z < f.count) leads.1 (ok c (in_first c []))) in
      let (l1, l2, e) = split l t all in
      (l1, l2, e, above_in l1 l2 t a e (subst (λ z. f.parent z ≡ Some a) leads.1 leads.0))
  left_of_below a c t (d ∷ via) ok leads =
      let (l1, l2, e, h) = left_of_below c d t via (λ z k. ok z (in_later c z (d ∷ via) k)) leads.1 in
      let (k1, k2, e') = split l1 c h in
      let whole : l ≡ k1 ++ c ∷ (k2 ++ t ∷ l2) = e ∙ ap (λ z. z ++ t ∷ l2) e' ∙ append_assoc k1 (c ∷ k2) (t ∷ l2) in
      (l1, l2, e, subst (λ z. Contains z a) (sym e') (Contains-append_left k1 (c ∷ k2) a (above_in k1 (k2 ++ t ∷ l2) c a whole leads.0)))

  leads_ok : (a t : ℕ) (via : List ℕ) → Leads f a via t → (c : ℕ) → Contains via c → c < f.count
  leads_ok a t [] h c k = absurd (in_none c k)
  leads_ok a t (d ∷ via) h c k = elim (in_cons d c via k) [
    | inl e ↦ subst (λ z. z < f.count) e (it.down a d (is_in-true (f.children a) d (it.up a d h.0))).0
    | inr later ↦ leads_ok d t via h.1 c later
  ]

  in_l : (x : ℕ) → x < f.count → Contains l x
  in_l = has_all f.count l once (follows_within f [] l w.follows) w.len

  -- what is under d is left of what is under x, where d is left of its sibling x
  pub under_left : (x d s t : ℕ) (a b : List ℕ) → f.parent d ≡ f.parent x → IsLeft l d x → Leads f d a s → Leads f x b t → IsLeft l s t
  under_left x d s t a b sib (l1, l2, e, h) ds xt = at_t b xt
    where
      sx : Contains l1 s
      sx = below_left l1 l2 x d s a e sib h (leads_ok d s a ds) ds

      at_t : (b : List ℕ) → Leads f x b t → IsLeft l s t
      at_t [] is = (l1, l2, e ∙ ap (λ z. l1 ++ z ∷ l2) is, sx)
      at_t (c ∷ via) down =
          let (k1, k2, e', hx) = left_of_below x c t via (leads_ok x t (c ∷ via) down) down in
          let (m1, m2, e'') = split k1 x hx in
          let whole : l ≡ m1 ++ x ∷ (m2 ++ t ∷ k2) = e' ∙ ap (λ z. z ++ t ∷ k2) e'' ∙ append_assoc m1 (x ∷ m2) (t ∷ k2) in
          let same : l1 ≡ m1 = same_split l1 l2 m1 (m2 ++ t ∷ k2) x (subst IsDistinct e once) (sym e ∙ whole) in
          (k1, k2, e', subst (λ z. Contains z s) (sym e'') (Contains-append_left m1 (x ∷ m2) s (subst (λ z. Contains z s) same sx)))

  -- of two items one is left of the other
  pub either_left : (x y : ℕ) → x < f.count → y < f.count → (x ≡ y → ⊥) → IsLeft l x y ⊎ IsLeft l y x
  either_left x y hx hy ne =
      let (l1, l2, e) = split l y (in_l y hy) in
      elim (Contains-append_cases l1 (y ∷ l2) x (subst (λ z. Contains z x) e (in_l x hx))) [
        | inl before ↦ inl (l1, l2, e, before)
        | inr back ↦ elim (in_cons y x l2 back) [
          | inl same ↦ absurd (ne (sym same))
          | inr behind_ ↦ (
              let (k1, k2, e') = split l2 x behind_ in
              inr (l1 ++ y ∷ k1, k2, e ∙ ap (λ z. l1 ++ y ∷ z) e' ∙ sym (append_assoc l1 (y ∷ k1) (x ∷ k2)), Contains-append_right l1 (y ∷ k1) y (in_first y k1)))
        ]
      ]

  pub not_both : (x y : ℕ) → IsLeft l x y → IsLeft l y x → ⊥
  not_both x y (l1, l2, e, h) (k1, k2, e', h') =
      let (m1, m2, e'') = split k1 y h' in
      let whole : l ≡ m1 ++ y ∷ (m2 ++ x ∷ k2) = e' ∙ ap (λ z. z ++ x ∷ k2) e'' ∙ append_assoc m1 (y ∷ m2) (x ∷ k2) in
      let same : l1 ≡ m1 = same_split l1 l2 m1 (m2 ++ x ∷ k2) y (subst IsDistinct e once) (sym e ∙ whole) in
      once_parts m1 (y ∷ (m2 ++ x ∷ k2)) x (subst IsDistinct whole once) (subst (λ z. Contains z x) same h)
      (in_later y x (m2 ++ x ∷ k2) (Contains-append_right m2 (x ∷ k2) x (in_first x k2)))

-- the two sides
pub lifted_respects : (f : Forest) (it : IsForest f) (E : ℕ → ℕ → Type 0) → IsLifted f E → (l : List ℕ) → IsWhole (can f) f.count l → Respects E l
lifted_respects f it E lift l w s t edge = elim (lift.complete s t edge) [
  | inl same ↦ inl same
  | inr (inl (c, via, down)) ↦ inr (left_of_below f it l w s c t via (leads_ok f it l w s t (c ∷ via) down) down)
  | inr (inr (x, d, a, b, h, ds, xt)) ↦ (
      let (hx, _, sib) = it.siblings x d h in
      let (l1, l2, e) = split l x (in_l f it l w x hx) in
      inr (under_left f it l w x d s t a b sib (l1, l2, e, (at f it l w l1 l2 x e).ready d h) ds xt))
]

pub respects_lifted : (f : Forest) → IsForest f → IsForest (bare f) → (E : ℕ → ℕ → Type 0) → IsLifted f E → (l : List ℕ)
    → IsWhole (can (bare f)) f.count l → Respects E l → IsWhole (can f) f.count l
respects_lifted f it it' E lift l w respects = record {
  len = w.len;
  follows = from_bare f [] l w.follows (λ l1 l2 x d e h.
      let (hx, hd, _) = it.siblings x d h in
      let (sib, ne, (s, t, a, b, edge, ds, xt)) = lift.sound x d h in
      elim (either_left (bare f) it' l w d x hd hx ne) [
        | inl (k1, k2, e', hd') ↦ subst (λ z. Contains z d) (sym (same_split l1 l2 k1 k2 x (subst IsDistinct e (once (bare f) it' l w)) (sym e ∙ e'))) hd'
        | inr wrong ↦ absurd (elim (respects s t edge) [
          | inl same ↦ apart (bare f) it' l w d x s t b a (sym sib) wrong (to_bare_leads f x t b xt) (to_bare_leads f d s a ds) same
          | inr left ↦ not_both (bare f) it' l w s t left (under_left (bare f) it' l w d x t s b a (sym sib) wrong (to_bare_leads f x t b xt) (to_bare_leads f d s a ds))
        ])
      ]);
}
  where
    to_bare_leads : (f : Forest) (a t : ℕ) (via : List ℕ) → Leads f a via t → Leads (bare f) a via t
    to_bare_leads f a t [] h = h
    to_bare_leads f a t (c ∷ via) h = (h.0, to_bare_leads f c t via h.1)

    apart : (f : Forest) (it : IsForest f) (l : List ℕ) (w : IsWhole (can f) f.count l) (d x s t : ℕ) (b a : List ℕ) → f.parent x ≡ f.parent d → IsLeft l x d
        → Leads f x b t → Leads f d a s → s ≡ t → ⊥
    apart f it l w d x s t b a sib wrong xt ds same =
        let left : IsLeft l t s = under_left f it l w d x t s b a sib wrong xt ds in
        not_both f it l w t s left (subst (λ z. IsLeft l z t) (sym same) (subst (λ z. IsLeft l t z) same left))
