-- Where a whole order exists, each front of one goes on.
use Rattle.std.proofs.Common.{◌≡◌, ℕ, ◌<◌, Bool, true, false, cond, eqb, Option, Some, None, List, [], ◌∷◌, ◌++◌, length, Contains, ◌⊎◌, inl, inr, refl, sym, ap, ◌∙◌, subst, arith, append_assoc}
use Rattle.std.proofs.lemmas.List.Elements.{Contains-append_right}
use Rattle.std.proofs.lemmas.Bool.{cases_Bool, eqb-true, eq-eqb, both_ways}
use Rattle.hpr_forest.specs.Choices.{Follows, IsWhole, IsBacktrackFree}
use Rattle.hpr_forest.proofs.Unique.{in_none, in_cons, in_first}
use Rattle.hpr_forest.specs.Forest.{Forest, IsForest, is_in, behind}
use Rattle.hpr_forest.specs.Forest as forest
use Rattle.hpr_forest.proofs.Members.{IsDistinct, is_in-true, is_in-false, out_is_in, has_all, first_where, no_longer}
use Rattle.hpr_forest.proofs.May.{IsFull, IsUnder, May, may-from, from-may, follows_once, follows_within, follows_at, behind_split, behind_has}

abbrev pub same_parent : Option ℕ → Option ℕ → Bool
same_parent None None = true
same_parent None (Some b) = false
same_parent (Some a) None = false
same_parent (Some a) (Some b) = eqb a b

same-true : (u v : Option ℕ) → same_parent u v ≡ true → u ≡ v
same-true None None e = refl
same-true None (Some b) e = absurd cc
same-true (Some a) None e = absurd cc
same-true (Some a) (Some b) e = ap Some (eqb-true a b e)

true_same : (u : Option ℕ) → same_parent u u ≡ true
true_same None = refl
true_same (Some a) = eq-eqb a a refl

once_front : (l r : List ℕ) (x : ℕ) → IsDistinct (l ++ x ∷ r) → Contains l x → ⊥
once_front [] r x once h = in_none x h
once_front (y ∷ l) r x once h = elim (in_cons y x l h) [
  | inl e ↦ once.0 (subst (λ w. Contains (l ++ x ∷ r) w) (sym e) (Contains-append_right l (x ∷ r) x (in_first x r)))
  | inr later ↦ once_front l r x once.1 later
]

-- an item of a list without repeats stands once: what was split off before it is before it
module _ (f : Forest) (it : IsForest f) (q l : List ℕ) (fq : Follows (forest.can f) [] q) (w : IsWhole (forest.can f) f.count l) where
  once_q : IsDistinct q
  once_q = (follows_once f [] q fq).1

  all_l : (c : ℕ) → c < f.count → Contains l c
  all_l = has_all f.count l (follows_once f [] l w.follows).1 (follows_within f [] l w.follows) w.len

  abbrev wanted : Option ℕ → ℕ → Bool
  wanted v x = cond (same_parent (f.parent x) v) (cond (is_in q x) false true) false

  wanted-true : (v : Option ℕ) (x : ℕ) → wanted v x ≡ true → (f.parent x ≡ v) × (Contains q x → ⊥)
  wanted-true v x e = at (same_parent (f.parent x) v) refl (is_in q x) refl e
    where
      at : (s : Bool) → same_parent (f.parent x) v ≡ s → (t : Bool) → is_in q x ≡ t → cond s (cond t false true) false ≡ true → (f.parent x ≡ v) × (Contains q x → ⊥)
      at true is true is' e' = absurd cc
      at true is false is' e' = (same-true (f.parent x) v is, is_in-false q x is')
      at false is t is' e' = absurd cc

  wanted-false : (v : Option ℕ) (x : ℕ) → wanted v x ≡ false → f.parent x ≡ v → Contains q x
  wanted-false v x e p = at (is_in q x) refl (subst (λ s. cond s (cond (is_in q x) false true) false ≡ false) (ap (λ u. same_parent u v) p ∙ true_same v) e)
    where
      at : (t : Bool) → is_in q x ≡ t → cond true (cond (is_in q x) false true) false ≡ false → Contains q x
      at true is e' = is_in-true q x is
      at false is e' = absurd cc

  -- a first unplaced item under v, or none
  try_at : (v : Option ℕ) → ((x : ℕ) → x < f.count → f.parent x ≡ v → Contains q x)
      ⊎ ((c : ℕ) × (f.parent c ≡ v) × (c < f.count) × (Contains q c → ⊥) × ((d : ℕ) → Contains (f.before c) d → Contains q d))
  try_at v = elim (first_where (wanted v) l) [
    | inl none ↦ inl (λ x h p. wanted-false v x (none x (all_l x h)) p)
    | inr (l1, l2, c, e, is, none) ↦ (
        let (p, out) = wanted-true v c is in
        let m : May f l1 c = may-from f l1 c (follows_at f [] l1 l2 c (subst (Follows (forest.can f) []) e w.follows)) in
        inr (c, p, m.within, out, λ d h. wanted-false v d (none d (m.ready d h)) ((it.siblings c d h).2 ∙ p)))
  ]

  scan : (pre suf : List ℕ) → q ≡ pre ++ suf → ((c : ℕ) × May f q c) ⊎ IsFull f q suf
  scan pre [] e = inr (λ x h. absurd (in_none x h))
  scan pre (p ∷ suf) e = elim (scan (pre ++ p ∷ []) suf (e ∙ sym (append_assoc pre (p ∷ []) suf))) [
    | inl found ↦ inl found
    | inr full ↦ elim (try_at (Some p)) [
      | inl placed ↦ inr (λ x h y k. elim (in_cons p x suf h) [
        | inl same ↦ (let (a, b) = it.down x y k in placed y a (b ∙ ap Some (sym same)))
        | inr later ↦ full x later y k
      ])
      | inr (c, is, within, out, ready) ↦ inl (
        c,
        record {
          within = within;
          fresh = out;
          under = subst (IsUnder f q) (sym is) (suf, ap (behind p) e ∙ behind_split f pre suf p (once_front pre suf p (subst IsDistinct e once_q)), full);
          ready = ready;
        },
      )
    ]
  ]

  goes_on : length q < f.count → (c : ℕ) × May f q c
  goes_on short = elim (scan [] q refl) [
    | inl found ↦ found
    | inr full ↦ elim (try_at None) [
      | inr (c, is, within, out, ready) ↦ (c, record { within = within; fresh = out; under = subst (IsUnder f q) (sym is) full; ready = ready })
      | inl placed ↦ absurd (elim (first_where (λ x. cond (is_in q x) false true) l) [
        | inl none ↦ omega (arith, w.len, no_longer l q (follows_once f [] l w.follows).1 (λ x h. at_false x (none x h)))
        | inr (l1, l2, c, e, is, none) ↦ (
            let m : May f l1 c = may-from f l1 c (follows_at f [] l1 l2 c (subst (Follows (forest.can f) []) e w.follows)) in
            let out : Contains q c → ⊥ = at_true c is in
            out (by_parent c m (f.parent c) refl m.under full placed (λ x h. at_false x (none x h))))
      ])
    ]
  ]
    where
      at_false : (x : ℕ) → cond (is_in q x) false true ≡ false → Contains q x
      at_false x e = elim (cases_Bool (is_in q x)) [ inl t ↦ is_in-true q x t | inr t ↦ absurd (both_ways false refl (sym e ∙ ap (λ b. cond b false true) t)) ]

      at_true : (x : ℕ) → cond (is_in q x) false true ≡ true → Contains q x → ⊥
      at_true x e = elim (cases_Bool (is_in q x)) [ inl t ↦ absurd (both_ways false refl (sym (ap (λ b. cond b false true) t) ∙ e)) | inr t ↦ is_in-false q x t ]

      by_parent : (c : ℕ) {l1 : List ℕ} → May f l1 c → (v : Option ℕ) → f.parent c ≡ v → IsUnder f l1 (f.parent c) → IsFull f q q → ((x : ℕ) → x < f.count → f.parent x ≡ None → Contains q x)
          → ((x : ℕ) → Contains l1 x → Contains q x) → Contains q c
      by_parent c m None is u full placed sub = placed c m.within is
      by_parent c {l1 = l1} m (Some p) is u full placed sub =
          let (xs, e, _) = subst (IsUnder f l1) is u in
          let (k, e') = behind_has f l1 xs p e in
          full p (sub p (subst (λ (z : List ℕ). Contains z p) (sym e') (Contains-append_right k (p ∷ xs) p (in_first p xs)))) c (is_in-true (f.children p) c (it.up p c is))

pub is_open : (f : Forest) → IsForest f → IsBacktrackFree (forest.can f) f.count
is_open f it = record {
  within = λ q c e. (may-from f q c e).within;
  fresh = λ q c e. out_is_in q c (may-from f q c e).fresh;
  goes_on = λ q l fq short w. let (c, m) = goes_on f it q l fq w short in (c, from-may f q c m);
}
