-- What is open is the last placed item, or one in which it stands: behind each of these all is full.
use Rattle.std.proofs.Common.{◌≡◌, ℕ, suc, ◌+◌, ◌<◌, ◌≤◌, Bool, true, false, cond, eqb, Option, Some, None, List, [], ◌∷◌, ◌++◌, length, Contains, inl, inr, refl, sym, ap, ◌∙◌, subst, append_assoc, arith, length-append}
use Rattle.std.proofs.lemmas.List.Elements.{Contains-append_left, Contains-append_right, Contains-append_cases}
use Rattle.std.proofs.lemmas.Bool.{eq-eqb, ne_eqb}
use Rattle.hpr_forest.specs.Choices.{Follows}
use Rattle.hpr_forest.specs.Forest.{Forest, all_in, can}
use Rattle.hpr_forest.specs.Open.{open_in}
use Rattle.hpr_forest.proofs.Unique.{in_cons, in_first, in_later}
use Rattle.hpr_forest.proofs.Members.{all_in-true}
use Rattle.hpr_forest.proofs.May.{IsFull, IsUnder, May, behind_has, follows_at, follows_within, may-from, true_full}
use Rattle.hpr_forest.proofs.Opened.{full_none, open_here, open_more}

-- how many stand before the first p of a list
abbrev pub place_in : List ℕ → ℕ → ℕ
place_in [] p = 0
place_in (x ∷ xs) p = cond (eqb x p) 0 (place_in xs p + 1)

-- how many items of a list are left to be looked at from this one on
abbrev pub left_at : List ℕ → Option ℕ → ℕ
left_at q None = 0
left_at q (Some p) = place_in q p + 1

place_is : (l r : List ℕ) (p : ℕ) → (Contains l p → ⊥) → place_in (l ++ p ∷ r) p ≡ length l
place_is [] r p out = rw (eq-eqb p p refl) refl
place_is (x ∷ l) r p out =
    let ne : x ≡ p → ⊥ = λ e. out (subst (λ w. Contains (x ∷ l) w) e (in_first x l)) in
    rw (ne_eqb x p ne) (omega (arith, place_is l r p (λ h. out (in_later x p l h))))

place_most : (l r : List ℕ) (p : ℕ) → place_in (l ++ p ∷ r) p ≤ length l
place_most [] r p = rw (eq-eqb p p refl) (omega arith)
place_most (x ∷ l) r p = at (eqb x p) (place_most l r p)
  where
    at : (t : Bool) → place_in (l ++ p ∷ r) p ≤ length l → cond t 0 (place_in (l ++ p ∷ r) p + 1) ≤ suc (length l)
    at true h = omega arith
    at false h = omega (arith, h)

module _ (f : Forest) where
  -- what is open is this item, or one in which it stands
  abbrev pub IsClimb : List ℕ → Option ℕ → Type 0
  IsClimb q None = open_in f q q ≡ None
  IsClimb q (Some p) = (l r : List ℕ) × (q ≡ l ++ p ∷ r) × IsFull f q r

  climb_full : (q l r : List ℕ) (p : ℕ) → q ≡ l ++ p ∷ r → IsFull f l l → all_in q (f.children p) ≡ true → IsFull f q r → IsFull f q q
  climb_full q l r p e before here after x h y k = elim (Contains-append_cases l (p ∷ r) x (subst (λ w. Contains w x) e h)) [
    | inl a ↦ subst (λ w. Contains w y) (sym e) (Contains-append_left l (p ∷ r) y (before x a y k))
    | inr b ↦ elim (in_cons p x r b) [
      | inl same ↦ all_in-true q (f.children p) here y (subst (λ w. Contains (f.children w) y) (sym same) k)
      | inr c ↦ after x c y k
    ]
  ]

  climb_over : (q l r m : List ℕ) (p : ℕ) → q ≡ l ++ p ∷ r → IsFull f l m → all_in q (f.children p) ≡ true → IsFull f q r → IsFull f q (m ++ p ∷ r)
  climb_over q l r m p e before here after x h y k = elim (Contains-append_cases m (p ∷ r) x h) [
    | inl a ↦ subst (λ w. Contains w y) (sym e) (Contains-append_left l (p ∷ r) y (before x a y k))
    | inr b ↦ elim (in_cons p x r b) [
      | inl same ↦ all_in-true q (f.children p) here y (subst (λ w. Contains (f.children w) y) (sym same) k)
      | inr c ↦ after x c y k
    ]
  ]

  -- from an item under which nothing is left to the one in which it stands, which is placed before it
  pub climb_up : (q : List ℕ) (p : ℕ) → Follows (can f) [] q → IsClimb q (Some p) → all_in q (f.children p) ≡ true
      → IsClimb q (f.parent p) × (left_at q (f.parent p) < left_at q (Some p))
  climb_up q p follows (l, r, e, full) here = at (f.parent p) may.under
    where
      may : May f l p
      may = may-from f l p (follows_at f [] l r p (subst (Follows (can f) []) e follows))

      depth : place_in q p ≡ length l
      depth = ap (λ w. place_in w p) e ∙ place_is l r p may.fresh

      at : (u : Option ℕ) → IsUnder f l u → IsClimb q u × (left_at q u < left_at q (Some p))
      at None under = (full_none f q q (true_full f q q (climb_full q l r p e under here full)), omega arith)
      at (Some u) (m, is, under) =
          let (front, e') = behind_has f l m u is in
          let all : q ≡ front ++ u ∷ (m ++ p ∷ r) = e ∙ ap (λ w. w ++ p ∷ r) e' ∙ append_assoc front (u ∷ m) (p ∷ r) in
          let most : place_in q u ≤ length front = subst (λ w. place_in w u ≤ length front) (sym all) (place_most front (m ++ p ∷ r) u) in (
            (front, m ++ p ∷ r, all, climb_over q l r m p e under here full),
            omega (arith, most, depth, ap length e', length-append front (u ∷ m)),
          )

  pub climb_within : (q : List ℕ) (p : ℕ) → Follows (can f) [] q → IsClimb q (Some p) → p < f.count
  climb_within q p follows (l, r, e, full) = follows_within f [] q follows p (subst (λ w. Contains w p) (sym e) (Contains-append_right l (p ∷ r) p (in_first p r)))

  pub climb_found : (q : List ℕ) (p : ℕ) → IsClimb q (Some p) → all_in q (f.children p) ≡ false → open_in f q q ≡ Some p
  climb_found q p (l, r, e, full) here = ap (open_in f q) e ∙ open_more f q l (p ∷ r) p (open_here f q p r (true_full f q r full) here)
