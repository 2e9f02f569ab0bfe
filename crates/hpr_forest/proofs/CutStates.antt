-- What is known where the search has placed a front and looks for the next number from some number on.
use Rattle.std.proofs.Common.{◌≡◌, ℕ, zero, suc, ◌+◌, ◌-◌, ◌<◌, ◌≤◌, Bool, true, false, List, [], ◌∷◌, ◌++◌, length, take, Option, Some, None, IfSome, IfNone, Contains, inl, inr, refl, sym, ap, ◌∙◌, subst, arith, length-append}
use Rattle.hpr_forest.specs.Choices.{Follows, IsWhole, IsBacktrackFree}
use Rattle.hpr_forest.proofs.Leaves.{follows_push, follows_front, follows_last}
use Rattle.hpr_forest.proofs.Unique.{in_none, in_cons}
use Rattle.hpr_forest.specs.Cuts.{IsLive, IsWithin, leaves_of, FindsFirst, FindsNone, FindsSpent}
use Rattle.hpr_forest.proofs.CutSteps.{Passed, child, rest, at_start, found, placed, whole_child, none_left, all_done, some_below, all_below_fail, none_passed, same_passed, more_passed, spent_passed, first_passed, none_fits, tried_passed}

pub true_not_false : true ≡ false → ⊥
true_not_false e = absurd cc

pub not_true : (b : Bool) → (b ≡ true → ⊥) → b ≡ false
not_true true free = absurd (free refl)
not_true false free = refl

-- nothing stands behind a list that is whole already
no_more : (n : ℕ) (q l r : List ℕ) (d : ℕ) → length q + 1 ≡ n → length l ≡ n → l ≡ q ++ d ∷ r → r ≡ []
no_more n q l [] d h k e = refl
no_more n q l (x ∷ r) d h k e = absurd (omega (arith, h, k, ap length e, length-append q (d ∷ x ∷ r)))

pub take_front : (xs ys zs : List ℕ) (k : ℕ) → k ≡ length xs → zs ≡ xs ++ ys → take k zs ≡ xs
take_front xs ys zs k e f = ap (λ j. take j zs) e ∙ ap (λ (q : List ℕ). take (length xs) q) f ∙ go xs
  where
    go : (q : List ℕ) → take (length q) (q ++ ys) ≡ q
    go [] = refl
    go (x ∷ q) = ap (λ (r : List ℕ). x ∷ r) (go q)

-- what is placed after the last number was taken back
pub taken_back : (o : Option ℕ) (old new q : List ℕ) (d : ℕ) → IfSome o (λ c. old ≡ new ++ c ∷ []) → IfNone o (old ≡ []) → old ≡ q ++ d ∷ [] → new ≡ q
taken_back None old new q d last none is = absurd (omega (arith, ap length none, ap length is, length-append q (d ∷ [])))
taken_back (Some c) old new q d last none is =
    let len : length q ≡ length new = omega (arith, ap length last, ap length is, length-append q (d ∷ []), length-append new (c ∷ [])) in
    sym (take_front new (c ∷ []) old (length q) len last) ∙ take_front q (d ∷ []) old (length q) refl is

-- by each test within `clash`: those that are left where q is placed and the next number is looked for from `from` on; the others are passed
abbrev pub State : (List ℕ → ℕ → Bool) → (List ℕ → Type 0) → ℕ → (List ℕ → ℕ → Bool) → ℕ → ℕ → List ℕ → ℕ → Type 0
State can fits n clash tries left q from = (w : List ℕ → ℕ → Bool) → IsWithin w clash → Passed can fits n w tries left (rest can n w q from)

module _ (can : List ℕ → ℕ → Bool) (fits : List ℕ → Type 0) (n : ℕ) (clash : List ℕ → ℕ → Bool) (it : IsBacktrackFree can n) (live : IsLive can n) where
  abbrev pub IsNext : List ℕ → ℕ → ℕ → Type 0
  IsNext q from d = (from ≤ d) × (can q d ≡ true) × ((e : ℕ) → from ≤ e → e < d → can q e ≡ false)

  -- what a search with the same rules answers
  pub next_of : (can' : List ℕ → ℕ → Bool) → can ≡ can' → (q : List ℕ) (from d : ℕ) → from ≤ d → can' q d ≡ true → ((e : ℕ) → from ≤ e → e < d → can' q e ≡ false) → IsNext q from d
  next_of can' is q from d h may none = (h, ap (λ f. f q d) is ∙ may, λ e a b. ap (λ f. f q e) is ∙ none e a b)

  pub none_of : (can' : List ℕ → ℕ → Bool) (n' : ℕ) → can ≡ can' → n ≡ n' → (q : List ℕ) (from : ℕ) → ((d : ℕ) → from ≤ d → d < n' → can' q d ≡ false)
      → (d : ℕ) → from ≤ d → d < n → can q d ≡ false
  none_of can' n' is len q from none d h k = ap (λ f. f q d) is ∙ none d h (omega arith)

  -- behind a number that is placed there is a next one, so where there is none, the smaller ones were passed
  pub looked_past : (q q' : List ℕ) (last from : ℕ) → q ≡ q' ++ last ∷ [] → Follows can [] q → length q < n → ((d : ℕ) → from ≤ d → d < n → can q d ≡ false) → 0 < from
  looked_past q q' last (suc from) is f short none = omega arith
  looked_past q q' last zero is f short none =
      let f' : Follows can [] (q' ++ last ∷ []) = subst (Follows can []) is f in
      let (l, whole) = live q' last (follows_front can n [] q' (last ∷ []) f') (follows_last can n [] q' last f') in
      let (c, may) = it.goes_on q l f short whole in
      let no_ = none c (omega arith) (it.within q c may) in absurd cc

  pub start_state : (tries : ℕ) (q : List ℕ) → q ≡ [] → 0 < n → State can fits n clash tries tries q 0
  start_state tries q e h w within =
      none_passed can fits n w tries (rest can n w q 0) (at_start can n w h ∙ ap (λ (p : List ℕ). rest can n w p 0) (sym e))

  pub pop_state : (tries left : ℕ) (old q : List ℕ) (c from : ℕ) → old ≡ q ++ c ∷ [] → ((d : ℕ) → from ≤ d → d < n → can old d ≡ false) → State can fits n clash tries left old from
      → State can fits n clash tries left q (c + 1)
  pop_state tries left old q c from e none s w within =
      same_passed can fits n w tries left (rest can n w old from) (rest can n w q (c + 1))
      (ap (λ (p : List ℕ). rest can n w p from) e ∙ none_left can n w q c from (λ d h k. subst (λ (p : List ℕ). can p d ≡ false) e (none d h k))) (s w within)

  pub is_found : (w : List ℕ → ℕ → Bool) (q : List ℕ) (from d : ℕ) → IsNext q from d → rest can n w q from ≡ child can n w q d ++ rest can n w q (d + 1)
  is_found w q from d (h, may, none) = found can n w q from d h (it.within q d may) none may

  pub given_up : (tries left left' : ℕ) (q : List ℕ) (from d : ℕ) → Follows can [] q → length q < n → IsNext q from d
      → ((l r : List ℕ) → IsWhole can n l → l ≡ q ++ d ∷ r → ¬ fits l) → left' + 1 ≡ left → State can fits n clash tries left q from → State can fits n clash tries left' q (d + 1)
  given_up tries left left' q from d f short next law less s w within =
      more_passed can fits n w tries left left' (rest can n w q from) (child can n w q d) (rest can n w q (d + 1)) (s w within)
      (is_found w q from d next) (some_below can n it live w q d f next.1 short) less (all_below_fail can n it live fits w q d law)

  pub down_state : (tries left : ℕ) (q q' : List ℕ) (from d : ℕ) → IsNext q from d → (clash q d ≡ true → ⊥) → length q + 1 < n → q' ≡ q ++ d ∷ [] → State can fits n clash tries left q from
      → State can fits n clash tries left q' 0
  down_state tries left q q' from d next free short e s w within =
      same_passed can fits n w tries left (rest can n w q from) (rest can n w q' 0)
      (is_found w q from d next ∙ placed can n w q d (calm (w q d) refl) short ∙ ap (λ (p : List ℕ). rest can n w p 0) (sym e)) (s w within)
    where
      calm : (b : Bool) → w q d ≡ b → w q d ≡ false
      calm true is = absurd (free (within q d is))
      calm false is = is

  pub judged : (tries left left' : ℕ) (q : List ℕ) (from d : ℕ) → Follows can [] q → length q + 1 ≡ n → IsNext q from d → ¬ fits (q ++ d ∷ []) → left' + 1 ≡ left
      → State can fits n clash tries left q from → State can fits n clash tries left' q (d + 1)
  judged tries left left' q from d f len next misfit less s =
      given_up tries left left' q from d f (omega arith) next
      (λ l r w e. subst (λ (x : List ℕ). ¬ fits x) (ap (λ (z : List ℕ). q ++ d ∷ z) (sym (no_more n q l r d len w.len e)) ∙ sym e) misfit) less s

  pub is_whole_child : (w : List ℕ → ℕ → Bool) (q : List ℕ) (from d : ℕ) → length q + 1 ≡ n → IsNext q from d → rest can n w q from ≡ (q ++ d ∷ []) ∷ rest can n w q (d + 1)
  is_whole_child w q from d len next = is_found w q from d next ∙ ap (λ (xs : List (List ℕ)). xs ++ rest can n w q (d + 1)) (whole_child can n w q d len)

  pub whole_next : (q : List ℕ) (from d : ℕ) → Follows can [] q → length q + 1 ≡ n → IsNext q from d → IsWhole can n (q ++ d ∷ [])
  whole_next q from d f len next = record { len = omega (arith, length-append q (d ∷ [])); follows = follows_push can n [] q d f next.1 }

  pub first_state : (tries left : ℕ) (q : List ℕ) (from d : ℕ) → Follows can [] q → length q + 1 ≡ n → IsNext q from d → fits (q ++ d ∷ []) → State can fits n clash tries left q from
      → FindsFirst can fits n clash (q ++ d ∷ [])
  first_state tries left q from d f len next yes_ s w within =
      first_passed can fits n w tries left (rest can n w q from) (rest can n w q (d + 1)) (q ++ d ∷ []) (s w within) (is_whole_child w q from d len next)
      (whole_next q from d f len next) yes_

  pub spent_state : (tries left : ℕ) (q : List ℕ) (from d : ℕ) → Follows can [] q → length q < n → IsNext q from d → left ≡ 0 → State can fits n clash tries left q from
      → FindsSpent can fits n clash tries
  spent_state tries left q from d f short next none s w within =
      let more : 0 < length (rest can n w q from) =
      omega (arith, ap length (is_found w q from d next), length-append (child can n w q d) (rest can n w q (d + 1)), some_below can n it live w q d f next.1 short) in
      spent_passed can fits n w tries left (rest can n w q from) (s w within) more none

  -- with no more tries than those that were spent the search is spent here
  pub tried_state : (tries left k : ℕ) (q : List ℕ) (from d : ℕ) → Follows can [] q → length q < n → IsNext q from d → k ≡ tries - left
      → State can fits n clash tries left q from → FindsSpent can fits n clash k
  tried_state tries left k q from d f short next is s =
      subst (FindsSpent can fits n clash) (sym is)
      (spent_state (tries - left) 0 q from d f short next refl (λ w within. tried_passed can fits n w tries left (rest can n w q from) (s w within)))

  pub none_state : (tries left : ℕ) (q : List ℕ) (from : ℕ) → q ≡ [] → ((d : ℕ) → from ≤ d → d < n → can q d ≡ false) → State can fits n clash tries left q from
      → FindsNone can fits n clash
  none_state tries left q from e none s w within =
      none_fits can fits n w tries left (rest can n w q from) (s w within)
      (ap (λ (p : List ℕ). rest can n w p from) e ∙ all_done can n w from (λ d h k. subst (λ (p : List ℕ). can p d ≡ false) e (none d h k)))

-- how many steps are left before a number is given up or a list is judged
abbrev pub steps_left : ℕ → ℕ → ℕ → ℕ
steps_left n len zero = n - len
steps_left n len (suc from) = n + 1 + len

abbrev pub tries_steps : ℕ → ℕ → ℕ
tries_steps n zero = 0
tries_steps n (suc left) = tries_steps n left + (n + n + 2)

-- the measure: tries first, then what is taken back, then what is placed
abbrev pub all_steps : ℕ → ℕ → ℕ → ℕ → ℕ
all_steps n left len from = tries_steps n left + steps_left n len from

steps_most : (n len from : ℕ) → len < n → steps_left n len from < n + n + 2
steps_most n len zero h = omega arith
steps_most n len (suc from) h = omega arith

pub fewer_tries : (n left left' len len' from from' : ℕ) → left' + 1 ≡ left → len' < n → all_steps n left' len' from' < all_steps n left len from
fewer_tries n left left' len len' from from' e h =
    let m : steps_left n len' from' < n + n + 2 = steps_most n len' from' h in
    let t : tries_steps n left ≡ tries_steps n left' + (n + n + 2) = ap (λ x. tries_steps n x) (sym e ∙ plus left') in
    omega (arith, m, t)
  where
    plus : (k : ℕ) → k + 1 ≡ suc k
    plus k = omega arith

pub fewer_down : (n left len len' from : ℕ) → len' ≡ len + 1 → len < n → all_steps n left len' 0 < all_steps n left len from
fewer_down n left len len' zero e h = omega arith
fewer_down n left len len' (suc from) e h = omega arith

pub fewer_up : (n left len len' from c : ℕ) → len ≡ len' + 1 → 0 < from → all_steps n left len' (c + 1) < all_steps n left len from
fewer_up n left len len' zero c e h = absurd (omega arith)
fewer_up n left len len' (suc from) c e h = at (c + 1) (omega arith)
  where
    at : (d : ℕ) → 0 < d → all_steps n left len' d < all_steps n left len (suc from)
    at zero k = absurd (omega arith)
    at (suc d) k = omega arith

-- where a whole list has no number, the empty list is the one leaf
module _ (can : List ℕ → ℕ → Bool) (fits : List ℕ → Type 0) (n : ℕ) (clash : List ℕ → ℕ → Bool) (none : n ≡ 0) where
  one_leaf : (w : List ℕ → ℕ → Bool) → leaves_of can n w ≡ [] ∷ []
  one_leaf w = ap (λ m. leaves_of can m w) none

  pub empty_is_whole : (q : List ℕ) → q ≡ [] → IsWhole can n q
  empty_is_whole q e = record { len = ap length e ∙ sym none; follows = subst (Follows can []) (sym e) tt }

  pub empty_first : (q : List ℕ) → q ≡ [] → fits q → FindsFirst can fits n clash q
  empty_first q e yes_ w within =
      ([], [], one_leaf w ∙ ap (λ (p : List ℕ). p ∷ []) (sym e), λ x h. absurd (in_none x h), empty_is_whole q e, yes_)

  pub empty_none : (q : List ℕ) → q ≡ [] → ¬ fits q → FindsNone can fits n clash
  empty_none q e misfit w within x h whole = elim (in_cons [] x [] (subst (λ (xs : List (List ℕ)). Contains xs x) (one_leaf w) h)) [
    | inl is ↦ λ yes_. misfit (subst fits (sym (e ∙ is)) yes_)
    | inr more ↦ absurd (in_none x more)
  ]

  pub empty_spent : (tries : ℕ) → tries ≡ 0 → FindsSpent can fits n clash tries
  empty_spent tries out w within = (
    omega (arith, out, ap length (one_leaf w)),
    λ x h. absurd (in_none x (subst (λ m. Contains (take m (leaves_of can n w)) x) out h)),
  )
