-- How many leaves a search has passed: one with each try.
use Rattle.std.proofs.Common.{◌≡◌, ℕ, zero, suc, ◌+◌, ◌-◌, ◌<◌, ◌≤◌, Bool, true, false, List, [], ◌∷◌, ◌++◌, length, take, Contains, sym, ap, ◌∙◌, subst, arith, append_assoc, length-append}
use Rattle.hpr_forest.specs.Choices.{IsBacktrackFree}
use Rattle.hpr_forest.specs.Cuts.{AreSoMany, IsAmongFirst, IsLive, leaves_of, pick}
use Rattle.hpr_forest.proofs.CutStates.{IsNext, is_found, is_whole_child}
use Rattle.hpr_forest.proofs.CutSteps.{at_start, cuts, none_left, placed, rest, all_done}
use Rattle.hpr_forest.proofs.Unique.{in_first, in_later}

take_has : (k : ℕ) (front back : List (List ℕ)) (x : List ℕ) → length front < k → Contains (take k (front ++ x ∷ back)) x
take_has zero front back x h = absurd (omega arith)
take_has (suc k) [] back x h = in_first x (take k back)
take_has (suc k) (y ∷ front) back x h = in_later y x (take k (front ++ x ∷ back)) (take_has k front back x (omega arith))

module _ (can : List ℕ → ℕ → Bool) (n : ℕ) (clash : List ℕ → ℕ → Bool) where
  -- the leaves before the rest are as many as the tries that were spent
  pub record Spending (tries left : ℕ) (rest : List (List ℕ)) : Type 0 where
    pub front : List (List ℕ)
    pub is : leaves_of can n clash ≡ front ++ rest
    pub count : length front + left ≡ tries

  -- where q is placed and the next number is looked for from `from` on
  abbrev pub Spends : ℕ → ℕ → List ℕ → ℕ → Type 0
  Spends tries left q from = Spending tries left (rest can n clash q from)

  same_rest : (tries left : ℕ) (xs ys : List (List ℕ)) → xs ≡ ys → Spending tries left xs → Spending tries left ys
  same_rest tries left xs ys e s = subst (Spending tries left) e s

  one_more : (tries left left' : ℕ) (x : List ℕ) (xs ys : List (List ℕ)) → xs ≡ x ∷ ys → left' + 1 ≡ left → Spending tries left xs → Spending tries left' ys
  one_more tries left left' x xs ys e less s = record {
    front = s.front ++ x ∷ [];
    is = s.is ∙ ap (λ (r : List (List ℕ)). s.front ++ r) e ∙ sym (append_assoc s.front (x ∷ []) ys);
    count = omega (arith, s.count, less, length-append s.front (x ∷ []));
  }

  pub starts : (tries : ℕ) (q : List ℕ) → q ≡ [] → 0 < n → Spends tries tries q 0
  starts tries q e h =
      record { front = []; is = at_start can n clash h ∙ ap (λ (p : List ℕ). rest can n clash p 0) (sym e); count = omega arith }

  pub pops : (tries left : ℕ) (old q : List ℕ) (c from : ℕ) → old ≡ q ++ c ∷ [] → ((d : ℕ) → from ≤ d → d < n → can old d ≡ false) → Spends tries left old from
      → Spends tries left q (c + 1)
  pops tries left old q c from e none s =
      same_rest tries left (rest can n clash old from) (rest can n clash q (c + 1))
      (ap (λ (p : List ℕ). rest can n clash p from) e ∙ none_left can n clash q c from (λ d h k. subst (λ (p : List ℕ). can p d ≡ false) e (none d h k))) s

  module _ (fits : List ℕ → Type 0) (it : IsBacktrackFree can n) (live : IsLive can n) where
    abbrev pub Next : List ℕ → ℕ → ℕ → Type 0
    Next q from d = IsNext can fits n clash it live q from d

    -- the number clashes: with it there is one leaf
    pub gives_up : (tries left left' : ℕ) (q : List ℕ) (from d : ℕ) → Next q from d → clash q d ≡ true → left' + 1 ≡ left → Spends tries left q from
        → Spends tries left' q (d + 1)
    gives_up tries left left' q from d next is less s =
        one_more tries left left' (q ++ d ∷ []) (rest can n clash q from) (rest can n clash q (d + 1))
        (is_found can fits n clash it live clash q from d next
        ∙ ap (λ b. pick b (q ++ d ∷ []) (cuts can n clash (n - (length q + 1)) (q ++ d ∷ [])) ++ rest can n clash q (d + 1)) is) less s

    pub goes_down : (tries left : ℕ) (q q' : List ℕ) (from d : ℕ) → Next q from d → clash q d ≡ false → length q + 1 < n → q' ≡ q ++ d ∷ [] → Spends tries left q from
        → Spends tries left q' 0
    goes_down tries left q q' from d next free short e s =
        same_rest tries left (rest can n clash q from) (rest can n clash q' 0)
        (is_found can fits n clash it live clash q from d next ∙ placed can n clash q d free short ∙ ap (λ (p : List ℕ). rest can n clash p 0) (sym e)) s

    -- the list is whole: it is one leaf
    pub judges : (tries left left' : ℕ) (q : List ℕ) (from d : ℕ) → length q + 1 ≡ n → Next q from d → left' + 1 ≡ left → Spends tries left q from
        → Spends tries left' q (d + 1)
    judges tries left left' q from d len next less s =
        one_more tries left left' (q ++ d ∷ []) (rest can n clash q from) (rest can n clash q (d + 1))
        (is_whole_child can fits n clash it live clash q from d len next) less s

    -- the list is the next leaf behind those that were tried
    pub finds : (tries left k : ℕ) (q : List ℕ) (from d : ℕ) → length q + 1 ≡ n → Next q from d → k ≡ tries - left + 1 → Spends tries left q from
        → IsAmongFirst can n clash k (q ++ d ∷ [])
    finds tries left k q from d len next is s =
        subst (λ (r : List (List ℕ)). Contains (take k r) (q ++ d ∷ []))
        (sym (s.is ∙ ap (λ (r : List (List ℕ)). s.front ++ r) (is_whole_child can fits n clash it live clash q from d len next)))
        (take_has k s.front (rest can n clash q (d + 1)) (q ++ d ∷ []) (omega (arith, s.count, is)))

  pub few_left : (tries left : ℕ) (q : List ℕ) (from : ℕ) → Spends tries left q from → left ≤ tries
  few_left tries left q from s = omega (arith, s.count)

  pub ends : (tries left k : ℕ) (q : List ℕ) (from : ℕ) → q ≡ [] → ((d : ℕ) → from ≤ d → d < n → can q d ≡ false) → k ≡ tries - left → Spends tries left q from
      → AreSoMany can n clash k
  ends tries left k q from e none is s =
      let out : rest can n clash q from ≡ [] =
      ap (λ (p : List ℕ). rest can n clash p from) e ∙ all_done can n clash from (λ d h k. subst (λ (p : List ℕ). can p d ≡ false) e (none d h k)) in
      omega (arith, is, s.count, ap length s.is, length-append s.front (rest can n clash q from), ap length out)

  -- where a whole list has no number, the empty list is the one leaf
  module _ (none : n ≡ 0) where
    one_leaf : leaves_of can n clash ≡ [] ∷ []
    one_leaf = ap (λ m. leaves_of can m clash) none

    pub empty_among : (tries : ℕ) (q : List ℕ) → q ≡ [] → 0 < tries → IsAmongFirst can n clash tries q
    empty_among tries q e more =
        subst (λ (r : List (List ℕ)). Contains (take tries r) q) (sym one_leaf)
        (subst (λ (x : List ℕ). Contains (take tries ([] ∷ [])) x) (sym e) (take_has tries [] [] [] more))

    pub empty_count : AreSoMany can n clash 1
    empty_count = ap length one_leaf
