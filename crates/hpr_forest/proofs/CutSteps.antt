-- The steps of the search that gives numbers up: what they leave of the leaves.
use Rattle.std.proofs.Common.{◌≡◌, ℕ, zero, suc, ◌+◌, ◌-◌, ◌<◌, ◌≤◌, Bool, true, false, List, [], ◌∷◌, ◌++◌, length, take, Contains, inl, inr, refl, sym, ap, ◌∙◌, subst, arith, append_assoc, length-append}
use Rattle.std.proofs.lemmas.List.{append-nil}
use Rattle.std.proofs.lemmas.List.Elements.{Contains-append_cases}
use Rattle.hpr_forest.specs.Choices.{Follows, IsWhole, IsBacktrackFree}
use Rattle.hpr_forest.specs.Leaves.{branch}
use Rattle.hpr_forest.proofs.Unique.{in_none, in_first, in_cons, in_later}
use Rattle.hpr_forest.proofs.Leaves.{branch_none, branch_first, follows_push}
use Rattle.hpr_forest.specs.Cuts.{IsLive, pick, Fails, AllFail, IsFirstFit, AreSpent}
use Rattle.hpr_forest.specs.Cuts as tree
use Rattle.hpr_forest.proofs.Cuts.{extend, cuts_has, child_begins}

module _ (can : List ℕ → ℕ → Bool) (n : ℕ) (clash : List ℕ → ℕ → Bool) where
  abbrev pub cuts : ℕ → List ℕ → List (List ℕ)
  cuts = tree.cuts can n clash

  -- the leaves that begin with q and c
  abbrev pub child : List ℕ → ℕ → List (List ℕ)
  child q c = pick (clash q c) (q ++ c ∷ []) (cuts (n - (length q + 1)) (q ++ c ∷ []))

  -- those that begin with q and whose next number is at least `from`
  abbrev pub level : List ℕ → ℕ → List (List ℕ)
  level q from = branch (child q) (can q) from (n - from)

  -- those that begin with pre, after all those that begin with pre and the rest
  abbrev pub later : List ℕ → List ℕ → List (List ℕ)
  later pre [] = []
  later pre (c ∷ back) = later (pre ++ c ∷ []) back ++ level pre (c + 1)

  -- those that are left where q is placed and the next number is looked for from `from` on
  abbrev pub rest : List ℕ → ℕ → List (List ℕ)
  rest q from = level q from ++ later [] q

  later_push : (pre q : List ℕ) (c : ℕ) → later pre (q ++ c ∷ []) ≡ level (pre ++ q) (c + 1) ++ later pre q
  later_push pre [] c = rw (append-nil pre, append-nil (level pre (c + 1))) refl
  later_push pre (d ∷ q) c =
      ap (λ xs. xs ++ level pre (d + 1)) (later_push (pre ++ d ∷ []) q c)
      ∙ append_assoc (level ((pre ++ d ∷ []) ++ q) (c + 1)) (later (pre ++ d ∷ []) q) (level pre (d + 1))
      ∙ ap (λ (p : List ℕ). level p (c + 1) ++ (later (pre ++ d ∷ []) q ++ level pre (d + 1))) (append_assoc pre (d ∷ []) q)

  -- all of them are left at first
  pub at_start : 0 < n → cuts n [] ≡ rest [] 0
  at_start h =
      let e : n ≡ suc (n - (0 + 1)) = omega arith in
      let z : n - 0 ≡ n = omega arith in
      ap (λ m. cuts m []) e ∙ ap (λ m. branch (child []) (can []) 0 m) (sym z) ∙ sym (append-nil (level [] 0))

  -- the next number is d
  pub found : (q : List ℕ) (from d : ℕ) → from ≤ d → d < n → ((e : ℕ) → from ≤ e → e < d → can q e ≡ false) → can q d ≡ true
      → rest q from ≡ child q d ++ rest q (d + 1)
  found q from d h k none is =
      ap (λ (xs : List (List ℕ)). xs ++ later [] q)
      (branch_first (child q) (can q) from (n - from) d (n - (d + 1)) h (omega arith) none is)
      ∙ append_assoc (child q d) (level q (d + 1)) (later [] q)

  -- it is placed, and the list isn't whole
  pub placed : (q : List ℕ) (d : ℕ) → clash q d ≡ false → length q + 1 < n → child q d ++ rest q (d + 1) ≡ rest (q ++ d ∷ []) 0
  placed q d is h =
      let l : length (q ++ d ∷ []) ≡ length q + 1 = length-append q (d ∷ []) in
      let e : n - (length q + 1) ≡ suc (n - (length (q ++ d ∷ []) + 1)) = omega arith in
      let z : n - 0 ≡ n = omega arith in
      ap (λ b. pick b (q ++ d ∷ []) (cuts (n - (length q + 1)) (q ++ d ∷ [])) ++ rest q (d + 1)) is
      ∙ ap (λ m. cuts m (q ++ d ∷ []) ++ rest q (d + 1)) e
      ∙ ap (λ m. branch (child (q ++ d ∷ [])) (can (q ++ d ∷ [])) 0 m ++ rest q (d + 1)) (sym z)
      ∙ ap (λ (xs : List (List ℕ)). level (q ++ d ∷ []) 0 ++ xs) (sym (later_push [] q d))

  -- with it the list is whole
  pub whole_child : (q : List ℕ) (d : ℕ) → length q + 1 ≡ n → child q d ≡ (q ++ d ∷ []) ∷ []
  whole_child q d h =
      let z : n - (length q + 1) ≡ 0 = omega arith in
      ap (λ m. pick (clash q d) (q ++ d ∷ []) (cuts m (q ++ d ∷ []))) z ∙ either (clash q d)
    where
      either : (b : Bool) → pick b (q ++ d ∷ []) ((q ++ d ∷ []) ∷ []) ≡ (q ++ d ∷ []) ∷ []
      either true = refl
      either false = refl

  -- none is left at this level
  pub none_left : (q : List ℕ) (c from : ℕ) → ((d : ℕ) → from ≤ d → d < n → can (q ++ c ∷ []) d ≡ false) → rest (q ++ c ∷ []) from ≡ rest q (c + 1)
  none_left q c from none =
      ap (λ (xs : List (List ℕ)). xs ++ later [] (q ++ c ∷ [])) (branch_none (child (q ++ c ∷ [])) (can (q ++ c ∷ [])) from (n - from) (λ d h k. none d h (omega arith)))
      ∙ later_push [] q c

  pub all_done : (from : ℕ) → ((d : ℕ) → from ≤ d → d < n → can [] d ≡ false) → rest [] from ≡ []
  all_done from none =
      ap (λ (xs : List (List ℕ)). xs ++ []) (branch_none (child []) (can []) from (n - from) (λ d h k. none d h (omega arith)))

some_length : (xs : List (List ℕ)) (x : List ℕ) → Contains xs x → 0 < length xs
some_length [] x h = absurd (in_none x h)
some_length (y ∷ xs) x h = omega arith

module _ (can : List ℕ → ℕ → Bool) (n : ℕ) (it : IsBacktrackFree can n) (live : IsLive can n) where
  -- at least one leaf lies below what may stand next
  pub some_below : (clash : List ℕ → ℕ → Bool) (q : List ℕ) (d : ℕ) → Follows can [] q → can q d ≡ true → length q < n → 0 < length (child can n clash q d)
  some_below clash q d f may h = at (clash q d) refl
    where
      at : (b : Bool) → clash q d ≡ b → 0 < length (child can n clash q d)
      at true is = subst (λ (b : Bool). 0 < length (pick b (q ++ d ∷ []) (tree.cuts can n clash (n - (length q + 1)) (q ++ d ∷ [])))) (sym is) (omega arith)
      at false is =
          let f' : Follows can [] (q ++ d ∷ []) = follows_push can n [] q d f may in
          let e : length (q ++ d ∷ []) + (n - (length q + 1)) ≡ n = omega (arith, length-append q (d ∷ [])) in
          let (l, w) = live q d f may in
          let (r, len, g) = extend can n clash it live l w (n - (length q + 1)) (q ++ d ∷ []) f' e in
          subst (λ (b : Bool). 0 < length (pick b (q ++ d ∷ []) (tree.cuts can n clash (n - (length q + 1)) (q ++ d ∷ [])))) (sym is)
          (some_length (tree.cuts can n clash (n - (length q + 1)) (q ++ d ∷ [])) _ (cuts_has can n clash it live (n - (length q + 1)) (q ++ d ∷ []) r len g))

  -- where no whole list that begins so fits, none of the leaves below does
  pub all_below_fail : (fits : List ℕ → Type 0) (clash : List ℕ → ℕ → Bool) (q : List ℕ) (d : ℕ) → ((l r : List ℕ) → IsWhole can n l → l ≡ q ++ d ∷ r → ¬ fits l)
      → AllFail can fits n (child can n clash q d)
  all_below_fail fits clash q d law x h w =
      let (s, e) = child_begins can n clash it live (n - (length q + 1)) q x d (clash q d) h in law x s w e

module _ (can : List ℕ → ℕ → Bool) (fits : List ℕ → Type 0) (n : ℕ) (clash : List ℕ → ℕ → Bool) where
  -- those before the rest are as many as the tries spent, or more, and none of them fits
  pub record Passed (tries left : ℕ) (rest : List (List ℕ)) : Type 0 where
    pub front : List (List ℕ)
    pub is : tree.leaves_of can n clash ≡ front ++ rest
    pub count : tries ≤ length front + left
    pub none : AllFail can fits n front

  fail_append : (xs ys : List (List ℕ)) → AllFail can fits n xs → AllFail can fits n ys → AllFail can fits n (xs ++ ys)
  fail_append xs ys a b z h = elim (Contains-append_cases xs ys z h) [ inl l ↦ a z l | inr r ↦ b z r ]

  fail_take : (k : ℕ) (xs ys : List (List ℕ)) → k ≤ length xs → AllFail can fits n xs → AllFail can fits n (take k (xs ++ ys))
  fail_take zero xs ys l none = λ z h. absurd (in_none z h)
  fail_take (suc k) [] ys l none = absurd (omega arith)
  fail_take (suc k) (x ∷ xs) ys l none = λ z h. elim (in_cons x z (take k (xs ++ ys)) h) [
    | inl e ↦ subst (λ w. Fails can fits n w) e (none x (in_first x xs))
    | inr more ↦ fail_take k xs ys (omega arith) (λ w i. none w (in_later x w xs i)) z more
  ]

  -- nothing was tried yet
  pub none_passed : (tries : ℕ) (rest : List (List ℕ)) → tree.leaves_of can n clash ≡ rest → Passed tries tries rest
  none_passed tries rest e = record { front = []; is = e; count = omega arith; none = λ x h. absurd (in_none x h) }

  -- what is left is written in another way
  pub same_passed : (tries left : ℕ) (rest rest' : List (List ℕ)) → rest ≡ rest' → Passed tries left rest → Passed tries left rest'
  same_passed tries left rest rest' e t = subst (λ r. Passed tries left r) e t

  -- one more try passed all of `gone`
  pub more_passed : (tries left left' : ℕ) (rest gone rest' : List (List ℕ)) → Passed tries left rest → rest ≡ gone ++ rest' → 0 < length gone → left' + 1 ≡ left
      → AllFail can fits n gone → Passed tries left' rest'
  more_passed tries left left' rest gone rest' t e some less no_ = record {
    front = t.front ++ gone;
    is = t.is ∙ ap (λ r. t.front ++ r) e ∙ sym (append_assoc t.front gone rest');
    count = omega (arith, t.count, less, some, length-append t.front gone);
    none = fail_append t.front gone t.none no_;
  }

  pub spent_passed : (tries left : ℕ) (rest : List (List ℕ)) → Passed tries left rest → 0 < length rest → left ≡ 0 → AreSpent can fits n clash tries
  spent_passed tries left rest t more out = (
    omega (arith, t.count, more, ap length t.is, length-append t.front rest),
    subst (λ (q : List (List ℕ)). AllFail can fits n (take tries q)) (sym t.is) (fail_take tries t.front rest (omega (arith, t.count)) t.none),
  )

  -- with no more tries than those that were spent
  pub tried_passed : (tries left : ℕ) (rest : List (List ℕ)) → Passed tries left rest → Passed (tries - left) 0 rest
  tried_passed tries left rest t = record { front = t.front; is = t.is; count = omega (arith, t.count); none = t.none }

  pub first_passed : (tries left : ℕ) (rest back : List (List ℕ)) (x : List ℕ) → Passed tries left rest → rest ≡ x ∷ back → IsWhole can n x → fits x
      → IsFirstFit can fits n clash x
  first_passed tries left rest back x t e w yes_ = (t.front, back, t.is ∙ ap (λ r. t.front ++ r) e, t.none, w, yes_)

  pub none_fits : (tries left : ℕ) (rest : List (List ℕ)) → Passed tries left rest → rest ≡ [] → AllFail can fits n (tree.leaves_of can n clash)
  none_fits tries left rest t e = subst (λ (q : List (List ℕ)). AllFail can fits n q) (sym (t.is ∙ ap (λ r. t.front ++ r) e ∙ append-nil t.front)) t.none
