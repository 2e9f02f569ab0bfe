-- Lemmas on the tree of all choices.
use Rattle.std.proofs.Common.{◌≡◌, ℕ, zero, suc, ◌+◌, ◌-◌, ◌<◌, ◌≤◌, Bool, true, false, List, [], ◌∷◌, ◌++◌, length, Contains, inl, inr, refl, sym, ap, ◌∙◌, subst, arith, append_assoc, length-append}
use Rattle.std.proofs.lemmas.List.Elements.{Contains-append_left, Contains-append_right, Contains-append_cases}
use Rattle.std.proofs.lemmas.List.{append-nil}
use Rattle.std.proofs.lemmas.Bool.{cases_eq}
use Rattle.hpr_forest.specs.Lists.{LexLess, IsAscending, IsListOf}
use Rattle.hpr_forest.specs.Choices.{Follows, IsWhole, IsBacktrackFree}
use Rattle.hpr_forest.specs.Leaves.{when, branch}
use Rattle.hpr_forest.specs.Marks.{is_in}
use Rattle.hpr_forest.specs.Leaves as tree
use Rattle.hpr_forest.proofs.Unique.{less_behind, in_none, in_first, in_cons, ascending_append}

pub branch_none : (below : ℕ → List (List ℕ)) (may : ℕ → Bool) (from count : ℕ)
    → ((d : ℕ) → from ≤ d → d < from + count → may d ≡ false) → branch below may from count ≡ []
branch_none below may from zero none = refl
branch_none below may from (suc count) none =
    rw (none from (omega arith) (omega arith)) (branch_none below may (from + 1) count (λ d h k. none d (omega arith) (omega arith)))

pub branch_first : (below : ℕ → List (List ℕ)) (may : ℕ → Bool) (from count c rest : ℕ)
    → from ≤ c → c + 1 + rest ≡ from + count → ((d : ℕ) → from ≤ d → d < c → may d ≡ false) → may c ≡ true
    → branch below may from count ≡ below c ++ branch below may (c + 1) rest
branch_first below may from zero c rest h k none is = absurd (omega arith)
branch_first below may from (suc count) c rest h k none is = elim (cases_eq c from) [
  | inl e ↦ (let same : rest ≡ count = omega arith in
      rw (same, e) (rw (subst (λ x. may x ≡ true) e is) refl))
  | inr ne ↦ rw (none from (omega arith) (omega arith)) (branch_first below may (from + 1) count c rest (omega arith) (omega arith) (λ d a b. none d (omega arith) b) is)
]

pub branch_in : (below : ℕ → List (List ℕ)) (may : ℕ → Bool) (from count : ℕ) (l : List ℕ)
    → Contains (branch below may from count) l → (c : ℕ) × (from ≤ c) × (may c ≡ true) × Contains (below c) l
branch_in below may from zero l h = absurd (in_none l h)
branch_in below may from (suc count) l h = elim (Contains-append_cases (when (may from) (below from)) (branch below may (from + 1) count) l h) [
  | inl here ↦ at (may from) refl here
  | inr later ↦ (let (c, a, b, d) = branch_in below may (from + 1) count l later in (c, omega arith, b, d))
]
  where
    at : (m : Bool) → may from ≡ m → Contains (when m (below from)) l → (c : ℕ) × (from ≤ c) × (may c ≡ true) × Contains (below c) l
    at true is here = (from, omega arith, is, here)
    at false is here = absurd (in_none l here)

pub branch_has : (below : ℕ → List (List ℕ)) (may : ℕ → Bool) (from count c : ℕ) (l : List ℕ)
    → from ≤ c → c < from + count → may c ≡ true → Contains (below c) l → Contains (branch below may from count) l
branch_has below may from zero c l h k is here = absurd (omega arith)
branch_has below may from (suc count) c l h k is here = elim (cases_eq c from) [
  | inl e ↦ Contains-append_left (when (may from) (below from)) (branch below may (from + 1) count) l
      (rw (subst (λ x. may x ≡ true) e is) (subst (λ x. Contains (below x) l) e here))
  | inr ne ↦ Contains-append_right (when (may from) (below from)) (branch below may (from + 1) count) l
      (branch_has below may (from + 1) count c l (omega arith) (omega arith) is here)
]

pub branch_ascending : (below : ℕ → List (List ℕ)) (may : ℕ → Bool) (from count : ℕ)
    → ((c : ℕ) → IsAscending LexLess (below c))
    → ((c d : ℕ) (x y : List ℕ) → c < d → Contains (below c) x → Contains (below d) y → LexLess x y)
    → IsAscending LexLess (branch below may from count)
branch_ascending below may from zero each across = tt
branch_ascending below may from (suc count) each across =
    ascending_append LexLess (when (may from) (below from)) (branch below may (from + 1) count)
    (at (may from)) (branch_ascending below may (from + 1) count each across)
    (λ x y h k. let (d, a, _, b) = branch_in below may (from + 1) count y k in across from d x y (omega arith) (inside (may from) x h) b)
  where
    at : (m : Bool) → IsAscending LexLess (when m (below from))
    at true = each from
    at false = tt

    inside : (m : Bool) (x : List ℕ) → Contains (when m (below from)) x → Contains (below from) x
    inside true x h = h
    inside false x h = absurd (in_none x h)

module _ (can : List ℕ → ℕ → Bool) (n : ℕ) where
  abbrev level : List ℕ → ℕ → List (List ℕ)
  level = tree.level can n

  abbrev later : List ℕ → List ℕ → List (List ℕ)
  later = tree.later can n

  abbrev below : List ℕ → List (List ℕ)
  below = tree.below can n

  abbrev after : List ℕ → List (List ℕ)
  after = tree.after can n

  abbrev from_here : List ℕ → List (List ℕ)
  from_here = tree.from_here can n

  abbrev leaves : ℕ → List ℕ → List (List ℕ)
  leaves = tree.leaves can n

  later_push : (pre q : List ℕ) (c : ℕ) → later pre (q ++ c ∷ []) ≡ level (pre ++ q) (c + 1) ++ later pre q
  later_push pre [] c = rw (append-nil pre, append-nil (level pre (c + 1))) refl
  later_push pre (d ∷ q) c =
      ap (λ xs. xs ++ level pre (d + 1)) (later_push (pre ++ d ∷ []) q c)
      ∙ append_assoc (level ((pre ++ d ∷ []) ++ q) (c + 1)) (later (pre ++ d ∷ []) q) (level pre (d + 1))
      ∙ ap (λ (p : List ℕ). level p (c + 1) ++ (later (pre ++ d ∷ []) q ++ level pre (d + 1))) (append_assoc pre (d ∷ []) q)

  after_push : (q : List ℕ) (c : ℕ) → after (q ++ c ∷ []) ≡ level q (c + 1) ++ after q
  after_push q c = later_push [] q c

  length_push : (q : List ℕ) (c : ℕ) → length (q ++ c ∷ []) ≡ length q + 1
  length_push q c = length-append q (c ∷ [])

  -- no child is left: what comes after is what comes after the front
  pub none_after : (q : List ℕ) (c : ℕ) → ((d : ℕ) → c + 1 ≤ d → d < n → can q d ≡ false) → after (q ++ c ∷ []) ≡ after q
  none_after q c none = after_push q c ∙ ap (λ (xs : List (List ℕ)). xs ++ after q)
      (branch_none (λ d. leaves (n - (length q + 1)) (q ++ d ∷ [])) (can q) (c + 1) (n - (c + 1)) (λ d h k. none d h (omega arith)))

  level_first : (q : List ℕ) (from d : ℕ) → from ≤ d → d < n → ((e : ℕ) → from ≤ e → e < d → can q e ≡ false) → can q d ≡ true
      → level q from ++ after q ≡ from_here (q ++ d ∷ [])
  level_first q from d h k none is =
      let first : level q from ≡ leaves (n - (length q + 1)) (q ++ d ∷ []) ++ level q (d + 1) =
      branch_first (λ e. leaves (n - (length q + 1)) (q ++ e ∷ [])) (can q) from (n - from) d (n - (d + 1)) h (omega arith) none is in
      ap (λ (xs : List (List ℕ)). xs ++ after q) first
      ∙ append_assoc (leaves (n - (length q + 1)) (q ++ d ∷ [])) (level q (d + 1)) (after q)
      ∙ ap (λ (xs : List (List ℕ)). leaves (n - (length q + 1)) (q ++ d ∷ []) ++ xs) (sym (after_push q d))
      ∙ ap (λ m. leaves (n - m) (q ++ d ∷ []) ++ after (q ++ d ∷ [])) (sym (length_push q d))

  -- the next child is d: what comes after begins below it
  pub next_after : (q : List ℕ) (c d : ℕ) → c + 1 ≤ d → d < n → ((e : ℕ) → c + 1 ≤ e → e < d → can q e ≡ false) → can q d ≡ true
      → after (q ++ c ∷ []) ≡ from_here (q ++ d ∷ [])
  next_after q c d h k none is = after_push q c ∙ level_first q (c + 1) d h k none is

  -- one more level of a front that is not whole
  below_level : (q : List ℕ) → length q < n → below q ≡ level q 0
  below_level q h = let e : n - length q ≡ suc (n - (length q + 1)) = omega arith in let z : n - 0 ≡ n = omega arith in rw (e, z) refl

  -- the first child is d: the front can go on with it
  pub down : (q : List ℕ) (d : ℕ) → length q < n → d < n → ((e : ℕ) → 0 ≤ e → e < d → can q e ≡ false) → can q d ≡ true
      → from_here q ≡ from_here (q ++ d ∷ [])
  down q d l k none is = ap (λ (xs : List (List ℕ)). xs ++ after q) (below_level q l) ∙ level_first q 0 d (omega arith) k none is

  pub at_whole : (q : List ℕ) → length q ≡ n → from_here q ≡ q ∷ after q
  at_whole q l = let z : n - length q ≡ 0 = omega arith in rw z refl

  -- fronts by the end
  pub follows_push : (p q : List ℕ) (c : ℕ) → Follows can p q → can (p ++ q) c ≡ true → Follows can p (q ++ c ∷ [])
  follows_push p [] c f is = (subst (λ (x : List ℕ). can x c ≡ true) (append-nil p) is, tt)
  follows_push p (d ∷ q) c f is = (f.0, follows_push (p ++ d ∷ []) q c f.1 (subst (λ (x : List ℕ). can x c ≡ true) (sym (append_assoc p (d ∷ []) q)) is))

  pub follows_front : (p q r : List ℕ) → Follows can p (q ++ r) → Follows can p q
  follows_front p [] r f = tt
  follows_front p (d ∷ q) r f = (f.0, follows_front (p ++ d ∷ []) q r f.1)

  -- members: exactly the whole lists
  pub leaf_in : (k : ℕ) (q l : List ℕ) → Contains (leaves k q) l → (r : List ℕ) × (l ≡ q ++ r) × (length r ≡ k) × Follows can q r
  leaf_in zero q l h = elim (in_cons q l [] h) [
    | inl e ↦ ([], sym e ∙ sym (append-nil q), refl, tt)
    | inr none ↦ absurd (in_none l none)
  ]
  leaf_in (suc k) q l h =
      let (c, _, may, here) = branch_in (λ d. leaves k (q ++ d ∷ [])) (can q) 0 n l h in
      let (r, e, len, f) = leaf_in k (q ++ c ∷ []) l here in
      (c ∷ r, e ∙ append_assoc q (c ∷ []) r, ap suc len, (may, f))

  pub leaf_has : IsBacktrackFree can n → (k : ℕ) (q r : List ℕ) → length r ≡ k → Follows can q r → Contains (leaves k q) (q ++ r)
  leaf_has it zero q [] len f = rw (append-nil q) (in_first q [])
  leaf_has it zero q (c ∷ r) len f = absurd (omega arith)
  leaf_has it (suc k) q [] len f = absurd (omega arith)
  leaf_has it (suc k) q (c ∷ r) len f =
      branch_has (λ d. leaves k (q ++ d ∷ [])) (can q) 0 n c (q ++ c ∷ r) (omega arith) (omega (arith, it.within q c f.0)) f.0
      (subst (λ (l : List ℕ). Contains (leaves k (q ++ c ∷ [])) l) (append_assoc q (c ∷ []) r) (leaf_has it k (q ++ c ∷ []) r (omega arith) f.1))

  leaves_ascending : (k : ℕ) (q : List ℕ) → IsAscending LexLess (leaves k q)
  leaves_ascending zero q = (λ y h. absurd (in_none y h), tt)
  leaves_ascending (suc k) q = branch_ascending (λ c. leaves k (q ++ c ∷ [])) (can q) 0 n
      (λ c. leaves_ascending k (q ++ c ∷ []))
      (λ c d x y lt h h'.
      let (r, e, _, _) = leaf_in k (q ++ c ∷ []) x h in
      let (s, e', _, _) = leaf_in k (q ++ d ∷ []) y h' in
      rw (e, e', append_assoc q (c ∷ []) r, append_assoc q (d ∷ []) s) (less_behind q r s c d lt))

  -- all of them are the list of the whole lists
  pub all_leaves : IsBacktrackFree can n → IsListOf LexLess (IsWhole can n) (from_here [])
  all_leaves it =
      let same : from_here [] ≡ leaves n [] = (let z : n - 0 ≡ n = omega arith in append-nil (leaves (n - 0) []) ∙ ap (λ m. leaves m []) z) in
      subst (IsListOf LexLess (IsWhole can n)) (sym same) record {
        sound = λ l h. let (r, e, len, f) = leaf_in n [] l h in record { len = ap length e ∙ len; follows = subst (Follows can []) (sym e) f };
        complete = λ l w. leaf_has it n [] l w.len w.follows;
        ascending = leaves_ascending n [];
      }

  pub follows_last : (p q : List ℕ) (c : ℕ) → Follows can p (q ++ c ∷ []) → can (p ++ q) c ≡ true
  follows_last p [] c f = subst (λ (x : List ℕ). can x c ≡ true) (sym (append-nil p)) f.0
  follows_last p (d ∷ q) c f = subst (λ (x : List ℕ). can x c ≡ true) (append_assoc p (d ∷ []) q) (follows_last (p ++ d ∷ []) q c f.1)

  pub descend_step : (q q' old : List ℕ) (d : ℕ) → IsBacktrackFree can n → Follows can [] q → q' ≡ q ++ d ∷ [] → length q < n → can q d ≡ true
      → ((e : ℕ) → 0 ≤ e → e < d → can q e ≡ false) → from_here q ≡ from_here old
      → Follows can [] q' × (length q' ≤ n) × (from_here q' ≡ from_here old)
  descend_step q q' old d it f is l may none same = (
    subst (Follows can []) (sym is) (follows_push [] q d f may),
    omega (arith, ap length is, length-append q (d ∷ [])),
    ap from_here is ∙ sym (down q d l (it.within q d may) none may) ∙ same,
  )

  -- what is known of a front whose last number was taken off
  pub popped : (old q : List ℕ) (c : ℕ) → IsBacktrackFree can n → Follows can [] old → old ≡ q ++ c ∷ [] → length old ≤ n
      → Follows can [] q × (length q + 1 ≤ n) × (c < n) × (is_in q c ≡ false)
  popped old q c it f is l =
      let f' : Follows can [] (q ++ c ∷ []) = subst (Follows can []) is f in (
        follows_front [] q (c ∷ []) f',
        omega (arith, ap length is, length-append q (c ∷ [])),
        it.within q c (follows_last [] q c f'),
        it.fresh q c (follows_last [] q c f'),
      )

  pub last_gone : (old q old' : List ℕ) (c from : ℕ) → old ≡ q ++ c ∷ [] → from ≡ c + 1 → ((d : ℕ) → from ≤ d → d < n → can q d ≡ false)
      → after old ≡ after old' → after q ≡ after old'
  last_gone old q old' c from is begins none same =
      sym (none_after q c (λ d h k. none d (omega arith) k)) ∙ ap after (sym is) ∙ same

  pub next_found : (old q q' new old' : List ℕ) (c from d : ℕ) → IsBacktrackFree can n → old ≡ q ++ c ∷ [] → from ≡ c + 1 → from ≤ d → q' ≡ q ++ d ∷ []
      → ((e : ℕ) → from ≤ e → e < d → can q e ≡ false) → can q d ≡ true
      → after old ≡ after old' → length new ≡ n → from_here new ≡ from_here q' → after old' ≡ new ∷ after new
  next_found old q q' new old' c from d it is begins h is' none may same l down_is =
      sym same ∙ ap after is ∙ next_after q c d (omega arith) (it.within q d may) (λ e a b. none e (omega arith) b) may
      ∙ ap from_here (sym is') ∙ sym down_is ∙ at_whole new l
