-- The search that gives each clashing number up has exactly the leaves, each once, in ascending order.
use Rattle.std.proofs.Common.{◌≡◌, ℕ, zero, suc, ◌+◌, Bool, true, false, List, [], ◌∷◌, ◌++◌, length, Contains, inl, inr, refl, sym, ap, ◌∙◌, subst, arith, append_assoc, length-append}
use Rattle.std.proofs.lemmas.List.{append-nil}
use Rattle.hpr_forest.specs.Lists.{LexLess, IsAscending, IsListOf}
use Rattle.hpr_forest.specs.Choices.{Follows, IsWhole, IsBacktrackFree}
use Rattle.hpr_forest.specs.Cuts.{IsLive, pick, cut_at}
use Rattle.hpr_forest.specs.Cuts as tree
use Rattle.hpr_forest.proofs.Unique.{less_behind, in_none, in_first, in_cons}
use Rattle.hpr_forest.proofs.Leaves.{branch_in, branch_has, branch_ascending, follows_push}

module _ (can : List ℕ → ℕ → Bool) (n : ℕ) (clash : List ℕ → ℕ → Bool) (it : IsBacktrackFree can n) (live : IsLive can n) where
  abbrev cut : List ℕ → List ℕ → List ℕ
  cut = tree.cut clash

  abbrev cuts : ℕ → List ℕ → List (List ℕ)
  cuts = tree.cuts can n clash

  abbrev child : ℕ → List ℕ → ℕ → List (List ℕ)
  child k q c = pick (clash q c) (q ++ c ∷ []) (cuts k (q ++ c ∷ []))

  -- where there is a whole list, each front that follows is the front of one
  pub extend : (l : List ℕ) → IsWhole can n l → (k : ℕ) (q : List ℕ) → Follows can [] q → length q + k ≡ n → (r : List ℕ) × (length r ≡ k) × Follows can q r
  extend l w zero q f e = ([], refl, tt)
  extend l w (suc k) q f e =
      let (c, may) = it.goes_on q l f (omega arith) w in
      let (r, len, f') = extend l w k (q ++ c ∷ []) (follows_push can n [] q c f may) (omega (arith, length-append q (c ∷ []))) in
      (c ∷ r, ap suc len, (may, f'))

  cut_true : (q r : List ℕ) (c : ℕ) → clash q c ≡ true → q ++ cut q (c ∷ r) ≡ q ++ c ∷ []
  cut_true q r c e = ap (λ b. q ++ cut_at b c (cut (q ++ c ∷ []) r)) e

  cut_false : (q r : List ℕ) (c : ℕ) → clash q c ≡ false → q ++ cut q (c ∷ r) ≡ (q ++ c ∷ []) ++ cut (q ++ c ∷ []) r
  cut_false q r c e = ap (λ b. q ++ cut_at b c (cut (q ++ c ∷ []) r)) e ∙ sym (append_assoc q (c ∷ []) (cut (q ++ c ∷ []) r))

  cuts_in : (k : ℕ) (q x : List ℕ) → Follows can [] q → length q + k ≡ n → Contains (cuts k q) x → (r : List ℕ) × (length r ≡ k) × Follows can q r × (x ≡ q ++ cut q r)
  cuts_in zero q x f e h = elim (in_cons q x [] h) [
    | inl same ↦ ([], refl, tt, sym same ∙ sym (append-nil q))
    | inr none ↦ absurd (in_none x none)
  ]
  cuts_in (suc k) q x f e h =
      let (c, _, may, here) = branch_in (child k q) (can q) 0 n x h in
      let f' : Follows can [] (q ++ c ∷ []) = follows_push can n [] q c f may in
      let e' : length (q ++ c ∷ []) + k ≡ n = omega (arith, length-append q (c ∷ [])) in
      at c may (live q c f may) f' e' (clash q c) refl here (cuts_in k (q ++ c ∷ []) x f' e')
    where
      at : (c : ℕ) → can q c ≡ true → ((l : List ℕ) × IsWhole can n l) → Follows can [] (q ++ c ∷ []) → length (q ++ c ∷ []) + k ≡ n → (b : Bool) → clash q c ≡ b
          → Contains (pick b (q ++ c ∷ []) (cuts k (q ++ c ∷ []))) x
          → (Contains (cuts k (q ++ c ∷ [])) x → (r : List ℕ) × (length r ≡ k) × Follows can (q ++ c ∷ []) r × (x ≡ (q ++ c ∷ []) ++ cut (q ++ c ∷ []) r))
          → (r : List ℕ) × (length r ≡ suc k) × Follows can q r × (x ≡ q ++ cut q r)
      at c may (l, w) f' e' true is here rest =
          let (r, len, g) = extend l w k (q ++ c ∷ []) f' e' in
          elim (in_cons (q ++ c ∷ []) x [] here) [
            | inl same ↦ (c ∷ r, ap suc len, (may, g), sym same ∙ sym (cut_true q r c is))
            | inr none ↦ absurd (in_none x none)
          ]
      at c may some f' e' false is here rest =
          let (r, len, g, same) = rest here in (c ∷ r, ap suc len, (may, g), same ∙ sym (cut_false q r c is))

  pub cuts_has : (k : ℕ) (q r : List ℕ) → length r ≡ k → Follows can q r → Contains (cuts k q) (q ++ cut q r)
  cuts_has zero q [] len f = rw (append-nil q) (in_first q [])
  cuts_has zero q (c ∷ r) len f = absurd (omega arith)
  cuts_has (suc k) q [] len f = absurd (omega arith)
  cuts_has (suc k) q (c ∷ r) len f =
      branch_has (child k q) (can q) 0 n c (q ++ cut q (c ∷ r)) (omega arith) (omega (arith, it.within q c f.0)) f.0
      (at (clash q c) refl (cuts_has k (q ++ c ∷ []) r (omega arith) f.1))
    where
      at : (b : Bool) → clash q c ≡ b → Contains (cuts k (q ++ c ∷ [])) ((q ++ c ∷ []) ++ cut (q ++ c ∷ []) r)
          → Contains (pick (clash q c) (q ++ c ∷ []) (cuts k (q ++ c ∷ []))) (q ++ cut q (c ∷ r))
      at true is rest = subst (λ b. Contains (pick b (q ++ c ∷ []) (cuts k (q ++ c ∷ []))) (q ++ cut q (c ∷ r))) (sym is)
          (subst (λ y. Contains ((q ++ c ∷ []) ∷ []) y) (sym (cut_true q r c is)) (in_first (q ++ c ∷ []) []))
      at false is rest = subst (λ b. Contains (pick b (q ++ c ∷ []) (cuts k (q ++ c ∷ []))) (q ++ cut q (c ∷ r))) (sym is)
          (subst (λ y. Contains (cuts k (q ++ c ∷ [])) y) (sym (cut_false q r c is)) rest)

  -- each begins with its front
  begins : (k : ℕ) (q x : List ℕ) → Contains (cuts k q) x → (s : List ℕ) × (x ≡ q ++ s)
  begins zero q x h = elim (in_cons q x [] h) [ inl same ↦ ([], sym same ∙ sym (append-nil q)) | inr none ↦ absurd (in_none x none) ]
  begins (suc k) q x h =
      let (c, _, _, here) = branch_in (child k q) (can q) 0 n x h in
      at c (clash q c) here (begins k (q ++ c ∷ []) x)
    where
      at : (c : ℕ) (b : Bool) → Contains (pick b (q ++ c ∷ []) (cuts k (q ++ c ∷ []))) x
          → (Contains (cuts k (q ++ c ∷ [])) x → (s : List ℕ) × (x ≡ (q ++ c ∷ []) ++ s)) → (s : List ℕ) × (x ≡ q ++ s)
      at c true here rest = elim (in_cons (q ++ c ∷ []) x [] here) [ inl same ↦ (c ∷ [], sym same) | inr none ↦ absurd (in_none x none) ]
      at c false here rest = let (s, e) = rest here in (c ∷ s, e ∙ append_assoc q (c ∷ []) s)

  pub child_begins : (k : ℕ) (q x : List ℕ) (c : ℕ) (b : Bool) → Contains (pick b (q ++ c ∷ []) (cuts k (q ++ c ∷ []))) x → (s : List ℕ) × (x ≡ q ++ c ∷ s)
  child_begins k q x c true here = elim (in_cons (q ++ c ∷ []) x [] here) [ inl same ↦ ([], sym same) | inr none ↦ absurd (in_none x none) ]
  child_begins k q x c false here = let (s, e) = begins k (q ++ c ∷ []) x here in (s, e ∙ append_assoc q (c ∷ []) s)

  cuts_ascending : (k : ℕ) (q : List ℕ) → IsAscending LexLess (cuts k q)
  cuts_ascending zero q = (λ y h. absurd (in_none y h), tt)
  cuts_ascending (suc k) q = branch_ascending (child k q) (can q) 0 n
      (λ c. one c (clash q c) (cuts_ascending k (q ++ c ∷ [])))
      (λ c d x y lt h h'.
      let (r, e) = child_begins k q x c (clash q c) h in
      let (s, e') = child_begins k q y d (clash q d) h' in
      rw (e, e') (less_behind q r s c d lt))
    where
      one : (c : ℕ) (b : Bool) → IsAscending LexLess (cuts k (q ++ c ∷ [])) → IsAscending LexLess (pick b (q ++ c ∷ []) (cuts k (q ++ c ∷ [])))
      one c true rest = (λ y h. absurd (in_none y h), tt)
      one c false rest = rest

  pub all_cuts : IsListOf LexLess (tree.IsLeaf can n clash) (cuts n [])
  all_cuts = record {
    sound = λ x h. let (r, len, f, e) = cuts_in n [] x tt (omega arith) h in (r, record { len = len; follows = f }, e);
    complete = λ x h. let (l, w, e) = h in subst (Contains (cuts n [])) (sym e) (cuts_has n [] l w.len w.follows);
    ascending = cuts_ascending n [];
  }
