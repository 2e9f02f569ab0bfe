-- Cuts keep the order of the lists; where nothing clashes the leaves are the whole lists; and a number may stand next exactly where a whole list begins so.
use Rattle.std.proofs.Common.{◌≡◌, ℕ, zero, suc, ◌<◌, Bool, true, false, Some, List, [], ◌∷◌, ◌++◌, Contains, slice_get, ◌⊎◌, inl, inr, refl, sym, ap, ◌∙◌, subst, arith}
use Rattle.std.proofs.lemmas.Option.{same_Some, slice_get_within, get_or_from_slice_get}
use Rattle.hpr_forest.specs.Lists.{LexLess, IsAscending, IsListOf}
use Rattle.hpr_forest.specs.Choices.{IsWhole, IsBacktrackFree}
use Rattle.hpr_forest.proofs.Unique.{less_irreflexive, less_trans}
use Rattle.hpr_forest.specs.Cuts.{IsLive, never, cut_at}
use Rattle.hpr_forest.specs.Cuts as tree
use Rattle.hpr_forest.proofs.Cuts.{all_cuts}

module _ (clash : List ℕ → ℕ → Bool) where
  abbrev cut : List ℕ → List ℕ → List ℕ
  cut = tree.cut clash

  head_less : (a b : ℕ) (s t : List ℕ) (x y : Bool) → a < b → LexLess (cut_at x a s) (cut_at y b t)
  head_less a b s t true true h = inl h
  head_less a b s t true false h = inl h
  head_less a b s t false true h = inl h
  head_less a b s t false false h = inl h

  none_less : (b : ℕ) (t : List ℕ) (y : Bool) → LexLess [] (cut_at y b t)
  none_less b t true = tt
  none_less b t false = tt

  same_head : (a : ℕ) (s t : List ℕ) (x : Bool) → (s ≡ t) ⊎ LexLess s t → (cut_at x a s ≡ cut_at x a t) ⊎ LexLess (cut_at x a s) (cut_at x a t)
  same_head a s t true h = inl refl
  same_head a s t false (inl e) = inl (ap (λ (r : List ℕ). a ∷ r) e)
  same_head a s t false (inr h) = inr (inr (refl, h))

  -- of two lists the earlier one's leaf is the same or earlier
  pub cut_keeps : (placed s t : List ℕ) → LexLess s t → (cut placed s ≡ cut placed t) ⊎ LexLess (cut placed s) (cut placed t)
  cut_keeps placed [] [] h = absurd h
  cut_keeps placed [] (b ∷ t) h = inr (none_less b (cut (placed ++ b ∷ []) t) (clash placed b))
  cut_keeps placed (a ∷ s) [] h = absurd h
  cut_keeps placed (a ∷ s) (b ∷ t) (inl h) = inr (head_less a b (cut (placed ++ a ∷ []) s) (cut (placed ++ b ∷ []) t) (clash placed a) (clash placed b) h)
  cut_keeps placed (a ∷ s) (b ∷ t) (inr (e, h)) =
      subst (λ (z : ℕ). (cut placed (a ∷ s) ≡ cut placed (z ∷ t)) ⊎ LexLess (cut placed (a ∷ s)) (cut placed (z ∷ t))) e
      (same_head a (cut (placed ++ a ∷ []) s) (cut (placed ++ a ∷ []) t) (clash placed a) (cut_keeps (placed ++ a ∷ []) s t h))

same_some : (a b : List ℕ) → Some a ≡ Some b → a ≡ b
same_some a b e = same_Some a b e

there : (ys : List (List ℕ)) (k : ℕ) (v : List ℕ) → slice_get ys k ≡ Some v → Contains ys v
there ys k v g = (k, slice_get_within ys k v g, get_or_from_slice_get ys k v v g)

-- in an ascending list the later of two is the greater
pub ascending_at : (xs : List (List ℕ)) → IsAscending LexLess xs → (i j : ℕ) (x y : List ℕ) → i < j → slice_get xs i ≡ Some x → slice_get xs j ≡ Some y → LexLess x y
ascending_at [] up i j x y h e f = absurd cc
ascending_at (z ∷ xs) up i zero x y h e f = absurd (omega arith)
ascending_at (z ∷ xs) up zero (suc j) x y h e f =
    let same : z ≡ x = same_some z x e in subst (λ (v : List ℕ). LexLess v y) same (up.0 y (there xs j y f))
ascending_at (z ∷ xs) up (suc i) (suc j) x y h e f = ascending_at xs up.1 i j x y (omega arith) e f

-- leaves stand in the order of the lists they come from
pub leaves_in_order : (clash : List ℕ → ℕ → Bool) (orders xs : List (List ℕ)) → IsAscending LexLess orders → IsAscending LexLess xs
    → (i j k l : ℕ) (p q : List ℕ) → slice_get orders i ≡ Some p → slice_get orders j ≡ Some q → slice_get xs k ≡ Some (tree.cut clash [] p)
    → slice_get xs l ≡ Some (tree.cut clash [] q) → k < l → i < j
leaves_in_order clash orders xs up up' i j k l p q ei ej ek el h = at (three i j)
  where
    less : LexLess (tree.cut clash [] p) (tree.cut clash [] q)
    less = ascending_at xs up' k l (tree.cut clash [] p) (tree.cut clash [] q) h ek el

    bad : (tree.cut clash [] q ≡ tree.cut clash [] p) ⊎ LexLess (tree.cut clash [] q) (tree.cut clash [] p) → ⊥
    bad (inl e) = less_irreflexive (tree.cut clash [] p) (subst (λ (v : List ℕ). LexLess (tree.cut clash [] p) v) e less)
    bad (inr g) = less_irreflexive (tree.cut clash [] p) (less_trans (tree.cut clash [] p) (tree.cut clash [] q) (tree.cut clash [] p) less g)

    -- the other list is no earlier
    at : (i < j) ⊎ ((i ≡ j) ⊎ (j < i)) → i < j
    at (inl less_) = less_
    at (inr (inl same)) = absurd (bad (inl (ap (λ (v : List ℕ). tree.cut clash [] v) (same_some q p (sym ej ∙ subst (λ (z : ℕ). slice_get orders z ≡ Some p) same ei)))))
    at (inr (inr more)) = absurd (bad (cut_keeps clash [] q p (ascending_at orders up j i q p more ej ei)))

    three : (a b : ℕ) → (a < b) ⊎ ((a ≡ b) ⊎ (b < a))
    three zero zero = inr (inl refl)
    three zero (suc b) = inl (omega arith)
    three (suc a) zero = inr (inr (omega arith))
    three (suc a) (suc b) = elim (three a b) [
      | inl h_ ↦ inl (omega arith)
      | inr h_ ↦ (elim h_ [ inl e_ ↦ inr (inl (ap suc e_)) | inr g_ ↦ inr (inr (omega arith)) ])
    ]

never_cut : (placed l : List ℕ) → tree.cut never placed l ≡ l
never_cut placed [] = refl
never_cut placed (c ∷ l) = ap (λ (r : List ℕ). c ∷ r) (never_cut (placed ++ c ∷ []) l)

-- where nothing clashes, the leaves are the whole lists
pub whole_lists : (can : List ℕ → ℕ → Bool) (n : ℕ) → IsBacktrackFree can n → IsLive can n → IsListOf LexLess (IsWhole can n) (tree.leaves_of can n never)
whole_lists can n it live =
    let all = all_cuts can n never it live in
    record {
      sound = λ x h. let (l, w, e) = all.sound x h in subst (IsWhole can n) (sym (e ∙ never_cut [] l)) w;
      complete = λ x w. all.complete x (x, w, sym (never_cut [] x));
      ascending = all.ascending;
    }
