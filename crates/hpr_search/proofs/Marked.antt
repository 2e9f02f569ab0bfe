-- Rows of marks and the lists of what they mark.
use Rattle.std.proofs.Common.{◌≡◌, ◌≢◌, ℕ, zero, suc, ◌<◌, ◌≤◌, Bool, true, false, ◌⊎◌, inl, inr, List, [], ◌∷◌, ◌++◌, length, set, replicate, get_or, slice_get, Some, Contains, append_assoc, refl, sym, ap, subst, ◌∙◌, arith}
use Rattle.std.proofs.lemmas.List.{length_push, get_or-set_same, get_or-set_other, length-set}
use Rattle.std.proofs.lemmas.Option.{slice_get_within, get_or_from_slice_get}
use Rattle.std.proofs.lemmas.List.Elements.{Contains-push, Contains-push_cases, Contains-append_left}
use Rattle.hpr_search.specs.Marks.{IsMarked, mark_count, IsRowOf, Visited}

pub mark_count-le-length : (marks : List Bool) → mark_count marks ≤ length marks
mark_count-le-length [] = omega arith
mark_count-le-length (true ∷ marks) = let h = mark_count-le-length marks in omega arith
mark_count-le-length (false ∷ marks) = let h = mark_count-le-length marks in omega arith

mark_count-set : (marks : List Bool) (p : ℕ) → p < length marks → get_or marks p false ≡ false → mark_count (set marks p true) ≡ suc (mark_count marks)
mark_count-set [] p l e = absurd (omega arith)
mark_count-set (true ∷ marks) zero l e = absurd cc
mark_count-set (false ∷ marks) zero l e = refl
mark_count-set (true ∷ marks) (suc p) l e = ap suc (mark_count-set marks p (omega arith) e)
mark_count-set (false ∷ marks) (suc p) l e = mark_count-set marks p (omega arith) e

pub no_marks : (n p : ℕ) → ¬ IsMarked (replicate n false) p
no_marks zero zero h = absurd cc
no_marks zero (suc p) h = absurd cc
no_marks (suc n) zero h = absurd cc
no_marks (suc n) (suc p) h = no_marks n p h

no_count : (n : ℕ) → mark_count (replicate n false) ≡ 0
no_count zero = refl
no_count (suc n) = no_count n

at_push : (xs : List ℕ) (x i y : ℕ) → slice_get (xs ++ x ∷ []) i ≡ Some y → (slice_get xs i ≡ Some y) ⊎ ((i ≡ length xs) × (x ≡ y))
at_push [] x zero y h = inr (refl, cc)
at_push [] x (suc i) y h = absurd cc
at_push (z ∷ xs) x zero y h = inl h
at_push (z ∷ xs) x (suc i) y h = elim (at_push xs x i y h) [ inl a ↦ inl a | inr b ↦ inr (ap suc b.0, b.1) ]

at_listed : (xs : List ℕ) (i x : ℕ) → slice_get xs i ≡ Some x → Contains xs x
at_listed xs i x h = (i, slice_get_within xs i x h, get_or_from_slice_get xs i x x h)

-- nothing stands twice in the list, nor after one more that isn't in it
once_push : (xs : List ℕ) (x : ℕ) → ((i j y : ℕ) → slice_get xs i ≡ Some y → slice_get xs j ≡ Some y → i ≡ j) → ¬ Contains xs x
    → (i j y : ℕ) → slice_get (xs ++ x ∷ []) i ≡ Some y → slice_get (xs ++ x ∷ []) j ≡ Some y → i ≡ j
once_push xs x once new i j y a b = elim (at_push xs x i y a) [
  | inl p ↦ elim (at_push xs x j y b) [ inl q ↦ once i j y p q | inr (e, same) ↦ absurd (new (subst (Contains xs) (sym same) (at_listed xs i y p))) ]
  | inr (d, same) ↦ elim (at_push xs x j y b) [ inl q ↦ absurd (new (subst (Contains xs) (sym same) (at_listed xs j y q))) | inr (e, also) ↦ d ∙ sym e ]
]

-- nothing is marked, and nothing is listed
pub empty_row : (n : ℕ) → IsRowOf (replicate n false) []
empty_row n = record { count = no_count n; listed = λ p h. absurd (no_marks n p h); marked = λ p h. absurd (omega (arith, h.1)); once = λ i j p a b. absurd cc }

pub marked_within : (marks : List Bool) (p : ℕ) → IsMarked marks p → p < length marks
marked_within [] zero h = absurd cc
marked_within [] (suc p) h = absurd cc
marked_within (m ∷ marks) zero h = omega arith
marked_within (m ∷ marks) (suc p) h = let l = marked_within marks p h in omega arith

pub same_or_other : (p q : ℕ) → (p ≡ q) ⊎ (p ≢ q)
same_or_other zero zero = inl refl
same_or_other zero (suc q) = inr (λ e. cc)
same_or_other (suc p) zero = inr (λ e. cc)
same_or_other (suc p) (suc q) = more (same_or_other p q)
  where
    more : (p ≡ q) ⊎ (p ≢ q) → (suc p ≡ suc q) ⊎ (suc p ≢ suc q)
    more (inl e) = inl (ap suc e)
    more (inr n) = inr (λ e. n (omega (arith, e)))

module _ (marks : List Bool) (order : List ℕ) (q : ℕ) (row : IsRowOf marks order) (within : q < length marks) (new : get_or marks q false ≡ false) where
  listed_then : (p : ℕ) → IsMarked (set marks q true) p → (p ≡ q) ⊎ (p ≢ q) → Contains (order ++ q ∷ []) p
  listed_then p h (inl e) = subst (Contains (order ++ q ∷ [])) (sym e) (Contains-push order q)
  listed_then p h (inr n) = Contains-append_left order (q ∷ []) p (row.listed p (sym (get_or-set_other marks q p true false n) ∙ h))

  marked_then : (p : ℕ) → Contains order p ⊎ (q ≡ p) → IsMarked (set marks q true) p
  marked_then p (inr e) = subst (IsMarked (set marks q true)) e (get_or-set_same marks q true false within)
  marked_then p (inl h) = old (same_or_other p q)
    where
      old : (p ≡ q) ⊎ (p ≢ q) → IsMarked (set marks q true) p
      old (inl e) = subst (IsMarked (set marks q true)) (sym e) (get_or-set_same marks q true false within)
      old (inr n) = get_or-set_other marks q p true false n ∙ row.marked p h

  -- one more point, marked and listed
  row_push : IsRowOf (set marks q true) (order ++ q ∷ [])
  row_push = record {
    count = let c = mark_count-set marks q within new in omega (arith, row.count, length_push order q, c);
    listed = λ p h. listed_then p h (same_or_other p q);
    marked = λ p h. marked_then p (Contains-push_cases order q p h);
    once = once_push order q row.once (λ h. let m = row.marked q h in cc);
  }

module _ (old points : List ℕ) (n : ℕ) (marks : List Bool) (order : List ℕ) (q : ℕ) (v : Visited old points n marks order) where
  among : (p : ℕ) → Contains old p ⊎ Contains points p → Contains old p ⊎ Contains (points ++ q ∷ []) p
  among p (inl h) = inl h
  among p (inr h) = inr (Contains-append_left points (q ∷ []) p h)

  -- one more point, which is marked already
  pub visited_again : IsMarked marks q → Visited old (points ++ q ∷ []) n marks order
  visited_again marked = record { size = v.size; row = v.row; more = v.more; kept = v.kept; cases = λ p h. among p (v.cases p h); all = λ p h. all p (Contains-push_cases points q p h) }
    where
      all : (p : ℕ) → Contains points p ⊎ (q ≡ p) → Contains order p
      all p (inl h) = v.all p h
      all p (inr e) = subst (Contains order) e (v.row.listed q marked)

  -- one more point, which is marked and listed now
  pub visited_new : q < n → get_or marks q false ≡ false → Visited old (points ++ q ∷ []) n (set marks q true) (order ++ q ∷ [])
  visited_new within new = record {
    size = length-set marks q true ∙ v.size;
    row = row_push marks order q v.row (omega (arith, within, v.size)) new;
    more = v.more ++ q ∷ [];
    kept = ap (λ o. o ++ q ∷ []) v.kept ∙ append_assoc old v.more (q ∷ []);
    cases = λ p h. cases p (Contains-push_cases order q p h);
    all = λ p h. all p (Contains-push_cases points q p h);
  }
    where
      cases : (p : ℕ) → Contains order p ⊎ (q ≡ p) → Contains old p ⊎ Contains (points ++ q ∷ []) p
      cases p (inl h) = among p (v.cases p h)
      cases p (inr e) = inr (subst (Contains (points ++ q ∷ [])) e (Contains-push points q))

      all : (p : ℕ) → Contains points p ⊎ (q ≡ p) → Contains (order ++ q ∷ []) p
      all p (inl h) = Contains-append_left order (q ∷ []) p (v.all p h)
      all p (inr e) = subst (Contains (order ++ q ∷ [])) e (Contains-push order q)
