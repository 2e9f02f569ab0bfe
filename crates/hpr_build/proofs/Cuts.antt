-- Rows one by one: with each number of loops cut, and through the back edge of each loop.
use Rattle.std.proofs.Common.{◌≡◌, ◌↔◌, ℕ, zero, suc, ◌+◌, ◌<◌, Bool, IsTrue, Option, None, List, [], ◌∷◌, ◌++◌, length, get_or, inl, inr, sym, ap, ◌∙◌, subst, arith, below_more, length-append}
use Rattle.std.proofs.Math.Seq.{get_or-append_seam}
use Rattle.std.proofs.lemmas.List.{get_or_append_left, get_or_default}
use Rattle.hpr_terms.proofs.Facts.{taken_item}
use Rattle.hpr_paths.specs.Spots.{Spot, nest_at}
use Rattle.hpr_search.specs.Marks.{IsMarked}
use Rattle.hpr_reach.specs.Flows.{ComesRound, GoesOn}
use Rattle.hpr_reach.proofs.Flows.{carried_parts}
use Rattle.hpr_build.specs.Flows.{CutsTo, AreCuts, IsCarriedBy, CarriesTo, AreCarries}

pub last_place : {X : Type 0} (xs xs' : List X) (x d : X) (n : ℕ) → length xs ≡ n → xs' ≡ xs ++ x ∷ [] → get_or xs' n d ≡ x
last_place {X} xs xs' x d n len is = ap (λ (ys : List X). get_or ys n d) is ∙ sym (ap (λ (k : ℕ). get_or (xs ++ x ∷ []) k d) len) ∙ get_or-append_seam xs x [] d

-- P at each place of a list, with one element more
pub places_more : {X : Type 0} (P : ℕ → X → Type 0) (xs xs' : List X) (x d : X) (n : ℕ) → length xs ≡ n → xs' ≡ xs ++ x ∷ [] → ((i : ℕ) → i < n → P i (get_or xs i d)) → P n x → (i : ℕ) → i < n + 1 → P i (get_or xs' i d)
places_more {X} P xs xs' x d n len is before here =
    below_more (λ i. P i (get_or xs' i d)) n
    (λ i l. subst (P i) (sym (get_or_append_left xs (x ∷ []) d i (omega (arith, l, len))) ∙ ap (λ (ys : List X). get_or ys i d) (sym is)) (before i l))
    (subst (P n) (sym (last_place xs xs' x d n len is)) here)

module _ (spots : List Spot) (x : List ℕ) (d : ℕ) where
  abbrev Nest : List ℕ
  Nest = nest_at spots d

  -- one row, with no loop cut
  pub cuts_begun : (all : List Bool) (rows : List (List Bool)) (places : List ℕ) → rows ≡ all ∷ [] → places ≡ 0 ∷ [] → CutsTo spots x d 0 all → AreCuts spots x d 1 rows places
  cuts_begun all rows places r p cuts zero l = rw (r, p) (omega arith, cuts)
  cuts_begun all rows places r p cuts (suc n) l = absurd (omega (arith, l))

  -- a loop to which the value doesn't come round cuts nothing
  pub same_cut : (c : ℕ) (row : List Bool) → c < length Nest → ¬ ComesRound spots x (get_or Nest c 0) d → CutsTo spots x d c row → CutsTo spots x d (c + 1) row
  same_cut c row l off cuts = λ u.
      let more = λ (w : ℕ). taken_item Nest c (get_or Nest c 0) w l (sym (get_or_default Nest c (get_or Nest c 0) 0 l)) in (
        (λ m.
            let (steps, path, avoids) = (cuts u).0 m in (
              steps,
              path,
              λ w h there. elim ((more w).0 h) [
                | inl k ↦ avoids w k there
                | inr e ↦ off (subst (λ (v : ℕ). ComesRound spots x v d) (sym e) (carried_parts spots x w path there).0)
              ],
            )),
        (λ (steps, path, avoids). (cuts u).1 (steps, path, λ w h. avoids w ((more w).1 (inl h)))),
      )

  pub cuts_more : (n place : ℕ) (rows rows' : List (List Bool)) (places places' : List ℕ) → length places ≡ n → places' ≡ places ++ place ∷ [] → AreCuts spots x d n rows places
      → ((i : ℕ) → i < length rows → (i < length rows') × (get_or rows' i [] ≡ get_or rows i [])) → place < length rows' → CutsTo spots x d n (get_or rows' place []) → AreCuts spots x d (n + 1) rows' places'
  cuts_more n place rows rows' places places' len is before kept within here =
      places_more (λ c p. (p < length rows') × CutsTo spots x d c (get_or rows' p [])) places places' place 0 n len is
      (λ c l. let (b, cuts) = before c l in
      let k = kept (get_or places c 0) b in
      (k.0, subst (CutsTo spots x d c) (sym k.1) cuts))
      (within, here)

  pub carries_more : (n : ℕ) (rows rows' : List (Option (List Bool))) (row : Option (List Bool)) → length rows ≡ n → rows' ≡ rows ++ row ∷ [] → AreCarries spots x d n rows → CarriesTo spots x d (get_or Nest n 0) row → AreCarries spots x d (n + 1) rows'
  carries_more n rows rows' row len is before here = places_more (λ i r. CarriesTo spots x d (get_or Nest i 0) r) rows rows' row None n len is before here

  -- what is kept of one loop, by its place in a list of the loops around
  pub carried_here : (ws : List ℕ) (n : ℕ) (round : List Bool) (comes : Bool) (row : Option (List Bool)) → ws ≡ Nest → IsTrue comes ↔ IsMarked round (get_or ws n 0)
      → ((w : ℕ) → IsMarked round w ↔ ComesRound spots x w d) → ((u : ℕ) → IsCarriedBy row (get_or ws n 0) u ↔ (IsTrue comes × GoesOn spots x (get_or ws n 0) u)) → CarriesTo spots x d (get_or Nest n 0) row
  carried_here ws n round comes row is marked rounds exact =
      subst (λ (xs : List ℕ). CarriesTo spots x d (get_or xs n 0) row) is (λ u. (
        λ h. (let (t, on) = (exact u).0 h in ((rounds (get_or ws n 0)).0 (marked.0 t), on)),
        λ (comes_round, on). (exact u).1 (marked.1 ((rounds (get_or ws n 0)).1 comes_round), on),
      ))

-- what stood in a list stands there once one more is put behind it
pub kept_before : {X : Type 0} (xs xs' : List X) (x d : X) → xs' ≡ xs ++ x ∷ [] → (i : ℕ) → i < length xs → (i < length xs') × (get_or xs' i d ≡ get_or xs i d)
kept_before {X} xs xs' x d is i l = (
  omega (arith, l, ap length is ∙ length-append xs (x ∷ [])),
  ap (λ (ys : List X). get_or ys i d) is ∙ get_or_append_left xs (x ∷ []) d i l,
)
