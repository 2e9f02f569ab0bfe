-- The first links of up to 64 slices, one link after another.
use Rattle.std.proofs.Common.{◌≡◌, ℕ, zero, suc, ◌+◌, ◌-◌, ◌^◌, ◌<◌, ◌≤◌, ◌↔◌, ◌⊎◌, inl, inr, Option, Some, None, List, [], ◌∷◌, ◌++◌, length, get_or, replicate, slice_get, refl, sym, ap, ◌∙◌, subst, arith}
use Rattle.std.specs.Int.{bit_at}
use Rattle.std.proofs.lemmas.Bool.{cases_eq}
use Rattle.std.proofs.lemmas.Nat.Bits.{bit_at_ones}
use Rattle.hpr_search.specs.Marks.{IsMarked}
use Rattle.hpr_graph.specs.declared.link.Link.{Link}
use Rattle.hpr_graph.specs.Numbered.{Numbered, HasLink, IsNumbered, row_of}
use Rattle.hpr_graph.proofs.Lists.{some_inj}
use Rattle.hpr_merge.specs.Added.{AddedEach, ArePast, IsFirst, IsFirstAdded, MoreEach}
use Rattle.hpr_merge.specs.Words.{HasBit, column}
use Rattle.hpr_merge.proofs.Bits.{no_bit}
use Rattle.hpr_merge.proofs.FirstLinks.{NoneBefore, first_here, first_into, none_next, none_whole, none_added_whole}

get_none : {X : Type 0} → (n i : ℕ) (x : X) → i < n → slice_get (replicate n x) i ≡ Some x
get_none zero i x l = absurd (omega (arith, l))
get_none (suc n) zero x l = refl
get_none (suc n) (suc i) x l = get_none n i x (omega (arith, l))

one_behind : {X : Type 0} → (n : ℕ) (x : X) → replicate n x ++ x ∷ [] ≡ replicate (suc n) x
one_behind zero x = refl
one_behind (suc n) x = ap (λ xs. x ∷ xs) (one_behind n x)

pub replicate_more : {X : Type 0} → (n : ℕ) (x : X) → replicate n x ++ x ∷ [] ≡ replicate (n + 1) x
replicate_more n x = let more : suc n ≡ n + 1 = omega arith in one_behind n x ∙ ap (λ (k : ℕ). replicate k x) more

-- those of the links before one
pub record ArePastTo (P : ℕ → Link → Type 0) (ls : List Link) (n to waiting left : ℕ) (old new : List (Option (ℕ × Link))) (i : ℕ) : Type 0 where
  pub others : ¬ HasBit waiting i → (¬ HasBit left i) × (slice_get new i ≡ slice_get old i)
  pub kept : HasBit left i → HasBit waiting i × NoneBefore (P i) ls n × (slice_get new i ≡ slice_get old i)
  pub put : HasBit waiting i → ¬ HasBit left i → (l : Link) × IsFirst (P i) ls (Some l) × (slice_get new i ≡ Some (Some (to, l)))

module _ (P : ℕ → Link → Type 0) (ls : List Link) (to waiting : ℕ) (old : List (Option (ℕ × Link))) (i : ℕ) where
  pub past_more : (n left more left' : ℕ) (d : Link) (now new : List (Option (ℕ × Link))) → n < length ls → ArePastTo P ls n to waiting left old now i
      → HasBit more i ↔ (HasBit left i × P i (get_or ls n d)) → HasBit left' i ↔ (HasBit left i × (¬ HasBit more i))
      → (¬ HasBit more i → slice_get new i ≡ slice_get now i) → (HasBit more i → slice_get new i ≡ Some (Some (to, get_or ls n d)))
      → ArePastTo P ls (n + 1) to waiting left' old new i
  past_more n left more left' d now new within a more_is left_is kept put = record {
    others = λ no.
        (let (closed, same) = a.others no in (λ h. closed (left_is.0 h).0, kept (λ h. closed (more_is.0 h).0) ∙ same));
    kept = λ h.
        (let (was, not_more) = left_is.0 h in
        let (waits, none, same) = a.kept was in
        (waits, none_next (P i) ls n d within (λ p. not_more (more_is.1 (was, p))) none, kept not_more ∙ same));
    put = λ waits no. elim (cases_eq (bit_at more i) 1) [
      | inl is_more ↦
          (let (was, p) = more_is.0 is_more in
          let (o, none, same) = a.kept was in
          (get_or ls n d, first_here (P i) ls n d within p none, put is_more))
      | inr not_more ↦
          (let closed : ¬ HasBit left i = λ was. no (left_is.1 (was, not_more)) in
          let (l, first, at) = a.put waits closed in
          (l, first, kept not_more ∙ at))
    ];
  }

  pub past_whole : (n left : ℕ) (new : List (Option (ℕ × Link))) → length ls ≤ n → ArePastTo P ls n to waiting left old new i → ArePast P ls to waiting left old new i
  past_whole n left new all a = record {
    others = a.others;
    kept = λ h. (let (waits, none, same) = a.kept h in (waits, none_whole (P i) ls n all none, same));
    put = a.put;
  }

  pub past_closed : (n left : ℕ) (new : List (Option (ℕ × Link))) → left ≡ 0 → ArePastTo P ls n to waiting left old new i → ArePast P ls to waiting left old new i
  past_closed n left new none a = record {
    others = a.others;
    kept = λ h. absurd (no_bit i (subst (λ (w : ℕ). HasBit w i) none h));
    put = a.put;
  }

-- the links into a vertex
module _ (k : Numbered) (grown own : List ℕ) (to waiting here : ℕ) (row : List Link) (old new : List (Option (ℕ × Link))) (i : ℕ)
    (here_is : HasBit here i ↔ (HasBit waiting i × (IsMarked (column grown i) to × IsMarked (column own i) to))) where
  pub past_skipped : here ≡ 0 → ArePast (AddedEach k grown own to) row to waiting waiting old old i
  past_skipped none = record {
    others = λ no. (no, refl);
    kept = λ h. (h, λ l has (g, w, more). no_bit i (subst (λ (x : ℕ). HasBit x i) none (here_is.1 (h, (g, w)))), refl);
    put = λ h no. absurd (no h);
  }

  pub past_into : (left result : ℕ) (links own_links : List Link) → links ≡ row → own_links ≡ row_of k to → HasBit result i ↔ ((HasBit waiting i × (¬ HasBit here i)) ⊎ HasBit left i)
      → ArePast (MoreEach grown own own_links) links to here left old new i → ArePast (AddedEach k grown own to) row to waiting result old new i
  past_into left result links own_links links_are own_are result_is a = record {
    others = λ no.
        (let (closed, same) = a.others (λ h. no (here_is.0 h).0) in
        (λ h. elim (result_is.0 h) [ inl (waits, x) ↦ no waits | inr is_left ↦ closed is_left ], same));
    kept = λ h. elim (result_is.0 h) [
      | inl (waits, not_here) ↦ (waits, λ l has (g, w, more). not_here (here_is.1 (waits, (g, w))), (a.others not_here).1)
      | inr is_left ↦
          (let (is_here, none, same) = a.kept is_left in
          let (waits, (g, w)) = here_is.0 is_here in
          (waits, first_into k (column grown i) (column own i) to links row own_links None g w links_are own_are none, same))
    ];
    put = λ waits no. elim (cases_eq (bit_at here i) 1) [
      | inl is_here ↦
          (let (l, first, at) = a.put is_here (λ h. no (result_is.1 (inr h))) in
          let (o, (g, w)) = here_is.0 is_here in
          (l, first_into k (column grown i) (column own i) to links row own_links (Some l) g w links_are own_are first, at))
      | inr not_here ↦ absurd (no (result_is.1 (inl (waits, not_here))))
    ];
  }

-- all links
pub record IsFoundTo (m k : Numbered) (grown own : List ℕ) (to waiting : ℕ) (firsts : List (Option (ℕ × Link))) (i : ℕ) : Type 0 where
  pub kept : HasBit waiting i → (slice_get firsts i ≡ Some None) × ((t : ℕ) (l : Link) → t < to → HasLink m t l → ¬ AddedEach k grown own t i l)
  pub put : ¬ HasBit waiting i → (t : ℕ) × (l : Link) × (slice_get firsts i ≡ Some (Some (t, l))) × IsFirstAdded m k (column grown i) (column own i) (Some (t, l))

module _ (m k : Numbered) (grown own : List ℕ) where
  pub found_none : (count : ℕ) (firsts : List (Option (ℕ × Link))) → firsts ≡ replicate count None → (i : ℕ) → i < count → i < 64 → IsFoundTo m k grown own 0 (2 ^ 64 - 1) firsts i
  found_none count firsts is i l few = record {
    kept = λ h. (ap (λ (xs : List (Option (ℕ × Link))). slice_get xs i) is ∙ get_none count i None l, λ t link less. absurd (omega (arith, less)));
    put = λ no. absurd (no (bit_at_ones 64 i few));
  }

  pub found_more : (to waiting left : ℕ) (old new : List (Option (ℕ × Link))) (i : ℕ) → IsFoundTo m k grown own to waiting old i → ArePast (AddedEach k grown own to) (row_of m to) to waiting left old new i → IsFoundTo m k grown own (to + 1) left new i
  found_more to waiting left old new i a past = record {
    kept = λ h.
        (let (waits, none, same) = past.kept h in
        let (blank, before) = a.kept waits in (
          same ∙ blank,
          λ t l less has added. elim (cases_eq t to) [
            | inl e ↦ none l (subst (λ (n : ℕ). HasLink m n l) e has) (subst (λ (n : ℕ). AddedEach k grown own n i l) e added)
            | inr ne ↦ before t l (omega (arith, less, ne)) has added
          ],
        ));
    put = λ no. elim (cases_eq (bit_at waiting i) 1) [
      | inl waits ↦
          (let (l, first, at) = past.put waits no in
          (to, l, at, (first, (a.kept waits).1)))
      | inr closed ↦ (let (t, l, at, first) = a.put closed in (t, l, (past.others closed).1 ∙ at, first))
    ];
  }

  pub found_whole : (to waiting : ℕ) (firsts : List (Option (ℕ × Link))) (i : ℕ) → IsNumbered m → length m.vertices ≤ to → IsFoundTo m k grown own to waiting firsts i
      → (o : Option (ℕ × Link)) → slice_get firsts i ≡ Some o → IsFirstAdded m k (column grown i) (column own i) o
  found_whole to waiting firsts i km all a o at = elim (cases_eq (bit_at waiting i) 1) [
    | inl waits ↦
        (let (blank, before) = a.kept waits in
        let is : None ≡ o = some_inj None o (sym blank ∙ at) in
        subst (IsFirstAdded m k (column grown i) (column own i)) is (none_added_whole m k (column grown i) (column own i) to km all before))
    | inr closed ↦
        (let (t, l, found, first) = a.put closed in
        let is : Some (t, l) ≡ o = some_inj (Some (t, l)) o (sym found ∙ at) in
        subst (IsFirstAdded m k (column grown i) (column own i)) is first)
  ]
