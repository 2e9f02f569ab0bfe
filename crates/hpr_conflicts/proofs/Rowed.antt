-- The places at which numbers stand, in rows.
use Rattle.std.proofs.Common.{◌≡◌, ℕ, zero, suc, ◌+◌, ◌<◌, ◌↔◌, inl, inr, Some, List, [], ◌∷◌, ◌++◌, Contains, length, get_or, replicate, slice_get, refl, sym, ap, ◌∙◌, subst, arith, length-append}
use Rattle.std.specs.List.Sorted.{IsStrictlyIncreasing}
use Rattle.std.proofs.lemmas.Bool.{cases_eq}
use Rattle.std.proofs.lemmas.List.{get_or_append_left, get_or_push, get_or-set_other, get_or-set_same, length-replicate}
use Rattle.std.proofs.lemmas.List.Elements.{Contains-get_or}
use Rattle.std.proofs.lemmas.Option.{get_or_from_slice_get, slice_get_within}
use Rattle.hpr_terms.proofs.Facts.{at_end, at_push, get_longer, in_none, place_of}
use Rattle.hpr_search.specs.Rows.{numbers_at, with_number}
use Rattle.hpr_search.proofs.RowLaws.{length_with, pushed_at}
use Rattle.hpr_conflicts.specs.Groups.{AreRows}

pub record AreRowed (ns : List ℕ) (m : ℕ) (rows : List (List ℕ)) : Type 0 where
  pub count : length rows ≡ m
  pub places : (g i : ℕ) → Contains (numbers_at rows g) i ↔ (slice_get ns i ≡ Some g)
  pub ascend : (g : ℕ) → IsStrictlyIncreasing (numbers_at rows g)

-- a greater number behind an ascending list
pub ascend_more : (xs : List ℕ) (y : ℕ) → IsStrictlyIncreasing xs → ((x : ℕ) → Contains xs x → x < y) → IsStrictlyIncreasing (xs ++ y ∷ [])
ascend_more xs y up below k l =
    let long : length (xs ++ y ∷ []) ≡ length xs + 1 = length-append xs (y ∷ []) in
    elim (cases_eq (k + 1) (length xs)) [
      | inl last ↦
          (let here : get_or (xs ++ y ∷ []) k 0 ≡ get_or xs k 0 = get_or_append_left xs (y ∷ []) 0 k (omega (arith, last)) in
          let end : get_or (xs ++ y ∷ []) (k + 1) 0 ≡ y = get_or_push xs y 0 (k + 1) (sym last) in
          let less = below (get_or xs k 0) (Contains-get_or xs k 0 (omega (arith, last))) in
          omega (arith, here, end, less))
      | inr inside ↦
          (let in_xs : k + 1 < length xs = omega (arith, l, long) in
          let here : get_or (xs ++ y ∷ []) k 0 ≡ get_or xs k 0 = get_or_append_left xs (y ∷ []) 0 k (omega (arith, in_xs)) in
          let next : get_or (xs ++ y ∷ []) (k + 1) 0 ≡ get_or xs (k + 1) 0 = get_or_append_left xs (y ∷ []) 0 (k + 1) in_xs in
          let less = up k in_xs in
          omega (arith, here, next, less))
    ]

blank_at : (m g : ℕ) → numbers_at (replicate m []) g ≡ []
blank_at zero g = refl
blank_at (suc m) zero = refl
blank_at (suc m) (suc g) = blank_at m g

pub rowed_none : (m : ℕ) (rows : List (List ℕ)) → rows ≡ replicate m [] → AreRowed [] m rows
rowed_none m rows is =
    let blank : (g : ℕ) → numbers_at rows g ≡ [] = λ g. ap (λ (rs : List (List ℕ)). numbers_at rs g) is ∙ blank_at m g in record {
      count = ap length is ∙ length-replicate m [];
      places = λ g i. (λ h. absurd (in_none i (subst (λ (row : List ℕ). Contains row i) (blank g) h)), λ at. absurd cc);
      ascend = λ g k l. absurd (let e = ap length (blank g) in omega (arith, l, e));
    }

module _ (ns : List ℕ) (m : ℕ) (rows : List (List ℕ)) (a : AreRowed ns m rows) (n : ℕ) (l : n < m) where
  pub rowed_more : (i : ℕ) → i ≡ length ns → AreRowed (ns ++ n ∷ []) m (with_number rows n i)
  rowed_more i is =
      let in_rows : n < length rows = omega (arith, l, a.count) in
      let pushed = pushed_at rows n i in_rows in record {
        count = length_with rows n i ∙ a.count;
        places = λ g j. (
          λ h. elim ((pushed g j).0 h) [
            | inl was ↦ get_longer ns (n ∷ []) j g ((a.places g j).0 was)
            | inr (same, here) ↦ subst (λ (k : ℕ). slice_get (ns ++ n ∷ []) k ≡ Some g) (sym (here ∙ is)) (at_end ns n ∙ ap Some (sym same))
          ],
          λ at. elim (at_push ns n j g at) [
            | inl was ↦ (pushed g j).1 (inl ((a.places g j).1 was))
            | inr (last, same) ↦ (pushed g j).1 (inr (sym same, last ∙ sym is))
          ],
        );
        ascend = λ g. elim (cases_eq g n) [
          | inl same ↦
              (let row : numbers_at (with_number rows n i) g ≡ numbers_at rows n ++ i ∷ [] = ap (numbers_at (with_number rows n i)) same ∙ get_or-set_same rows n (numbers_at rows n ++ i ∷ []) [] in_rows in
              subst IsStrictlyIncreasing (sym row)
              (ascend_more (numbers_at rows n) i (a.ascend n) (λ x has. (let w = slice_get_within ns x n ((a.places n x).0 has) in omega (arith, w, is)))))
          | inr other ↦ subst IsStrictlyIncreasing (sym (get_or-set_other rows n g (numbers_at rows n ++ i ∷ []) [] other)) (a.ascend g)
        ];
      }

pub all_rows : (ns : List ℕ) (m : ℕ) (rows : List (List ℕ)) → AreRowed ns m rows → AreRows ns m rows
all_rows ns m rows a = record {
  count = a.count;
  places = λ g row at i. subst (λ (r : List ℕ). Contains r i ↔ (slice_get ns i ≡ Some g)) (get_or_from_slice_get rows g row [] at) (a.places g i);
  ascend = λ row has. (let (g, at) = place_of rows row has in subst IsStrictlyIncreasing (get_or_from_slice_get rows g row [] at) (a.ascend g));
}
