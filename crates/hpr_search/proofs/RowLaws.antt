-- Rows of numbers that grow.
use Rattle.std.proofs.Common.{◌≡◌, ℕ, zero, suc, ◌<◌, inl, inr, List, [], ◌∷◌, ◌++◌, Vec, Global, All, length, set, get_or, Contains, sym, ap, ◌∙◌, subst, arith}
use Rattle.std.proofs.lemmas.Bool.{cases_eq}
use Rattle.std.proofs.lemmas.List.{get_or-set_same, get_or-set_other, length-set, map-set}
use Rattle.std.proofs.lemmas.List.Elements.{Contains-push, Contains-push_cases, Contains-append_left, Contains-get_or}
use Rattle.hpr_search.specs.Rows.{numbers_at, numbers_of, with_number, AreWithin, IsPushed}
use Rattle.hpr_search.proofs.RowLists.{read_row}

in_none : (n : ℕ) → ¬ Contains [] n
in_none n h = omega (arith, h.1)

pub within_row : (rows : List (List ℕ)) (at : ℕ) → AreWithin rows → All (λ n. n < length rows) (numbers_at rows at)
within_row rows at within k d l = within at (get_or (numbers_at rows at) k d) (Contains-get_or (numbers_at rows at) k d l)

-- one more number at the end of a row
pub pushed_at : (rows : List (List ℕ)) (at number : ℕ) → at < length rows → IsPushed rows at number (with_number rows at number)
pushed_at rows at number l from to = elim (cases_eq from at) [
  | inl e ↦
      (let same : numbers_at (with_number rows at number) from ≡ numbers_at rows from ++ number ∷ [] =
      ap (numbers_at (with_number rows at number)) e ∙ get_or-set_same rows at (numbers_at rows at ++ number ∷ []) [] l ∙ ap (λ (k : ℕ). numbers_at rows k ++ number ∷ []) (sym e) in
      rw same (
        λ h. elim (Contains-push_cases (numbers_at rows from) number to h) [ inl was ↦ inl was | inr is ↦ inr (e, sym is) ],
        λ h. elim h [
          | inl was ↦ Contains-append_left (numbers_at rows from) (number ∷ []) to was
          | inr now ↦ subst (Contains (numbers_at rows from ++ number ∷ [])) (sym now.1) (Contains-push (numbers_at rows from) number)
        ],
      ))
  | inr ne ↦
      (let same : numbers_at (with_number rows at number) from ≡ numbers_at rows from = get_or-set_other rows at from (numbers_at rows at ++ number ∷ []) [] ne in
      rw same (λ h. inl h, λ h. elim h [ inl was ↦ was | inr now ↦ absurd (ne now.0) ]))
]

pub length_with : (rows : List (List ℕ)) (at number : ℕ) → length (with_number rows at number) ≡ length rows
length_with rows at number = length-set rows at (numbers_at rows at ++ number ∷ [])

pub within_with : (rows : List (List ℕ)) (at number : ℕ) → at < length rows → number < length rows → AreWithin rows → AreWithin (with_number rows at number)
within_with rows at number l k within from to h =
    let less : to < length rows = elim ((pushed_at rows at number l from to).0 h) [ inl was ↦ within from to was | inr now ↦ omega (arith, now.1, k) ] in
    omega (arith, less, length_with rows at number)

-- what the code writes
pub rows_same : (rows : List (Vec ℕ Global)) (at : ℕ) (row row' : Vec ℕ Global) → at < length rows → row ≡ get_or rows at row → row'.items ≡ row.items → numbers_of (set rows at row') ≡ numbers_of rows
rows_same [] at row row' l is is' = absurd (omega (arith, l))
rows_same (r ∷ rows) zero row row' l is is' = ap (λ (xs : List ℕ). xs ∷ numbers_of rows) (is' ∙ ap (λ (x : Vec ℕ Global). x.items) is)
rows_same (r ∷ rows) (suc at) row row' l is is' = ap (λ (xs : List (List ℕ)). r.items ∷ xs) (rows_same rows at row row' (omega (arith, l)) is is')

pub rows_with : (rows : List (Vec ℕ Global)) (at number : ℕ) (row row' : Vec ℕ Global) → at < length rows → row ≡ get_or rows at row → row'.items ≡ row.items ++ number ∷ [] → numbers_of (set rows at row') ≡ with_number (numbers_of rows) at number
rows_with rows at number row row' l is is' =
    map-set (λ (r : Vec ℕ Global). r.items) rows at row'
    ∙ ap (set (numbers_of rows) at) (is' ∙ ap (λ (xs : List ℕ). xs ++ number ∷ []) (sym (read_row rows at row l is)))

-- no number stands in an empty row more
pub blank_more : (rows : List (List ℕ)) → ((at n : ℕ) → ¬ Contains (numbers_at rows at) n) → (at n : ℕ) → ¬ Contains (numbers_at (rows ++ [] ∷ []) at) n
blank_more [] none zero n h = in_none n h
blank_more [] none (suc at) n h = none at n h
blank_more (row ∷ rows) none zero n h = none zero n h
blank_more (row ∷ rows) none (suc at) n h = blank_more rows (λ k m. none (suc k) m) at n h
