-- Rows in a list of rows.
use Rattle.std.proofs.Common.{◌≡◌, ℕ, zero, suc, ◌+◌, ◌<◌, inl, inr, List, [], ◌∷◌, ◌++◌, Vec, Global, Contains, length, map, get_or, refl, sym, ap, ◌∙◌, subst, arith}
use Rattle.std.proofs.lemmas.Bool.{cases_eq}
use Rattle.std.proofs.lemmas.List.{get_or_append_left, get_or_push, length-map}

module _ {X : Type 0} where
  abbrev pub items_of : List (Vec X Global) → List (List X)
  items_of rows = map (λ (row : Vec X Global). row.items) rows

  -- what the code reads of a row
  pub read_row : (rows : List (Vec X Global)) (at : ℕ) (row : Vec X Global) → at < length rows → row ≡ get_or rows at row → get_or (items_of rows) at [] ≡ row.items
  read_row [] at row l is = absurd (omega (arith, l))
  read_row (r ∷ rows) zero row l is = ap (λ (x : Vec X Global). x.items) (sym is)
  read_row (r ∷ rows) (suc at) row l is = read_row rows at row (omega (arith, l)) is

  pub read_slice : (rows : List (Vec X Global)) (at : ℕ) (row : Vec X Global) (xs : List X) → at < length rows → row ≡ get_or rows at row → xs ≡ row.items → xs ≡ get_or (items_of rows) at []
  read_slice rows at row xs l is same = same ∙ sym (read_row rows at row l is)

  pub length_rows : (rows : List (Vec X Global)) → length (items_of rows) ≡ length rows
  length_rows rows = length-map rows (λ (row : Vec X Global). row.items)

  pub push_row : (rows : List (Vec X Global)) (row : Vec X Global) → items_of (rows ++ row ∷ []) ≡ items_of rows ++ row.items ∷ []
  push_row [] row = refl
  push_row (r ∷ rows) row = ap (λ (xs : List (List X)). r.items ∷ xs) (push_row rows row)

  -- the number of a row that has an item
  pub row_within : (rows : List (List X)) (at : ℕ) (x : X) → Contains (get_or rows at []) x → at < length rows
  row_within [] zero x h = absurd (omega (arith, h.1))
  row_within [] (suc at) x h = absurd (omega (arith, h.1))
  row_within (row ∷ rows) zero x h = omega arith
  row_within (row ∷ rows) (suc at) x h = let l = row_within rows at x h in omega (arith, l)

  -- the row behind the others
  row_last : (rows : List (List X)) (row : List X) (at : ℕ) → at ≡ length rows → get_or (rows ++ row ∷ []) at [] ≡ row
  row_last rows row at is = get_or_push rows row [] at (sym is)

  row_before : (rows : List (List X)) (row : List X) (at : ℕ) → at < length rows → get_or (rows ++ row ∷ []) at [] ≡ get_or rows at []
  row_before rows row at l = get_or_append_left rows (row ∷ []) [] at l

  -- what holds of each row holds with one more
  pub rows_more : (P : ℕ → List X → Type 0) (rows : List (List X)) (row : List X) (n : ℕ) → length rows ≡ n → ((at : ℕ) → at < n → P at (get_or rows at [])) → P n row → (at : ℕ) → at < n + 1 → P at (get_or (rows ++ row ∷ []) at [])
  rows_more P rows row n len before here at l = elim (cases_eq at n) [
    | inl e ↦ subst (λ (xs : List X). P at xs) (sym (row_last rows row at (e ∙ sym len))) (subst (λ (k : ℕ). P k row) (sym e) here)
    | inr ne ↦ (let lt : at < n = omega arith in subst (λ (xs : List X). P at xs) (sym (row_before rows row at (omega (arith, lt, len)))) (before at lt))
  ]
