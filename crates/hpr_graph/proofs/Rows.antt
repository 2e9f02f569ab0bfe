-- Rows of links after one was added.
use Rattle.std.proofs.Common.{◌≡◌, ◌≢◌, ℕ, zero, suc, ◌+◌, ◌<◌, ◌⊎◌, inl, inr, Some, List, [], ◌∷◌, ◌++◌, Vec, Global, length, set, get_or, Contains, slice_get, sum_by, refl, sym, ap, subst, ◌∙◌, arith, length-append}
use Rattle.std.specs.Option.{option_map}
use Rattle.std.proofs.lemmas.Option.{slice_get-get_or, slice_get-map}
use Rattle.std.proofs.lemmas.Bool.{cases_eq}
use Rattle.std.proofs.lemmas.List.{map-append, map-set}
use Rattle.std.proofs.lemmas.List.Elements.{Contains-push, Contains-push_cases, Contains-append_left}
use Rattle.std.proofs.lemmas.List.Sums.{sum_by-set, sum_by_push}
use Rattle.hpr_graph.specs.declared.link.Link.{Link}
use Rattle.hpr_graph.specs.Graphs.{IsOnce}
use Rattle.hpr_graph.specs.Numbered.{row_items, rows_of}
use Rattle.hpr_graph.specs.Moves.{with_link, with_row}
use Rattle.hpr_graph.proofs.Lists.{set_itself, get_set_same, get_set_other, once_push}

abbrev pub InRow : List (List Link) → ℕ → Link → Type 0
InRow rows to l = Contains (row_items (slice_get rows to)) l

-- the row that the code reads
pub row_read : (rows : List (Vec Link Global)) (to : ℕ) (row : Vec Link Global) → to < length rows → row ≡ get_or rows to row → slice_get (rows_of rows) to ≡ Some row.items
row_read rows to row l e =
    slice_get-map (λ (r : Vec Link Global). r.items) rows to
    ∙ ap (option_map (λ (r : Vec Link Global). r.items)) (slice_get-get_or rows to row l ∙ ap Some (sym e))

pub rows_same : (rows : List (Vec Link Global)) (to : ℕ) (row new : Vec Link Global) → to < length rows → row ≡ get_or rows to row → new.items ≡ row.items → rows_of (set rows to new) ≡ rows_of rows
rows_same rows to row new l e h =
    map-set (λ (r : Vec Link Global). r.items) rows to new
    ∙ ap (set (rows_of rows) to) h
    ∙ set_itself (rows_of rows) to row.items (row_read rows to row l e)

pub rows_new : (rows : List (Vec Link Global)) (to : ℕ) (row new : Vec Link Global) (link : Link) → to < length rows → row ≡ get_or rows to row → new.items ≡ row.items ++ link ∷ [] → rows_of (set rows to new) ≡ with_link (rows_of rows) to link
rows_new rows to row new link l e h =
    map-set (λ (r : Vec Link Global). r.items) rows to new
    ∙ ap (set (rows_of rows) to) (h ∙ ap (λ (xs : List Link). xs ++ link ∷ []) (sym (ap row_items (row_read rows to row l e))))

pub rows_pushed : (rows new : List (Vec Link Global)) (row : Vec Link Global) → new ≡ rows ++ row ∷ [] → row.items ≡ [] → rows_of new ≡ with_row (rows_of rows)
rows_pushed rows new row e none = ap rows_of e ∙ map-append (λ (r : Vec Link Global). r.items) rows (row ∷ []) ∙ ap (λ (xs : List Link). rows_of rows ++ xs ∷ []) none

-- an empty row behind the rows changes none of them
pub row_grown : (rows : List (List Link)) (at : ℕ) → row_items (slice_get (with_row rows) at) ≡ row_items (slice_get rows at)
row_grown [] zero = refl
row_grown [] (suc at) = refl
row_grown (row ∷ rows) zero = refl
row_grown (row ∷ rows) (suc at) = row_grown rows at

pub count_grown : (rows : List (List Link)) → sum_by (λ row. length row) (with_row rows) ≡ sum_by (λ row. length row) rows
count_grown rows = omega (arith, sum_by_push (λ (row : List Link). length row) rows [])

module _ (rows : List (List Link)) (to : ℕ) (link : Link) (h : to < length rows) where
  abbrev row : List Link
  row = row_items (slice_get rows to)

  -- the row that the link was put behind
  row_to : row_items (slice_get (with_link rows to link) to) ≡ row ++ link ∷ []
  row_to = ap row_items (get_set_same rows to (row ++ link ∷ []) h)

  row_other : (at : ℕ) → at ≢ to → row_items (slice_get (with_link rows to link) at) ≡ row_items (slice_get rows at)
  row_other at ne = ap row_items (get_set_other rows to at (row ++ link ∷ []) ne)

  pub with_link-there : InRow (with_link rows to link) to link
  with_link-there = subst (λ (xs : List Link). Contains xs link) (sym row_to) (Contains-push row link)

  pub with_link-kept : (at : ℕ) (l : Link) → InRow rows at l → InRow (with_link rows to link) at l
  with_link-kept at l m = elim (cases_eq at to) [
    | inl e ↦ subst (λ (n : ℕ). InRow (with_link rows to link) n l) (sym e)
        (subst (λ (xs : List Link). Contains xs l) (sym row_to) (Contains-append_left row (link ∷ []) l (subst (λ (n : ℕ). InRow rows n l) e m)))
    | inr ne ↦ subst (λ (xs : List Link). Contains xs l) (sym (row_other at ne)) m
  ]

  pub with_link-only : (at : ℕ) (l : Link) → InRow (with_link rows to link) at l → InRow rows at l ⊎ ((at ≡ to) × (l ≡ link))
  with_link-only at l m = elim (cases_eq at to) [
    | inl e ↦ (elim (Contains-push_cases row link l (subst (λ (xs : List Link). Contains xs l) row_to (subst (λ (n : ℕ). InRow (with_link rows to link) n l) e m))) [
      | inl was ↦ inl (subst (λ (n : ℕ). InRow rows n l) (sym e) was)
      | inr is ↦ inr (e, sym is)
    ])
    | inr ne ↦ inl (subst (λ (xs : List Link). Contains xs l) (row_other at ne) m)
  ]

  pub with_link-count : sum_by (λ r. length r) (with_link rows to link) ≡ sum_by (λ r. length r) rows + 1
  with_link-count =
      let old : get_or rows to [] ≡ row = sym (ap row_items (slice_get-get_or rows to [] h)) in
      let sums = sum_by-set (λ (r : List Link). length r) rows to (row ++ link ∷ []) [] h in
      omega (arith, sums, ap length old, length-append row (link ∷ []))

  -- no link stands twice where it wasn't there
  pub with_link-once : ((at : ℕ) → IsOnce (row_items (slice_get rows at))) → ¬ InRow rows to link → (at : ℕ) → IsOnce (row_items (slice_get (with_link rows to link) at))
  with_link-once once new at = elim (cases_eq at to) [
    | inl e ↦ subst (λ (n : ℕ). IsOnce (row_items (slice_get (with_link rows to link) n))) (sym e)
        (subst (λ (xs : List Link). IsOnce xs) (sym row_to) (once_push row link (once to) new))
    | inr ne ↦ subst (λ (xs : List Link). IsOnce xs) (sym (row_other at ne)) (once at)
  ]
