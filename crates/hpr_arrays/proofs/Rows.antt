-- The numbers of rows.
use Rattle.std.proofs.Common.{Result, Ok, Err, IfOk, OnOk, OnErr, Vec, Global, ◌≡◌, ℕ, zero, suc, ◌+◌, ◌-◌, ◌*◌, ◌<◌, ◌≤◌, ℤ, pos, ◌⊎◌, inl, inr, List, [], ◌∷◌, ◌++◌, length, set, take, replicate, get_or, refl, sym, ap, subst, ◌∙◌, arith}
use Rattle.std.proofs.lemmas.Bool.{cases_eq, cases_lt}
use Rattle.std.proofs.lemmas.List.{get_or-set_same, get_or-set_other, get_or_append_left, get_or-append_right, get_or-replicate, get_or_past, length-append, length-replicate, length-set, length_push, set-append_left, set-append_right, set_past, append-nil, append_assoc, take_more, map_push, map-set, length-map, set-get_or, take-map, take_all, get_or-take, length-take, length-take-le}
use Rattle.std.specs.Prelude.{cond}
use Rattle.std.specs.Ordering.{int_eq, nat_cmp}
use Rattle.std.specs.FinMap.{entries, len, len-empty}
use Rattle.hpr_arrays.specs.Elements.{Elements, element, with_element}
use Rattle.hpr_arrays.specs.Pages.{rows_of, page_of, numbers_of, listed, elements_of, IsLaidOut}
use Rattle.hpr_arrays.proofs.Listed.{all_of, entries-all_of, all_of-same, element-all_of, len-all_of, counted, all_of-set, all_of_zeros, listed-append, listed_page_of_none}

-- a row without numbers, or with 256
abbrev pub IsRow : List ℤ → Type 0
IsRow row = (row ≡ []) ⊎ (length row ≡ 256)

length-page_of : (row : List ℤ) → IsRow row → length (page_of row) ≡ 256
length-page_of [] h = length-replicate 256 (pos 0)
length-page_of (number ∷ numbers) (inl e) = absurd (let l = ap length e in omega (arith, l))
length-page_of (number ∷ numbers) (inr l) = l

get_or-page_of : (row : List ℤ) (j : ℕ) → j < 256 → get_or (page_of row) j (pos 0) ≡ get_or row j (pos 0)
get_or-page_of [] j l = get_or-replicate 256 j (pos 0) (pos 0) l
get_or-page_of (number ∷ numbers) j l = refl

abbrev AreRows : List (List ℤ) → Type 0
AreRows rows = (k : ℕ) → IsRow (get_or rows k [])

later : (row : List ℤ) (rows : List (List ℤ)) → AreRows (row ∷ rows) → AreRows rows
later row rows h k = h (suc k)

pub get_or-numbers_of : (rows : List (List ℤ)) (i j at : ℕ) → AreRows rows → j < 256 → at ≡ 256 * i + j → get_or (numbers_of rows) at (pos 0) ≡ get_or (get_or rows i []) j (pos 0)
get_or-numbers_of [] i j at h l e = refl
get_or-numbers_of (row ∷ rows) zero j at h l e =
    ap (λ k. get_or (page_of row ++ numbers_of rows) k (pos 0)) (let f : at ≡ j = omega (arith, e) in f)
    ∙ get_or_append_left (page_of row) (numbers_of rows) (pos 0) j (let n = length-page_of row (h zero) in omega (arith, n, l))
    ∙ get_or-page_of row j l
get_or-numbers_of (row ∷ rows) (suc i) j at h l e =
    get_or-append_right (page_of row) (numbers_of rows) 256 at (pos 0) (length-page_of row (h zero)) (omega (arith, e))
    ∙ get_or-numbers_of rows i j (at - 256) (later row rows h) l (omega (arith, e))

pub length-numbers_of : (rows : List (List ℤ)) → AreRows rows → length (numbers_of rows) ≡ 256 * length rows
length-numbers_of [] h = refl
length-numbers_of (row ∷ rows) h =
    let n = length-page_of row (h zero) in let rest = length-numbers_of rows (later row rows h) in let both = length-append (page_of row) (numbers_of rows) in
    omega (arith, n, rest, both)

page_of-set : (row : List ℤ) (j : ℕ) (number : ℤ) → length row ≡ 256 → page_of (set row j number) ≡ set row j number
page_of-set [] j number l = absurd (omega (arith, l))
page_of-set (x ∷ row) zero number l = refl
page_of-set (x ∷ row) (suc j) number l = refl

page_of-full : (row : List ℤ) → length row ≡ 256 → page_of row ≡ row
page_of-full [] l = absurd (omega (arith, l))
page_of-full (x ∷ row) l = refl

pub numbers_of-set : (rows : List (List ℤ)) (i j at : ℕ) (number : ℤ) → AreRows rows → i < length rows → length (get_or rows i []) ≡ 256 → j < 256 → at ≡ 256 * i + j
    → numbers_of (set rows i (set (get_or rows i []) j number)) ≡ set (numbers_of rows) at number
numbers_of-set [] i j at number h w n l e = absurd (omega (arith, w))
numbers_of-set (row ∷ rows) zero j at number h w n l e =
    ap (λ xs. xs ++ numbers_of rows) (page_of-set row j number n)
    ∙ sym (set-append_left row (numbers_of rows) j number (omega (arith, n, l)))
    ∙ ap (λ xs. set (xs ++ numbers_of rows) j number) (sym (page_of-full row n))
    ∙ ap (λ k. set (page_of row ++ numbers_of rows) k number) (let f : j ≡ at = omega (arith, e) in f)
numbers_of-set (row ∷ rows) (suc i) j at number h w n l e =
    ap (λ xs. page_of row ++ xs) (numbers_of-set rows i j (at - 256) number (later row rows h) (omega (arith, w)) n l (omega (arith, e)))
    ∙ sym (set-append_right (page_of row) (numbers_of rows) 256 at number (length-page_of row (h zero)) (omega (arith, e)))

pub elements_of-set : (rows : List (List ℤ)) (i j at : ℕ) (number : ℤ) → AreRows rows → i < length rows → length (get_or rows i []) ≡ 256 → j < 256 → at ≡ 256 * i + j
    → elements_of (set rows i (set (get_or rows i []) j number)) ≡ with_element (elements_of rows) at number
elements_of-set rows i j at number h w n l e =
    ap all_of (numbers_of-set rows i j at number h w n l e)
    ∙ all_of-set (numbers_of rows) at number (let k = length-numbers_of rows h in omega (arith, k, w, l, e))

numbers_of-last : (rows : List (List ℤ)) (row : List ℤ) → numbers_of (rows ++ row ∷ []) ≡ numbers_of rows ++ page_of row
numbers_of-last [] row = append-nil (page_of row)
numbers_of-last (r ∷ rows) row = ap (λ xs. page_of r ++ xs) (numbers_of-last rows row) ∙ sym (append_assoc (page_of r) (numbers_of rows) (page_of row))

numbers_of-push : (rows : List (List ℤ)) → numbers_of (rows ++ [] ∷ []) ≡ numbers_of rows ++ replicate 256 (pos 0)
numbers_of-push rows = numbers_of-last rows []

one_row : (k : ℕ) → get_or {A = List ℤ} ([] ∷ []) k [] ≡ []
one_row zero = refl
one_row (suc k) = refl

-- a row without numbers more
pub elements_of-push : (rows : List (List ℤ)) → elements_of (rows ++ [] ∷ []) ≡ elements_of rows
elements_of-push rows = ap all_of (numbers_of-push rows) ∙ all_of_zeros 256 (numbers_of rows)

-- the layout is kept
pub laid_out-push : (rows : List (List ℤ)) → length rows < 256 → IsLaidOut rows → IsLaidOut (rows ++ [] ∷ [])
laid_out-push rows l h = record {
  count = let n = length_push rows [] in omega (arith, n, l);
  size = λ k. elim (cases_lt k (length rows)) [
    | inl b ↦ subst (λ (row : List ℤ). IsRow row) (sym (get_or_append_left rows ([] ∷ []) [] k b)) (h.size k)
    | inr a ↦ inl (get_or-append_right rows ([] ∷ []) (length rows) k [] refl a ∙ one_row (k - length rows))
  ];
}

pub laid_out-set : (rows : List (List ℤ)) (i : ℕ) (row : List ℤ) → length row ≡ 256 → IsLaidOut rows → IsLaidOut (set rows i row)
laid_out-set rows i row n h = record {
  count = let l = length-set rows i row in let w = h.count in omega (arith, l, w);
  size = λ k. elim (cases_lt i (length rows)) [
    | inl b ↦ elim (cases_eq k i) [
      | inl e ↦ inr (ap length (ap (λ m. get_or (set rows i row) m []) e ∙ get_or-set_same rows i row [] b) ∙ n)
      | inr ne ↦ subst (λ (xs : List ℤ). IsRow xs) (sym (get_or-set_other rows i k row [] ne)) (h.size k)
    ]
    | inr a ↦ subst (λ (xs : List (List ℤ)). IsRow (get_or xs k [])) (sym (set_past rows i row a)) (h.size k)
  ];
}

-- the entries of one row more
listed-page_of : (first : ℕ) (row : List ℤ) → listed first (page_of row) ≡ listed first row
listed-page_of first [] = listed_page_of_none first 256
listed-page_of first (x ∷ row) = refl

pub listed-last : (rows : List (List ℤ)) (row : List ℤ) (first : ℕ) → AreRows rows → first ≡ 256 * length rows → listed 0 (numbers_of (rows ++ row ∷ [])) ≡ listed 0 (numbers_of rows) ++ listed first row
listed-last rows row first h e =
    ap (listed 0) (numbers_of-last rows row)
    ∙ listed-append 0 first (numbers_of rows) (page_of row) (let n = length-numbers_of rows h in omega (arith, n, e))
    ∙ ap (λ xs. listed 0 (numbers_of rows) ++ xs) (listed-page_of first row)

-- what holds of the pages and the count of an array
abbrev pub IsKept : List (Vec ℤ Global) → ℕ → Type 0
IsKept pages count = IsLaidOut (rows_of pages) × (count ≡ len (elements_of (rows_of pages)))

pub blank_kept : IsKept [] 0
blank_kept = (record { count = omega arith; size = λ k. inl refl }, sym (len-empty nat_cmp ℤ))

-- what the code reads of a row

pub element_at : (rows : List (List ℤ)) (i j at : ℕ) → IsLaidOut rows → j < 256 → at ≡ 256 * i + j → element (elements_of rows) at ≡ get_or (get_or rows i []) j (pos 0)
element_at rows i j at h l e = element-all_of (numbers_of rows) at ∙ get_or-numbers_of rows i j at h.size l e

pub rows_of-push : (pages : List (Vec ℤ Global)) (page : Vec ℤ Global) → rows_of (pages ++ page ∷ []) ≡ rows_of pages ++ page.items ∷ []
rows_of-push pages page = map_push (λ (p : Vec ℤ Global). p.items) pages page

pub rows_of-set : (pages : List (Vec ℤ Global)) (i : ℕ) (page : Vec ℤ Global) → rows_of (set pages i page) ≡ set (rows_of pages) i page.items
rows_of-set pages i page = map-set (λ (p : Vec ℤ Global). p.items) pages i page

pub row_read : (pages : List (Vec ℤ Global)) (i : ℕ) (row : Vec ℤ Global) → i < length pages → row ≡ get_or pages i row → get_or (rows_of pages) i [] ≡ row.items
row_read [] i row l is = absurd (omega (arith, l))
row_read (page ∷ pages) zero row l is = ap (λ (p : Vec ℤ Global). p.items) (sym is)
row_read (page ∷ pages) (suc i) row l is = row_read pages i row (omega (arith, l)) is

-- a push of a row without numbers
pub pushed : (pages new : List (Vec ℤ Global)) (page : Vec ℤ Global) → new ≡ pages ++ page ∷ [] → page.items ≡ [] → length pages < 256 → IsLaidOut (rows_of pages)
    → IsLaidOut (rows_of new) × (elements_of (rows_of new) ≡ elements_of (rows_of pages)) × (length new ≡ length pages + 1)
pushed pages new page is none l h =
    let rows : rows_of new ≡ rows_of pages ++ [] ∷ [] = ap rows_of is ∙ rows_of-push pages page ∙ ap (λ (xs : List ℤ). rows_of pages ++ xs ∷ []) none in (
      subst (λ (rs : List (List ℤ)). IsLaidOut rs) (sym rows) (laid_out-push (rows_of pages) (let n = length-map pages (λ (p : Vec ℤ Global). p.items) in omega (arith, n, l)) h),
      ap elements_of rows ∙ elements_of-push (rows_of pages),
      ap length is ∙ length_push pages page,
    )

page_of-page_of : (row : List ℤ) → page_of (page_of row) ≡ page_of row
page_of-page_of [] = refl
page_of-page_of (x ∷ row) = refl

numbers_of-full : (rows : List (List ℤ)) (i : ℕ) → numbers_of (set rows i (page_of (get_or rows i []))) ≡ numbers_of rows
numbers_of-full [] i = refl
numbers_of-full (row ∷ rows) zero = ap (λ xs. xs ++ numbers_of rows) (page_of-page_of row)
numbers_of-full (row ∷ rows) (suc i) = ap (λ xs. page_of row ++ xs) (numbers_of-full rows i)

-- a row is made a page
pub filled : (pages : List (Vec ℤ Global)) (i : ℕ) (old new : Vec ℤ Global) → i < length pages → old ≡ get_or pages i old → new.items ≡ page_of old.items → IsLaidOut (rows_of pages)
    → IsLaidOut (rows_of (set pages i new)) × (elements_of (rows_of (set pages i new)) ≡ elements_of (rows_of pages)) × (length (get_or (rows_of (set pages i new)) i []) ≡ 256)
filled pages i old new l is made h =
    let row : get_or (rows_of pages) i [] ≡ old.items = row_read pages i old l is in
    let rows : rows_of (set pages i new) ≡ set (rows_of pages) i (page_of (get_or (rows_of pages) i [])) = rows_of-set pages i new ∙ ap (set (rows_of pages) i) (made ∙ ap page_of (sym row)) in
    let full : length (page_of (get_or (rows_of pages) i [])) ≡ 256 = length-page_of (get_or (rows_of pages) i []) (h.size i) in
    let within : i < length (rows_of pages) = (let n = length-map pages (λ (p : Vec ℤ Global). p.items) in omega (arith, n, l)) in (
      subst (λ (rs : List (List ℤ)). IsLaidOut rs) (sym rows) (laid_out-set (rows_of pages) i (page_of (get_or (rows_of pages) i [])) full h),
      ap all_of (ap numbers_of rows ∙ numbers_of-full (rows_of pages) i),
      ap (λ (rs : List (List ℤ)). length (get_or rs i [])) rows ∙ ap length (get_or-set_same (rows_of pages) i (page_of (get_or (rows_of pages) i [])) [] within) ∙ full,
    )

-- a row is left
pub unfilled : (pages : List (Vec ℤ Global)) (i : ℕ) (old new : Vec ℤ Global) → i < length pages → old ≡ get_or pages i old → new.items ≡ old.items → rows_of (set pages i new) ≡ rows_of pages
unfilled pages i old new l is same = rows_of-set pages i new ∙ ap (set (rows_of pages) i) (same ∙ sym (row_read pages i old l is)) ∙ set-get_or (rows_of pages) i []

-- one number of a page is written
pub written : (pages : List (Vec ℤ Global)) (i j at : ℕ) (number : ℤ) (old new : Vec ℤ Global) → i < length pages → old ≡ get_or pages i old → new.items ≡ set old.items j number
    → length (get_or (rows_of pages) i []) ≡ 256 → j < 256 → at ≡ 256 * i + j → IsLaidOut (rows_of pages)
    → IsLaidOut (rows_of (set pages i new)) × (elements_of (rows_of (set pages i new)) ≡ with_element (elements_of (rows_of pages)) at number)
written pages i j at number old new l is made full m e h =
    let row : get_or (rows_of pages) i [] ≡ old.items = row_read pages i old l is in
    let rows : rows_of (set pages i new) ≡ set (rows_of pages) i (set (get_or (rows_of pages) i []) j number) = rows_of-set pages i new ∙ ap (set (rows_of pages) i) (made ∙ ap (λ (xs : List ℤ). set xs j number) (sym row)) in
    let within : i < length (rows_of pages) = (let n = length-map pages (λ (p : Vec ℤ Global). p.items) in omega (arith, n, l)) in (
      subst (λ (rs : List (List ℤ)). IsLaidOut rs) (sym rows) (laid_out-set (rows_of pages) i (set (get_or (rows_of pages) i []) j number) (length-set (get_or (rows_of pages) i []) j number ∙ full) h),
      ap elements_of rows ∙ elements_of-set (rows_of pages) i j at number h.size within full m e,
    )

pub filled_or_not : {T E : Type 0} (r : Result T E) (pages : List (Vec ℤ Global)) (i : ℕ) (old new : Vec ℤ Global) → i < length pages → old ≡ get_or pages i old
    → OnOk r (new.items ≡ page_of old.items) → OnErr r (new.items ≡ old.items) → IsLaidOut (rows_of pages)
    → IsLaidOut (rows_of (set pages i new)) × (elements_of (rows_of (set pages i new)) ≡ elements_of (rows_of pages)) × IfOk r (λ _. length (get_or (rows_of (set pages i new)) i []) ≡ 256)
filled_or_not (Ok x) pages i old new l is made left h = filled pages i old new l is made h
filled_or_not (Err e) pages i old new l is made left h =
    let rows = unfilled pages i old new l is left in
    (subst (λ (rs : List (List ℤ)). IsLaidOut rs) (sym rows) h, ap elements_of rows, tt)

pub few : (rows : List (List ℤ)) → IsLaidOut rows → len (elements_of rows) ≤ 65536
few rows h = let n = length-numbers_of rows h.size in let l = len-all_of (numbers_of rows) in let c = h.count in omega (arith, n, l, c)

pub recounted : (rows new : List (List ℤ)) (at : ℕ) (number before : ℤ) → elements_of new ≡ with_element (elements_of rows) at number → before ≡ element (elements_of rows) at
    → len (elements_of new) + cond (int_eq before (pos 0)) 0 1 ≡ len (elements_of rows) + cond (int_eq number (pos 0)) 0 1
recounted rows new at number before is was =
    ap (λ (m : Elements). len m + cond (int_eq before (pos 0)) 0 1) is
    ∙ ap (λ (z : ℤ). len (with_element (elements_of rows) at number) + cond (int_eq z (pos 0)) 0 1) (was ∙ element-all_of (numbers_of rows) at)
    ∙ counted (numbers_of rows) at number

pub unchanged : (rows : List (List ℤ)) (at : ℕ) (number : ℤ) → element (elements_of rows) at ≡ number → elements_of rows ≡ with_element (elements_of rows) at number
unchanged rows at number is = all_of-same (numbers_of rows) at number (sym (element-all_of (numbers_of rows) at) ∙ is)

rows_of-take : (pages : List (Vec ℤ Global)) (k : ℕ) → rows_of (take k pages) ≡ take k (rows_of pages)
rows_of-take pages k = sym (take-map (λ (p : Vec ℤ Global). p.items) k pages)

rows-take : (rows : List (List ℤ)) (k : ℕ) → AreRows rows → AreRows (take k rows)
rows-take rows k h m = elim (cases_lt m k) [
  | inl b ↦ subst (λ (row : List ℤ). IsRow row) (sym (get_or-take k rows m [] b)) (h m)
  | inr a ↦ inl (get_or_past (take k rows) m [] (let n = length-take k rows in omega (arith, n, a)))
]

-- the entries of one page more
pub listed_page : (pages : List (Vec ℤ Global)) (k first : ℕ) (page : Vec ℤ Global) → k < length pages → page ≡ get_or pages k page → first ≡ k * 256 → IsLaidOut (rows_of pages)
    → listed 0 (numbers_of (rows_of (take (k + 1) pages))) ≡ listed 0 (numbers_of (rows_of (take k pages))) ++ listed first page.items
listed_page pages k first page l is e h =
    let rows : AreRows (rows_of (take k pages)) = subst AreRows (sym (rows_of-take pages k)) (rows-take (rows_of pages) k h.size) in
    ap (λ (ps : List (Vec ℤ Global)). listed 0 (numbers_of (rows_of ps))) (take_more pages k page l ∙ ap (λ (p : Vec ℤ Global). take k pages ++ p ∷ []) (sym is))
    ∙ ap (λ (rs : List (List ℤ)). listed 0 (numbers_of rs)) (rows_of-push (take k pages) page)
    ∙ listed-last (rows_of (take k pages)) page.items first rows (let n = length-map (take k pages) (λ (p : Vec ℤ Global). p.items) in let t = length-take-le k pages (omega (arith, l)) in omega (arith, n, t, e))

pub all_listed : (pages : List (Vec ℤ Global)) (k : ℕ) → length pages ≤ k → listed 0 (numbers_of (rows_of (take k pages))) ≡ entries (elements_of (rows_of pages))
all_listed pages k l = ap (λ (ps : List (Vec ℤ Global)). listed 0 (numbers_of (rows_of ps))) (take_all k pages l) ∙ sym (entries-all_of (numbers_of (rows_of pages)))

pub page_within : (pages : List (Vec ℤ Global)) (k : ℕ) (page : Vec ℤ Global) → k < length pages → page ≡ get_or pages k page → IsLaidOut (rows_of pages) → k * 256 + length page.items ≤ 65536
page_within pages k page l is h =
    let c = h.count in let n = length-map pages (λ (p : Vec ℤ Global). p.items) in
    elim (h.size k) [
      | inl e ↦ (let f : length page.items ≡ 0 = ap length (sym (row_read pages k page l is) ∙ e) in omega (arith, l, c, n, f))
      | inr e ↦ (let f : length page.items ≡ 256 = ap length (sym (row_read pages k page l is)) ∙ e in omega (arith, l, c, n, f))
    ]
