-- The numbers of a row that aren't 0, with their indices, and the elements that they are.
use Rattle.std.proofs.Common.{◌≡◌, ◌≢◌, ℕ, zero, suc, ◌+◌, ◌-◌, ◌<◌, ◌≤◌, ℤ, pos, true, false, cond, inl, inr, List, [], ◌∷◌, ◌++◌, length, set, take, replicate, get_or, Some, None, unwrap_or, refl, sym, ap, ◌∙◌, arith}
use Rattle.std.proofs.lemmas.Bool.{cases_eq, cases_order, false≢true}
use Rattle.std.proofs.lemmas.List.{get_or-set_same, get_or-set_other, nil_from_length, take_more, length-take-le}
use Rattle.std.specs.Prelude.{Option, is_some}
use Rattle.std.specs.Ordering.{int_eq, nat_cmp, eq_by_cmp, is_eq}
use Rattle.std.specs.declared.cmp.Ordering.TheVariants.{Less, Equal, Greater}
use Rattle.std.specs.Cmp.{nat_cmp_total, nat_cmp_is, signed_Decides}
use Rattle.std.specs.FinMap.{find, get, insert, remove, len, entries, from_entries, get-from_entries, get-insert, get-remove, entries-insert, len-entries, len-empty, empty_of_len, get-empty, len-insert, len-remove, same_map, nat_cmp-IsAntisymmetric}
use Rattle.std.specs.FinMap.Entries.{put, by_order}
use Rattle.hpr_arrays.specs.Elements.{Elements, element, with_element}
use Rattle.hpr_arrays.specs.Pages.{listed}

-- what a map says of a number
abbrev pub said : ℤ → Option ℤ
said number = cond (int_eq number (pos 0)) None (Some number)

tied : (q x : ℕ) → q ≡ x → eq_by_cmp nat_cmp q x ≡ true
tied q x e = sym (ap is_eq (nat_cmp_is q x Equal e))

below : (q x : ℕ) → q < x → eq_by_cmp nat_cmp q x ≡ false
below q x l = sym (ap is_eq (nat_cmp_is q x Less l))

above : (q x : ℕ) → x < q → eq_by_cmp nat_cmp q x ≡ false
above q x l = sym (ap is_eq (nat_cmp_is q x Greater l))

apart : (q x : ℕ) → q ≢ x → eq_by_cmp nat_cmp q x ≡ false
apart q x ne = elim (cases_order q x) [
  | inl e ↦ absurd (ne e)
  | inr (inl l) ↦ below q x l
  | inr (inr l) ↦ above q x l
]

find_before : (q first : ℕ) (numbers : List ℤ) → q < first → find nat_cmp q (listed first numbers) ≡ None
find_before q first [] l = refl
find_before q first (number ∷ numbers) l =
    elim (int_eq number (pos 0)) as (λ b. find nat_cmp q (cond b (listed (suc first) numbers) ((first, number) ∷ listed (suc first) numbers)) ≡ None) [
      | true ↦ find_before q (suc first) numbers (omega arith)
      | false ↦ ap (λ t. cond t (Some number) (find nat_cmp q (listed (suc first) numbers))) (below q first l) ∙ find_before q (suc first) numbers (omega arith)
    ]

find_listed : (q first j : ℕ) (numbers : List ℤ) → q ≡ first + j → find nat_cmp q (listed first numbers) ≡ said (get_or numbers j (pos 0))
find_listed q first j [] e = refl
find_listed q first zero (number ∷ numbers) e =
    elim (int_eq number (pos 0)) as (λ b. find nat_cmp q (cond b (listed (suc first) numbers) ((first, number) ∷ listed (suc first) numbers)) ≡ cond b None (Some number)) [
      | true ↦ find_before q (suc first) numbers (omega arith)
      | false ↦ ap (λ t. cond t (Some number) (find nat_cmp q (listed (suc first) numbers))) (tied q first (omega arith))
    ]
find_listed q first (suc j) (number ∷ numbers) e =
    elim (int_eq number (pos 0)) as (λ b. find nat_cmp q (cond b (listed (suc first) numbers) ((first, number) ∷ listed (suc first) numbers)) ≡ said (get_or numbers j (pos 0))) [
      | true ↦ find_listed q (suc first) j numbers (omega arith)
      | false ↦ ap (λ t. cond t (Some number) (find nat_cmp q (listed (suc first) numbers))) (above q first (omega arith)) ∙ find_listed q (suc first) j numbers (omega arith)
    ]

-- the elements of a row that begins with the index 0
abbrev pub all_of : List ℤ → Elements
all_of numbers = from_entries (listed 0 numbers)

pub get-all_of : (numbers : List ℤ) (q : ℕ) → get (all_of numbers) q ≡ said (get_or numbers q (pos 0))
get-all_of numbers q = get-from_entries nat_cmp_total (listed 0 numbers) q ∙ find_listed q 0 q numbers (omega arith)

unsaid : (number : ℤ) → unwrap_or (said number) (pos 0) ≡ number
unsaid number =
    elim (int_eq number (pos 0)) as (λ b. int_eq number (pos 0) ≡ b → unwrap_or (cond b None (Some number)) (pos 0) ≡ number) [
      | true ↦ λ e. sym ((signed_Decides number (pos 0)).0 e)
      | false ↦ λ e. refl
    ] refl

pub element-all_of : (numbers : List ℤ) (at : ℕ) → element (all_of numbers) at ≡ get_or numbers at (pos 0)
element-all_of numbers at = ap (λ o. unwrap_or o (pos 0)) (get-all_of numbers at) ∙ unsaid (get_or numbers at (pos 0))

get-with_element : (m : Elements) (at : ℕ) (number : ℤ) (q : ℕ) → get (with_element m at number) q ≡ cond (eq_by_cmp nat_cmp q at) (said number) (get m q)
get-with_element m at number q =
    elim (int_eq number (pos 0)) as (λ b. get (cond b (remove m at) (insert m at number)) q ≡ cond (eq_by_cmp nat_cmp q at) (cond b None (Some number)) (get m q)) [
      | true ↦ get-remove nat_cmp_total m at q
      | false ↦ get-insert nat_cmp_total m at number q
    ]

said_changed : (numbers : List ℤ) (at : ℕ) (number : ℤ) (q : ℕ) → at < length numbers → said (get_or (set numbers at number) q (pos 0)) ≡ cond (eq_by_cmp nat_cmp q at) (said number) (said (get_or numbers q (pos 0)))
said_changed numbers at number q l = elim (cases_eq q at) [
  | inl e ↦ ap said (ap (λ k. get_or (set numbers at number) k (pos 0)) e ∙ get_or-set_same numbers at number (pos 0) l)
      ∙ sym (ap (λ t. cond t (said number) (said (get_or numbers q (pos 0)))) (tied q at e))
  | inr ne ↦ ap said (get_or-set_other numbers at q number (pos 0) ne)
      ∙ sym (ap (λ t. cond t (said number) (said (get_or numbers q (pos 0)))) (apart q at ne))
]

-- one number is changed
pub all_of-set : (numbers : List ℤ) (at : ℕ) (number : ℤ) → at < length numbers → all_of (set numbers at number) ≡ with_element (all_of numbers) at number
all_of-set numbers at number l =
    same_map nat_cmp_total nat_cmp-IsAntisymmetric _ _ (λ q. get-all_of (set numbers at number) q ∙ said_changed numbers at number q l
    ∙ sym (get-with_element (all_of numbers) at number q ∙ ap (cond (eq_by_cmp nat_cmp q at) (said number)) (get-all_of numbers q)))

-- zeros at the end add nothing
listed_zeros : (first n : ℕ) → listed first (replicate n (pos 0)) ≡ []
listed_zeros first zero = refl
listed_zeros first (suc n) = listed_zeros (suc first) n

pub listed-append : (first next : ℕ) (xs ys : List ℤ) → next ≡ first + length xs → listed first (xs ++ ys) ≡ listed first xs ++ listed next ys
listed-append first next [] ys e = ap (λ k. listed k ys) (omega arith)
listed-append first next (x ∷ xs) ys e =
    elim (int_eq x (pos 0)) as (λ b. cond b (listed (suc first) (xs ++ ys)) ((first, x) ∷ listed (suc first) (xs ++ ys)) ≡ cond b (listed (suc first) xs) ((first, x) ∷ listed (suc first) xs) ++ listed next ys) [
      | true ↦ listed-append (suc first) next xs ys (omega arith)
      | false ↦ ap (λ es. (first, x) ∷ es) (listed-append (suc first) next xs ys (omega arith))
    ]

append_zeros : (first n : ℕ) (xs : List ℤ) → listed first (xs ++ replicate n (pos 0)) ≡ listed first xs
append_zeros first n [] = listed_zeros first n
append_zeros first n (x ∷ xs) =
    elim (int_eq x (pos 0)) as (λ b. cond b (listed (suc first) (xs ++ replicate n (pos 0))) ((first, x) ∷ listed (suc first) (xs ++ replicate n (pos 0))) ≡ cond b (listed (suc first) xs) ((first, x) ∷ listed (suc first) xs)) [
      | true ↦ append_zeros (suc first) n xs
      | false ↦ ap (λ es. (first, x) ∷ es) (append_zeros (suc first) n xs)
    ]

pub all_of_zeros : (n : ℕ) (xs : List ℤ) → all_of (xs ++ replicate n (pos 0)) ≡ all_of xs
all_of_zeros n xs = ap (λ es. from_entries es) (append_zeros 0 n xs)

pub listed_more : (first k : ℕ) (xs : List ℤ) → k < length xs → listed first (take (k + 1) xs) ≡ listed first (take k xs) ++ listed (first + k) (get_or xs k (pos 0) ∷ [])
listed_more first k xs l = ap (listed first) (take_more xs k (pos 0) l) ∙ listed-append first (first + k) (take k xs) (get_or xs k (pos 0) ∷ []) (let n = length-take-le k xs (omega (arith, l)) in omega (arith, n))

pub listed_page_of_none : (first n : ℕ) → listed first (replicate n (pos 0)) ≡ listed first []
listed_page_of_none = listed_zeros

-- the entries are those listed
put_least : (x : ℕ) (v : ℤ) (first : ℕ) (numbers : List ℤ) → x < first → put nat_cmp x v (listed first numbers) ≡ (x, v) ∷ listed first numbers
put_least x v first [] l = refl
put_least x v first (number ∷ numbers) l =
    elim (int_eq number (pos 0)) as (λ b. put nat_cmp x v (cond b (listed (suc first) numbers) ((first, number) ∷ listed (suc first) numbers)) ≡ (x, v) ∷ cond b (listed (suc first) numbers) ((first, number) ∷ listed (suc first) numbers)) [
      | true ↦ put_least x v (suc first) numbers (omega arith)
      | false ↦ ap (λ o. by_order o ((x, v) ∷ (first, number) ∷ listed (suc first) numbers) ((first, v) ∷ listed (suc first) numbers) ((first, number) ∷ put nat_cmp x v (listed (suc first) numbers))) (sym (nat_cmp_is x first Less l))
    ]

entries_from : (first : ℕ) (numbers : List ℤ) → entries (from_entries {R = nat_cmp} (listed first numbers)) ≡ listed first numbers
entries_from first [] = nil_from_length (entries (from_entries {R = nat_cmp} [])) (sym (len-entries (from_entries {R = nat_cmp} [])) ∙ len-empty nat_cmp ℤ)
entries_from first (number ∷ numbers) =
    elim (int_eq number (pos 0)) as (λ b. entries (from_entries {R = nat_cmp} (cond b (listed (suc first) numbers) ((first, number) ∷ listed (suc first) numbers))) ≡ cond b (listed (suc first) numbers) ((first, number) ∷ listed (suc first) numbers)) [
      | true ↦ entries_from (suc first) numbers
      | false ↦ entries-insert nat_cmp_total (from_entries (listed (suc first) numbers)) first number ∙ ap (put nat_cmp first number) (entries_from (suc first) numbers) ∙ put_least first number (suc first) numbers (omega arith)
    ]

pub entries-all_of : (numbers : List ℤ) → entries (all_of numbers) ≡ listed 0 numbers
entries-all_of numbers = entries_from 0 numbers

-- how many there are
length-listed : (first : ℕ) (numbers : List ℤ) → length (listed first numbers) ≤ length numbers
length-listed first [] = omega arith
length-listed first (number ∷ numbers) =
    let h = length-listed (suc first) numbers in
    elim (int_eq number (pos 0)) as (λ b. length (cond b (listed (suc first) numbers) ((first, number) ∷ listed (suc first) numbers)) ≤ suc (length numbers)) [
      | true ↦ omega (arith, h)
      | false ↦ omega (arith, h)
    ]

pub len-all_of : (numbers : List ℤ) → len (all_of numbers) ≤ length numbers
len-all_of numbers = let e = len-entries (all_of numbers) ∙ ap length (entries-all_of numbers) in let h = length-listed 0 numbers in omega (arith, e, h)

some_len : (m : Elements) (at : ℕ) (number : ℤ) → get m at ≡ Some number → 0 < len m
some_len m at number some = elim (cases_eq (len m) 0) [
  | inl e ↦ absurd (false≢true (ap is_some (sym (ap (λ (n : Elements). get n at) (empty_of_len m e) ∙ get-empty nat_cmp at) ∙ some)))
  | inr ne ↦ omega (arith, ne)
]

counted_new : (m : Elements) (at : ℕ) (number : ℤ) → get m at ≡ None → len (with_element m at number) ≡ len m + cond (int_eq number (pos 0)) 0 1
counted_new m at number none =
    elim (int_eq number (pos 0)) as (λ b. len (cond b (remove m at) (insert m at number)) ≡ len m + cond b 0 1) [
      | true ↦ (let h : len (remove m at) ≡ len m = len-remove nat_cmp_total m at ∙ ap (λ o. cond (is_some o) (len m - 1) (len m)) none in omega (arith, h))
      | false ↦ len-insert nat_cmp_total m at number ∙ ap (λ o. cond (is_some o) (len m) (len m + 1)) none
    ]

counted_old : (m : Elements) (at : ℕ) (number before : ℤ) → get m at ≡ Some before → len (with_element m at number) + 1 ≡ len m + cond (int_eq number (pos 0)) 0 1
counted_old m at number before some =
    elim (int_eq number (pos 0)) as (λ b. len (cond b (remove m at) (insert m at number)) + 1 ≡ len m + cond b 0 1) [
      | true ↦ (let h : len (remove m at) ≡ len m - 1 = len-remove nat_cmp_total m at ∙ ap (λ o. cond (is_some o) (len m - 1) (len m)) some in let l = some_len m at before some in omega (arith, h, l))
      | false ↦ (let h : len (insert m at number) ≡ len m = len-insert nat_cmp_total m at number ∙ ap (λ o. cond (is_some o) (len m) (len m + 1)) some in omega (arith, h))
    ]

pub counted : (numbers : List ℤ) (at : ℕ) (number : ℤ) → len (with_element (all_of numbers) at number) + cond (int_eq (get_or numbers at (pos 0)) (pos 0)) 0 1 ≡ len (all_of numbers) + cond (int_eq number (pos 0)) 0 1
counted numbers at number =
    elim (int_eq (get_or numbers at (pos 0)) (pos 0)) as (λ b. int_eq (get_or numbers at (pos 0)) (pos 0) ≡ b → len (with_element (all_of numbers) at number) + cond b 0 1 ≡ len (all_of numbers) + cond (int_eq number (pos 0)) 0 1) [
      | true ↦ λ e. (let h = counted_new (all_of numbers) at number (get-all_of numbers at ∙ ap (λ b. cond b None (Some (get_or numbers at (pos 0)))) e) in omega (arith, h))
      | false ↦ λ e. counted_old (all_of numbers) at number (get_or numbers at (pos 0)) (get-all_of numbers at ∙ ap (λ b. cond b None (Some (get_or numbers at (pos 0)))) e)
    ] refl

-- the number that it has already
pub all_of-same : (numbers : List ℤ) (at : ℕ) (number : ℤ) → get_or numbers at (pos 0) ≡ number → all_of numbers ≡ with_element (all_of numbers) at number
all_of-same numbers at number is =
    same_map nat_cmp_total nat_cmp-IsAntisymmetric _ _ (λ q. elim (cases_eq q at) [
      | inl e ↦ get-all_of numbers q ∙ ap said (ap (λ k. get_or numbers k (pos 0)) e ∙ is)
          ∙ sym (get-with_element (all_of numbers) at number q ∙ ap (λ t. cond t (said number) (get (all_of numbers) q)) (tied q at e))
      | inr ne ↦ sym (get-with_element (all_of numbers) at number q ∙ ap (λ t. cond t (said number) (get (all_of numbers) q)) (apart q at ne))
    ])
