-- Counts of what is still to be placed.
use Rattle.std.proofs.Common.{◌≡◌, ℕ, zero, suc, ◌+◌, ◌-◌, ◌<◌, ◌≤◌, ◌^◌, inl, inr, Bool, true, false, cond, eqb, List, [], ◌∷◌, ◌++◌, All, Vec, length, set, get_or, drop, Contains, refl, sym, ap, ◌∙◌, subst, arith, rules, vec_len, drop-cons, add-one}
use Rattle.std.specs.Global.{Global}
use Rattle.std.proofs.lemmas.Bool.{cases_Bool, cases_eq, eqb-true, cases_lt, eq-eqb, ne_eqb}
use Rattle.std.proofs.lemmas.List.{get_or_default, get_or_past, get_or-set_same, get_or-set_other}
use Rattle.std.proofs.lemmas.List.Elements.{Contains-get_or}
use Rattle.std.proofs.lemmas.Option.{slice_get_past}
use Rattle.hpr_forest.specs.Blocks.{row_at}
use Rattle.hpr_forest.specs.Forest.{all_in}
use Rattle.hpr_forest.specs.Marks.{is_in}
use Rattle.hpr_forest.specs.Counting.{AreCounts, AreOfRows, AreTurned, Table, left_in, occurrences, one_if, row_of}
use Rattle.hpr_forest.specs.declared.blocks.Blocks.{Blocks}
use Rattle.hpr_forest.specs.declared.counts.Counts.{Counts}
use Rattle.hpr_forest.proofs.Marked.{push_other, push_same}
use Rattle.hpr_forest.specs.Pending.{AreOpen}
use Rattle.hpr_forest.proofs.Unique.{in_cons, in_first, in_later, in_none}

-- ---- rows of a table
pub row_read : (rows : Table) (at : ℕ) (row : Vec ℕ Global) → at < length rows → row ≡ get_or rows at row → row_of rows at ≡ row.items
row_read [] at row l is = absurd (omega (arith, l))
row_read (r ∷ rows) zero row l is = ap (λ (x : Vec ℕ Global). x.items) (sym is)
row_read (r ∷ rows) (suc at) row l is = row_read rows at row (omega (arith, l)) is

pub row_set : (rows : Table) (at : ℕ) (row : Vec ℕ Global) → at < length rows → row_of (set rows at row) at ≡ row.items
row_set [] at row l = absurd (omega (arith, l))
row_set (r ∷ rows) zero row l = refl
row_set (r ∷ rows) (suc at) row l = row_set rows at row (omega (arith, l))

pub row_kept : (rows : Table) (at k : ℕ) (row : Vec ℕ Global) → ¬ (k ≡ at) → row_of (set rows at row) k ≡ row_of rows k
row_kept [] at k row ne = refl
row_kept (r ∷ rows) zero zero row ne = absurd (ne refl)
row_kept (r ∷ rows) zero (suc k) row ne = refl
row_kept (r ∷ rows) (suc at) zero row ne = refl
row_kept (r ∷ rows) (suc at) (suc k) row ne = row_kept rows at k row (λ e. ne (ap suc e))

pub row_past : (rows : Table) (k : ℕ) → length rows ≤ k → row_of rows k ≡ []
row_past rows k le = ap row_at (slice_get_past rows k le)

-- what the code writes
pub row_pushed : (rows : Table) (at number : ℕ) (row row' : Vec ℕ Global) → at < length rows → row ≡ get_or rows at row → row'.items ≡ row.items ++ number ∷ []
    → row_of (set rows at row') at ≡ row_of rows at ++ number ∷ []
row_pushed rows at number row row' l is grown = row_set rows at row' l ∙ grown ∙ ap (λ (xs : List ℕ). xs ++ number ∷ []) (sym (row_read rows at row l is))

pub row_of_more : (rows : Table) (row : Vec ℕ Global) (k : ℕ) → ((j : ℕ) → row_of rows j ≡ []) → row.items ≡ [] → row_of (rows ++ row ∷ []) k ≡ []
row_of_more [] row zero none is = is
row_of_more [] row (suc k) none is = none k
row_of_more (r ∷ rows) row zero none is = none zero
row_of_more (r ∷ rows) row (suc k) none is = row_of_more rows row k (λ j. none (suc j)) is

-- ---- how often a number stands in a list
pub often_push : (xs : List ℕ) (n x : ℕ) → occurrences (xs ++ n ∷ []) x ≡ occurrences xs x + one_if (eqb n x)
often_push [] n x = omega arith
often_push (y ∷ xs) n x = let e = often_push xs n x in omega (arith, e)

pub often_drop : (xs : List ℕ) (i x : ℕ) → i < length xs → occurrences (drop i xs) x ≡ one_if (eqb (get_or xs i 0) x) + occurrences (drop (i + 1) xs) x
often_drop xs i x lt =
    ap (λ (ys : List ℕ). occurrences ys x) (drop-cons xs i 0 lt) ∙ ap (λ k. one_if (eqb (get_or xs i 0) x) + occurrences (drop k xs) x) (sym (add-one i))

pub often_there : (xs : List ℕ) (x : ℕ) → Contains xs x → 1 ≤ occurrences xs x
often_there [] x h = absurd (in_none x h)
often_there (y ∷ xs) x h = elim (in_cons y x xs h) [
  | inl same ↦ (let one : one_if (eqb y x) ≡ 1 = ap one_if (eq-eqb y x same) in omega (arith, one))
  | inr later ↦ (let more = often_there xs x later in omega (arith, more))
]

-- ---- how many are left
pub left_none : (xs : List ℕ) → left_in [] xs ≡ length xs
left_none [] = refl
left_none (y ∷ xs) = let e = left_none xs in omega (arith, e)

abbrev gone : Bool → ℕ
gone b = cond b 0 1

one_most : (b : Bool) → gone b ≤ 1
one_most true = omega arith
one_most false = omega arith

pub left_most : (placed xs : List ℕ) → left_in placed xs ≤ length xs
left_most placed [] = omega arith
left_most placed (y ∷ xs) = let e = left_most placed xs in let l = one_most (is_in placed y) in omega (arith, e, l)

-- one more number placed
pub left_push : (placed xs : List ℕ) (c : ℕ) → is_in placed c ≡ false → left_in (placed ++ c ∷ []) xs + occurrences xs c ≡ left_in placed xs
left_push placed [] c fresh = refl
left_push placed (y ∷ xs) c fresh = elim (cases_eq y c) [
  | inl same ↦ (
      let rest = left_push placed xs c fresh in
      let now : gone (is_in (placed ++ c ∷ []) y) ≡ 0 = ap (λ z. gone (is_in (placed ++ c ∷ []) z)) same ∙ ap gone (push_same placed c) in
      let was : gone (is_in placed y) ≡ 1 = ap (λ z. gone (is_in placed z)) same ∙ ap gone fresh in
      let one : one_if (eqb y c) ≡ 1 = ap one_if (eq-eqb y c same) in
      omega (arith, rest, now, was, one))
  | inr ne ↦ (
      let rest = left_push placed xs c fresh in
      let same : gone (is_in (placed ++ c ∷ []) y) ≡ gone (is_in placed y) = ap gone (push_other placed c y ne) in
      let none : one_if (eqb y c) ≡ 0 = ap one_if (ne_eqb y c ne) in
      omega (arith, rest, same, none))
]

-- a row is full where nothing of it is left
pub full_left : (placed xs : List ℕ) → all_in placed xs ≡ eqb (left_in placed xs) 0
full_left placed [] = refl
full_left placed (y ∷ xs) = at (is_in placed y) (full_left placed xs)
  where
    at : (b : Bool) → all_in placed xs ≡ eqb (left_in placed xs) 0 → cond b (all_in placed xs) false ≡ eqb (gone b + left_in placed xs) 0
    at true rest = let e : left_in placed xs ≡ 0 + left_in placed xs = omega arith in rest ∙ ap (λ n. eqb n 0) e
    at false rest = sym (ne_eqb (1 + left_in placed xs) 0 (λ e. omega (arith, e)))

-- ---- steps of the loops
module _ (old cur entries : List ℕ) (i m : ℕ) (lt : i < length entries) (small : get_or entries i 0 < length cur)
    (read : m ≡ get_or cur (get_or entries i 0) m) where
  abbrev here : ℕ
  here = get_or entries i 0

  is_read : get_or cur here 0 ≡ m
  is_read = get_or_default cur here 0 m small ∙ sym read

  -- how often an entry stands behind the first i
  one_here : (k : ℕ) → k ≡ here → occurrences (drop i entries) k ≡ 1 + occurrences (drop (i + 1) entries) k
  one_here k same =
      let one : one_if (eqb here k) ≡ 1 = ap one_if (eq-eqb here k (sym same)) in
      omega (arith, often_drop entries i k lt, one)

  none_here : (k : ℕ) → ¬ (k ≡ here) → occurrences (drop i entries) k ≡ occurrences (drop (i + 1) entries) k
  none_here k ne =
      let none : one_if (eqb here k) ≡ 0 = ap one_if (ne_eqb here k (λ e. ne (sym e))) in
      omega (arith, often_drop entries i k lt, none)

  module _ (so_far : (k : ℕ) → get_or cur k 0 + occurrences entries k ≡ get_or old k 0 + occurrences (drop i entries) k) where
    pub one_to_take : ((k : ℕ) → occurrences entries k ≤ get_or old k 0) → 1 ≤ m
    one_to_take enough = omega (arith, is_read, one_here here refl, so_far here, enough here)

    pub taken : 1 ≤ m → (k : ℕ) → get_or (set cur here (m - 1)) k 0 + occurrences entries k ≡ get_or old k 0 + occurrences (drop (i + 1) entries) k
    taken some k = elim (cases_eq k here) [
      | inl same ↦ (
          let now : get_or (set cur here (m - 1)) k 0 ≡ m - 1 = ap (λ z. get_or (set cur here (m - 1)) z 0) same ∙ get_or-set_same cur here (m - 1) 0 small in
          let was : get_or cur k 0 ≡ m = ap (λ z. get_or cur z 0) same ∙ is_read in
          omega (arith, now, was, some, one_here k same, so_far k))
      | inr ne ↦ (
          let now : get_or (set cur here (m - 1)) k 0 ≡ get_or cur k 0 = get_or-set_other cur here k (m - 1) 0 ne in
          omega (arith, now, none_here k ne, so_far k))
    ]

  module _ (so_far : (k : ℕ) → get_or cur k 0 + occurrences (drop i entries) k ≡ get_or old k 0 + occurrences entries k) where
    pub room_to_add : ((k : ℕ) → get_or old k 0 + occurrences entries k < 2 ^ 64) → m + 1 < 2 ^ 64
    room_to_add room = omega (arith, is_read, one_here here refl, so_far here, room here)

    pub added : (k : ℕ) → get_or (set cur here (m + 1)) k 0 + occurrences (drop (i + 1) entries) k ≡ get_or old k 0 + occurrences entries k
    added k = elim (cases_eq k here) [
      | inl same ↦ (
          let now : get_or (set cur here (m + 1)) k 0 ≡ m + 1 = ap (λ z. get_or (set cur here (m + 1)) z 0) same ∙ get_or-set_same cur here (m + 1) 0 small in
          let was : get_or cur k 0 ≡ m = ap (λ z. get_or cur z 0) same ∙ is_read in
          omega (arith, now, was, one_here k same, so_far k))
      | inr ne ↦ (
          let now : get_or (set cur here (m + 1)) k 0 ≡ get_or cur k 0 = get_or-set_other cur here k (m + 1) 0 ne in
          omega (arith, now, none_here k ne, so_far k))
    ]

-- ---- a table turned round
-- the turned rows of the first n rows
pub record AreTurnedBelow (rows : Table) (n : ℕ) (turned : Table) : Type 0 where
  pub below : (d k : ℕ) → k < n → occurrences (row_of turned d) k ≡ occurrences (row_of rows k) d
  pub above : (d k : ℕ) → n ≤ k → occurrences (row_of turned d) k ≡ 0

pub turned_none : (rows turned : Table) → ((k : ℕ) → row_of turned k ≡ []) → AreTurnedBelow rows 0 turned
turned_none rows turned blank = record {
  below = λ d k lt. absurd (omega (arith, lt));
  above = λ d k le. ap (λ (xs : List ℕ). occurrences xs k) (blank d);
}

pub turned_more : (rows turned turned' : Table) (n : ℕ)
    → ((d k : ℕ) → occurrences (row_of turned' d) k ≡ occurrences (row_of turned d) k + cond (eqb n k) (occurrences (row_of rows n) d) 0)
    → AreTurnedBelow rows n turned → AreTurnedBelow rows (n + 1) turned'
turned_more rows turned turned' n more is = record {
  below = λ d k lt. elim (cases_eq k n) [
    | inl same ↦ (
        let here : cond (eqb n k) (occurrences (row_of rows n) d) 0 ≡ occurrences (row_of rows k) d =
        ap (λ b. cond b (occurrences (row_of rows n) d) 0) (eq-eqb n k (sym same)) ∙ ap (λ z. occurrences (row_of rows z) d) (sym same) in
        omega (arith, more d k, is.above d k (omega (arith, same)), here))
    | inr ne ↦ (
        let none : cond (eqb n k) (occurrences (row_of rows n) d) 0 ≡ 0 = ap (λ b. cond b (occurrences (row_of rows n) d) 0) (ne_eqb n k (λ s. ne (sym s))) in
        omega (arith, more d k, is.below d k (omega (arith, lt, ne)), none))
  ];
  above = λ d k le.
      (let ne : ¬ (n ≡ k) = λ s. omega (arith, s, le) in
      let none : cond (eqb n k) (occurrences (row_of rows n) d) 0 ≡ 0 = ap (λ b. cond b (occurrences (row_of rows n) d) 0) (ne_eqb n k ne) in
      omega (arith, more d k, is.above d k (omega (arith, le)), none));
}

pub turned_whole : (rows turned : Table) (n : ℕ) → length rows ≤ n → AreTurnedBelow rows n turned → AreTurned rows turned
turned_whole rows turned n end is d k = elim (cases_lt k n) [
  | inl lt ↦ is.below d k lt
  | inr beyond ↦ is.above d k beyond ∙ sym (ap (λ (xs : List ℕ). occurrences xs d) (row_past rows k (omega (arith, beyond, end))))
]

-- one number more at the end of a row
one_more : (rows rows' : Table) (at number k n : ℕ) → row_of rows' at ≡ row_of rows at ++ number ∷ [] → ((j : ℕ) → ¬ (j ≡ at) → row_of rows' j ≡ row_of rows j)
    → occurrences (row_of rows' k) n ≡ occurrences (row_of rows k) n + cond (eqb number n) (one_if (eqb at k)) 0
one_more rows rows' at number k n here others = elim (cases_eq k at) [
  | inl same ↦ (
      let row : row_of rows' k ≡ row_of rows k ++ number ∷ [] = ap (row_of rows') same ∙ here ∙ ap (λ z. row_of rows z ++ number ∷ []) (sym same) in
      let one : cond (eqb number n) (one_if (eqb at k)) 0 ≡ one_if (eqb number n) =
      ap (λ b. cond (eqb number n) (one_if b) 0) (eq-eqb at k (sym same)) ∙ ones (eqb number n) in
      ap (λ (xs : List ℕ). occurrences xs n) row ∙ often_push (row_of rows k) number n ∙ ap (λ z. occurrences (row_of rows k) n + z) (sym one))
  | inr ne ↦ (
      let row = ap (λ (xs : List ℕ). occurrences xs n) (others k ne) in
      let none : cond (eqb number n) (one_if (eqb at k)) 0 ≡ 0 =
      ap (λ b. cond (eqb number n) (one_if b) 0) (ne_eqb at k (λ e. ne (sym e))) ∙ zeros (eqb number n) in
      omega (arith, row, none))
]
  where
    ones : (b : Bool) → cond b 1 0 ≡ one_if b
    ones true = refl
    ones false = refl

    zeros : (b : Bool) → cond b zero zero ≡ zero
    zeros true = refl
    zeros false = refl

-- the rows so far, and those to come
pub each_more : (rows rows' : Table) (each : List ℕ) (i number k n all : ℕ) → i < length each
    → row_of rows' (get_or each i 0) ≡ row_of rows (get_or each i 0) ++ number ∷ [] → ((j : ℕ) → ¬ (j ≡ get_or each i 0) → row_of rows' j ≡ row_of rows j)
    → occurrences (row_of rows k) n + cond (eqb number n) (occurrences (drop i each) k) 0 ≡ all
    → occurrences (row_of rows' k) n + cond (eqb number n) (occurrences (drop (i + 1) each) k) 0 ≡ all
each_more rows rows' each i number k n all lt here others so_far =
    let one = one_more rows rows' (get_or each i 0) number k n here others in
    let split : cond (eqb number n) (occurrences (drop i each) k) 0 ≡ cond (eqb number n) (one_if (eqb (get_or each i 0) k)) 0
    + cond (eqb number n) (occurrences (drop (i + 1) each) k) 0 =
    ap (λ z. cond (eqb number n) z 0) (often_drop each i k lt) ∙ plus (eqb number n) (one_if (eqb (get_or each i 0) k)) (occurrences (drop (i + 1) each) k) in
    omega (arith, one, split, so_far)
  where
    plus : (b : Bool) (a c : ℕ) → cond b (a + c) 0 ≡ cond b a 0 + cond b c 0
    plus true a c = refl
    plus false a c = refl

-- ---- the counts
-- the rows in which a number stands are rows
pub rows_within : (rows turned : Table) → AreTurned rows turned → (d : ℕ) → All (λ k. k < length rows) (row_of turned d)
rows_within rows turned is d = λ i e lt. at (get_or (row_of turned d) i e) (Contains-get_or (row_of turned d) i e lt)
  where
    at : (k : ℕ) → Contains (row_of turned d) k → k < length rows
    at k h = elim (cases_lt k (length rows)) [
      | inl lt ↦ lt
      | inr past ↦ absurd (
          let none : occurrences (row_of rows k) d ≡ 0 = ap (λ (xs : List ℕ). occurrences xs d) (row_past rows k past) in
          omega (arith, often_there (row_of turned d) k h, is d k, none))
    ]

pub counts_start : (rows : Table) (c : Counts) → length c.left.items ≡ length rows
    → ((k : ℕ) → k < length rows → get_or c.left.items k 0 ≡ length (row_of rows k)) → ((k : ℕ) → k < length rows → length (row_of rows k) < 2 ^ 64)
    → length c.rows_with.items ≡ length rows → AreTurned rows c.rows_with.items → AreCounts rows [] c
counts_start rows c count lengths room count' turned = record {
  count = count;
  turned_count = count';
  turned = turned;
  room = λ k. elim (cases_lt k (length rows)) [
    | inl lt ↦ room k lt
    | inr past ↦ subst (λ (xs : List ℕ). length xs < 2 ^ 64) (sym (row_past rows k past)) (omega arith)
  ];
  each = λ k. elim (cases_lt k (length rows)) [
    | inl lt ↦ lengths k lt ∙ sym (left_none (row_of rows k))
    | inr past ↦ get_or_past c.left.items k 0 (omega (arith, past, count)) ∙ sym (ap (left_in []) (row_past rows k past))
  ];
}

module _ (rows : Table) (placed : List ℕ) (n : ℕ) (fresh : is_in placed n ≡ false) (c : Counts) where
  -- what is counted once more where the number is placed
  pub enough : AreCounts rows placed c → (k : ℕ) → occurrences (row_of c.rows_with.items n) k ≤ get_or c.left.items k 0
  enough are k = omega (arith, are.turned n k, are.each k, left_push placed (row_of rows k) n fresh)

  pub counts_place : (c' : Counts) → AreCounts rows placed c → c'.rows_with ≡ c.rows_with → length c'.left.items ≡ length c.left.items
      → ((k : ℕ) → get_or c'.left.items k 0 + occurrences (row_of c.rows_with.items n) k ≡ get_or c.left.items k 0) → AreCounts rows (placed ++ n ∷ []) c'
  counts_place c' are same count each = record {
    count = count ∙ are.count;
    turned_count = ap (λ (t : Vec (Vec ℕ Global) Global). length t.items) same ∙ are.turned_count;
    turned = subst (λ (t : Vec (Vec ℕ Global) Global). AreTurned rows t.items) (sym same) are.turned;
    room = are.room;
    each = λ k. omega (arith, each k, are.turned n k, are.each k, left_push placed (row_of rows k) n fresh);
  }

  pub room_back : AreCounts rows (placed ++ n ∷ []) c → (k : ℕ) → get_or c.left.items k 0 + occurrences (row_of c.rows_with.items n) k < 2 ^ 64
  room_back are k = omega (arith, are.turned n k, are.each k, left_push placed (row_of rows k) n fresh, left_most placed (row_of rows k), are.room k)

  pub counts_back : (c' : Counts) → AreCounts rows (placed ++ n ∷ []) c → c'.rows_with ≡ c.rows_with → length c'.left.items ≡ length c.left.items
      → ((k : ℕ) → get_or c'.left.items k 0 ≡ get_or c.left.items k 0 + occurrences (row_of c.rows_with.items n) k) → AreCounts rows placed c'
  counts_back c' are same count each = record {
    count = count ∙ are.count;
    turned_count = ap (λ (t : Vec (Vec ℕ Global) Global). length t.items) same ∙ are.turned_count;
    turned = subst (λ (t : Vec (Vec ℕ Global) Global). AreTurned rows t.items) (sym same) are.turned;
    room = are.room;
    each = λ k. omega (arith, each k, are.turned n k, are.each k, left_push placed (row_of rows k) n fresh);
  }

-- ---- the tables of a forest have numbers of items alone
pub befores_within : (b : Blocks) → AreOfRows b.before.items
befores_within b k d h =
    let e : length b.parents.items ≡ vec_len b.parents = search rules in
    let e' : length b.before.items ≡ vec_len b.before = search rules in
    omega (arith, (b.forest.siblings k d h).1, e, e', b.befores)

pub children_within : (b : Blocks) → AreOfRows b.children.items
children_within b k d h =
    let e : length b.parents.items ≡ vec_len b.parents = search rules in
    let e' : length b.children.items ≡ vec_len b.children = search rules in
    omega (arith, (b.forest.down k d h).0, e, e', b.rows)

-- ---- what is open
pub often_in : (xs : List ℕ) (x : ℕ) → 1 ≤ occurrences xs x → Contains xs x
often_in [] x le = absurd (omega (arith, le))
often_in (y ∷ xs) x le = elim (cases_eq y x) [
  | inl same ↦ subst (Contains (y ∷ xs)) same (in_first y xs)
  | inr ne ↦ (
      let none : one_if (eqb y x) ≡ 0 = ap one_if (ne_eqb y x ne) in
      in_later y x xs (often_in xs x (omega (arith, le, none))))
]

none_full : (placed xs : List ℕ) → left_in placed xs ≡ 0 → all_in placed xs ≡ true
none_full placed xs none = full_left placed xs ∙ ap (λ n. eqb n 0) none

full_none : (placed xs : List ℕ) → all_in placed xs ≡ true → left_in placed xs ≡ 0
full_none placed xs full = eqb-true (left_in placed xs) 0 (sym (full_left placed xs) ∙ full)

pub open_start : (rows : Table) (c : Counts) (row : List Bool) → AreCounts rows [] c → ((k : ℕ) → k < length c.left.items → get_or c.left.items k 0 ≡ 0 → get_or row k false ≡ true)
    → AreOpen rows [] row
open_start rows c row are marked d lt fresh full = marked d (omega (arith, lt, are.count)) (are.each d ∙ full_none [] (row_of rows d) full)

module _ (rows : Table) (placed : List ℕ) (n : ℕ) (fresh : is_in placed n ≡ false) (c c' : Counts) where
  -- open where the number is placed too: it was before, or the number was the last of its row
  pub open_place : (row row' : List Bool) → AreCounts rows placed c → AreCounts rows (placed ++ n ∷ []) c' → AreOpen rows placed row
      → ((k : ℕ) → get_or (set row n false) k false ≡ true → get_or row' k false ≡ true)
      → ((k : ℕ) → Contains (row_of c'.rows_with.items n) k → get_or c'.left.items k 0 ≡ 0 → get_or row' k false ≡ true) → AreOpen rows (placed ++ n ∷ []) row'
  open_place row row' are are' was kept opened d lt out full = elim (cases_eq d n) [
    | inl same ↦ absurd (let both : true ≡ false = sym (ap (is_in (placed ++ n ∷ [])) same ∙ push_same placed n) ∙ out in cc)
    | inr ne ↦ elim (cases_Bool (all_in placed (row_of rows d))) [
      | inl before ↦ kept d (get_or-set_other row n d false false ne ∙ was d lt (sym (push_other placed n d ne) ∙ out) before)
      | inr not_yet ↦ (
          let none : left_in (placed ++ n ∷ []) (row_of rows d) ≡ 0 = full_none (placed ++ n ∷ []) (row_of rows d) full in
          let some : ¬ (left_in placed (row_of rows d) ≡ 0) = (λ z. (let both : true ≡ false = sym (none_full placed (row_of rows d) z) ∙ not_yet in absurd cc)) in
          opened d
          (often_in (row_of c'.rows_with.items n) d (omega (arith, some, none, left_push placed (row_of rows d) n fresh, are'.turned n d)))
          (are'.each d ∙ none))
    ]
  ]

  -- open where the number is taken back: it isn't one of its row
  pub open_back : (row row' : List Bool) → AreCounts rows (placed ++ n ∷ []) c → AreCounts rows placed c' → AreOpen rows (placed ++ n ∷ []) row → n < length row
      → ((k : ℕ) → ¬ Contains (row_of c'.rows_with.items n) k → get_or row' k false ≡ get_or row k false) → length row' ≡ length row → AreOpen rows placed (set row' n true)
  open_back row row' are are' was small kept count d lt out full = elim (cases_eq d n) [
    | inl same ↦ ap (λ k. get_or (set row' n true) k false) same ∙ get_or-set_same row' n true false (omega (arith, small, count))
    | inr ne ↦ (
        let none : left_in placed (row_of rows d) ≡ 0 = full_none placed (row_of rows d) full in
        let more = left_push placed (row_of rows d) n fresh in
        let apart : ¬ Contains (row_of c'.rows_with.items n) d = (λ h. omega (arith, often_there (row_of c'.rows_with.items n) d h, are'.turned n d, none, more)) in
        get_or-set_other row' n d true false ne ∙ kept d apart
        ∙ was d lt (push_other placed n d ne ∙ out) (none_full (placed ++ n ∷ []) (row_of rows d) (omega (arith, none, more))))
  ]
