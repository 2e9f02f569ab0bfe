-- Rivals are found by the definers of each variable, and readers are turned round.
use Rattle.std.proofs.Common.{◌≡◌, ℕ, zero, ◌+◌, ◌<◌, ◌≤◌, ◌⊎◌, inl, inr, Bool, true, false, cond, eqb, Option, Some, None, List, [], ◌∷◌, ◌++◌, All, Vec, length, vec_len, get_or, slice_get, drop, Contains, refl, sym, ap, ◌∙◌, subst, arith, rules, get_or-set_same, get_or-set_other}
use Rattle.std.specs.Global.{Global}
use Rattle.std.proofs.lemmas.Bool.{cases_eq, cases_lt, eqb-true, eq-eqb, ne_eqb}
use Rattle.std.proofs.lemmas.List.Elements.{Contains-get_or}
use Rattle.std.proofs.lemmas.Option.{slice_get_past}
use Rattle.hpr_terms.proofs.Facts.{in_none, in_cons, in_here, in_later, some_inj}
use Rattle.hpr_forest.specs.Blocks.{row_at}
use Rattle.hpr_forest.specs.Marks.{is_in}
use Rattle.hpr_forest.specs.Trees.{same_slot}
use Rattle.hpr_forest.proofs.Members.{in_is_in}
use Rattle.hpr_search.specs.Rows.{numbers_at, numbers_of, with_number}
use Rattle.hpr_region.specs.declared.flows.Flows.{Flows}
use Rattle.hpr_region.specs.declared.rivals.Rivals.{Rivals}
use Rattle.hpr_region.specs.Flows as flow
use Rattle.hpr_region.specs.Private.Needs.{AreRivals, is_rival, occurrences, one_if, sources_of}
use Rattle.hpr_region.specs.Private.Rivals.{AreDefiners, AreGroupsBy, AreTurned, first_in, first_of, group_by}
use Rattle.hpr_region.proofs.Definers.{defining_within}
use Rattle.hpr_region.proofs.Judging.{is_in_in, same_some, same_true}
use Rattle.hpr_region.proofs.Latest.{get_small, same_bool}
use Rattle.hpr_region.proofs.Made.{row_same, same_slots, slot_itself}
use Rattle.hpr_region.proofs.Totals.{total_drop, total_least, total_push, total_some}

module _ (t : Flows) where
  -- ---- groups
  first_found : (ks : List ℕ) (a g : ℕ) → first_in t ks a ≡ Some g → Contains ks g × (flow.same_block t g a ≡ true)
  first_found [] a g e = absurd cc
  first_found (k ∷ ks) a g e = at (flow.same_block t k a) refl (λ f. first_found ks a g f) e
    where
      at : (b : Bool) → flow.same_block t k a ≡ b → (first_in t ks a ≡ Some g → Contains ks g × (flow.same_block t g a ≡ true)) → cond b (Some k) (first_in t ks a) ≡ Some g → Contains (k ∷ ks) g × (flow.same_block t g a ≡ true)
      at true block rest f = let same : k ≡ g = some_inj k g f in (subst (Contains (k ∷ ks)) same (in_here k ks), subst (λ z. flow.same_block t z a ≡ true) same block)
      at false block rest f = let (h, is) = rest f in (in_later k g ks h, is)

  found_first : (ks : List ℕ) (a k : ℕ) → Contains ks k → flow.same_block t k a ≡ true → (g : ℕ) × (first_in t ks a ≡ Some g)
  found_first [] a k h e = absurd (in_none k h)
  found_first (j ∷ ks) a k h e = at (flow.same_block t j a) refl (in_cons j k ks h) (λ later. found_first ks a k later e)
    where
      at : (b : Bool) → flow.same_block t j a ≡ b → ((j ≡ k) ⊎ Contains ks k) → (Contains ks k → (g : ℕ) × (first_in t ks a ≡ Some g)) → (g : ℕ) × (cond b (Some j) (first_in t ks a) ≡ Some g)
      at true block cases rest = (j, refl)
      at false block (inr later) rest = rest later
      at false block (inl is) rest = absurd (let no : true ≡ false = sym e ∙ ap (λ z. flow.same_block t z a) (sym is) ∙ block in cc)

  first_alike : (ks : List ℕ) (a b : ℕ) → flow.slot_of t a ≡ flow.slot_of t b → first_in t ks a ≡ first_in t ks b
  first_alike [] a b e = refl
  first_alike (k ∷ ks) a b e = ap (λ z. cond (same_slot (flow.slot_of t k) z) (Some k) (first_in t ks a)) e ∙ ap (λ z. cond (flow.same_block t k b) (Some k) z) (first_alike ks a b e)

  module _ (rows : List (Vec ℕ Global)) (are : AreDefiners t rows) where
    group_found : (a g : ℕ) (v : Option ℕ) → flow.variable_of t a ≡ v → first_of t rows v a ≡ Some g → (r : ℕ) × (flow.variable_of t a ≡ Some r) × (flow.variable_of t g ≡ Some r) × (flow.same_block t g a ≡ true)
    group_found a g None ev e = absurd cc
    group_found a g (Some r) ev e = let (h, block) = first_found (numbers_at (numbers_of rows) r) a g e in (r, ev, (are.exact r g).0 h, block)

    pub group_within : (a g : ℕ) → group_by t rows a ≡ Some g → g < vec_len t.slots
    group_within a g e = let (r, ea, eg, block) = group_found a g (flow.variable_of t a) refl e in defining_within t g r eg

    pub groups_alike : (a b : ℕ) → flow.same_variable (group_by t rows a) (group_by t rows b) ≡ is_rival t a b
    groups_alike a b = same_bool (flow.same_variable (group_by t rows a) (group_by t rows b)) (is_rival t a b)
        (λ e. (
        let (g, ea, eb) = same_some (group_by t rows a) (group_by t rows b) e in
        let (r, va, vg, block_a) = group_found a g (flow.variable_of t a) refl ea in
        let (s, vb, vg', block_b) = group_found b g (flow.variable_of t b) refl eb in
        let same : s ≡ r = some_inj s r (sym vg' ∙ vg) in
        let slots : flow.slot_of t a ≡ flow.slot_of t b = sym (same_slots (flow.slot_of t g) (flow.slot_of t a) block_a) ∙ same_slots (flow.slot_of t g) (flow.slot_of t b) block_b in
        let block : flow.same_block t a b ≡ true = ap (λ z. same_slot z (flow.slot_of t b)) slots ∙ slot_itself (flow.slot_of t b) in
        ap (λ z. cond z (flow.same_variable (flow.variable_of t a) (flow.variable_of t b)) false) block ∙ same_true (flow.variable_of t a) (flow.variable_of t b) r va (vb ∙ ap Some same)))
        (λ e. (
        let (block, alike) = parts (flow.same_block t a b) (flow.same_variable (flow.variable_of t a) (flow.variable_of t b)) e in
        let (r, va, vb) = same_some (flow.variable_of t a) (flow.variable_of t b) alike in
        let slots = same_slots (flow.slot_of t a) (flow.slot_of t b) block in
        let (g, first) = found_first (numbers_at (numbers_of rows) r) a a ((are.exact r a).1 va) (slot_itself (flow.slot_of t a)) in
        let ga : group_by t rows a ≡ Some g = ap (λ v. first_of t rows v a) va ∙ first in
        let gb : group_by t rows b ≡ Some g = ap (λ v. first_of t rows v b) vb ∙ sym (first_alike (numbers_at (numbers_of rows) r) a b slots) ∙ first in
        same_true (group_by t rows a) (group_by t rows b) g ga gb))
      where
        parts : (x y : Bool) → cond x y false ≡ true → (x ≡ true) × (y ≡ true)
        parts true y e = (refl, e)
        parts false y e = absurd cc

  -- an item past the last has no variable
  pub no_group : (rows : List (Vec ℕ Global)) (a : ℕ) → vec_len t.slots ≤ a → group_by t rows a ≡ None
  no_group rows a past = ap (λ v. first_of t rows v a) (at (flow.variable_of t a) refl)
    where
      at : (v : Option ℕ) → flow.variable_of t a ≡ v → v ≡ None
      at None e = refl
      at (Some r) e = absurd (let lt = defining_within t a r e in omega (arith, lt, past))

  pub groups_whole : (rows : List (Vec ℕ Global)) (groups : List (Option ℕ)) (n : ℕ) → vec_len t.slots ≤ n → length groups ≡ vec_len t.slots → ((a : ℕ) → a < n → get_or groups a None ≡ group_by t rows a) → AreGroupsBy t rows groups
  groups_whole rows groups n end count below a = elim (cases_lt a n) [
    | inl lt ↦ below a lt
    | inr beyond ↦ at beyond (get_or groups a None) refl ∙ sym (no_group rows a (omega (arith, beyond, end)))
  ]
    where
      at : n ≤ a → (o : Option ℕ) → get_or groups a None ≡ o → o ≡ None
      at beyond None e = refl
      at beyond (Some r) e = absurd (let lt = get_small groups a r e in omega (arith, lt, count, beyond, end))

  -- ---- readers turned round
  no_readers : (d u : ℕ) → vec_len t.slots ≤ d → occurrences (flow.readers_of t d) u ≡ 0
  no_readers d u past =
      let l : length t.readers.items ≡ vec_len t.readers = search rules in
      let none : slice_get t.readers.items d ≡ None = slice_get_past t.readers.items d (let v = t.reader_count in omega (arith, l, v, past)) in
      ap (λ o. occurrences (row_at o) u) none

  pub turned_none : (rows : List (Vec ℕ Global)) → ((at n : ℕ) → ¬ Contains (numbers_at (numbers_of rows) at) n) → AreTurned t 0 rows
  turned_none rows blank = record {
    below = λ d u lt. absurd (omega (arith, lt));
    above = λ d u le. elim (total_some (λ y. one_if (eqb y d)) (numbers_at (numbers_of rows) u)) [
      | inl none ↦ none
      | inr (x, h, some) ↦ absurd (blank u x h)
    ];
  }

  pub turned_more : (rows rows' : List (Vec ℕ Global)) (n : ℕ)
      → ((d u : ℕ) → occurrences (numbers_at (numbers_of rows') u) d ≡ occurrences (numbers_at (numbers_of rows) u) d + cond (eqb n d) (occurrences (flow.readers_of t n) u) 0)
      → AreTurned t n rows → AreTurned t (n + 1) rows'
  turned_more rows rows' n more is = record {
    below = λ d u lt. elim (cases_eq d n) [
      | inl same ↦ (
          let e = more d u in
          let z = is.above d u (omega (arith, same)) in
          let here : cond (eqb n d) (occurrences (flow.readers_of t n) u) 0 ≡ occurrences (flow.readers_of t d) u = ap (λ b. cond b (occurrences (flow.readers_of t n) u) 0) (eq-eqb n d (sym same)) ∙ ap (λ k. occurrences (flow.readers_of t k) u) (sym same) in
          omega (arith, e, z, here))
      | inr ne ↦ (
          let e = more d u in
          let was = is.below d u (omega (arith, lt, ne)) in
          let none : cond (eqb n d) (occurrences (flow.readers_of t n) u) 0 ≡ 0 = ap (λ b. cond b (occurrences (flow.readers_of t n) u) 0) (ne_eqb n d (λ s. ne (sym s))) in
          omega (arith, e, was, none))
    ];
    above = λ d u le.
        (let e = more d u in
        let z = is.above d u (omega (arith, le)) in
        let ne : ¬ (n ≡ d) = λ s. omega (arith, s, le) in
        let none : cond (eqb n d) (occurrences (flow.readers_of t n) u) 0 ≡ 0 = ap (λ b. cond b (occurrences (flow.readers_of t n) u) 0) (ne_eqb n d ne) in
        omega (arith, e, z, none));
  }

  pub turned_whole : (rows : List (Vec ℕ Global)) (n : ℕ) → vec_len t.slots ≤ n → AreTurned t n rows → (d u : ℕ) → occurrences (row_at (slice_get rows u)) d ≡ occurrences (flow.readers_of t d) u
  turned_whole rows n end is d u = ap (λ (xs : List ℕ). occurrences xs d) (row_same rows u) ∙ elim (cases_lt d n) [
    | inl lt ↦ is.below d u lt
    | inr beyond ↦ is.above d u beyond ∙ sym (no_readers d u (omega (arith, beyond, end)))
  ]

  pub are_rivals : (rows : List (Vec ℕ Global)) (r : Rivals) → AreDefiners t rows → vec_len r.groups ≡ vec_len t.slots → AreGroupsBy t rows r.groups.items → length r.sources.items ≡ vec_len t.slots
      → ((d u : ℕ) → occurrences (row_at (slice_get r.sources.items u)) d ≡ occurrences (flow.readers_of t d) u) → AreRivals t r
  are_rivals rows r are group_count groups source_count turned = record {
    group_count = group_count;
    source_count = (let l : length r.sources.items ≡ vec_len r.sources = search rules in omega (arith, l, source_count));
    within = λ k g e. group_within rows are k g (sym (groups k) ∙ e);
    groups = λ a b. ap (λ o. flow.same_variable o (get_or r.groups.items b None)) (groups a) ∙ ap (λ o. flow.same_variable (group_by t rows a) o) (groups b) ∙ groups_alike rows are a b;
    sources = turned;
  }

  pub readers_within : (k : ℕ) → All (λ j. j < vec_len t.slots) (flow.readers_of t k)
  readers_within k = λ i d lt. t.within k (get_or (flow.readers_of t k) i d) (Contains-get_or (flow.readers_of t k) i d lt)

  pub source_within : (r : Rivals) → AreRivals t r → (d u : ℕ) → Contains (row_at (slice_get r.sources.items u)) d → d < vec_len t.slots
  source_within r are d u h = elim (cases_lt d (vec_len t.slots)) [
    | inl lt ↦ lt
    | inr beyond ↦ absurd (
        let one = total_least (λ y. one_if (eqb y d)) (row_at (slice_get r.sources.items u)) d h in
        let is : one_if (eqb d d) ≡ 1 = ap one_if (eq-eqb d d refl) in
        let e = are.sources d u in
        let z = no_readers d u beyond in
        omega (arith, one, is, e, z))
  ]

  pub sources_within : (r : Rivals) → AreRivals t r → (k : ℕ) → All (λ j. j < vec_len t.slots) (sources_of r k)
  sources_within r are k = λ i d lt. source_within r are (get_or (sources_of r k) i d) k (Contains-get_or (sources_of r k) i d lt)

  -- the sources of an item are those that it reads
  pub source_reader : (r : Rivals) → AreRivals t r → (d u : ℕ) → is_in (sources_of r u) d ≡ is_in (flow.readers_of t d) u
  source_reader r are d u = same_bool (is_in (sources_of r u) d) (is_in (flow.readers_of t d) u)
      (λ e. often (flow.readers_of t d) u (let one = there (sources_of r u) d e in let same = are.sources d u in omega (arith, one, same)))
      (λ e. often (sources_of r u) d (let one = there (flow.readers_of t d) u e in let same = are.sources d u in omega (arith, one, same)))
    where
      there : (xs : List ℕ) (x : ℕ) → is_in xs x ≡ true → 1 ≤ occurrences xs x
      there xs x e =
          let one = total_least (λ y. one_if (eqb y x)) xs x (is_in_in xs x e) in
          let is : one_if (eqb x x) ≡ 1 = ap one_if (eq-eqb x x refl) in
          omega (arith, one, is)

      equal : (b : Bool) → 0 < one_if b → b ≡ true
      equal true lt = refl
      equal false lt = absurd (omega (arith, lt))

      often : (xs : List ℕ) (x : ℕ) → 1 ≤ occurrences xs x → is_in xs x ≡ true
      often xs x le = elim (total_some (λ y. one_if (eqb y x)) xs) [
        | inl none ↦ absurd (omega (arith, none, le))
        | inr (y, h, lt) ↦ in_is_in xs x (subst (Contains xs) (eqb-true y x (equal (eqb y x) lt)) h)
      ]

-- one number more at the end of a row
pub one_more : (rows : List (List ℕ)) (at number d u : ℕ) → at < length rows
    → occurrences (numbers_at (with_number rows at number) u) d ≡ occurrences (numbers_at rows u) d + cond (eqb number d) (one_if (eqb at u)) 0
one_more rows at number d u lt = elim (cases_eq u at) [
  | inl same ↦ (
      let row : numbers_at (with_number rows at number) u ≡ numbers_at rows u ++ number ∷ [] = ap (numbers_at (with_number rows at number)) same ∙ get_or-set_same rows at (numbers_at rows at ++ number ∷ []) [] lt ∙ ap (λ (k : ℕ). numbers_at rows k ++ number ∷ []) (sym same) in
      let one : cond (eqb number d) (one_if (eqb at u)) 0 ≡ one_if (eqb number d) = ap (λ b. cond (eqb number d) (one_if b) 0) (eq-eqb at u (sym same)) ∙ ones (eqb number d) in
      ap (λ (xs : List ℕ). occurrences xs d) row ∙ total_push (λ y. one_if (eqb y d)) (numbers_at rows u) number ∙ ap (λ n. occurrences (numbers_at rows u) d + n) (sym one))
  | inr ne ↦ (
      let row : numbers_at (with_number rows at number) u ≡ numbers_at rows u = get_or-set_other rows at u (numbers_at rows at ++ number ∷ []) [] ne in
      let none : cond (eqb number d) (one_if (eqb at u)) 0 ≡ 0 = ap (λ b. cond (eqb number d) (one_if b) 0) (ne_eqb at u (λ e. ne (sym e))) ∙ zeros (eqb number d) in
      let same = ap (λ (xs : List ℕ). occurrences xs d) row in
      omega (arith, same, none))
]
  where
    ones : (b : Bool) → cond b 1 0 ≡ one_if b
    ones true = refl
    ones false = refl

    zeros : (b : Bool) → cond b zero zero ≡ zero
    zeros true = refl
    zeros false = refl

-- the rows so far and those to come
pub each_more : (rows rows' : List (List ℕ)) (each : List ℕ) (i number d u old all : ℕ) → i < length each → get_or each i 0 < length rows → rows' ≡ with_number rows (get_or each i 0) number
    → occurrences (numbers_at rows u) d + cond (eqb number d) (occurrences (drop i each) u) 0 ≡ all
    → occurrences (numbers_at rows' u) d + cond (eqb number d) (occurrences (drop (i + 1) each) u) 0 ≡ all
each_more rows rows' each i number d u old all lt within is so_far =
    let one : occurrences (numbers_at rows' u) d ≡ occurrences (numbers_at rows u) d + cond (eqb number d) (one_if (eqb (get_or each i 0) u)) 0 = ap (λ (x : List (List ℕ)). occurrences (numbers_at x u) d) is ∙ one_more rows (get_or each i 0) number d u within in
    let rest = total_drop (λ y. one_if (eqb y u)) each i 0 lt in
    let split : cond (eqb number d) (occurrences (drop i each) u) 0 ≡ cond (eqb number d) (one_if (eqb (get_or each i 0) u)) 0 + cond (eqb number d) (occurrences (drop (i + 1) each) u) 0 =
    ap (λ n. cond (eqb number d) n 0) rest ∙ plus (eqb number d) (one_if (eqb (get_or each i 0) u)) (occurrences (drop (i + 1) each) u) in
    omega (arith, one, split, so_far)
  where
    plus : (b : Bool) (m n : ℕ) → cond b (m + n) 0 ≡ cond b m 0 + cond b n 0
    plus true m n = refl
    plus false m n = refl
