-- The counts of what is still needed: what stays when an item is placed or taken back, and how they tell a kill.
use Rattle.std.proofs.Common.{◌≡◌, ℕ, zero, ◌+◌, ◌-◌, ◌*◌, ◌^◌, ◌<◌, ◌≤◌, inl, inr, Bool, true, false, not, cond, eqb, Option, Some, None, List, [], ◌∷◌, ◌++◌, Vec, length, set, vec_len, get_or, slice_get, drop, lit≤, Contains, refl, sym, ap, ◌∙◌, subst, arith, rules, get_or-set_same, get_or-set_other}
use Rattle.std.specs.Global.{Global}
use Rattle.std.proofs.lemmas.Bool.{cases_eq, eqb-true, eq-eqb, ne_eqb}
use Rattle.std.proofs.lemmas.List.{length-set}
use Rattle.std.proofs.lemmas.Option.{get_or_from_slice_get, slice_get_read}
use Rattle.hpr_forest.specs.Blocks.{row_at}
use Rattle.hpr_forest.specs.Forest.{IsDistinct}
use Rattle.hpr_forest.specs.Marks.{is_in}
use Rattle.hpr_forest.specs.Trees.{Slot, same_slot}
use Rattle.hpr_region.specs.declared.flows.Flows.{Flows}
use Rattle.hpr_region.specs.declared.rivals.Rivals.{Rivals}
use Rattle.hpr_region.specs.Flows as flow
use Rattle.hpr_region.specs.Private.Needs.{AreNeeds, AreReleased, AreRestored, AreRivals, group_of, in_group, is_open, is_rival, left_over, needed, occurrences, one_if, open_readers, sources_of, tie, tied, total}
use Rattle.hpr_region.proofs.Judging.{both, both_true, found_kill, found_left, kill_found, left_found, same_some}
use Rattle.hpr_region.proofs.Latest.{same_bool}
use Rattle.hpr_region.proofs.Totals.{counted_there, total_drop, total_least, total_most, total_ones, total_plus, total_push, total_same, total_some, total_zero}

-- membership when a list grows
pub in_pushed : (q : List ℕ) (c x : ℕ) → is_in (q ++ c ∷ []) x ≡ cond (eqb c x) true (is_in q x)
in_pushed [] c x = refl
in_pushed (y ∷ q) c x = ap (λ b. cond (eqb y x) true b) (in_pushed q c x) ∙ turned (eqb y x) (eqb c x) (is_in q x)
  where
    turned : (a b d : Bool) → cond a true (cond b true d) ≡ cond b true (cond a true d)
    turned true true d = refl
    turned true false d = refl
    turned false b d = refl

eqb_turned : (a b : ℕ) → eqb a b ≡ eqb b a
eqb_turned a b = elim (cases_eq a b) [
  | inl e ↦ eq-eqb a b e ∙ sym (eq-eqb b a (sym e))
  | inr ne ↦ ne_eqb a b ne ∙ sym (ne_eqb b a (λ e. ne (sym e)))
]

-- what the code reads of the counts
pub read_number : (xs : List ℕ) (k m : ℕ) → k < length xs → m ≡ get_or xs k m → m ≡ get_or xs k 0
read_number xs k m lt e = sym (get_or_from_slice_get xs k m 0 (slice_get_read xs (length xs) k m refl lt e))

row_small : (o : Option (Vec ℕ Global)) → length (row_at o) ≤ 2 ^ 64
row_small None = lit≤ tt
row_small (Some v) =
    let l : length v.items ≡ vec_len v = search rules in
    let s : vec_len v < 2 ^ 64 = search rules in
    omega (arith, l, s)

either_small : (b : Bool) (n : ℕ) → n ≤ 2 ^ 64 → cond b n 0 ≤ 2 ^ 64
either_small true n le = le
either_small false n le = lit≤ tt

few : (a b x y m n : ℕ) → a < b → b < 2 ^ 64 → x ≤ a * 2 ^ 64 → y ≤ 2 ^ 64 → m ≡ x → n ≡ y → m + n < 2 ^ 128
few a b x y m n lt small le le' em en = omega (arith, lt, small, le, le', em, en)

module _ (t : Flows) where
  -- ---- an item more
  -- a reader that is placed is open no more
  one_less : (q : List ℕ) (c d u : ℕ) → is_in q c ≡ false → one_if (is_open t q d u) ≡ one_if (is_open t (q ++ c ∷ []) d u) + cond (flow.same_block t d c) (one_if (eqb u c)) 0
  one_less q c d u fresh = elim (cases_eq u c) [
    | inl same ↦ (
        let now : is_in (q ++ c ∷ []) u ≡ true = in_pushed q c u ∙ ap (λ b. cond b true (is_in q u)) (eq-eqb c u (sym same)) in
        let before : is_in q u ≡ false = ap (is_in q) same ∙ fresh in
        let one : one_if (is_open t q d u) ≡ one_if (flow.same_block t d c) = ap (λ b. one_if (cond b false (flow.same_block t d u))) before ∙ ap (λ z. one_if (flow.same_block t d z)) same in
        let two : one_if (is_open t (q ++ c ∷ []) d u) ≡ 0 = ap (λ b. one_if (cond b false (flow.same_block t d u))) now in
        let three_ : cond (flow.same_block t d c) (one_if (eqb u c)) 0 ≡ one_if (flow.same_block t d c) = ap (λ b. cond (flow.same_block t d c) (one_if b) 0) (eq-eqb u c same) ∙ ones (flow.same_block t d c) in
        omega (arith, one, two, three_))
    | inr ne ↦ (
        let now : is_in (q ++ c ∷ []) u ≡ is_in q u = in_pushed q c u ∙ ap (λ b. cond b true (is_in q u)) (ne_eqb c u (λ e. ne (sym e))) in
        let two : one_if (is_open t (q ++ c ∷ []) d u) ≡ one_if (is_open t q d u) = ap (λ b. one_if (cond b false (flow.same_block t d u))) now in
        let three_ : cond (flow.same_block t d c) (one_if (eqb u c)) 0 ≡ 0 = ap (λ b. cond (flow.same_block t d c) (one_if b) 0) (ne_eqb u c ne) ∙ zeros (flow.same_block t d c) in
        omega (arith, two, three_))
  ]
    where
      ones : (b : Bool) → cond b 1 0 ≡ one_if b
      ones true = refl
      ones false = refl

      zeros : (b : Bool) → cond b zero zero ≡ zero
      zeros true = refl
      zeros false = refl

  all_less : (q : List ℕ) (c d : ℕ) → is_in q c ≡ false → (us : List ℕ) → total (λ u. one_if (is_open t q d u)) us ≡ total (λ u. one_if (is_open t (q ++ c ∷ []) d u)) us + cond (flow.same_block t d c) (occurrences us c) 0
  all_less q c d fresh us =
      total_same (λ u. one_if (is_open t q d u)) (λ u. one_if (is_open t (q ++ c ∷ []) d u) + cond (flow.same_block t d c) (one_if (eqb u c)) 0) us (λ u. one_less q c d u fresh)
      ∙ total_plus (λ u. one_if (is_open t (q ++ c ∷ []) d u)) (λ u. cond (flow.same_block t d c) (one_if (eqb u c)) 0) us
      ∙ ap (λ z. total (λ u. one_if (is_open t (q ++ c ∷ []) d u)) us + z) (outside (flow.same_block t d c))
    where
      outside : (b : Bool) → total (λ u. cond b (one_if (eqb u c)) 0) us ≡ cond b (occurrences us c) 0
      outside true = refl
      outside false = total_zero (λ u. 0) us (λ u. refl)

  -- the open readers of an item that is placed are those that are left over
  left_is_open : (q : List ℕ) (c u : ℕ) → is_open t (q ++ c ∷ []) c u ≡ flow.is_left t q c u
  left_is_open q c u = ap (λ b. cond b false (flow.same_block t c u)) (in_pushed q c u ∙ ap (λ b. cond b true (is_in q u)) (eqb_turned c u)) ∙ apart (eqb u c) (is_in q u) (flow.same_block t c u)
    where
      apart : (a b d : Bool) → cond (cond a true b) false d ≡ cond a false (cond b false d)
      apart true b d = refl
      apart false b d = refl

  pub left_same : (q : List ℕ) (c : ℕ) (us : List ℕ) → left_over t q c us ≡ total (λ u. one_if (is_open t (q ++ c ∷ []) c u)) us
  left_same q c us = total_same (λ u. one_if (flow.is_left t q c u)) (λ u. one_if (is_open t (q ++ c ∷ []) c u)) us (λ u. ap one_if (sym (left_is_open q c u)))

  pub tie_group : (r : Rivals) (q : List ℕ) (c d g : ℕ) → tie t r q c d ≡ Some g → group_of r d ≡ Some g
  tie_group r q c d g e = inside (is_in q d) (flow.same_block t d c) (group_of r d) e
    where
      inside : (a b : Bool) (o : Option ℕ) → cond a (cond b o None) None ≡ Some g → o ≡ Some g
      inside true true o e = e
      inside true false o e = absurd cc
      inside false b o e = absurd cc

  module _ (r : Rivals) (are : AreRivals t r) where
    -- what stays needed of the placed items when c is placed
    abbrev still : List ℕ → ℕ → ℕ → ℕ
    still q c g = total (λ d. cond (in_group t r g d) (open_readers t (q ++ c ∷ []) d) 0) q

    tied_same : (q : List ℕ) (c g : ℕ) → IsDistinct q → tied t r q c g (sources_of r c) ≡ total (λ d. cond (in_group t r g d) (cond (flow.same_block t d c) (occurrences (flow.readers_of t d) c) 0) 0) q
    tied_same q c g once =
        total_same (λ d. one_if (flow.same_variable (tie t r q c d) (Some g))) (λ d. one_if (cond (is_in q d) (cond (flow.same_block t d c) (in_group t r g d) false) false)) (sources_of r c)
        (λ d. ap one_if (inside (is_in q d) (flow.same_block t d c) (group_of r d)))
        ∙ counted_there (λ d. cond (flow.same_block t d c) (in_group t r g d) false) q once (sources_of r c)
        ∙ total_same (λ d. cond (cond (flow.same_block t d c) (in_group t r g d) false) (occurrences (sources_of r c) d) 0) (λ d. cond (in_group t r g d) (cond (flow.same_block t d c) (occurrences (flow.readers_of t d) c) 0) 0) q
        (λ d. nested (flow.same_block t d c) (in_group t r g d) (occurrences (sources_of r c) d) ∙ ap (λ n. cond (in_group t r g d) (cond (flow.same_block t d c) n 0) 0) (are.sources d c))
      where
        inside : (a b : Bool) (o : Option ℕ) → flow.same_variable (cond a (cond b o None) None) (Some g) ≡ cond a (cond b (flow.same_variable o (Some g)) false) false
        inside true true o = refl
        inside true false o = refl
        inside false b o = refl

        nested : (a b : Bool) (n : ℕ) → cond (cond a b false) n 0 ≡ cond b (cond a n 0) 0
        nested true true n = refl
        nested true false n = refl
        nested false true n = refl
        nested false false n = refl

    pub needed_before : (q : List ℕ) (c g : ℕ) → IsDistinct q → is_in q c ≡ false → needed t r q g q ≡ still q c g + tied t r q c g (sources_of r c)
    needed_before q c g once fresh =
        total_same (λ d. cond (in_group t r g d) (open_readers t q d) 0)
        (λ d. cond (in_group t r g d) (open_readers t (q ++ c ∷ []) d) 0 + cond (in_group t r g d) (cond (flow.same_block t d c) (occurrences (flow.readers_of t d) c) 0) 0) q
        (λ d. ap (λ n. cond (in_group t r g d) n 0) (all_less q c d fresh (flow.readers_of t d))
        ∙ split (in_group t r g d) (open_readers t (q ++ c ∷ []) d) (cond (flow.same_block t d c) (occurrences (flow.readers_of t d) c) 0))
        ∙ total_plus (λ d. cond (in_group t r g d) (open_readers t (q ++ c ∷ []) d) 0) (λ d. cond (in_group t r g d) (cond (flow.same_block t d c) (occurrences (flow.readers_of t d) c) 0) 0) q
        ∙ ap (λ n. still q c g + n) (sym (tied_same q c g once))
      where
        split : (b : Bool) (m n : ℕ) → cond b (m + n) 0 ≡ cond b m 0 + cond b n 0
        split true m n = refl
        split false m n = refl

    pub needed_after : (q : List ℕ) (c g : ℕ) → needed t r (q ++ c ∷ []) g (q ++ c ∷ []) ≡ still q c g + cond (in_group t r g c) (left_over t q c (flow.readers_of t c)) 0
    needed_after q c g =
        total_push (λ d. cond (in_group t r g d) (open_readers t (q ++ c ∷ []) d) 0) q c ∙ ap (λ n. still q c g + cond (in_group t r g c) n 0) (sym (left_same q c (flow.readers_of t c)))

    -- ---- kills
    group_alike : (a b g : ℕ) → group_of r b ≡ Some g → in_group t r g a ≡ is_rival t a b
    group_alike a b g e = ap (λ z. flow.same_variable (group_of r a) z) (sym e) ∙ are.groups a b

    rival_parts : (a b : ℕ) → is_rival t a b ≡ true → (flow.same_block t a b ≡ true) × (flow.same_variable (flow.variable_of t a) (flow.variable_of t b) ≡ true)
    rival_parts a b e = parts (flow.same_block t a b) (flow.same_variable (flow.variable_of t a) (flow.variable_of t b)) e
      where
        parts : (x y : Bool) → cond x y false ≡ true → (x ≡ true) × (y ≡ true)
        parts true y e = (refl, e)
        parts false y e = absurd cc

    block_moves : (a b u : ℕ) → flow.same_block t a b ≡ true → flow.same_block t a u ≡ flow.same_block t b u
    block_moves a b u e = ap (λ z. same_slot z (flow.slot_of t u)) (same_slots (flow.slot_of t a) (flow.slot_of t b) e)
      where
        same_slots : (u v : Slot) → same_slot u v ≡ true → u ≡ v
        same_slots None None e = refl
        same_slots None (Some b) e = absurd cc
        same_slots (Some a) None e = absurd cc
        same_slots (Some (a, true)) (Some (b, true)) e = ap (λ z. Some (z, true)) (eqb-true a b e)
        same_slots (Some (a, false)) (Some (b, false)) e = ap (λ z. Some (z, false)) (eqb-true a b e)
        same_slots (Some (a, true)) (Some (b, false)) e = absurd cc
        same_slots (Some (a, false)) (Some (b, true)) e = absurd cc

    -- a reader of a placed rival is open behind c exactly where it is left
    open_is_left : (q : List ℕ) (c d u : ℕ) → flow.same_block t d c ≡ true → is_open t (q ++ c ∷ []) d u ≡ flow.is_left t q c u
    open_is_left q c d u block = ap (λ b. cond (is_in (q ++ c ∷ []) u) false b) (block_moves d c u block) ∙ left_is_open q c u

    some_still : (q : List ℕ) (c g : ℕ) → group_of r c ≡ Some g → flow.kills_one t q q c ≡ true → 0 < still q c g
    some_still q c g e kills =
        let (d, h, here) = kill_found t q q c kills in
        let (block, alike, left) = both (flow.same_block t d c) (flow.same_variable (flow.variable_of t d) (flow.variable_of t c)) (flow.some_left t q c (flow.readers_of t d)) here in
        let (u, reader, is) = left_found t q c (flow.readers_of t d) left in
        let grouped : in_group t r g d ≡ true = group_alike d c g e ∙ ap (λ b. cond b (flow.same_variable (flow.variable_of t d) (flow.variable_of t c)) false) block ∙ alike in
        let one = total_least (λ u. one_if (is_open t (q ++ c ∷ []) d u)) (flow.readers_of t d) u reader in
        let is_one : one_if (is_open t (q ++ c ∷ []) d u) ≡ 1 = ap one_if (open_is_left q c d u block ∙ is) in
        let two = total_least (λ d. cond (in_group t r g d) (open_readers t (q ++ c ∷ []) d) 0) q d h in
        let is_two : cond (in_group t r g d) (open_readers t (q ++ c ∷ []) d) 0 ≡ open_readers t (q ++ c ∷ []) d = ap (λ b. cond b (open_readers t (q ++ c ∷ []) d) 0) grouped in
        omega (arith, one, is_one, two, is_two)

    still_some : (q : List ℕ) (c g : ℕ) → group_of r c ≡ Some g → 0 < still q c g → flow.kills_one t q q c ≡ true
    still_some q c g e lt = elim (total_some (λ d. cond (in_group t r g d) (open_readers t (q ++ c ∷ []) d) 0) q) [
      | inl none ↦ absurd (omega (arith, none, lt))
      | inr (d, h, some) ↦ at d h (in_group t r g d) refl some
    ]
      where
        found : (d : ℕ) → Contains q d → in_group t r g d ≡ true → (u : ℕ) → Contains (flow.readers_of t d) u → 0 < one_if (is_open t (q ++ c ∷ []) d u) → flow.kills_one t q q c ≡ true
        found d h grouped u reader some =
            let (block, alike) = rival_parts d c (sym (group_alike d c g e) ∙ grouped) in
            let left : flow.is_left t q c u ≡ true = sym (open_is_left q c d u block) ∙ one (is_open t (q ++ c ∷ []) d u) some in
            found_kill t q q c d h (both_true (flow.same_block t d c) (flow.same_variable (flow.variable_of t d) (flow.variable_of t c)) (flow.some_left t q c (flow.readers_of t d)) block alike
            (found_left t q c (flow.readers_of t d) u reader left))
          where
            one : (b : Bool) → 0 < one_if b → b ≡ true
            one true lt = refl
            one false lt = absurd (omega (arith, lt))

        at : (d : ℕ) → Contains q d → (b : Bool) → in_group t r g d ≡ b → 0 < cond b (open_readers t (q ++ c ∷ []) d) 0 → flow.kills_one t q q c ≡ true
        at d h false grouped some = absurd (omega (arith, some))
        at d h true grouped some = elim (total_some (λ u. one_if (is_open t (q ++ c ∷ []) d u)) (flow.readers_of t d)) [
          | inl none ↦ absurd (omega (arith, none, some))
          | inr (u, reader, one) ↦ found d h grouped u reader one
        ]

    -- c kills exactly where more is needed of its group than it is to be given itself
    pub kills_counted : (q : List ℕ) (c g m n : ℕ) → group_of r c ≡ Some g → IsDistinct q → is_in q c ≡ false → m ≡ needed t r q g q → n ≡ tied t r q c g (sources_of r c) → not (eqb m n) ≡ flow.kills_one t q q c
    kills_counted q c g m n e once fresh em en =
        let before = needed_before q c g once fresh in
        same_bool (not (eqb m n)) (flow.kills_one t q q c)
        (λ yes_. still_some q c g e (let ne = differ m n yes_ in omega (arith, before, em, en, ne)))
        (λ kills. apart_ m n (λ same. (let lt = some_still q c g e kills in absurd (omega (arith, before, em, en, same, lt)))))
      where
        differ : (m n : ℕ) → not (eqb m n) ≡ true → ¬ (m ≡ n)
        differ m n e same = absurd (let no : false ≡ true = sym (ap not (eq-eqb m n same)) ∙ e in cc)

        apart_ : (m n : ℕ) → ¬ (m ≡ n) → not (eqb m n) ≡ true
        apart_ m n ne = ap not (ne_eqb m n ne)

    pub kills_nothing_else : (q : List ℕ) (c : ℕ) → group_of r c ≡ None → false ≡ flow.kills_one t q q c
    kills_nothing_else q c none = same_bool false (flow.kills_one t q q c) (λ e. absurd cc) (λ e. (
        let (d, h, here) = kill_found t q q c e in
        let (block, alike, left) = both (flow.same_block t d c) (flow.same_variable (flow.variable_of t d) (flow.variable_of t c)) (flow.some_left t q c (flow.readers_of t d)) here in
        let rival : is_rival t d c ≡ true = ap (λ b. cond b (flow.same_variable (flow.variable_of t d) (flow.variable_of t c)) false) block ∙ alike in
        let (g, ed, ec) = same_some (group_of r d) (group_of r c) (are.groups d c ∙ rival) in
        absurd (let no : None ≡ Some g = sym none ∙ ec in cc)))

    -- ---- bounds
    needed_small : (p : List ℕ) (g : ℕ) (q : List ℕ) → needed t r p g q ≤ length q * 2 ^ 64
    needed_small p g q = total_most (λ d. cond (in_group t r g d) (open_readers t p d) 0) (2 ^ 64) q (λ d. either_small (in_group t r g d) (open_readers t p d) (
        let one = total_ones (λ u. is_open t p d u) (flow.readers_of t d) in let l = row_small (slice_get t.readers.items d) in omega (arith, one, l)))

    still_small : (q : List ℕ) (c g : ℕ) → still q c g ≤ length q * 2 ^ 64
    still_small q c g = needed_small (q ++ c ∷ []) g q

    left_small : (q : List ℕ) (c : ℕ) → left_over t q c (flow.readers_of t c) ≤ 2 ^ 64
    left_small q c = let one = total_ones (λ u. flow.is_left t q c u) (flow.readers_of t c) in let l = row_small (slice_get t.readers.items c) in omega (arith, one, l)

    items_small : vec_len t.slots < 2 ^ 64
    items_small = search rules

    -- ---- the counts, step by step
    module _ (q : List ℕ) (c : ℕ) where
      pub tied_step : (g i : ℕ) (ss : List ℕ) (o : Option ℕ) → i < length ss → tie t r q c (get_or ss i 0) ≡ o → tied t r q c g (drop i ss) ≡ one_if (flow.same_variable o (Some g)) + tied t r q c g (drop (i + 1) ss)
      tied_step g i ss o lt e =
          total_drop (λ d. one_if (flow.same_variable (tie t r q c d) (Some g))) ss i 0 lt ∙ ap (λ z. one_if (flow.same_variable z (Some g)) + tied t r q c g (drop (i + 1) ss)) e

      abbrev pub IsReleased : List ℕ → List ℕ → List ℕ → ℕ → Type 0
      IsReleased old needs ss i = (g : ℕ) → g < vec_len t.slots → get_or needs g 0 + tied t r q c g ss ≡ get_or old g 0 + tied t r q c g (drop i ss)

      abbrev pub IsRestored : List ℕ → List ℕ → List ℕ → ℕ → Type 0
      IsRestored old needs ss i = (g : ℕ) → g < vec_len t.slots → get_or needs g 0 + tied t r q c g (drop i ss) ≡ get_or old g 0 + tied t r q c g ss

      module _ (old needs ss : List ℕ) (i k : ℕ) (lt : i < length ss) (is : tie t r q c (get_or ss i 0) ≡ Some k) (within : k < vec_len t.slots) (count : length needs ≡ vec_len t.slots) where
        one_here : tied t r q c k (drop i ss) ≡ 1 + tied t r q c k (drop (i + 1) ss)
        one_here = tied_step k i ss (Some k) lt is ∙ ap (λ b. one_if b + tied t r q c k (drop (i + 1) ss)) (eq-eqb k k refl)

        none_elsewhere : (g : ℕ) → ¬ (g ≡ k) → tied t r q c g (drop i ss) ≡ tied t r q c g (drop (i + 1) ss)
        none_elsewhere g ne = let e = tied_step g i ss (Some k) lt is in let z : one_if (eqb k g) ≡ 0 = ap one_if (ne_eqb k g (λ s. ne (sym s))) in omega (arith, e, z)

        pub release_enough : IsReleased old needs ss i → tied t r q c k ss ≤ get_or old k 0 → 1 ≤ get_or needs k 0
        release_enough each enough = let e = each k within in let one = one_here in omega (arith, e, one, enough)

        pub release_step : (m : ℕ) → m ≡ get_or needs k 0 → 1 ≤ m → IsReleased old needs ss i → IsReleased old (set needs k (m - 1)) ss (i + 1)
        release_step m em some each g small = elim (cases_eq g k) [
          | inl same ↦ subst (λ z. get_or (set needs k (m - 1)) z 0 + tied t r q c z ss ≡ get_or old z 0 + tied t r q c z (drop (i + 1) ss)) (sym same)
              (let w : get_or (set needs k (m - 1)) k 0 ≡ m - 1 = get_or-set_same needs k (m - 1) 0 (omega (arith, within, count)) in
              let e = each k within in let one = one_here in omega (arith, w, e, one, em, some))
          | inr ne ↦ (
              let w : get_or (set needs k (m - 1)) g 0 ≡ get_or needs g 0 = get_or-set_other needs k g (m - 1) 0 ne in
              let e = each g small in let none = none_elsewhere g ne in omega (arith, w, e, none))
        ]

        pub restore_room : IsRestored old needs ss i → get_or old k 0 + tied t r q c k ss < 2 ^ 128 → get_or needs k 0 + 1 < 2 ^ 128
        restore_room each room = let e = each k within in let one = one_here in omega (arith, e, one, room)

        pub restore_step : (m : ℕ) → m ≡ get_or needs k 0 → IsRestored old needs ss i → IsRestored old (set needs k (m + 1)) ss (i + 1)
        restore_step m em each g small = elim (cases_eq g k) [
          | inl same ↦ subst (λ z. get_or (set needs k (m + 1)) z 0 + tied t r q c z (drop (i + 1) ss) ≡ get_or old z 0 + tied t r q c z ss) (sym same)
              (let w : get_or (set needs k (m + 1)) k 0 ≡ m + 1 = get_or-set_same needs k (m + 1) 0 (omega (arith, within, count)) in
              let e = each k within in let one = one_here in omega (arith, w, e, one, em))
          | inr ne ↦ (
              let w : get_or (set needs k (m + 1)) g 0 ≡ get_or needs g 0 = get_or-set_other needs k g (m + 1) 0 ne in
              let e = each g small in let none = none_elsewhere g ne in omega (arith, w, e, none))
        ]

      -- ---- an item is placed
      abbrev left : ℕ
      left = left_over t q c (flow.readers_of t c)

      in_no_group : (g : ℕ) → group_of r c ≡ None → cond (in_group t r g c) left 0 ≡ 0
      in_no_group g none = ap (λ o. cond (flow.same_variable o (Some g)) left 0) none

      in_own_group : (k : ℕ) → group_of r c ≡ Some k → cond (in_group t r k c) left 0 ≡ left
      in_own_group k e = ap (λ o. cond (flow.same_variable o (Some k)) left 0) e ∙ ap (λ b. cond b left 0) (eq-eqb k k refl)

      in_other_group : (k g : ℕ) → group_of r c ≡ Some k → ¬ (g ≡ k) → cond (in_group t r g c) left 0 ≡ 0
      in_other_group k g e ne = ap (λ o. cond (flow.same_variable o (Some g)) left 0) e ∙ ap (λ b. cond b left 0) (ne_eqb k g (λ s. ne (sym s)))

      module _ (once : IsDistinct q) (fresh : is_in q c ≡ false) where
        before : (g : ℕ) → needed t r q g q ≡ still q c g + tied t r q c g (sources_of r c)
        before g = needed_before q c g once fresh

        pub enough_needs : (needs : List ℕ) → AreNeeds t r q needs → (g : ℕ) → g < vec_len t.slots → tied t r q c g (sources_of r c) ≤ get_or needs g 0
        enough_needs needs are_needs g small = let e = are_needs.each g small in let b = before g in omega (arith, e, b)

        released_still : (old needs : List ℕ) → AreNeeds t r q old → AreReleased t r q c (sources_of r c) old needs → (g : ℕ) → g < vec_len t.slots → get_or needs g 0 ≡ still q c g
        released_still old needs was each g small = let e = was.each g small in let b = before g in let h = each g small in omega (arith, e, b, h)

        pub added_none : (old needs : List ℕ) → AreNeeds t r q old → length needs ≡ vec_len t.slots → AreReleased t r q c (sources_of r c) old needs → group_of r c ≡ None → AreNeeds t r (q ++ c ∷ []) needs
        added_none old needs was count each none = record {
          count = count;
          each = λ g small.
              (let s = released_still old needs was each g small in
              let a = needed_after q c g in
              let z = in_no_group g none in
              omega (arith, s, a, z));
        }

        pub added_some : (old needs : List ℕ) (k m n : ℕ) → AreNeeds t r q old → length needs ≡ vec_len t.slots → AreReleased t r q c (sources_of r c) old needs → group_of r c ≡ Some k → m ≡ get_or needs k 0 → n ≡ left
            → AreNeeds t r (q ++ c ∷ []) (set needs k (m + n))
        added_some old needs k m n was count each e em en = record {
          count = length-set needs k (m + n) ∙ count;
          each = λ g small. elim (cases_eq g k) [
            | inl same ↦ subst (λ z. get_or (set needs k (m + n)) z 0 ≡ needed t r (q ++ c ∷ []) z (q ++ c ∷ [])) (sym same)
                (let within : k < vec_len t.slots = are.within c k e in
                let w : get_or (set needs k (m + n)) k 0 ≡ m + n = get_or-set_same needs k (m + n) 0 (omega (arith, within, count)) in
                let s = released_still old needs was each k within in
                let a = needed_after q c k in
                let z = in_own_group k e in
                omega (arith, w, s, a, z, em, en))
            | inr ne ↦ (
                let w : get_or (set needs k (m + n)) g 0 ≡ get_or needs g 0 = get_or-set_other needs k g (m + n) 0 ne in
                let s = released_still old needs was each g small in
                let a = needed_after q c g in
                let z = in_other_group k g e ne in
                omega (arith, w, s, a, z))
          ];
        }

        pub added_room : (old needs : List ℕ) (k m n : ℕ) → AreNeeds t r q old → AreReleased t r q c (sources_of r c) old needs → group_of r c ≡ Some k → m ≡ get_or needs k 0 → n ≡ left → length q < vec_len t.slots → m + n < 2 ^ 128
        added_room old needs k m n was each e em en room =
            let s = released_still old needs was each k (are.within c k e) in
            let small = still_small q c k in
            let l = left_small q c in
            let most = items_small in
            few (length q) (vec_len t.slots) (still q c k) left m n room most small l (em ∙ s) en

        -- ---- an item is taken back
        taken_with : (old needs : List ℕ) → AreNeeds t r (q ++ c ∷ []) old → AreRestored t r q c (sources_of r c) old needs → (g : ℕ) → g < vec_len t.slots → get_or needs g 0 ≡ needed t r q g q + cond (in_group t r g c) left 0
        taken_with old needs was each g small = let e = was.each g small in let b = before g in let a = needed_after q c g in let h = each g small in omega (arith, e, b, a, h)

        pub taken_none : (old needs : List ℕ) → AreNeeds t r (q ++ c ∷ []) old → length needs ≡ vec_len t.slots → AreRestored t r q c (sources_of r c) old needs → group_of r c ≡ None → AreNeeds t r q needs
        taken_none old needs was count each none = record {
          count = count;
          each = λ g small. (let s = taken_with old needs was each g small in let z = in_no_group g none in omega (arith, s, z));
        }

        pub taken_enough : (old needs : List ℕ) (k m n : ℕ) → AreNeeds t r (q ++ c ∷ []) old → AreRestored t r q c (sources_of r c) old needs → group_of r c ≡ Some k → m ≡ get_or needs k 0 → n ≡ left → n ≤ m
        taken_enough old needs k m n was each e em en = let s = taken_with old needs was each k (are.within c k e) in let z = in_own_group k e in omega (arith, s, z, em, en)

        pub taken_some : (old needs : List ℕ) (k m n : ℕ) → AreNeeds t r (q ++ c ∷ []) old → length needs ≡ vec_len t.slots → AreRestored t r q c (sources_of r c) old needs → group_of r c ≡ Some k → m ≡ get_or needs k 0 → n ≡ left
            → AreNeeds t r q (set needs k (m - n))
        taken_some old needs k m n was count each e em en = record {
          count = length-set needs k (m - n) ∙ count;
          each = λ g small. elim (cases_eq g k) [
            | inl same ↦ subst (λ z. get_or (set needs k (m - n)) z 0 ≡ needed t r q z q) (sym same)
                (let within : k < vec_len t.slots = are.within c k e in
                let w : get_or (set needs k (m - n)) k 0 ≡ m - n = get_or-set_same needs k (m - n) 0 (omega (arith, within, count)) in
                let s = taken_with old needs was each k within in
                let z = in_own_group k e in
                omega (arith, w, s, z, em, en))
            | inr ne ↦ (
                let w : get_or (set needs k (m - n)) g 0 ≡ get_or needs g 0 = get_or-set_other needs k g (m - n) 0 ne in
                let s = taken_with old needs was each g small in
                let z = in_other_group k g e ne in
                omega (arith, w, s, z))
          ];
        }

        pub taken_room : (old : List ℕ) → AreNeeds t r (q ++ c ∷ []) old → length q < vec_len t.slots → (g : ℕ) → g < vec_len t.slots → get_or old g 0 + tied t r q c g (sources_of r c) < 2 ^ 128
        taken_room old was room g small =
            let e = was.each g small in
            let b = before g in
            let a = needed_after q c g in
            let most = needed_small q g q in
            let l = either_small (in_group t r g c) left (left_small q c) in
            let items = items_small in
            let sum : needed t r q g q + cond (in_group t r g c) left 0 < 2 ^ 128 =
            few (length q) (vec_len t.slots) (needed t r q g q) (cond (in_group t r g c) left 0) (needed t r q g q) (cond (in_group t r g c) left 0) room items most l refl refl in
            omega (arith, e, b, a, sum)
