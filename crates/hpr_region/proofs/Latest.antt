-- The last placed definition of each variable, and the one before it: what stays when an item is placed or taken back, and how they tell a wrong reach.
use Rattle.std.proofs.Common.{◌≡◌, ℕ, zero, suc, ◌<◌, ◌⊎◌, inl, inr, Bool, true, false, cond, Option, Some, None, List, [], ◌∷◌, ◌++◌, Vec, length, set, replicate, vec_len, get_or, Contains, refl, sym, ap, ◌∙◌, subst, arith, rules, append_assoc, get_or-set_same, get_or-set_other, ◌+◌, drop, drop-cons, add-one}
use Rattle.std.specs.Global.{Global}
use Rattle.std.proofs.lemmas.Bool.{cases_eq, cases_lt, ne_eqb}
use Rattle.std.proofs.lemmas.List.{get_or-replicate, get_or_past, length-replicate}
use Rattle.std.proofs.lemmas.Option.{slice_get_read, get_or_from_slice_get}
use Rattle.hpr_terms.proofs.Facts.{in_none, in_cons, in_here, in_later, some_inj}
use Rattle.hpr_forest.specs.Marks.{is_in}
use Rattle.hpr_forest.proofs.Members.{in_is_in}
use Rattle.hpr_region.specs.declared.flows.Flows.{Flows}
use Rattle.hpr_region.specs.declared.summary.Summary.{Summary}
use Rattle.hpr_region.specs.Flows as flow
use Rattle.hpr_region.specs.Private.Summaries.{IsSized, IsSummary, is_reached_by, last_of, or_else, some_reach}
use Rattle.hpr_region.proofs.Judging.{among_some, either, either_left, either_right, found_reach, four, four_true, never, reach_found, same_some, same_true}

pub same_bool : (a b : Bool) → (a ≡ true → b ≡ true) → (b ≡ true → a ≡ true) → a ≡ b
same_bool true true f h = refl
same_bool true false f h = absurd (let e : false ≡ true = f refl in cc)
same_bool false true f h = absurd (let e : false ≡ true = h refl in cc)
same_bool false false f h = refl

-- a list with one more behind it, split at an item: the item is the last, or stands in the list
pub last_or_before : (xs front back : List ℕ) (c k : ℕ) → xs ++ c ∷ [] ≡ front ++ k ∷ back → ((k ≡ c) × (front ≡ xs)) ⊎ ((rest : List ℕ) × (xs ≡ front ++ k ∷ rest))
last_or_before [] [] back c k e = inl (cc, refl)
last_or_before [] (x ∷ []) back c k e = absurd cc
last_or_before [] (x ∷ y ∷ front) back c k e = absurd cc
last_or_before (x ∷ xs) [] back c k e = inr (xs, (let h : x ≡ k = cc in ap (λ z. z ∷ xs) h))
last_or_before (x ∷ xs) (y ∷ front) back c k e = elim (last_or_before xs front back c k (cc)) [
  | inl (is, same) ↦ (let h : x ≡ y = cc in inl (is, ap (λ z. y ∷ z) same ∙ ap (λ z. z ∷ xs) (sym h)))
  | inr (rest, same) ↦ (let h : x ≡ y = cc in inr (rest, ap (λ z. x ∷ z) same ∙ ap (λ z. z ∷ (front ++ k ∷ rest)) h))
]

or_cond : (b : Bool) (c : ℕ) (o p : Option ℕ) → or_else (cond b (Some c) o) p ≡ cond b (Some c) (or_else o p)
or_cond true c o p = refl
or_cond false c o p = refl

is_none : (b : Bool) (k : ℕ) → cond b (Some k) None ≡ None → b ≡ false
is_none true k e = absurd cc
is_none false k e = refl

is_some : (b : Bool) (k d : ℕ) → cond b (Some k) None ≡ Some d → (b ≡ true) × (k ≡ d)
is_some true k d e = (refl, cc)
is_some false k d e = absurd cc

both_none : (o p : Option ℕ) → or_else o p ≡ None → (o ≡ None) × (p ≡ None)
both_none None p e = (refl, e)
both_none (Some x) p e = absurd cc

-- what stands in a row has a place there
pub get_small : {X : Type 0} (xs : List (Option X)) (k : ℕ) (x : X) → get_or xs k None ≡ Some x → k < length xs
get_small [] zero x e = absurd cc
get_small [] (suc k) x e = absurd cc
get_small (y ∷ xs) zero x e = omega arith
get_small (y ∷ xs) (suc k) x e = let lt = get_small xs k x e in omega (arith, lt)

-- what the code reads of a row
pub read_is : {X : Type 0} (xs : List (Option X)) (k : ℕ) (o : Option X) → k < length xs → o ≡ get_or xs k o → o ≡ get_or xs k None
read_is xs k o lt e = sym (get_or_from_slice_get xs k o None (slice_get_read xs (length xs) k o refl lt e))

abbrev no_one : Option ℕ
no_one = None

no_item : (n v : ℕ) → get_or (replicate n (no_one)) v None ≡ None
no_item n v = elim (cases_lt v n) [
  | inl lt ↦ get_or-replicate n v no_one no_one lt
  | inr le ↦ get_or_past (replicate n no_one) v no_one (let l : length (replicate n no_one) ≡ n = length-replicate n no_one in omega (arith, l, le))
]

module _ (t : Flows) where
  defines_itself : (v d : ℕ) → flow.variable_of t d ≡ Some v → flow.same_variable (Some v) (flow.variable_of t d) ≡ true
  defines_itself v d e = same_true (Some v) (flow.variable_of t d) v refl e

  pub last_push : (v c : ℕ) (q : List ℕ) → last_of t v (q ++ c ∷ []) ≡ cond (flow.same_variable (Some v) (flow.variable_of t c)) (Some c) (last_of t v q)
  last_push v c [] = refl
  last_push v c (k ∷ q) =
      let p = cond (flow.same_variable (Some v) (flow.variable_of t k)) (Some k) None in
      ap (λ z. or_else z p) (last_push v c q) ∙ or_cond (flow.same_variable (Some v) (flow.variable_of t c)) c (last_of t v q) p

  none_defined : (v : ℕ) (q : List ℕ) → last_of t v q ≡ None → flow.defined_in t (Some v) q ≡ false
  none_defined v [] e = refl
  none_defined v (k ∷ q) e =
      let b = flow.same_variable (Some v) (flow.variable_of t k) in
      let (o, p) = both_none (last_of t v q) (cond b (Some k) None) e in
      ap (λ z. cond z true (flow.defined_in t (Some v) q)) (is_none b k p) ∙ none_defined v q o

  defined_none : (v : ℕ) (q : List ℕ) → flow.defined_in t (Some v) q ≡ false → last_of t v q ≡ None
  defined_none v [] e = refl
  defined_none v (k ∷ q) e = at (flow.same_variable (Some v) (flow.variable_of t k)) (last_of t v q) (λ f. defined_none v q f) e
    where
      at : (b : Bool) (o : Option ℕ) → (flow.defined_in t (Some v) q ≡ false → o ≡ None) → cond b true (flow.defined_in t (Some v) q) ≡ false → or_else o (cond b (Some k) None) ≡ None
      at true o rest f = absurd cc
      at false o rest f = ap (λ z. or_else z None) (rest f)

  -- the last definition splits what is placed
  abbrev IsLastIn : ℕ → List ℕ → ℕ → Type 0
  IsLastIn v q d = (front back : List ℕ) × (q ≡ front ++ d ∷ back) × (flow.variable_of t d ≡ Some v) × (flow.defined_in t (Some v) back ≡ false)

  pub last_found : (v : ℕ) (q : List ℕ) (d : ℕ) → last_of t v q ≡ Some d → IsLastIn v q d
  last_found v [] d e = absurd cc
  last_found v (k ∷ q) d e = at (last_of t v q) refl (λ j f. last_found v q j f) e
    where
      at : (o : Option ℕ) → last_of t v q ≡ o → ((j : ℕ) → last_of t v q ≡ Some j → IsLastIn v q j) → or_else o (cond (flow.same_variable (Some v) (flow.variable_of t k)) (Some k) None) ≡ Some d → IsLastIn v (k ∷ q) d
      at (Some j) is rest f =
          let same : j ≡ d = some_inj j d f in
          let (front, back, split, defines, still) = rest d (is ∙ ap Some same) in
          (k ∷ front, back, ap (λ z. k ∷ z) split, defines, still)
      at None is rest f =
          let (here_, same) = is_some (flow.same_variable (Some v) (flow.variable_of t k)) k d f in
          let (r, er, ek) = same_some (Some v) (flow.variable_of t k) here_ in
          let here : flow.variable_of t k ≡ Some v = ek ∙ sym er in
          ([], q, ap (λ z. z ∷ q) same, subst (λ z. flow.variable_of t z ≡ Some v) same here, none_defined v q is)

  pub found_last : (v : ℕ) (front back : List ℕ) (d : ℕ) → flow.variable_of t d ≡ Some v → flow.defined_in t (Some v) back ≡ false → last_of t v (front ++ d ∷ back) ≡ Some d
  found_last v [] back d defines still =
      ap (λ z. or_else z (cond (flow.same_variable (Some v) (flow.variable_of t d)) (Some d) None)) (defined_none v back still)
      ∙ ap (λ z. cond z (Some d) None) (defines_itself v d defines)
  found_last v (k ∷ front) back d defines still =
      ap (λ z. or_else z (cond (flow.same_variable (Some v) (flow.variable_of t k)) (Some k) None)) (found_last v front back d defines still)

  pub last_within : (v : ℕ) (q : List ℕ) (d : ℕ) → last_of t v q ≡ Some d → d < vec_len t.slots
  last_within v q d e =
      let (front, back, split, defines, still) = last_found v q d e in
      let lt = get_small t.variables.items d v defines in
      let l : length t.variables.items ≡ vec_len t.variables = search rules in
      let c = t.variable_count in
      omega (arith, lt, l, c)

  -- ---- the summary
  pub nothing_placed : (s : Summary) (n m : ℕ) → n ≡ t.names → m ≡ vec_len t.slots → s.last.items ≡ replicate n None → vec_len s.last ≡ n → vec_len s.earlier ≡ m → IsSummary t [] s
  nothing_placed s n m en em last names items = record {
    sized = record { names = names ∙ en; items = items ∙ em };
    last = λ v. ap (λ (xs : List (Option ℕ)). get_or xs v None) last ∙ no_item n v;
    earlier = λ front back k v e defines. absurd (none_split front back k e);
  }
    where
      none_split : (front back : List ℕ) (k : ℕ) → [] ≡ front ++ k ∷ back → ⊥
      none_split [] back k e = absurd cc
      none_split (x ∷ front) back k e = absurd cc

  other_variable : (u v : ℕ) (o : Option ℕ) → o ≡ Some u → ¬ (v ≡ u) → flow.same_variable (Some v) o ≡ false
  other_variable u v o e ne = ap (λ z. flow.same_variable (Some v) z) e ∙ ne_eqb v u ne

  no_variable : (v : ℕ) (o : Option ℕ) → o ≡ None → flow.same_variable (Some v) o ≡ false
  no_variable v o e = ap (λ z. flow.same_variable (Some v) z) e

  last_kept : (v c : ℕ) (q : List ℕ) → flow.same_variable (Some v) (flow.variable_of t c) ≡ false → last_of t v (q ++ c ∷ []) ≡ last_of t v q
  last_kept v c q e = last_push v c q ∙ ap (λ z. cond z (Some c) (last_of t v q)) e

  -- an item that defines nothing
  pub pushed_other : (s : Summary) (q : List ℕ) (c : ℕ) → flow.variable_of t c ≡ None → IsSummary t q s → IsSummary t (q ++ c ∷ []) s
  pushed_other s q c none is = record {
    sized = is.sized;
    last = λ v. is.last v ∙ sym (last_kept v c q (no_variable v (flow.variable_of t c) none));
    earlier = λ front back k v e defines. elim (last_or_before q front back c k e) [
      | inl (same, _) ↦ absurd (let h : Some v ≡ None = sym defines ∙ ap (flow.variable_of t) same ∙ none in cc)
      | inr (rest, split) ↦ is.earlier front rest k v split defines
    ];
  }

  pub popped_other : (s : Summary) (q : List ℕ) (c : ℕ) → flow.variable_of t c ≡ None → IsSummary t (q ++ c ∷ []) s → IsSummary t q s
  popped_other s q c none is = record {
    sized = is.sized;
    last = λ v. is.last v ∙ last_kept v c q (no_variable v (flow.variable_of t c) none);
    earlier = λ front back k v e defines. is.earlier front (back ++ c ∷ []) k v (ap (λ z. z ++ c ∷ []) e ∙ append_assoc front (k ∷ back) (c ∷ [])) defines;
  }

  module _ (s s' : Summary) (q : List ℕ) (c u : ℕ) (defines : flow.variable_of t c ≡ Some u) (small : u < length s.last.items) where
    last_set : (o p : Option ℕ) → s'.last.items ≡ set s.last.items u o → get_or s'.last.items u None ≡ o
    last_set o p e = ap (λ (xs : List (Option ℕ)). get_or xs u None) e ∙ get_or-set_same s.last.items u o None small

    last_other : (o : Option ℕ) (v : ℕ) → ¬ (v ≡ u) → s'.last.items ≡ set s.last.items u o → get_or s'.last.items v None ≡ get_or s.last.items v None
    last_other o v ne e = ap (λ (xs : List (Option ℕ)). get_or xs v None) e ∙ get_or-set_other s.last.items u v o None ne

    pub pushed_definition : c < length s.earlier.items → is_in q c ≡ false → IsSized t s' → s'.earlier.items ≡ set s.earlier.items c (get_or s.last.items u None) → s'.last.items ≡ set s.last.items u (Some c)
        → IsSummary t q s → IsSummary t (q ++ c ∷ []) s'
    pushed_definition within fresh sized earlier last is = record {
      sized = sized;
      last = λ v. elim (cases_eq v u) [
        | inl same ↦ subst (λ z. get_or s'.last.items z None ≡ last_of t z (q ++ c ∷ [])) (sym same)
            (last_set (Some c) None last ∙ sym (last_push u c q ∙ ap (λ z. cond z (Some c) (last_of t u q)) (defines_itself u c defines)))
        | inr ne ↦ last_other (Some c) v ne last ∙ is.last v ∙ sym (last_kept v c q (other_variable u v (flow.variable_of t c) defines ne))
      ];
      earlier = λ front back k v e is_v. elim (last_or_before q front back c k e) [
        | inl (same, whole) ↦ (
            let one : v ≡ u = some_inj v u (sym is_v ∙ ap (flow.variable_of t) same ∙ defines) in
            ap (λ z. get_or s'.earlier.items z None) same ∙ ap (λ (xs : List (Option ℕ)). get_or xs c None) earlier ∙ get_or-set_same s.earlier.items c (get_or s.last.items u None) None within
            ∙ is.last u ∙ ap (λ z. last_of t z q) (sym one) ∙ ap (last_of t v) (sym whole))
        | inr (rest, split) ↦ (
            let ne : ¬ (k ≡ c) = λ same. never (is_in q c) (in_is_in q c (subst (Contains q) same (subst (λ z. Contains z k) (sym split) (in_split front rest k)))) fresh in
            ap (λ (xs : List (Option ℕ)). get_or xs k None) earlier ∙ get_or-set_other s.earlier.items c k (get_or s.last.items u None) None ne ∙ is.earlier front rest k v split is_v)
      ];
    }
      where
        in_split : (front rest : List ℕ) (k : ℕ) → Contains (front ++ k ∷ rest) k
        in_split [] rest k = in_here k rest
        in_split (x ∷ front) rest k = in_later x k (front ++ k ∷ rest) (in_split front rest k)

    pub popped_definition : IsSized t s' → s'.earlier ≡ s.earlier → s'.last.items ≡ set s.last.items u (get_or s.earlier.items c None) → IsSummary t (q ++ c ∷ []) s → IsSummary t q s'
    popped_definition sized kept last is = record {
      sized = sized;
      last = λ v. elim (cases_eq v u) [
        | inl same ↦ subst (λ z. get_or s'.last.items z None ≡ last_of t z q) (sym same)
            (last_set (get_or s.earlier.items c None) None last ∙ is.earlier q [] c u refl defines)
        | inr ne ↦ last_other (get_or s.earlier.items c None) v ne last ∙ is.last v ∙ last_kept v c q (other_variable u v (flow.variable_of t c) defines ne)
      ];
      earlier = λ front back k v e is_v.
          ap (λ (xs : Vec (Option ℕ) Global). get_or xs.items k None) kept
          ∙ is.earlier front (back ++ c ∷ []) k v (ap (λ z. z ++ c ∷ []) e ∙ append_assoc front (k ∷ back) (c ∷ [])) is_v;
    }

  -- ---- wrong reach
  -- one variable more of a list
  some_turn : (last : List (Option ℕ)) (c : ℕ) (vs : List ℕ) (i : ℕ) → i < length vs
      → some_reach t last c (drop i vs) ≡ cond (is_reached_by t (get_or last (get_or vs i 0) None) c) true (some_reach t last c (drop (i + 1) vs))
  some_turn last c vs i lt =
      ap (some_reach t last c) (drop-cons vs i 0 lt)
      ∙ ap (λ (k : ℕ). cond (is_reached_by t (get_or last (get_or vs i 0) None) c) true (some_reach t last c (drop k vs))) (sym (add-one i))

  pub reach_here : (last : List (Option ℕ)) (c : ℕ) (vs : List ℕ) (i : ℕ) → i < length vs → is_reached_by t (get_or last (get_or vs i 0) None) c ≡ true → some_reach t last c (drop i vs) ≡ true
  reach_here last c vs i lt e = some_turn last c vs i lt ∙ ap (λ (b : Bool). cond b true (some_reach t last c (drop (i + 1) vs))) e

  pub reach_later : (last : List (Option ℕ)) (c : ℕ) (vs : List ℕ) (i : ℕ) → i < length vs → is_reached_by t (get_or last (get_or vs i 0) None) c ≡ false
      → some_reach t last c (drop i vs) ≡ some_reach t last c (drop (i + 1) vs)
  reach_later last c vs i lt e = some_turn last c vs i lt ∙ ap (λ (b : Bool). cond b true (some_reach t last c (drop (i + 1) vs))) e

  some_found : (last : List (Option ℕ)) (c : ℕ) (vs : List ℕ) → some_reach t last c vs ≡ true → (v : ℕ) × Contains vs v × (is_reached_by t (get_or last v None) c ≡ true)
  some_found last c [] e = absurd cc
  some_found last c (v ∷ vs) e = elim (either (is_reached_by t (get_or last v None) c) (some_reach t last c vs) e) [
    | inl here ↦ (v, in_here v vs, here)
    | inr later ↦ (let (w, h, is) = some_found last c vs later in (w, in_later v w vs h, is))
  ]

  found_some : (last : List (Option ℕ)) (c : ℕ) (vs : List ℕ) (v : ℕ) → Contains vs v → is_reached_by t (get_or last v None) c ≡ true → some_reach t last c vs ≡ true
  found_some last c [] v h e = absurd (in_none v h)
  found_some last c (w ∷ vs) v h e = elim (in_cons w v vs h) [
    | inl is ↦ either_left (is_reached_by t (get_or last w None) c) (some_reach t last c vs) (subst (λ z. is_reached_by t (get_or last z None) c ≡ true) (sym is) e)
    | inr later ↦ either_right (is_reached_by t (get_or last w None) c) (some_reach t last c vs) (found_some last c vs v later e)
  ]

  reached_parts : (o : Option ℕ) (c : ℕ) → is_reached_by t o c ≡ true → (d : ℕ) × (o ≡ Some d) × (flow.same_block t d c ≡ true) × (is_in (flow.readers_of t d) c ≡ false)
  reached_parts None c e = absurd cc
  reached_parts (Some d) c e = let (a, b) = parts (flow.same_block t d c) (is_in (flow.readers_of t d) c) e in (d, refl, a, b)
    where
      parts : (a b : Bool) → cond a (cond b false true) false ≡ true → (a ≡ true) × (b ≡ false)
      parts true true e = absurd cc
      parts true false e = (refl, refl)
      parts false b e = absurd cc

  parts_reached : (d c : ℕ) → flow.same_block t d c ≡ true → is_in (flow.readers_of t d) c ≡ false → is_reached_by t (Some d) c ≡ true
  parts_reached d c a b = ap (λ z. cond z (cond (is_in (flow.readers_of t d) c) false true) false) a ∙ ap (λ z. cond z false true) b

  pub reach_same : (placed : List ℕ) (last : List (Option ℕ)) (c : ℕ) → ((v : ℕ) → get_or last v None ≡ last_of t v placed) → some_reach t last c (flow.uses_of t c) ≡ flow.reached_wrongly t placed c
  reach_same placed last c is = same_bool (some_reach t last c (flow.uses_of t c)) (flow.reached_wrongly t placed c) to from
    where
      to : some_reach t last c (flow.uses_of t c) ≡ true → flow.reached_wrongly t placed c ≡ true
      to e =
          let (v, used, reached) = some_found last c (flow.uses_of t c) e in
          let (d, there, block, unread) = reached_parts (get_or last v None) c reached in
          let (front, back, split, defines, still) = last_found v placed d (sym (is v) ∙ there) in
          let among : flow.is_among (flow.variable_of t d) (flow.uses_of t c) ≡ true = ap (λ z. flow.is_among z (flow.uses_of t c)) defines ∙ in_is_in (flow.uses_of t c) v used in
          let still' : flow.defined_in t (flow.variable_of t d) back ≡ false = ap (λ z. flow.defined_in t z back) defines ∙ still in
          subst (λ z. flow.reached_wrongly t z c ≡ true) (sym split)
          (found_reach t front d back c (four_true (flow.same_block t d c) (flow.is_among (flow.variable_of t d) (flow.uses_of t c)) (is_in (flow.readers_of t d) c) (flow.defined_in t (flow.variable_of t d) back) block among unread still'))

      from : flow.reached_wrongly t placed c ≡ true → some_reach t last c (flow.uses_of t c) ≡ true
      from e =
          let (front, d, back, split, here) = reach_found t placed c e in
          let (block, among, unread, still) = four (flow.same_block t d c) (flow.is_among (flow.variable_of t d) (flow.uses_of t c)) (is_in (flow.readers_of t d) c) (flow.defined_in t (flow.variable_of t d) back) here in
          let (v, defines, used) = among_some (flow.variable_of t d) (flow.uses_of t c) among in
          let still' : flow.defined_in t (Some v) back ≡ false = sym (ap (λ z. flow.defined_in t z back) defines) ∙ still in
          let there : get_or last v None ≡ Some d = is v ∙ ap (last_of t v) split ∙ found_last v front back d defines still' in
          found_some last c (flow.uses_of t c) v used (subst (λ o. is_reached_by t o c ≡ true) (sym there) (parts_reached d c block unread))
