-- Bits that go along steps.
use Rattle.std.proofs.Common.{◌≡◌, ℕ, zero, suc, ◌+◌, ◌-◌, ◌*◌, ◌^◌, ◌<◌, ◌≤◌, ◌↔◌, ◌⊎◌, ◌==◌, inl, inr, Bool, true, false, cond, Some, List, [], ◌∷◌, ◌++◌, length, get_or, set, take, replicate, sum, All, Contains, slice_get, bit_or, refl, sym, ap, ◌∙◌, subst, arith, get_or-set_same, get_or-set_other, length-set}
use Rattle.std.proofs.lemmas.Bool.{cases_eq}
use Rattle.std.proofs.lemmas.Nat.{le_or_l}
use Rattle.std.proofs.lemmas.Option.{slice_get_within}
use Rattle.std.specs.Int.{bit_at}
use Rattle.std.proofs.lemmas.List.{take_all, length-map}
use Rattle.std.proofs.lemmas.List.Sums.{sum_by-set, sum_by-le}
use Rattle.std.proofs.lemmas.List.Elements.{All-contains}
use Rattle.hpr_terms.proofs.Facts.{get_below}
use Rattle.hpr_graph.specs.Numbered.{Numbered, IsNumbered, graph_in}
use Rattle.hpr_graph.specs.Slices.{ReachesOne}
use Rattle.hpr_graph.proofs.Lists.{some_inj, in_none, in_cons, in_here, contains_at}
use Rattle.hpr_slice.specs.Steps.{AreSteps, Chain}
use Rattle.hpr_slice.specs.Vertices.{IsOneOf, MarksExactly}
use Rattle.hpr_slice.proofs.Chains.{chain_leads, leads_chain}
use Rattle.hpr_merge.specs.Words.{HasBit, IsClosed, IsSpread, MarkEach, column}
use Rattle.hpr_merge.proofs.Bits.{or_bit, column_bit, item_or, blank_bit}

-- chains
chain_over : (steps more : List (ℕ × ℕ)) → ((s : ℕ × ℕ) → Contains steps s → Contains more s) → (x : ℕ) (via : List ℕ) (y : ℕ) → Chain steps x via y → Chain more x via y
chain_over steps more into x [] y chain = chain
chain_over steps more into x (c ∷ via) y chain = (into (x, c) chain.0, chain_over steps more into c via y chain.1)

chain_on : (steps : List (ℕ × ℕ)) (x : ℕ) (via : List ℕ) (y : ℕ) (more : List ℕ) (z : ℕ) → Chain steps x via y → Chain steps y more z → Chain steps x (via ++ more) z
chain_on steps x [] y more z chain rest = subst (λ (n : ℕ). Chain steps n more z) (sym chain) rest
chain_on steps x (c ∷ via) y more z chain rest = (chain.0, chain_on steps c via y more z chain.1 rest)

-- one step
module _ (ws new : List ℕ) (from to : ℕ) (within : from < length ws) (is : new ≡ set ws from (bit_or (get_or ws from 0) (get_or ws to 0))) where
  abbrev both : ℕ
  both = bit_or (get_or ws from 0) (get_or ws to 0)

  at_from : get_or new from 0 ≡ both
  at_from = ap (λ (xs : List ℕ). get_or xs from 0) is ∙ get_or-set_same ws from both 0 within

  elsewhere : (x : ℕ) → (x ≡ from → ⊥) → get_or new x 0 ≡ get_or ws x 0
  elsewhere x ne = ap (λ (xs : List ℕ). get_or xs x 0) is ∙ get_or-set_other ws from x both 0 ne

  pub spread_one : IsSpread ((from, to) ∷ []) ws new
  spread_one = record {
    count = ap length is ∙ length-set ws from both;
    kept = λ x i h. elim (cases_eq x from) [
      | inl here ↦
          subst (λ (n : ℕ). HasBit (get_or new n 0) i) (sym here)
          (subst (λ (n : ℕ). HasBit n i) (sym at_from) ((or_bit (get_or ws from 0) (get_or ws to 0) i).1 (inl (subst (λ (n : ℕ). HasBit (get_or ws n 0) i) here h))))
      | inr ne ↦ subst (λ (n : ℕ). HasBit n i) (sym (elsewhere x ne)) h
    ];
    only = λ x i h. elim (cases_eq x from) [
      | inl here ↦
          elim ((or_bit (get_or ws from 0) (get_or ws to 0) i).0 (subst (λ (n : ℕ). HasBit n i) at_from (subst (λ (n : ℕ). HasBit (get_or new n 0) i) here h))) [
            | inl own ↦ (from, [], own, here)
            | inr other ↦ (to, to ∷ [], other, (subst (λ (n : ℕ). Contains {X = ℕ × ℕ} ((from, to) ∷ []) (n, to)) (sym here) (in_here {X = ℕ × ℕ} (from, to) []), refl))
          ]
      | inr ne ↦ (x, [], subst (λ (n : ℕ). HasBit n i) (elsewhere x ne) h, refl)
    ];
  }

  sums : sum new + get_or ws from 0 ≡ sum ws + both
  sums = ap (λ (xs : List ℕ). sum xs + get_or ws from 0) is ∙ sum_by-set (λ x. x) ws from both 0 within

  pub more_one : (both ≡ get_or ws from 0 → ⊥) → sum ws < sum new
  more_one ne = let l = le_or_l (get_or ws from 0) (get_or ws to 0) in omega (arith, sums, l, ne)

  set_own : (xs : List ℕ) (i : ℕ) → i < length xs → set xs i (get_or xs i 0) ≡ xs
  set_own [] i l = absurd (omega (arith, l))
  set_own (x ∷ xs) zero l = refl
  set_own (x ∷ xs) (suc i) l = ap (λ (ys : List ℕ). x ∷ ys) (set_own xs i (omega (arith, l)))

  pub same_one : both ≡ get_or ws from 0 → new ≡ ws
  same_one e = is ∙ ap (λ (n : ℕ). set ws from n) e ∙ set_own ws from within

  pub closed_one : both ≡ get_or ws from 0 → IsClosed ((from, to) ∷ []) new
  closed_one e f t i has h = elim (in_cons {X = ℕ × ℕ} (from, to) (f, t) [] has) [
    | inl one ↦
        (let f_is : from ≡ f = ap (λ (s : ℕ × ℕ). s.0) one in
        let t_is : to ≡ t = ap (λ (s : ℕ × ℕ). s.1) one in
        let before : HasBit (get_or ws to 0) i = subst (λ (xs : List ℕ). HasBit (get_or xs to 0) i) (same_one e) (subst (λ (n : ℕ). HasBit (get_or new n 0) i) (sym t_is) h) in
        subst (λ (n : ℕ). HasBit (get_or new n 0) i) f_is (subst (λ (n : ℕ). HasBit n i) (sym at_from) ((or_bit (get_or ws from 0) (get_or ws to 0) i).1 (inr before))))
    | inr none ↦ absurd (in_none {X = ℕ × ℕ} (f, t) none)
  ]

pub spread_none : (steps : List (ℕ × ℕ)) (ws : List ℕ) → IsSpread steps ws ws
spread_none steps ws = record { count = refl; kept = λ x i h. h; only = λ x i h. (x, [], h, refl) }

pub spread_then : (one two steps : List (ℕ × ℕ)) (ws now new : List ℕ) → ((s : ℕ × ℕ) → Contains one s → Contains steps s) → ((s : ℕ × ℕ) → Contains two s → Contains steps s) → IsSpread one ws now → IsSpread two now new → IsSpread steps ws new
spread_then one two steps ws now new of_one of_two a b = record {
  count = b.count ∙ a.count;
  kept = λ x i h. b.kept x i (a.kept x i h);
  only = λ x i h.
      (let (y, via, has, chain) = b.only x i h in
      let (z, after, had, rest) = a.only y i has in
      (z, via ++ after, had, chain_on steps x via y after z (chain_over two steps of_two x via y chain) (chain_over one steps of_one y after z rest)));
}

-- a sweep, one step more
pub record IsSwept (steps : List (ℕ × ℕ)) (ws now : List ℕ) (more : Bool) : Type 0 where
  pub spread : IsSpread steps ws now
  pub rises : sum ws ≤ sum now
  pub more_rises : more ≡ true → sum ws < sum now
  pub same : more ≡ false → now ≡ ws
  pub closed : more ≡ false → IsClosed steps now

pub swept_none : (ws : List ℕ) → IsSwept [] ws ws false
swept_none ws = record {
  spread = spread_none [] ws;
  rises = omega arith;
  more_rises = λ e. absurd cc;
  same = λ e. refl;
  closed = λ e f t i has h. absurd (in_none {X = ℕ × ℕ} (f, t) has);
}

closed_both : (steps one more : List (ℕ × ℕ)) (ws : List ℕ) → ((s : ℕ × ℕ) → Contains more s → Contains steps s ⊎ Contains one s) → IsClosed steps ws → IsClosed one ws → IsClosed more ws
closed_both steps one more ws split a b f t i has h = elim (split (f, t) has) [ inl was ↦ a f t i was h | inr here ↦ b f t i here h ]

module _ (steps more : List (ℕ × ℕ)) (step : ℕ × ℕ) (ws now new : List ℕ) (split : (s : ℕ × ℕ) → Contains more s ↔ (Contains steps s ⊎ (step ≡ s))) where
  here : (s : ℕ × ℕ) → Contains (step ∷ []) s → step ≡ s
  here s h = elim (in_cons step s [] h) [ inl e ↦ e | inr none ↦ absurd (in_none s none) ]

  splits : (s : ℕ × ℕ) → Contains more s → Contains steps s ⊎ Contains (step ∷ []) s
  splits s h = elim ((split s).0 h) [ inl was ↦ inl was | inr e ↦ inr (subst (λ (x : ℕ × ℕ). Contains (step ∷ []) x) e (in_here step [])) ]

  spreads : IsSpread steps ws now → IsSpread (step ∷ []) now new → IsSpread more ws new
  spreads a b = spread_then steps (step ∷ []) more ws now new (λ s h. (split s).1 (inl h)) (λ s h. (split s).1 (inr (here s h))) a b

  pub swept_set : (was : Bool) → IsSwept steps ws now was → IsSpread (step ∷ []) now new → sum now < sum new → IsSwept more ws new true
  swept_set was a spread rises =
      let before = a.rises in
      record {
        spread = spreads a.spread spread;
        rises = omega (arith, before, rises);
        more_rises = λ e. omega (arith, before, rises);
        same = λ e. absurd cc;
        closed = λ e. absurd cc;
      }

  pub swept_kept : (was : Bool) → IsSwept steps ws now was → IsSpread (step ∷ []) now new → new ≡ now → IsClosed (step ∷ []) new → IsSwept more ws new was
  swept_kept was a spread same closed =
      let before = a.rises in
      let sums : sum new ≡ sum now = ap sum same in
      record {
        spread = spreads a.spread spread;
        rises = omega (arith, before, sums);
        more_rises = λ e. (let l = a.more_rises e in omega (arith, l, sums));
        same = λ e. same ∙ a.same e;
        closed = λ e. closed_both steps (step ∷ []) more new splits (subst (IsClosed steps) (sym same) (a.closed e)) closed;
      }

pub swept_whole : (steps : List (ℕ × ℕ)) (n : ℕ) (ws now : List ℕ) (more : Bool) → length steps ≤ n → IsSwept (take n steps) ws now more → IsSwept steps ws now more
swept_whole steps n ws now more all a = subst (λ (xs : List (ℕ × ℕ)). IsSwept xs ws now more) (take_all n steps all) a

-- a sweep that sets a bit leaves fewer to set
bits_left : (ws : List ℕ) → ((k : ℕ) → get_or ws k 0 < 2 ^ 64) → sum ws + length ws ≤ length ws * 2 ^ 64
bits_left ws fits =
    let bound = sum_by-le (λ x. x) (2 ^ 64 - 1) ws (λ k d l. (let w = fits k in omega (arith, w, item_or ws k d 0 l))) in
    omega (arith, bound)

empty_sum : (ws : List ℕ) → length ws ≡ 0 → sum ws ≡ 0
empty_sum [] e = refl
empty_sum (w ∷ ws) e = absurd (omega (arith, e))

pub fewer_left : (ws new : List ℕ) (more : Bool) → ((k : ℕ) → get_or ws k 0 < 2 ^ 64) → length new ≡ length ws → sum ws ≤ sum new → (more ≡ true → sum ws < sum new) → cond more 1 0 + (length new * 2 ^ 64 - sum new) < 1 + (length ws * 2 ^ 64 - sum ws)
fewer_left ws new false fits count rises more = omega (arith, count, rises)
fewer_left ws new true fits count rises more =
    let bound = bits_left ws fits in
    let l = more refl in
    elim (cases_eq (length ws) 0) [
      | inl none ↦ absurd (let a = empty_sum ws none in let b = empty_sum new (count ∙ none) in omega (arith, a, b, l))
      | inr some ↦ omega (arith, bound, l, count, some)
    ]

-- what is spread from the points marks each of them
pub mark_each : (steps : List (ℕ × ℕ)) (points ws new : List ℕ) → ((x i : ℕ) → HasBit (get_or ws x 0) i ↔ (slice_get points i ≡ Some x)) → IsSpread steps ws new → IsClosed steps new → MarkEach steps points new
mark_each steps points ws new starts spread closed x i = (
  λ h. (let (y, via, has, chain) = spread.only x i h in (y, via, (starts y i).0 has, chain)),
  λ (p, via, at, chain). back x via p chain (spread.kept p i ((starts p i).1 at)),
)
  where
    back : (x : ℕ) (via : List ℕ) (p : ℕ) → Chain steps x via p → HasBit (get_or new p 0) i → HasBit (get_or new x 0) i
    back x [] p chain h = subst (λ (n : ℕ). HasBit (get_or new n 0) i) (sym chain) h
    back x (c ∷ via) p chain h = closed x c i chain.0 (back c via p chain.1 h)

-- the column of a point marks its slice
pub column_marks : (g : Numbered) → IsNumbered g → (steps : List (ℕ × ℕ)) → AreSteps g steps → (points ws : List ℕ) → length ws ≡ length g.vertices → All (λ p. p < length g.vertices) points → MarkEach steps points ws
    → (i p : ℕ) → slice_get points i ≡ Some p → MarksExactly g (ReachesOne (graph_in g) (IsOneOf g (p ∷ []))) (column ws i)
column_marks g k steps are points ws count within each i p at_i = record {
  count = length-map ws (λ w. bit_at w i == 1) ∙ count;
  exact = λ x v at_x. (
    λ m.
        (let (q, via, at_q, chain) = (each x i).0 ((column_bit ws i x).0 m) in
        let same : q ≡ p = some_inj q p (sym at_q ∙ at_i) in
        let (s, at_s) = get_below g.vertices p (All-contains (λ n. n < length g.vertices) points p within (contains_at points i p at_i)) in
        let (es, leads) = chain_leads g k steps are x via p v s (subst (λ (n : ℕ). Chain steps x via n) same chain) at_x at_s in
        (s, es, (p, in_here p [], at_s), leads)),
    λ (s, es, (n, has, at_s), leads).
        (let only : p ≡ n = elim (in_cons p n [] has) [ inl e ↦ e | inr none ↦ absurd (in_none n none) ] in
        let (y, via, at_y, chain) = leads_chain g k steps are x es v s leads at_x in
        let y_is : y ≡ p = k.once y p s at_y (ap (slice_get g.vertices) only ∙ at_s) in
        (column_bit ws i x).1 ((each x i).1 (p, via, at_i, subst (λ (m : ℕ). Chain steps x via m) y_is chain))),
  );
}

-- the words of the points themselves
pub starts_none : (points ws : List ℕ) (n : ℕ) → ws ≡ replicate n 0 → (x i : ℕ) → HasBit (get_or ws x 0) i ↔ ((i < 0) × (slice_get points i ≡ Some x))
starts_none points ws n is x i = (
  λ h. absurd (blank_bit n x i (subst (λ (xs : List ℕ). HasBit (get_or xs x 0) i) is h)),
  λ (l, at). absurd (omega (arith, l)),
)

pub starts_more : (points ws new : List ℕ) (at point : ℕ) → slice_get points at ≡ Some point → ((x i : ℕ) → HasBit (get_or ws x 0) i ↔ ((i < at) × (slice_get points i ≡ Some x)))
    → ((x i : ℕ) → HasBit (get_or new x 0) i ↔ (HasBit (get_or ws x 0) i ⊎ ((x ≡ point) × (i ≡ at)))) → (x i : ℕ) → HasBit (get_or new x 0) i ↔ ((i < at + 1) × (slice_get points i ≡ Some x))
starts_more points ws new at point at_point before more x i = (
  λ h. elim ((more x i).0 h) [
    | inl was ↦ (let (l, here) = (before x i).0 was in (omega (arith, l), here))
    | inr (is, e) ↦ (omega (arith, e), ap (slice_get points) e ∙ at_point ∙ ap Some (sym is))
  ],
  λ (l, here). (more x i).1 (elim (cases_eq i at) [
    | inl e ↦ inr (some_inj x point (sym here ∙ ap (slice_get points) e ∙ at_point), e)
    | inr ne ↦ inl ((before x i).1 (omega (arith, l, ne), here))
  ]),
)

pub starts_whole : (points ws : List ℕ) (at : ℕ) → length points ≤ at → ((x i : ℕ) → HasBit (get_or ws x 0) i ↔ ((i < at) × (slice_get points i ≡ Some x))) → (x i : ℕ) → HasBit (get_or ws x 0) i ↔ (slice_get points i ≡ Some x)
starts_whole points ws at all before x i = (
  λ h. ((before x i).0 h).1,
  λ here. (before x i).1 (let w = slice_get_within points i x here in omega (arith, w, all), here),
)
