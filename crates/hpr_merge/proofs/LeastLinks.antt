-- The least added links at the vertices with some numbers, some of them at a time.
use Rattle.std.proofs.Common.{◌≡◌, ℕ, zero, suc, ◌+◌, ◌-◌, ◌<◌, ◌≤◌, ◌⊎◌, inl, inr, Option, Some, None, List, [], ◌∷◌, ◌++◌, length, take, drop, get_or, All, Contains, slice_get, refl, sym, ap, ◌∙◌, subst, arith}
use Rattle.std.specs.Ordering.{nat_cmp}
use Rattle.std.specs.Cmp.{nat_cmp_is}
use Rattle.std.specs.declared.cmp.Ordering.TheVariants.{Equal, Less}
use Rattle.std.proofs.lemmas.Bool.{cases_lt}
use Rattle.std.proofs.lemmas.List.{length-append}
use Rattle.std.proofs.lemmas.Option.{slice_get-get_or}
use Rattle.hpr_graph.specs.declared.vertex.Vertex.{Vertex}
use Rattle.hpr_graph.specs.declared.link.Link.{Link}
use Rattle.hpr_graph.specs.Numbered.{Numbered, IsOneOf}
use Rattle.hpr_graph.specs.Graphs.{IsOnce}
use Rattle.hpr_graph.specs.InOrder.{Ascends}
use Rattle.hpr_graph.proofs.LinkOrder.{link_cmp}
use Rattle.hpr_graph.proofs.Lists.{place_of}
use Rattle.hpr_merge.specs.Added.{IsFirstAdded}
use Rattle.hpr_merge.specs.Beside.{Pair, AreLeastLinks, IsBeside, IsLeastLink}
use Rattle.hpr_merge.specs.Words.{MarkEach, column}
use Rattle.hpr_merge.proofs.AddedLinks.{least_link}
use Rattle.hpr_merge.proofs.Spreads.{column_marks}

abbrev pub pair_of : Numbered → Numbered → Pair
pair_of m k = record { merged = m; own = k }

-- up to 64 numbers
pub links_of : (m k : Numbered) (wide narrow : List (ℕ × ℕ)) (p : Pair) → IsBeside link_cmp m k wide narrow → pair_of m k ≡ p → (ns grown own : List ℕ) (os : List (Option (ℕ × Link))) → All (λ n. n < length m.vertices) ns
    → length grown ≡ length m.vertices → length own ≡ length m.vertices → MarkEach wide ns grown → MarkEach narrow ns own → length os ≡ length ns
    → ((i : ℕ) (o : Option (ℕ × Link)) → slice_get os i ≡ Some o → IsFirstAdded m k (column grown i) (column own i) o) → AreLeastLinks p ns os
links_of m k wide narrow p b is ns grown own os within grown_count own_count grown_marks own_marks count each =
    subst (λ (s : Pair). AreLeastLinks s ns os) is (record {
      count = count;
      each = λ i n o v at_n at_o at_v.
          (let same = ap length b.beside.vertices in
          least_link m k b.merged b.own b.beside n (column grown i) (column own i) (column_marks m b.merged wide b.wide_are ns grown grown_count within grown_marks i n at_n)
          (column_marks k b.own narrow b.narrow_are ns own (own_count ∙ sym same) (subst (λ (c : ℕ). All (λ x. x < c) ns) (sym same) within) own_marks i n at_n) o (each i o at_o) v at_v);
    })

-- some numbers after others
module _ (p : Pair) where
  pub links_none : (os : List (Option (ℕ × Link))) → os ≡ [] → AreLeastLinks p [] os
  links_none os none = record { count = ap length none; each = λ i n o v at_n. absurd cc }

  at_front_or_back : {X : Type 0} → (xs ys : List X) (i : ℕ) (x : X) → slice_get (xs ++ ys) i ≡ Some x → ((i < length xs) × (slice_get xs i ≡ Some x)) ⊎ ((length xs ≤ i) × (slice_get ys (i - length xs) ≡ Some x))
  at_front_or_back [] ys i x h = let same : i ≡ i - 0 = omega arith in inr (omega arith, ap (slice_get ys) (sym same) ∙ h)
  at_front_or_back (y ∷ xs) ys zero x h = inl (omega arith, h)
  at_front_or_back (y ∷ xs) ys (suc i) x h = elim (at_front_or_back xs ys i x h) [
    | inl (l, at) ↦ inl (omega (arith, l), at)
    | inr (l, at) ↦ inr (omega (arith, l), (let same : suc i - length (y ∷ xs) ≡ i - length xs = omega arith in ap (slice_get ys) same ∙ at))
  ]

  pub links_append : (ns ms : List ℕ) (os ps : List (Option (ℕ × Link))) → AreLeastLinks p ns os → AreLeastLinks p ms ps → AreLeastLinks p (ns ++ ms) (os ++ ps)
  links_append ns ms os ps a b = record {
    count = length-append os ps ∙ ap (λ (n : ℕ). n + length ps) a.count ∙ ap (λ (n : ℕ). length ns + n) b.count ∙ sym (length-append ns ms);
    each = λ i n o v at_n at_o at_v. elim (at_front_or_back ns ms i n at_n) [
      | inl (l, n_front) ↦ elim (at_front_or_back os ps i o at_o) [
        | inl (l', o_front) ↦ a.each i n o v n_front o_front at_v
        | inr (l', o_back) ↦ absurd (let count = a.count in omega (arith, l, l', count))
      ]
      | inr (l, n_back) ↦ elim (at_front_or_back os ps i o at_o) [
        | inl (l', o_front) ↦ absurd (let count = a.count in omega (arith, l, l', count))
        | inr (l', o_back) ↦ b.each (i - length ns) n o v n_back (ap (λ (c : ℕ). slice_get ps (i - c)) (sym a.count) ∙ o_back) at_v
      ]
    ];
  }

-- the first numbers and those behind them up to a place
pub taken_on : (ns : List ℕ) (start end : ℕ) → start ≤ end → take start ns ++ take (end - start) (drop start ns) ≡ take end ns
taken_on ns zero end l = let same : end - 0 ≡ end = omega arith in (rw same refl)
taken_on [] (suc start) zero l = absurd (omega (arith, l))
taken_on [] (suc start) (suc end) l = nothing (suc end - suc start)
  where
    nothing : (n : ℕ) → take {A = ℕ} n [] ≡ []
    nothing zero = refl
    nothing (suc n) = refl
taken_on (n ∷ ns) (suc start) zero l = absurd (omega (arith, l))
taken_on (n ∷ ns) (suc start) (suc end) l = let same : suc end - suc start ≡ end - start = omega arith in rw same (ap (λ (xs : List ℕ). n ∷ xs) (taken_on ns start end (omega (arith, l))))

-- a number stands once in an ascending list
pub once_ascending : (ns : List ℕ) → Ascends nat_cmp ns → (i j n : ℕ) → slice_get ns i ≡ Some n → slice_get ns j ≡ Some n → i ≡ j
once_ascending ns up i j n at_i at_j = elim (cases_lt i j) [
  | inl l ↦ absurd (never (up i j n n l at_i at_j))
  | inr le ↦ elim (cases_lt j i) [ inl l ↦ absurd (never (up j i n n l at_j at_i)) | inr ge ↦ omega (arith, le, ge) ]
]
  where
    never : nat_cmp n n ≡ Less → ⊥
    never less = let same = nat_cmp_is n n Equal refl in let both : Equal ≡ Less = same ∙ less in cc

-- what is found beside a number
pub found_beside : (ns : List ℕ) (os : List (Option (ℕ × Link))) (at n : ℕ) → Ascends nat_cmp ns → length os ≡ length ns → at < length ns → get_or ns at n ≡ n → (i : ℕ) → slice_get ns i ≡ Some n → slice_get os i ≡ Some (get_or os at None)
found_beside ns os at n up count within is i at_i =
    let here : slice_get ns at ≡ Some n = slice_get-get_or ns at n within ∙ ap Some is in
    let same : i ≡ at = once_ascending ns up i at n at_i here in
    ap (slice_get os) same ∙ slice_get-get_or os at None (omega (arith, within, count))

module _ (p : Pair) (ns : List ℕ) (os : List (Option (ℕ × Link))) (a : AreLeastLinks p ns os) (at : ℕ) (o : Option (ℕ × Link)) (beside : (i : ℕ) → slice_get ns i ≡ Some at → slice_get os i ≡ Some o) where
  pub link_here : Contains ns at → (v : Vertex) → slice_get p.merged.vertices at ≡ Some v → IsLeastLink p.merged p.own v o
  link_here has v at_v = let (i, at_i) = place_of ns at has in a.each i at o v at_i (beside i at_i) at_v

  pub link_of_point : IsOnce p.merged.vertices → (v : Vertex) → slice_get p.merged.vertices at ≡ Some v → IsOneOf p.merged ns v → IsLeastLink p.merged p.own v o
  link_of_point once v at_v (n, has, at_n) = link_here (subst (Contains ns) (once n at v at_n at_v) has) v at_v
