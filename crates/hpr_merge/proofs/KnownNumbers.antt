-- Numbers at which the least link isn't known, and the links beside all of them, one number more.
use Rattle.std.proofs.Common.{◌≡◌, ℕ, zero, suc, ◌+◌, ◌<◌, ◌≤◌, ◌⊎◌, inl, inr, Option, Some, None, List}
use Rattle.std.proofs.Common.{[], ◌∷◌, ◌++◌, length, get_or, take, All, Contains, slice_get, refl, sym, ap, ◌∙◌, subst, arith}
use Rattle.std.specs.Ordering.{nat_cmp}
use Rattle.std.specs.declared.cmp.Ordering.TheVariants.{Less}
use Rattle.std.proofs.lemmas.List.{take_more, take_all, length-take-le}
use Rattle.std.proofs.lemmas.List.Elements.{All-contains, Contains-push, Contains-push_cases, Contains-append_left}
use Rattle.std.proofs.lemmas.Option.{slice_get_within, slice_get-get_or}
use Rattle.hpr_terms.proofs.Facts.{get_below}
use Rattle.hpr_graph.specs.declared.link.LinkKind.{LinkKind}
use Rattle.hpr_graph.specs.declared.link.LinkKind.TheVariants.{Control, Independent, Carried, Order}
use Rattle.hpr_graph.specs.declared.link.Link.{Link}
use Rattle.hpr_graph.specs.InOrder.{Ascends}
use Rattle.hpr_graph.proofs.Lists.{some_inj, in_none, in_taken, contains_at, place_of, at_push}
use Rattle.hpr_slice.specs.Neighbours.{Follows}
use Rattle.hpr_merge.specs.Beside.{Pair, AreLeastLinks, IsLeastLink}
use Rattle.hpr_merge.specs.Known.{AreKnownLinks, AreUnknown, IsKnown, IsLinkOf}

taken_at : (i : ℕ) (ns : List ℕ) (j x : ℕ) → slice_get (take i ns) j ≡ Some x → slice_get ns j ≡ Some x
taken_at zero ns j x at = absurd (nothing ns at)
  where
    nothing : (ns : List ℕ) → slice_get (take 0 ns) j ≡ Some x → ⊥
    nothing [] at = cc
    nothing (n ∷ ns) at = cc
taken_at (suc i) [] j x at = at
taken_at (suc i) (n ∷ ns) zero x at = at
taken_at (suc i) (n ∷ ns) (suc j) x at = taken_at i ns j x at

module _ (os : List (Option (ℕ × Link))) where
  pub unknown_none : (ns unknown : List ℕ) → unknown ≡ [] → AreUnknown (take 0 ns) os unknown
  unknown_none ns unknown is = record {
    ascend = λ i j x y l at. absurd (none x (contains_at unknown i x at));
    only = λ n h. absurd (none n h);
    all = λ n o h. absurd (in_none n h);
  }
    where
      none : (x : ℕ) → ¬ Contains unknown x
      none x h = in_none x (subst (λ (xs : List ℕ). Contains xs x) is h)

  module _ (ns : List ℕ) (i : ℕ) (l : i < length ns) (unknown : List ℕ) (a : AreUnknown (take i ns) os unknown) (o : Option (ℕ × Link))
      (at_o : slice_get os (get_or ns i 0) ≡ Some o) where
    more_numbers : (x : ℕ) → Contains (take i ns) x → Contains (take (i + 1) ns) x
    more_numbers x h = (in_taken ns i 0 x l).1 (inl h)

    pub unknown_skip : IsKnown o → AreUnknown (take (i + 1) ns) os unknown
    unknown_skip known = record {
      ascend = a.ascend;
      only = λ x h. (let (has, isnt) = a.only x h in (more_numbers x has, isnt));
      all = λ x p h at not_known. elim ((in_taken ns i 0 x l).0 h) [
        | inl was ↦ a.all x p was at not_known
        | inr same ↦ absurd (not_known (subst IsKnown (some_inj o p (sym at_o ∙ ap (slice_get os) same ∙ at)) known))
      ];
    }

    pub unknown_put : Ascends nat_cmp ns → (¬ IsKnown o) → AreUnknown (take (i + 1) ns) os (unknown ++ get_or ns i 0 ∷ [])
    unknown_put up not_this = record {
      ascend = λ p q x y less at_p at_q. elim (at_push unknown (get_or ns i 0) q y at_q) [
        | inl y_was ↦ elim (at_push unknown (get_or ns i 0) p x at_p) [
          | inl x_was ↦ a.ascend p q x y less x_was y_was
          | inr (place, same) ↦ absurd (let w = slice_get_within unknown q y y_was in omega (arith, w, place, less))
        ]
        | inr (place, same) ↦ elim (at_push unknown (get_or ns i 0) p x at_p) [
          | inl x_was ↦ subst (λ (z : ℕ). nat_cmp x z ≡ Less) same (before x (a.only x (contains_at unknown p x x_was)).0)
          | inr (place', same') ↦ absurd (omega (arith, place, place', less))
        ]
      ];
      only = λ x h. elim (Contains-push_cases unknown (get_or ns i 0) x h) [
        | inl was ↦ (let (has, isnt) = a.only x was in (more_numbers x has, isnt))
        | inr same ↦ (
          (in_taken ns i 0 x l).1 (inr same),
          λ p at known. not_this
              (subst IsKnown (some_inj p o (sym at ∙ ap (slice_get os) (sym same) ∙ at_o)) known),
        )
      ];
      all = λ x p h at not_known. elim ((in_taken ns i 0 x l).0 h) [
        | inl was ↦ Contains-append_left unknown (get_or ns i 0 ∷ []) x (a.all x p was at not_known)
        | inr same ↦ subst (Contains (unknown ++ get_or ns i 0 ∷ [])) same (Contains-push unknown (get_or ns i 0))
      ];
    }
      where
        before : (x : ℕ) → Contains (take i ns) x → nat_cmp x (get_or ns i 0) ≡ Less
        before x h =
            let (j, at_j) = place_of (take i ns) x h in
            let less = slice_get_within (take i ns) j x at_j in
            let short = length-take-le i ns (omega (arith, l)) in
            let at : slice_get ns j ≡ Some x = taken_at i ns j x at_j in
            up j i x (get_or ns i 0) (omega (arith, less, short)) at (slice_get-get_or ns i 0 l)

  module _ (unknown : List ℕ) (found : List (Option (ℕ × Link))) where
    pub link_is : (n : ℕ) (first o : Option (ℕ × Link)) → slice_get os n ≡ Some first → (IsKnown first → o ≡ first)
        → ((i : ℕ) → (¬ IsKnown first) → slice_get unknown i ≡ Some n → slice_get found i ≡ Some o) → IsLinkOf os unknown found n o
    link_is n first o at known other = record {
      if_known = λ k at_k is. (let same = some_inj first k (sym at ∙ at_k) in known (subst IsKnown (sym same) is) ∙ same);
      if_unknown = λ i k at_k isnt at_n. other i (λ is. isnt (subst IsKnown (some_inj first k (sym at ∙ at_k)) is)) at_n;
    }

    pub links_more : (ns : List ℕ) (i : ℕ) (links : List (Option (ℕ × Link))) (o : Option (ℕ × Link)) → i < length ns → length links ≡ i
        → ((j n : ℕ) (p : Option (ℕ × Link)) → slice_get (take i ns) j ≡ Some n → slice_get links j ≡ Some p → IsLinkOf os unknown found n p)
        → IsLinkOf os unknown found (get_or ns i 0) o → (j n : ℕ) (p : Option (ℕ × Link)) → slice_get (take (i + 1) ns) j ≡ Some n
        → slice_get (links ++ o ∷ []) j ≡ Some p → IsLinkOf os unknown found n p
    links_more ns i links o l count before one j n p at_n at_p =
        let short = length-take-le i ns (omega (arith, l)) in
        let at_n' : slice_get (take i ns ++ get_or ns i 0 ∷ []) j ≡ Some n = subst (λ (xs : List ℕ). slice_get xs j ≡ Some n) (take_more ns i 0 l) at_n in
        elim (at_push (take i ns) (get_or ns i 0) j n at_n') [
          | inl n_was ↦ elim (at_push links o j p at_p) [
            | inl p_was ↦ before j n p n_was p_was
            | inr (place, same) ↦ absurd (let w = slice_get_within (take i ns) j n n_was in omega (arith, w, short, place, count))
          ]
          | inr (place, same) ↦ elim (at_push links o j p at_p) [
            | inl p_was ↦ absurd (let w = slice_get_within links j p p_was in omega (arith, w, short, place, count, l))
            | inr (place', same') ↦ subst (λ (q : Option (ℕ × Link)). IsLinkOf os unknown found n q) same'
                (subst (λ (x : ℕ). IsLinkOf os unknown found x o) same one)
          ]
        ]

    pub links_all : (ns : List ℕ) (i : ℕ) (links : List (Option (ℕ × Link))) → length ns ≤ i
        → ((j n : ℕ) (p : Option (ℕ × Link)) → slice_get (take i ns) j ≡ Some n → slice_get links j ≡ Some p → IsLinkOf os unknown found n p)
        → (j n : ℕ) (p : Option (ℕ × Link)) → slice_get ns j ≡ Some n
        → slice_get links j ≡ Some p → IsLinkOf os unknown found n p
    links_all ns i links all a j n p at = a j n p (subst (λ (xs : List ℕ). slice_get xs j ≡ Some n) (sym (take_all i ns all)) at)

-- whether a link is known is decided
known_kind : (k : LinkKind) → Follows k ⊎ ¬ Follows k
known_kind (Control label) = inl refl
known_kind Independent = inl refl
known_kind (Carried w) = inl refl
known_kind (Order u) = inr (λ e. cc)

known_cases : (o : Option (ℕ × Link)) → IsKnown o ⊎ ¬ IsKnown o
known_cases None = inl tt
known_cases (Some (to, l)) = known_kind l.kind

-- what stands beside the numbers are the least links
pub links_known : (p : Pair) (ns unknown : List ℕ) (os found links : List (Option (ℕ × Link))) → All (λ n. n < length p.merged.vertices) ns
    → AreKnownLinks p ns os → AreUnknown ns os unknown → AreLeastLinks p unknown found → length links ≡ length ns
    → ((i n : ℕ) (o : Option (ℕ × Link)) → slice_get ns i ≡ Some n → slice_get links i ≡ Some o → IsLinkOf os unknown found n o) → AreLeastLinks p ns links
links_known p ns unknown os found links within known others least count each = record {
  count = count;
  each = λ i n o v at_n at_o at_v.
      (let has = contains_at ns i n at_n in
      let below = All-contains (λ x. x < length p.merged.vertices) ns n within has in
      let same = known.count in
      let (first, at_first) = get_below os n (omega (arith, below, same)) in
      let is = each i n o at_n at_o in
      elim (known_cases first) [
        | inl yes' ↦ subst (λ (x : Option (ℕ × Link)). IsLeastLink p.merged p.own v x) (sym (is.if_known first at_first yes'))
            (known.each n first v has at_first at_v yes')
        | inr not' ↦
            (let (j, at_j) = place_of unknown n (others.all n first has at_first not') in
            least.each j n o v at_j (is.if_unknown j first at_first not' at_j) at_v)
      ]);
}
