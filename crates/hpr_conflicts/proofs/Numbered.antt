-- The conflicts one after another get the numbers of their groups.
use Rattle.std.proofs.Common.{◌≡◌, ℕ, ◌+◌, ◌<◌, ◌⊎◌, inl, inr, Some, List, [], ◌∷◌, ◌++◌, length, slice_get, sym, ap, ◌∙◌, subst, arith, length-append}
use Rattle.std.proofs.lemmas.Bool.{cases_eq}
use Rattle.std.proofs.lemmas.Option.{slice_get_within}
use Rattle.hpr_terms.proofs.Facts.{at_end, at_push, contains_at, get_below, get_longer, place_of, some_inj}
use Rattle.hpr_graph.specs.declared.conflict.ManyConflict.{ManyConflict}
use Rattle.hpr_graph.specs.Graphs.{IsOnce}
use Rattle.hpr_conflicts.specs.declared.key.Key.{Key}
use Rattle.hpr_conflicts.specs.Private.Keys.{key_of}
use Rattle.hpr_conflicts.specs.Groups.{AreNumbers}
use Rattle.hpr_conflicts.specs.Private.Placed.{IsPlaced}
use Rattle.hpr_conflicts.proofs.KeyEqual.{alike_by_key, key_by_alike}

-- the numbers are the places of the conflicts' keys
pub record AreKeyed (cs : List ManyConflict) (ks : List Key) (ns : List ℕ) : Type 0 where
  pub count : length ns ≡ length cs
  pub keys : (i g : ℕ) (c : ManyConflict) → slice_get cs i ≡ Some c → slice_get ns i ≡ Some g → slice_get ks g ≡ Some (key_of c)
  pub once : IsOnce ks
  pub used : (g : ℕ) → g < length ks → (j : ℕ) × (slice_get ns j ≡ Some g)
  pub first : (i g h : ℕ) → slice_get ns i ≡ Some h → g < h → (j : ℕ) × (j < i) × (slice_get ns j ≡ Some g)

less_or_last : (g n : ℕ) → g < n + 1 → (g < n) ⊎ (g ≡ n)
less_or_last g n l = elim (cases_eq g n) [ inl e ↦ inr e | inr ne ↦ inl (omega arith) ]

module _ (cs : List ManyConflict) (ks : List Key) (ns : List ℕ) (a : AreKeyed cs ks ns) (c : ManyConflict) (new : List Key) (n : ℕ) (p : IsPlaced ks (key_of c) new n) where
  kept : (g : ℕ) (k : Key) → slice_get ks g ≡ Some k → slice_get new g ≡ Some k
  kept g k h = elim p.1 [
    | inl same ↦ subst (λ (l : List Key). slice_get l g ≡ Some k) (sym same) h
    | inr (more, _, _) ↦ subst (λ (l : List Key). slice_get l g ≡ Some k) (sym more) (get_longer ks (key_of c ∷ []) g k h)
  ]

  once_more : IsOnce new
  once_more = elim p.1 [
    | inl same ↦ subst (λ (l : List Key). IsOnce l) (sym same) a.once
    | inr (more, at, stranger) ↦ subst (λ (l : List Key). IsOnce l) (sym more) (λ i j k at_i at_j. elim (at_push ks (key_of c) i k at_i) [
      | inl old_i ↦ elim (at_push ks (key_of c) j k at_j) [
        | inl old_j ↦ a.once i j k old_i old_j
        | inr (_, is) ↦ absurd (stranger (contains_at ks i (key_of c) (old_i ∙ ap Some (sym is))))
      ]
      | inr (last_i, is) ↦ elim (at_push ks (key_of c) j k at_j) [
        | inl old_j ↦ absurd (stranger (contains_at ks j (key_of c) (old_j ∙ ap Some (sym is))))
        | inr (last_j, _) ↦ last_i ∙ sym last_j
      ]
    ])
  ]

  -- each number up to n has a place among the keys
  known : (g : ℕ) → g < n → g < length ks
  known g l = elim p.1 [
    | inl same ↦ (let w = slice_get_within ks n (key_of c) (subst (λ (l : List Key). slice_get l n ≡ Some (key_of c)) same p.0) in omega (arith, l, w))
    | inr (more, at, _) ↦ omega (arith, l, at)
  ]

  reached : (g : ℕ) → g < length new → (g < length ks) ⊎ (g ≡ n)
  reached g l = elim p.1 [
    | inl same ↦ inl (subst (λ (l : List Key). g < length l) same l)
    | inr (more, at, _) ↦
        (let w : length new ≡ length ks + 1 = ap length more ∙ length-append ks (key_of c ∷ []) in
        let up : g < length ks + 1 = omega (arith, l, w) in
        elim (less_or_last g (length ks) up) [ inl less ↦ inl less | inr last ↦ inr (last ∙ sym at) ])
  ]

  pub keyed_more : AreKeyed (cs ++ c ∷ []) new (ns ++ n ∷ [])
  keyed_more = record {
    count = omega (arith, a.count, length-append ns (n ∷ []), length-append cs (c ∷ []));
    keys = λ i g d at_c at_n. elim (at_push cs c i d at_c) [
      | inl old ↦ elim (at_push ns n i g at_n) [
        | inl was ↦ kept g (key_of d) (a.keys i g d old was)
        | inr (last, _) ↦ (let w = slice_get_within cs i d old in absurd (omega (arith, w, last, a.count)))
      ]
      | inr (last, is) ↦ elim (at_push ns n i g at_n) [
        | inl was ↦ (let w = slice_get_within ns i g was in absurd (omega (arith, w, last, a.count)))
        | inr (_, same) ↦ subst (λ (h : ℕ). slice_get new h ≡ Some (key_of d)) same (p.0 ∙ ap (λ (x : ManyConflict). Some (key_of x)) is)
      ]
    ];
    once = once_more;
    used = λ g l. elim (reached g l) [
      | inl was ↦ (let (j, at) = a.used g was in (j, get_longer ns (n ∷ []) j g at))
      | inr is ↦ (length ns, at_end ns n ∙ ap Some (sym is))
    ];
    first = λ i g h at_i l. elim (at_push ns n i h at_i) [
      | inl was ↦ (let (j, before, at) = a.first i g h was l in (j, before, get_longer ns (n ∷ []) j g at))
      | inr (last, is) ↦
          (let (j, at) = a.used g (known g (omega (arith, l, is))) in
          let w = slice_get_within ns j g at in
          (j, omega (arith, w, last), get_longer ns (n ∷ []) j g at))
    ];
  }

-- all of them
module _ (cs : List ManyConflict) (ks : List Key) (ns : List ℕ) (a : AreKeyed cs ks ns) where
  conflict_at : (i g : ℕ) → slice_get ns i ≡ Some g → (c : ManyConflict) × (slice_get cs i ≡ Some c)
  conflict_at i g at = let w = slice_get_within ns i g at in get_below cs i (omega (arith, w, a.count))

  pub all_numbers : (m : ℕ) → m ≡ length ks → AreNumbers cs ns m
  all_numbers m is = record {
    count = a.count;
    alike = λ i j g h c d at_c at_d at_g at_h. (
      λ same. alike_by_key c d (some_inj (key_of c) (key_of d) (sym (a.keys i g c at_c at_g) ∙ ap (λ (x : ℕ). slice_get ks x) same ∙ a.keys j h d at_d at_h)),
      λ (variants, edges). a.once g h (key_of c) (a.keys i g c at_c at_g) (a.keys j h d at_d at_h ∙ ap Some (sym (key_by_alike c d variants edges))),
    );
    within = λ g has.
        (let (i, at) = place_of ns g has in
        let (c, at_c) = conflict_at i g at in
        let w = slice_get_within ks g (key_of c) (a.keys i g c at_c at) in omega (arith, w, is));
    used = λ g l. (let (j, at) = a.used g (omega (arith, l, is)) in contains_at ns j g at);
    first = a.first;
  }
