-- Where a vertex stands first, when one of the files is looked at before the others.
use Rattle.std.proofs.Common.{◌≡◌, ℕ, zero, suc, ◌+◌, ◌-◌, ◌<◌, ◌≤◌, Option, Some, None, List, [], ◌∷◌, ◌++◌, length, map, take, drop, get_or, refl, sym, ap, ◌∙◌, arith}
use Rattle.std.proofs.lemmas.List.{drop-map, take-map}
use Rattle.hpr_graph.specs.declared.vertex.Vertex.{Vertex}
use Rattle.hpr_located.specs.declared.located.Located.{Located}
use Rattle.hpr_located.specs.declared.source.Source.{Source}
use Rattle.hpr_located.specs.Sources.{Spot, Standing, spot_in, spot_of, standing_of}
use Rattle.hpr_interference.specs.Answers.{file_at, own_first}

-- where a vertex stands in the file n, if it does and there is such a file
abbrev pub place_at : List Standing → ℕ → Vertex → Option Located
place_at [] n v = None
place_at (s ∷ ss) zero v = s.place v
place_at (s ∷ ss) (suc n) v = place_at ss n v

module _ (v : Vertex) where
  passed : (ss : List Standing) (n : ℕ) (others : List Standing) → place_at ss n v ≡ None → spot_of (take 1 (drop n ss) ++ others) v ≡ spot_of others v
  passed [] zero others none = refl
  passed [] (suc n) others none = refl
  passed (s ∷ ss) zero others none = ap (λ (o : Option Located). spot_in s.file o (spot_of others v)) none
  passed (s ∷ ss) (suc n) others none = passed ss n others none

  left : (ss : List Standing) (n : ℕ) → place_at ss n v ≡ None → spot_of (take n ss ++ drop (suc n) ss) v ≡ spot_of ss v
  left [] zero none = refl
  left [] (suc n) none = refl
  left (s ∷ ss) zero none = sym (ap (λ (o : Option Located). spot_in s.file o (spot_of ss v)) none)
  left (s ∷ ss) (suc n) none = ap (λ (o : Option Spot). spot_in s.file (s.place v) o) (left ss n none)

  elsewhere : (ss : List Standing) (n : ℕ) → place_at ss n v ≡ None → spot_of ss v ≡ spot_of (own_first ss n) v
  elsewhere ss n none = sym (passed ss n (take n ss ++ drop (suc n) ss) none ∙ left ss n none)

  found : (ss : List Standing) (n : ℕ) (others : List Standing) (l : Located) → place_at ss n v ≡ Some l
      → spot_of (take 1 (drop n ss) ++ others) v ≡ Some (file_at ss n, l)
  found [] n others l is = absurd cc
  found (s ∷ ss) zero others l is = ap (λ (o : Option Located). spot_in s.file o (spot_of others v)) is
  found (s ∷ ss) (suc n) others l is = found ss n others l is

  alone : (ss : List Standing) (n : ℕ) (l : Located) → place_at ss n v ≡ Some l → spot_of (take 1 (drop n ss)) v ≡ Some (file_at ss n, l)
  alone [] n l is = absurd cc
  alone (s ∷ ss) zero l is = ap (λ (o : Option Located). spot_in s.file o None) is
  alone (s ∷ ss) (suc n) l is = alone ss n l is

  nearest_alone : (ss : List Standing) (n : ℕ) (l : Located) → place_at ss n v ≡ Some l → spot_of (take 1 (drop n ss)) v ≡ spot_of (own_first ss n) v
  nearest_alone ss n l is = alone ss n l is ∙ sym (found ss n (take n ss ++ drop (suc n) ss) l is)

  place_is : (ss : List Source) (n : ℕ) (s : Source) → n < length ss → s ≡ get_or ss n s → place_at (map standing_of ss) n v ≡ (standing_of s).place v
  place_is [] n s l is = absurd (omega (arith, l))
  place_is (t ∷ ss) zero s l is = ap (λ (u : Source). (standing_of u).place v) (sym is)
  place_is (t ∷ ss) (suc n) s l is = place_is ss n s (omega (arith, l)) is

  place_none : (ss : List Source) (n : ℕ) → length ss ≤ n → place_at (map standing_of ss) n v ≡ None
  place_none [] n l = refl
  place_none (t ∷ ss) zero l = absurd (omega (arith, l))
  place_none (t ∷ ss) (suc n) l = place_none ss n (omega (arith, l))

module _ (v : Vertex) (ss : List Source) (n : ℕ) where
  module _ (s : Source) (o : Option Located) (less : n < length ss) (is : s ≡ get_or ss n s) (stands : o ≡ (standing_of s).place v) where
    pub nearest_in : {l : Located} → o ≡ Some l → spot_of (map standing_of (take (n + 1 - n) (drop n ss))) v ≡ spot_of (own_first (map standing_of ss) n) v
    nearest_in {l} here =
        let one : n + 1 - n ≡ 1 = omega arith in
        let file : map standing_of (take (n + 1 - n) (drop n ss)) ≡ take 1 (drop n (map standing_of ss)) =
        ap (λ (k : ℕ). map standing_of (take k (drop n ss))) one ∙ sym (take-map standing_of 1 (drop n ss)) ∙ ap (take 1) (sym (drop-map standing_of n ss)) in
        ap (λ (xs : List Standing). spot_of xs v) file ∙ nearest_alone v (map standing_of ss) n l (place_is v ss n s less is ∙ sym stands ∙ here)

    pub nearest_else : o ≡ None → spot_of (map standing_of ss) v ≡ spot_of (own_first (map standing_of ss) n) v
    nearest_else none = elsewhere v (map standing_of ss) n (place_is v ss n s less is ∙ sym stands ∙ none)

  pub nearest_none : length ss ≤ n → spot_of (map standing_of ss) v ≡ spot_of (own_first (map standing_of ss) n) v
  nearest_none beyond = elsewhere v (map standing_of ss) n (place_none v ss n beyond)

pub file_is : (ss : List Source) (n : ℕ) (s : Source) → n < length ss → s ≡ get_or ss n s → (standing_of s).file ≡ file_at (map standing_of ss) n
file_is [] n s l is = absurd (omega (arith, l))
file_is (t ∷ ss) zero s l is = ap (λ (u : Source). (standing_of u).file) is
file_is (t ∷ ss) (suc n) s l is = file_is ss n s (omega (arith, l)) is

pub no_file : (ss : List Source) (n : ℕ) → length ss ≤ n → [] ≡ file_at (map standing_of ss) n
no_file [] n l = refl
no_file (t ∷ ss) zero l = absurd (omega (arith, l))
no_file (t ∷ ss) (suc n) l = no_file ss n (omega (arith, l))
