-- Lists of the numbers of vertices, one vertex after another.
use Rattle.std.proofs.Common.{◌≡◌, ℕ, ◌+◌, ◌<◌, ◌↔◌, inl, inr, Bool, true, false, IsTrue, cond, Some, List, [], ◌∷◌, ◌++◌, length, get_or, Contains, slice_get, refl, sym, ap, ◌∙◌, subst, arith}
use Rattle.std.specs.declared.cmp.Ordering.TheVariants.{Less}
use Rattle.std.specs.Ordering.{nat_cmp}
use Rattle.std.specs.Cmp.{nat_cmp_is}
use Rattle.std.proofs.lemmas.Bool.{cases_eq}
use Rattle.std.proofs.lemmas.Option.{slice_get_within}
use Rattle.std.proofs.lemmas.List.Elements.{Contains-push, Contains-push_cases, Contains-append_left, Contains-get_or}
use Rattle.hpr_graph.specs.declared.vertex.Vertex.{Vertex}
use Rattle.hpr_graph.specs.Numbered.{Numbered}
use Rattle.hpr_graph.specs.InOrder.{Ascends}
use Rattle.hpr_graph.proofs.Lists.{in_none, contains_at, at_push}
use Rattle.hpr_affected.specs.Numbers.{AreNumbersOf}

-- of the vertices before the number n
pub record AreNumbersBefore (g : Numbered) (P : Vertex → Type 0) (numbers : List ℕ) (n : ℕ) : Type 0 where
  pub ascend : Ascends nat_cmp numbers
  pub before : (k : ℕ) → Contains numbers k → k < n
  pub exact : (at : ℕ) (v : Vertex) → at < n → slice_get g.vertices at ≡ Some v → Contains numbers at ↔ P v

pub before_none : (g : Numbered) (P : Vertex → Type 0) (numbers : List ℕ) → numbers ≡ [] → AreNumbersBefore g P numbers 0
before_none g P numbers e =
    rw e (record {
      ascend = λ i j x y l at. absurd (in_none x (contains_at [] i x at));
      before = λ k h. absurd (in_none k h);
      exact = λ at v l. absurd (omega (arith, l));
    })

ascend_push : (numbers : List ℕ) (n : ℕ) → Ascends nat_cmp numbers → ((k : ℕ) → Contains numbers k → k < n) → Ascends nat_cmp (numbers ++ n ∷ [])
ascend_push numbers n up before i j x y l at_i at_j = elim (at_push numbers n j y at_j) [
  | inl old_j ↦ elim (at_push numbers n i x at_i) [
    | inl old_i ↦ up i j x y l old_i old_j
    | inr new_i ↦ absurd (let w = slice_get_within numbers j y old_j in omega (arith, l, w, new_i.0))
  ]
  | inr new_j ↦ elim (at_push numbers n i x at_i) [
    | inl old_i ↦ (let less : x < y = let w = before x (contains_at numbers i x old_i) in omega (arith, w, new_j.1) in sym (nat_cmp_is x y Less less))
    | inr new_i ↦ absurd (omega (arith, l, new_i.0, new_j.0))
  ]
]

-- one vertex more
pub before_more : (g : Numbered) (P : Vertex → Type 0) (numbers new : List ℕ) (n : ℕ) (test : Bool) → AreNumbersBefore g P numbers n → ((v : Vertex) → slice_get g.vertices n ≡ Some v → IsTrue test ↔ P v) → new ≡ cond test (numbers ++ n ∷ []) numbers → AreNumbersBefore g P new (n + 1)
before_more g P numbers new n true a tested is =
    rw is (record {
      ascend = ascend_push numbers n a.ascend a.before;
      before = λ k h. elim (Contains-push_cases numbers n k h) [ inl was ↦ (let l = a.before k was in omega (arith, l)) | inr e ↦ omega (arith, e) ];
      exact = λ at v l at_v. elim (cases_eq at n) [
        | inl e ↦ (
          λ h. (tested v (ap (slice_get g.vertices) (sym e) ∙ at_v)).0 refl,
          λ p. subst (Contains (numbers ++ n ∷ [])) (sym e) (Contains-push numbers n),
        )
        | inr other ↦ (
          λ h. elim (Contains-push_cases numbers n at h) [ inl was ↦ (a.exact at v (omega (arith, l, other)) at_v).0 was | inr e ↦ absurd (other (sym e)) ],
          λ p. Contains-append_left numbers (n ∷ []) at ((a.exact at v (omega (arith, l, other)) at_v).1 p),
        )
      ];
    })
before_more g P numbers new n false a tested is =
    rw is (record {
      ascend = a.ascend;
      before = λ k h. (let l = a.before k h in omega (arith, l));
      exact = λ at v l at_v. elim (cases_eq at n) [
        | inl e ↦ (
          λ h. absurd (let w = a.before at h in omega (arith, w, e)),
          λ p. absurd (let t = (tested v (ap (slice_get g.vertices) (sym e) ∙ at_v)).1 p in cc),
        )
        | inr other ↦ a.exact at v (omega (arith, l, other)) at_v
      ];
    })

pub before_all : (g : Numbered) (P : Vertex → Type 0) (numbers : List ℕ) (n : ℕ) → AreNumbersBefore g P numbers n → n ≡ length g.vertices → AreNumbersOf g P numbers
before_all g P numbers n a e = record {
  ascend = a.ascend;
  within = λ k d l. (let w = a.before (get_or numbers k d) (Contains-get_or numbers k d l) in omega (arith, w, e));
  exact = λ at v at_v. a.exact at v (let w = slice_get_within g.vertices at v at_v in omega (arith, w, e)) at_v;
}
