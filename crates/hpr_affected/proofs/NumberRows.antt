-- The numbers of vertices in another graph, one vertex after another.
use Rattle.std.proofs.Common.{◌≡◌, ℕ, zero, suc, ◌+◌, ◌<◌, inl, inr, Option, Some, None, IfSome, IsNone, List, [], ◌∷◌, ◌++◌, length, slice_get, refl, sym, ap, ◌∙◌, subst, arith, length-append}
use Rattle.std.proofs.lemmas.Bool.{cases_eq}
use Rattle.std.proofs.lemmas.List.{get_or_append_left, get_or_push}
use Rattle.std.proofs.lemmas.Option.{slice_get_within}
use Rattle.hpr_graph.specs.declared.vertex.Vertex.{Vertex}
use Rattle.hpr_graph.specs.Numbered.{Numbered, HasVertex}
use Rattle.hpr_graph.specs.Moves.{number_at, ArePlaced}
use Rattle.hpr_graph.proofs.Lists.{some_inj}
use Rattle.hpr_graph.proofs.Placed.{number_push}
use Rattle.hpr_affected.specs.Lacking.{AreNumbersIn}

-- the numbers of the first so many vertices
pub record AreNumbersTo (g h : Numbered) (ns : List (Option ℕ)) (n : ℕ) : Type 0 where
  pub count : length ns ≡ n
  pub placed : ArePlaced g.vertices ns h.vertices
  pub strangers : (i : ℕ) (v : Vertex) → i < n → slice_get g.vertices i ≡ Some v → number_at ns i ≡ None → ¬ HasVertex h v

no_number : (i j : ℕ) → ¬ (number_at [] i ≡ Some j)
no_number zero j h = cc
no_number (suc i) j h = cc

pub numbers_none : (g h : Numbered) (ns : List (Option ℕ)) → ns ≡ [] → AreNumbersTo g h ns 0
numbers_none g h ns e = rw e (record { count = refl; placed = λ i j is. absurd (no_number i j is); strangers = λ i v l. absurd (omega (arith, l)) })

pub numbers_more : (g h : Numbered) (ns ns' : List (Option ℕ)) (o : Option ℕ) (n : ℕ) (v : Vertex) → AreNumbersTo g h ns n → slice_get g.vertices n ≡ Some v → IfSome o (λ j. slice_get h.vertices j ≡ Some v) → (IsNone o → ¬ HasVertex h v) → ns' ≡ ns ++ o ∷ [] → AreNumbersTo g h ns' (n + 1)
numbers_more g h ns ns' o n v a at found stranger is =
    rw is (record {
      count = omega (arith, a.count, length-append ns (o ∷ []));
      placed = λ i j e. elim (number_push ns o i j e) [
        | inl was ↦ a.placed i j was
        | inr now ↦ (v, ap (slice_get g.vertices) (now.0 ∙ a.count) ∙ at, subst (λ (p : Option ℕ). IfSome p (λ k. slice_get h.vertices k ≡ Some v)) now.1 found)
      ];
      strangers = λ i w l at_w e. elim (cases_eq i n) [
        | inl same ↦
            (let none : o ≡ None = sym (get_or_push ns o None i (a.count ∙ sym same)) ∙ e in
            let is_v : v ≡ w = some_inj v w (sym at ∙ ap (slice_get g.vertices) (sym same) ∙ at_w) in
            subst (λ (x : Vertex). ¬ HasVertex h x) is_v (stranger (subst (λ (p : Option ℕ). IsNone p) (sym none) refl)))
        | inr other ↦
            (let l' : i < n = omega arith in
            a.strangers i w l' at_w (sym (get_or_append_left ns (o ∷ []) None i (omega (arith, l', a.count))) ∙ e))
      ];
    })

pub numbers_all : (g h : Numbered) (ns : List (Option ℕ)) (n : ℕ) → AreNumbersTo g h ns n → n ≡ length g.vertices → AreNumbersIn g h ns
numbers_all g h ns n a e = record {
  count = a.count ∙ e;
  placed = a.placed;
  strangers = λ i v at. a.strangers i v (let l = slice_get_within g.vertices i v at in omega (arith, l, e)) at;
}
