-- Marks of a slice.
use Rattle.std.proofs.Common.{◌≡◌, ℕ, zero, suc, Bool, Some, List, [], ◌∷◌, Contains, slice_get, refl, sym, ap, ◌∙◌, subst, arith}
use Rattle.hpr_graph.specs.declared.vertex.Vertex.{Vertex}
use Rattle.hpr_graph.specs.declared.edge.Kind.{Kind}
use Rattle.hpr_graph.specs.declared.link.LinkKind.{LinkKind}
use Rattle.hpr_graph.specs.declared.link.LinkKind.TheVariants.{Control, Independent, Carried, Order}
use Rattle.hpr_graph.specs.Graphs.{OnThird}
use Rattle.hpr_graph.specs.Inside.{ThirdMarked}
use Rattle.hpr_graph.specs.Numbered.{Numbered, IsKindAt, graph_in}
use Rattle.hpr_graph.specs.Slices.{ReachesOne}
use Rattle.hpr_graph.proofs.Lists.{some_inj}
use Rattle.hpr_slice.specs.Vertices.{IsOneOf, MarksExactly}

-- marks on the numbers of an edge, and what holds of its vertices
module _ (g : Numbered) (P : Vertex → Type 0) (marks : List Bool) (m : MarksExactly g P marks) where
  pub third_marked : (k : LinkKind) (v : Vertex) (e : Kind) → IsKindAt g.vertices k v e → OnThird P e → ThirdMarked marks k
  third_marked (Control label) v e is t = tt
  third_marked Independent v e is t = tt
  third_marked (Carried w) v e (x, y, d, at, is) t = (m.exact w y at).1 (subst (OnThird P) is t)
  third_marked (Order u) v e (y, at, is) t = (m.exact u y at).1 (subst (OnThird P) is t)

  pub marked_third : (k : LinkKind) (v : Vertex) (e : Kind) → IsKindAt g.vertices k v e → ThirdMarked marks k → OnThird P e
  marked_third (Control label) v e is t = subst (OnThird P) (sym is) tt
  marked_third Independent v e (x, d, is) t = subst (OnThird P) (sym is) tt
  marked_third (Carried w) v e (x, y, d, at, is) t = subst (OnThird P) (sym is) ((m.exact w y at).0 t)
  marked_third (Order u) v e (y, at, is) t = subst (OnThird P) (sym is) ((m.exact u y at).0 t)

in_one : (x y : ℕ) → Contains (x ∷ []) y → x ≡ y
in_one x y (zero, l, e) = e
in_one x y (suc k, l, e) = absurd (omega (arith, l))

-- the marks at the number of a vertex are those of its slice
pub marks_at : (g : Numbered) (at : ℕ) (v : Vertex) (marks : List Bool) → slice_get g.vertices at ≡ Some v → MarksExactly g (ReachesOne (graph_in g) (IsOneOf g (at ∷ []))) marks → MarksExactly g (ReachesOne (graph_in g) (λ s. s ≡ v)) marks
marks_at g at v marks at_v m = record {
  count = m.count;
  exact = λ n w at_w. (
    λ marked.
        (let (s, es, (k, has, at_k), leads) = (m.exact n w at_w).0 marked in
        (s, es, some_inj s v (sym at_k ∙ ap (slice_get g.vertices) (sym (in_one at k has)) ∙ at_v), leads)),
    λ (s, es, is, leads). (m.exact n w at_w).1 (s, es, (at, (0, omega arith, refl), at_v ∙ ap Some (sym is)), leads),
  );
}
