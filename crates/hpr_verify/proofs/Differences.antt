-- What one of two alone has, and how two graphs differ: there is one least such thing, and one difference.
use Rattle.std.proofs.Common.{◌≡◌, ◌⊎◌, ◌↔◌, inl, inr, Option, Some, None, refl, ap₂, subst}
use Rattle.std.specs.declared.cmp.Ordering.{Ordering}
use Rattle.std.specs.declared.cmp.Ordering.TheVariants.{Less}
use Rattle.hpr_graph.specs.declared.vertex.Vertex.{Vertex}
use Rattle.hpr_graph.specs.Graphs.{Graph, Same}
use Rattle.hpr_graph.specs.Order.{vertex_cmp, edge_cmp}
use Rattle.hpr_graph.proofs.EdgeOrder.{edge_cases}
use Rattle.hpr_graph.proofs.Laws.{same_then, same_turned}
use Rattle.hpr_graph.proofs.PutInOrder as order
use Rattle.hpr_graph.proofs.VertexOrder.{vertex_total, vertex_tied}
use Rattle.hpr_verify.specs.declared.verdict.Holder.{Holder}
use Rattle.hpr_verify.specs.declared.verdict.Holder.TheVariants.{Offered, Merged}
use Rattle.hpr_verify.specs.declared.verdict.Verdict.{Verdict}
use Rattle.hpr_verify.specs.declared.verdict.Verdict.TheVariants as verdict
use Rattle.hpr_verify.specs.Difference.{IsDifference, IsHeldBy, IsLeastApart, IsLeastHeld}

-- where both have the same, neither has anything alone
pub none_held : {X : Type 0} (P Q : X → Type 0) (x : X) (h : Holder) → P x ↔ Q x → ¬ IsHeldBy h P Q x
none_held P Q x Offered same (has, lacks) = lacks (same.0 has)
none_held P Q x Merged same (has, lacks) = lacks (same.1 has)

-- what is so of what was found, and of nothing found
pub held_when : {X : Type 0} (cmp : X → X → Ordering) (P Q : X → Type 0) (o : Option (X × Holder)) (x : X) (h : Holder) → o ≡ Some (x, h) → IsLeastApart cmp P Q o → IsLeastHeld cmp P Q x h
held_when cmp P Q o x h is apart = subst (IsLeastApart cmp P Q) is apart

pub alike_when : {X : Type 0} (cmp : X → X → Ordering) (P Q : X → Type 0) (o : Option (X × Holder)) → o ≡ None → IsLeastApart cmp P Q o → (x : X) → P x ↔ Q x
alike_when cmp P Q o is apart = subst (IsLeastApart cmp P Q) is apart

-- the same sets have the same least difference
module _ {X : Type 0} (P P' Q Q' : X → Type 0) (p : (x : X) → P x ↔ P' x) (q : (x : X) → Q x ↔ Q' x) where
  held_same : (h : Holder) (x : X) → IsHeldBy h P Q x → IsHeldBy h P' Q' x
  held_same Offered x (has, lacks) = ((p x).0 has, λ k. lacks ((q x).1 k))
  held_same Merged x (has, lacks) = ((q x).0 has, λ k. lacks ((p x).1 k))

  held_back : (h : Holder) (x : X) → IsHeldBy h P' Q' x → IsHeldBy h P Q x
  held_back Offered x (has, lacks) = ((p x).1 has, λ k. lacks ((q x).0 k))
  held_back Merged x (has, lacks) = ((q x).1 has, λ k. lacks ((p x).0 k))

  pub least_same : (cmp : X → X → Ordering) (x : X) (h : Holder) → IsLeastHeld cmp P Q x h → IsLeastHeld cmp P' Q' x h
  least_same cmp x h (held, least) = (held_same h x held, λ k y other. least k y (held_back k y other))

pub difference_same : (g g' m m' : Graph) → Same g g' → Same m m' → (v : Verdict) → IsDifference g m v → IsDifference g' m' v
difference_same g g' m m' sg sm verdict.Same same = same_then g' m m' (same_then g' g m (same_turned g g' sg) same) sm
difference_same g g' m m' sg sm (verdict.Conflict c) none = none
difference_same g g' m m' sg sm (verdict.Vertex v h) least = least_same g.vertex g'.vertex m.vertex m'.vertex sg.0 sm.0 vertex_cmp v h least
difference_same g g' m m' sg sm (verdict.Edge e h) (same, least) = (
  λ v. (λ k. (sm.0 v).0 ((same v).0 ((sg.0 v).1 k)), λ k. (sg.0 v).0 ((same v).1 ((sm.0 v).1 k))),
  least_same g.edge g'.edge m.edge m'.edge sg.1 sm.1 edge_cmp e h least,
)

-- one least thing, and one holder
one_holder : {X : Type 0} (P Q : X → Type 0) (x : X) (h k : Holder) → IsHeldBy h P Q x → IsHeldBy k P Q x → h ≡ k
one_holder P Q x Offered Offered a b = refl
one_holder P Q x Offered Merged a b = absurd (a.1 b.0)
one_holder P Q x Merged Offered a b = absurd (a.1 b.0)
one_holder P Q x Merged Merged a b = refl

module _ {X : Type 0} (cmp : X → X → Ordering) (cases : (x y : X) → (cmp x y ≡ Less) ⊎ ((x ≡ y) ⊎ (cmp y x ≡ Less))) (P Q : X → Type 0) where
  one_item : (x y : X) (h k : Holder) → IsLeastHeld cmp P Q x h → IsLeastHeld cmp P Q y k → x ≡ y
  one_item x y h k (held, least) (held', least') = elim (cases x y) [
    | inl less ↦ absurd (least' h x held less)
    | inr rest ↦ elim rest [ inl same ↦ same | inr more ↦ absurd (least k y held' more) ]
  ]

  one_least : {V : Type 0} (f : X → Holder → V) (x y : X) (h k : Holder) → IsLeastHeld cmp P Q x h → IsLeastHeld cmp P Q y k → f x h ≡ f y k
  one_least f x y h k a b =
      let same = one_item x y h k a b in
      ap₂ f same (one_holder P Q y h k (subst (IsHeldBy h P Q) same a.0) b.0)

vertex_cases : (v w : Vertex) → (vertex_cmp v w ≡ Less) ⊎ ((v ≡ w) ⊎ (vertex_cmp w v ≡ Less))
vertex_cases v w = elim (order.compared vertex_cmp vertex_total vertex_tied v w) [
  | inl same ↦ inr (inl same)
  | inr apart ↦ elim apart [ inl before ↦ inl before | inr after ↦ inr (inr after) ]
]

pub one_difference : (g m : Graph) (v w : Verdict) → IsDifference g m v → IsDifference g m w → v ≡ w
one_difference g m verdict.Same verdict.Same a b = refl
one_difference g m verdict.Same (verdict.Vertex x k) a b = absurd (none_held g.vertex m.vertex x k (a.0 x) b.0)
one_difference g m verdict.Same (verdict.Edge f k) a b = absurd (none_held g.edge m.edge f k (a.1 f) b.1.0)
one_difference g m (verdict.Vertex v h) verdict.Same a b = absurd (none_held g.vertex m.vertex v h (b.0 v) a.0)
one_difference g m (verdict.Vertex v h) (verdict.Vertex x k) a b = one_least vertex_cmp vertex_cases g.vertex m.vertex (λ y l. verdict.Vertex y l) v x h k a b
one_difference g m (verdict.Vertex v h) (verdict.Edge f k) a b = absurd (none_held g.vertex m.vertex v h (b.0 v) a.0)
one_difference g m (verdict.Edge e h) verdict.Same a b = absurd (none_held g.edge m.edge e h (b.1 e) a.1.0)
one_difference g m (verdict.Edge e h) (verdict.Vertex x k) a b = absurd (none_held g.vertex m.vertex x k (a.0 x) b.0)
one_difference g m (verdict.Edge e h) (verdict.Edge f k) a b = one_least edge_cmp edge_cases g.edge m.edge (λ y l. verdict.Edge y l) e f h k a.1 b.1
one_difference g m (verdict.Conflict c) w a b = absurd a
one_difference g m v (verdict.Conflict c) a b = absurd b
