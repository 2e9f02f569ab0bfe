-- A base and any number of variants have a list of all conflicts, and so have three programs.
--
-- IsTellingOnce at == no two things tell the same variant, point and edge
use Rattle.std.proofs.Common.{◌≡◌, ℕ, zero, suc, ◌<◌, ◌⊎◌, inl, inr, List, [], ◌∷◌, length, refl, sym, ap, ◌∙◌, subst, arith}
use Rattle.hpr_terms.proofs.Facts.{compared}
use Rattle.hpr_syntax.specs.Tree.{Tree}
use Rattle.hpr_graph.specs.declared.conflict.Conflict.{Conflict}
use Rattle.hpr_graph.specs.declared.conflict.Side.{Side}
use Rattle.hpr_graph.specs.declared.conflict.Side.TheVariants.{A, B}
use Rattle.hpr_graph.specs.declared.edge.Edge.{Edge}
use Rattle.hpr_graph.specs.declared.vertex.Vertex.{Vertex}
use Rattle.hpr_graph.specs.Answer.{graphs_of, merged_of_all}
use Rattle.hpr_graph.specs.Conflicts.{number_of, graph_at, told_as, IsAdded, IsLeast, IsConflictOf, ComesFirst, AreConflicts, AreConflictsBy}
use Rattle.hpr_graph.specs.Graphs.{Graph}
use Rattle.hpr_graph.specs.Order.{vertex_cmp, edge_cmp}
use Rattle.hpr_graph.specs.ProgramGraph.{graph_of, IsVertexOf}
use Rattle.hpr_graph.proofs.VertexOrder.{vertex_total, edge_total, vertex_tied}
use Rattle.hpr_graph.proofs.Bounded.{Bounded, of_none, of_one, of_alone, of_within, of_either, of_each}
use Rattle.hpr_graph.proofs.EdgeOrder.{edge_tied}
use Rattle.hpr_graph.proofs.PutInOrder as order
use Rattle.hpr_merge.proofs.BoundedGraph.{vertices_bounded, merged_bounded}
use Rattle.hpr_merge.proofs.NoneListed.{number_within}

through : (i j k : ℕ) (u v w : Vertex) → ComesFirst i u j v → ComesFirst j v k w → ComesFirst i u k w
through i j k u v w (inl less) (inl less') = inl (omega (arith, less, less'))
through i j k u v w (inl less) (inr (same, below)) = inl (omega (arith, less, same))
through i j k u v w (inr (same, below)) (inl less) = inl (omega (arith, less, same))
through i j k u v w (inr (same, below)) (inr (same', below')) = inr (same ∙ same', vertex_total.trans u v w below below')

-- within bounds
below_bounded : (n : ℕ) → Bounded {X = ℕ} (λ i. i < n)
below_bounded zero = of_within (λ i. i < 0) (λ i. ⊥) (λ i less. omega (arith, less)) (of_none {X = ℕ})
below_bounded (suc n) =
    of_within (λ i. i < suc n) (λ i. (i ≡ n) ⊎ (i < n)) (λ i less. either i less) (of_either (λ i. i ≡ n) (λ i. i < n) (of_one n) (below_bounded n))
  where
    either : (i : ℕ) → i < suc n → (i ≡ n) ⊎ (i < n)
    either i less = elim (compared i n) [
      | inl low ↦ inr low
      | inr rest ↦ elim rest [ inl same ↦ inl same | inr high ↦ absurd (omega (arith, less, high)) ]
    ]

-- the vertices of one of these programs
abbrev pub OfSome : List Tree → Vertex → Type 0
OfSome [] v = ⊥
OfSome (t ∷ ts) v = IsVertexOf t v ⊎ OfSome ts v

pub some_bounded : (ts : List Tree) → Bounded (OfSome ts)
some_bounded [] = of_none {X = Vertex}
some_bounded (t ∷ ts) = of_either (IsVertexOf t) (OfSome ts) (vertices_bounded t) (some_bounded ts)

pub of_number : (ts : List Tree) (i : ℕ) (v : Vertex) → (graph_at (graphs_of ts) i).vertex v → OfSome ts v
of_number [] i v h = absurd h
of_number (t ∷ ts) zero v h = inl h
of_number (t ∷ ts) (suc i) v h = inr (of_number ts i v h)

one_least : (P : Edge → Type 0) (e f : Edge) → IsLeast P e → IsLeast P f → e ≡ f
one_least P e f (has, least) (has', least') = elim (order.compared edge_cmp edge_total edge_tied e f) [
  | inl same ↦ same
  | inr apart ↦ elim apart [ inl before ↦ absurd (least' e has before) | inr after ↦ absurd (least f has' after) ]
]

abbrev pub IsTellingOnce : {X : Type 0} → (X → ℕ × Vertex × Edge) → Type 0
IsTellingOnce {X} at = (x y : X) → at x ≡ at y → x ≡ y

module _ {X : Type 0} (at : X → ℕ × Vertex × Edge) (once : IsTellingOnce at) (base : Tree) (vs : List Tree) where
  abbrev M : Graph
  M = merged_of_all base vs

  abbrev Own : ℕ → Graph
  Own i = graph_at (graphs_of vs) i

  abbrev Is : X → Type 0
  Is x = IsConflictOf (graph_of base) (graphs_of vs) (at x).0 (at x).1 (at x).2

  abbrev Before : X → X → Type 0
  Before x y = ComesFirst (at x).0 (at x).1 (at y).0 (at y).1

  -- within bounds
  abbrev Tells : ℕ → Vertex → Edge → X → Type 0
  Tells i v e x = at x ≡ (i, v, e)

  abbrev AtPoint : ℕ → Vertex → X → Type 0
  AtPoint i v x = (e : Edge) × M.edge e × Tells i v e x

  abbrev OfVariant : ℕ → X → Type 0
  OfVariant i x = (v : Vertex) × OfSome vs v × AtPoint i v x

  abbrev MayBe : X → Type 0
  MayBe x = (i : ℕ) × (i < length (graphs_of vs)) × OfVariant i x

  may_be : (x : X) → Is x → MayBe x
  may_be x (stands, least) = (
    (at x).0,
    number_within (graphs_of vs) (at x).0 (at x).1 stands.0.0,
    ((at x).1, of_number vs (at x).0 (at x).1 stands.0.0, ((at x).2, least.0.0.0, refl)),
  )

  one_told : (i : ℕ) (v : Vertex) (e : Edge) → Bounded (Tells i v e)
  one_told i v e = of_alone (Tells i v e) (λ x y a b. once x y (a ∙ sym b))

  bounded : Bounded Is
  bounded =
      of_within Is MayBe may_be
      (of_each (λ i. i < length (graphs_of vs)) OfVariant (below_bounded (length (graphs_of vs)))
      (λ i _. of_each (OfSome vs) (AtPoint i) (some_bounded vs)
      (λ v _. of_each M.edge (Tells i v) (merged_bounded base vs)
      (λ e _. one_told i v e))))

  -- two conflicts at one point of one variant are the same
  one_conflict : (x y : X) → Is x → Is y → (at x).0 ≡ (at y).0 → (at x).1 ≡ (at y).1 → x ≡ y
  one_conflict x y is_x is_y number point =
      let least : IsLeast (IsAdded M (Own (at y).0) (at y).1) (at x).2 =
      subst (λ (v : Vertex). IsLeast (IsAdded M (Own (at y).0) v) (at x).2) point
      (subst (λ (i : ℕ). IsLeast (IsAdded M (Own i) (at x).1) (at x).2) number is_x.1) in
      let edge : (at x).2 ≡ (at y).2 = one_least (IsAdded M (Own (at y).0) (at y).1) (at x).2 (at y).2 least is_y.1 in
      once x y (λ i. (number i, point i, edge i))

  which : (x y : X) → Is x → Is y → (x ≡ y) ⊎ (Before x y ⊎ Before y x)
  which x y is_x is_y = elim (compared (at x).0 (at y).0) [
    | inl first ↦ inr (inl (inl first))
    | inr rest ↦ elim rest [
      | inl same ↦ elim (order.compared vertex_cmp vertex_total vertex_tied (at x).1 (at y).1) [
        | inl point ↦ inl (one_conflict x y is_x is_y same point)
        | inr apart ↦ elim apart [ inl before ↦ inr (inl (inr (same, before))) | inr after ↦ inr (inr (inr (sym same, after))) ]
      ]
      | inr second ↦ inr (inr (inl second))
    ]
  ]

  pub some_conflicts_by : ¬ (¬ ((xs : List X) × AreConflictsBy at (graph_of base) (graphs_of vs) xs))
  some_conflicts_by =
      order.in_order Before Is (λ x y z _ _ _ h k. through (at x).0 (at y).0 (at z).0 (at x).1 (at y).1 (at z).1 h k)
      (λ x y is_x is_y n. n (which x y is_x is_y)) bounded

-- conflicts of two variants are told once
pub one_side : (s t : Side) → number_of s ≡ number_of t → s ≡ t
one_side A A e = refl
one_side A B e = absurd (omega (arith, e))
one_side B A e = absurd (omega (arith, e))
one_side B B e = refl

pub told_once : IsTellingOnce told_as
told_once c d e =
    let side : c.side ≡ d.side = one_side c.side d.side (ap (λ (t : ℕ × Vertex × Edge). t.0) e) in
    let point : c.point ≡ d.point = ap (λ (t : ℕ × Vertex × Edge). t.1) e in
    let edge : c.edge ≡ d.edge = ap (λ (t : ℕ × Vertex × Edge). t.2) e in
    (λ i. record { side = side i; point = point i; edge = edge i })

pub some_conflicts : (base a b : Tree) → ¬ (¬ ((cs : List Conflict) × AreConflicts (graph_of base) (graph_of a) (graph_of b) cs))
some_conflicts base a b = some_conflicts_by told_as told_once base (a ∷ b ∷ [])
