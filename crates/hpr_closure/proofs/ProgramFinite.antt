-- The graph of a program is finite.
use Rattle.std.proofs.Common.{◌≡◌, ℕ, Bool, true, false, inl, inr, ◌⊎◌, None, List, [], ◌∷◌, Contains, refl, sym, subst}
use Rattle.hpr_terms.specs.declared.tag.Tag.{Tag}
use Rattle.hpr_syntax.specs.Contents.{UsesIn, used_names}
use Rattle.hpr_syntax.proofs.ActByUses.{uses_in}
use Rattle.hpr_syntax.specs.declared.rows.Content.{Content}
use Rattle.hpr_syntax.specs.Initial.{UsedBy}
use Rattle.hpr_syntax.specs.Nests.{Says}
use Rattle.hpr_syntax.specs.Skeleton.{Point, enter, at, exit}
use Rattle.hpr_syntax.specs.Tree.{Tree}
use Rattle.hpr_graph.specs.declared.vertex.Vertex.{Vertex}
use Rattle.hpr_graph.specs.declared.vertex.Vertex.TheVariants.{Entry, Init, Part, Final}
use Rattle.hpr_graph.specs.declared.edge.Kind.{Kind}
use Rattle.hpr_graph.specs.declared.edge.Kind.TheVariants.{Control, Independent, Carried, Order}
use Rattle.hpr_graph.specs.declared.edge.Edge.{Edge}
use Rattle.hpr_graph.specs.Answer.{graphs_of}
use Rattle.hpr_graph.specs.Graphs.{OnThird}
use Rattle.hpr_graph.specs.ProgramGraph.{HasFlow, IsVertexOf, IsEdgeBy, IsEdgeOf, graph_of}
use Rattle.hpr_paths.proofs.Says.{standing_of_says}
use Rattle.hpr_graph.specs.Whole.{AreAll, IsFinite}
use Rattle.hpr_graph.proofs.Laws.{used_by_reads}
use Rattle.hpr_closure.proofs.Decisions.{listed_by}
use Rattle.hpr_closure.proofs.EdgesDecided.{vertex_of_decided, edge_of_decided}
use Rattle.hpr_closure.proofs.Gathered.{IsGathered, of_one, of_within, of_either, of_list, of_each}
use Rattle.hpr_closure.proofs.ProgramWhole.{program_ends}
use Rattle.hpr_closure.proofs.TreeDecided.{Stood, standings, stands_listed}

of_content : (c : Content) → IsGathered (UsesIn c)
of_content c = (used_names c, λ x h. (uses_in c x).1 h)

module _ (t : Tree) where
  abbrev V : Vertex → Type 0
  V = IsVertexOf t

  -- names
  abbrev UsedAt : Stood → List ℕ → Type 0
  UsedAt r x = UsesIn r.1.content x

  abbrev UsedAtPart : List ℕ → Type 0
  UsedAtPart x = (r : Stood) × Contains (standings [] None t.body) r × UsedAt r x

  abbrev Used : List ℕ → Type 0
  Used x = UsedAtPart x ⊎ Contains t.finals x

  used_bounded : IsGathered Used
  used_bounded =
      of_either UsedAtPart (λ x. Contains t.finals x)
      (of_each (λ r. Contains (standings [] None t.body) r) UsedAt (of_list (standings [] None t.body)) (λ r. of_content r.1.content)) (of_list t.finals)

  used_is : (x : List ℕ) (a : Point) → UsedBy t x a → Used x
  used_is x enter h = absurd h
  used_is x (at v) (c, says, uses) =
      let (s, stands, content) = standing_of_says t.body [] None v c says in
      inl ((v, s), stands_listed t.body [] None v s stands, subst (λ (k : Content). UsesIn k x) (sym content) uses)
  used_is x exit h = inr h

  -- vertices
  abbrev PartIs : Stood → Vertex → Type 0
  PartIs r v = v ≡ Part r.0 r.1.content

  abbrev IsPartOf : Vertex → Type 0
  IsPartOf v = (r : Stood) × Contains (standings [] None t.body) r × PartIs r v

  abbrev IsFinalOf : Vertex → Type 0
  IsFinalOf v = (x : List ℕ) × Contains t.finals x × (v ≡ Final x)

  abbrev IsInitOf : Vertex → Type 0
  IsInitOf v = (x : List ℕ) × Used x × (v ≡ Init x)

  abbrev MayBe : Vertex → Type 0
  MayBe v = (v ≡ Entry) ⊎ (IsPartOf v ⊎ (IsFinalOf v ⊎ IsInitOf v))

  may_bounded : IsGathered MayBe
  may_bounded =
      of_either (λ v. v ≡ Entry) (λ v. IsPartOf v ⊎ (IsFinalOf v ⊎ IsInitOf v)) (of_one Entry)
      (of_either IsPartOf (λ v. IsFinalOf v ⊎ IsInitOf v)
      (of_each (λ r. Contains (standings [] None t.body) r) PartIs (of_list (standings [] None t.body)) (λ r. of_one (Part r.0 r.1.content)))
      (of_either IsFinalOf IsInitOf (of_each (λ x. Contains t.finals x) (λ x v. v ≡ Final x) (of_list t.finals) (λ x. of_one (Final x)))
      (of_each Used (λ x v. v ≡ Init x) used_bounded (λ x. of_one (Init x)))))

  part_is : (l : Tag) (c : Content) → Says t.body l c → IsPartOf (Part l c)
  part_is l c says =
      let (s, stands, content) = standing_of_says t.body [] None l c says in
      ((l, s), stands_listed t.body [] None l s stands, subst (λ (k : Content). Part l k ≡ Part l s.content) content refl)

  may_be : (v : Vertex) → V v → MayBe v
  may_be Entry h = inl refl
  may_be (Init x) (a, marks, path, used) = inr (inr (inr (x, used_is x a used, refl)))
  may_be (Part l c) h = inr (inl (part_is l c h))
  may_be (Final x) h = inr (inr (inl (x, h, refl)))

  vertices_bounded : IsGathered V
  vertices_bounded = of_within V MayBe may_be may_bounded

  -- kinds
  abbrev IsIndependentOf : Kind → Type 0
  IsIndependentOf k = (x : List ℕ) × Used x × (k ≡ Independent x)

  abbrev IsCarriedBy : List ℕ → Kind → Type 0
  IsCarriedBy x k = (w : Vertex) × V w × (k ≡ Carried x w)

  abbrev IsCarriedOf : Kind → Type 0
  IsCarriedOf k = (x : List ℕ) × Used x × IsCarriedBy x k

  abbrev IsOrderOf : Kind → Type 0
  IsOrderOf k = (u : Vertex) × V u × (k ≡ Order u)

  abbrev IsKindOf : Kind → Type 0
  IsKindOf k = (k ≡ Control true) ⊎ ((k ≡ Control false) ⊎ (IsIndependentOf k ⊎ (IsCarriedOf k ⊎ IsOrderOf k)))

  kinds_bounded : IsGathered IsKindOf
  kinds_bounded =
      of_either (λ k. k ≡ Control true) (λ k. (k ≡ Control false) ⊎ (IsIndependentOf k ⊎ (IsCarriedOf k ⊎ IsOrderOf k))) (of_one (Control true))
      (of_either (λ k. k ≡ Control false) (λ k. IsIndependentOf k ⊎ (IsCarriedOf k ⊎ IsOrderOf k)) (of_one (Control false))
      (of_either IsIndependentOf (λ k. IsCarriedOf k ⊎ IsOrderOf k) (of_each Used (λ x k. k ≡ Independent x) used_bounded (λ x. of_one (Independent x)))
      (of_either IsCarriedOf IsOrderOf
      (of_each Used IsCarriedBy used_bounded (λ x. of_each V (λ w k. k ≡ Carried x w) vertices_bounded (λ w. of_one (Carried x w))))
      (of_each V (λ u k. k ≡ Order u) vertices_bounded (λ u. of_one (Order u))))))

  control_kind : (label : Bool) → IsKindOf (Control label)
  control_kind true = inl refl
  control_kind false = inr (inl refl)

  read_used : (x : List ℕ) (from to : Vertex) → HasFlow t x from to → Used x
  read_used x from to (inl (a, z, marks, (defines, reads, path), avoids)) = used_is x z (used_by_reads t x to z reads)
  read_used x from to (inr (w, (a, z, marks, l, c, (defines, reads, path), loop_is, says, around, carries))) = used_is x z (used_by_reads t x to z reads)

  kind_is : (k : Kind) (from to : Vertex) → IsEdgeBy t k from to → OnThird V k → IsKindOf k
  kind_is (Control label) from to h third = control_kind label
  kind_is (Independent x) from to h third = inr (inr (inl (x, read_used x from to (inl h), refl)))
  kind_is (Carried x w) from to h third = inr (inr (inr (inl (x, read_used x from to (inr (w, h)), (w, third, refl)))))
  kind_is (Order u) from to h third = inr (inr (inr (inr (u, third, refl))))

  -- edges
  abbrev edge : Vertex → Vertex → Kind → Edge
  edge to from k = record { to = to; from = from; kind = k }

  abbrev HasKind : Vertex → Vertex → Edge → Type 0
  HasKind to from e = (k : Kind) × IsKindOf k × (e ≡ edge to from k)

  abbrev HasSource : Vertex → Edge → Type 0
  HasSource to e = (from : Vertex) × V from × HasKind to from e

  abbrev MayJoin : Edge → Type 0
  MayJoin e = (to : Vertex) × V to × HasSource to e

  edges_may : IsGathered MayJoin
  edges_may =
      of_each V HasSource vertices_bounded (λ to. of_each V (HasKind to) vertices_bounded (λ from. of_each IsKindOf (λ k e. e ≡ edge to from k) kinds_bounded (λ k. of_one (edge to from k))))

  may_join : (e : Edge) → IsEdgeOf t e → MayJoin e
  may_join e h = let (to, from, third) = program_ends t e h in (e.to, to, (e.from, from, (e.kind, kind_is e.kind e.from e.to h third, refl)))

  pub program_finite : IsFinite (graph_of t)
  program_finite = record {
    edges = let (es, all) = edges_may in listed_by (IsEdgeOf t) (edge_of_decided t) es (λ e h. all e (may_join e h));
    vertices = let (vs, all) = vertices_bounded in listed_by V (vertex_of_decided t) vs all;
  }

pub programs_finite : (vs : List Tree) → AreAll IsFinite (graphs_of vs)
programs_finite [] = tt
programs_finite (t ∷ ts) = (program_finite t, programs_finite ts)
