-- The graphs of programs, and their merged graph, lie within bounds.
use Rattle.std.proofs.Common.{inl, inr, ◌⊎◌, List, [], ◌∷◌}
use Rattle.hpr_syntax.specs.Tree.{Tree}
use Rattle.hpr_graph.specs.declared.edge.Edge.{Edge}
use Rattle.hpr_graph.specs.Answer.{graphs_of, merged_of_all}
use Rattle.hpr_graph.specs.Points.{changed}
use Rattle.hpr_graph.specs.ProgramGraph.{IsVertexOf, IsEdgeOf, graph_of}
use Rattle.hpr_graph.proofs.Bounded.{Bounded, of_none, of_within, of_either}
use Rattle.hpr_closure.proofs.ProgramFinite.{program_finite}

pub vertices_bounded : (t : Tree) → Bounded (IsVertexOf t)
vertices_bounded t n = let (vs, all) = (program_finite t).vertices in n (vs, λ v h. (all v).1 h)

pub edges_bounded : (t : Tree) → Bounded (IsEdgeOf t)
edges_bounded t n = let (es, all) = (program_finite t).edges in n (es, λ e h. (all e).1 h)

-- the edges of the merged graph are edges of one of the programs
abbrev OfSome : List Tree → Edge → Type 0
OfSome [] e = ⊥
OfSome (t ∷ ts) e = IsEdgeOf t e ⊎ OfSome ts e

some_bounded : (ts : List Tree) → Bounded (OfSome ts)
some_bounded [] = of_none {X = Edge}
some_bounded (t ∷ ts) = of_either (IsEdgeOf t) (OfSome ts) (edges_bounded t) (some_bounded ts)

of_changed : (base : Tree) (vs : List Tree) (e : Edge) → (changed (graph_of base) (graphs_of vs)).edge e → OfSome vs e
of_changed base [] e h = absurd h
of_changed base (t ∷ []) e h = inl h.0
of_changed base (t ∷ u ∷ ts) e (inl h) = inl h.0
of_changed base (t ∷ u ∷ ts) e (inr h) = inr (of_changed base (u ∷ ts) e h)

module _ (base : Tree) (vs : List Tree) where
  of_one : (e : Edge) → (merged_of_all base vs).edge e → OfSome (base ∷ vs) e
  of_one e (inl h) = inr (of_changed base vs e h)
  of_one e (inr h) = inl h.0

  pub merged_bounded : Bounded (merged_of_all base vs).edge
  merged_bounded = of_within (merged_of_all base vs).edge (OfSome (base ∷ vs)) of_one (some_bounded (base ∷ vs))
