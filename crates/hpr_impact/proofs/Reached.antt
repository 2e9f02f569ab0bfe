-- The vertices that are reached are vertices.
use Rattle.std.proofs.Common.{ℕ, ◌<◌, Bool, List, [], ◌∷◌, Contains, length, subst}
use Rattle.std.proofs.lemmas.Option.{slice_get_within}
use Rattle.hpr_graph.specs.declared.vertex.Vertex.{Vertex}
use Rattle.hpr_graph.specs.declared.edge.Edge.{Edge}
use Rattle.hpr_graph.specs.Graphs.{Same, restrict_to}
use Rattle.hpr_graph.specs.InOrder.{AreVerticesOf}
use Rattle.hpr_graph.specs.Numbered.{Numbered, HasVertex, IsMarkedVertex, IsOneOf, graph_in}
use Rattle.hpr_graph.specs.Slices.{IsReached, LeadsTo}
use Rattle.hpr_graph.proofs.Laws.{closed_by_numbers}
use Rattle.hpr_graph.proofs.Lists.{contains_at, place_of}
use Rattle.hpr_report.specs.AffectedText.{ArePoints, IsAffectedText}
use Rattle.hpr_slice.specs.Vertices.{MarksExactly}

led_there : (g : Numbered) (a : Vertex) (es : List Edge) (v : Vertex) → HasVertex g a → LeadsTo (graph_in g) a es v → HasVertex g v
led_there g a [] v has is = subst (HasVertex g) is has
led_there g a (e ∷ es) v has (edge, kind, from, rest) = led_there g e.to es v (closed_by_numbers g e edge).0 rest

reached_there : (g : Numbered) (ns : List ℕ) (v : Vertex) → IsReached (graph_in g) (IsOneOf g ns) v → HasVertex g v
reached_there g ns v (s, es, (at, listed, at_s), leads) = led_there g s es v (contains_at g.vertices at s at_s) leads

-- what was restricted to their marks, in order
pub reached_kept : (g : Numbered) (ns : List ℕ) (marks : List Bool) (kept : Numbered) (vs : List Vertex) → MarksExactly g (IsReached (graph_in g) (IsOneOf g ns)) marks
    → Same (graph_in kept) (restrict_to (graph_in g) (IsMarkedVertex g marks)) → AreVerticesOf (graph_in kept) vs → ArePoints (IsReached (graph_in g) (IsOneOf g ns)) vs
reached_kept g ns marks kept vs exact same (up, all) = (
  up,
  λ v. (
    λ has. (let (at, at_v, marked) = ((same.0 v).0 ((all v).0 has)).1 in (exact.exact at v at_v).0 marked),
    λ reached.
        (let there = reached_there g ns v reached in
        let (at, at_v) = place_of g.vertices v there in
        (all v).1 ((same.0 v).1 (there, (at, at_v, (exact.exact at v at_v).1 reached)))),
  ),
)

-- the text of all vertices of a graph
pub text_of_all : (P : Vertex → Type 0) (kept : Numbered) (all : List ℕ) (text : List ℕ) → ArePoints P kept.vertices → ((n : ℕ) → n < length kept.vertices → Contains all n) → IsAffectedText (IsOneOf kept all) text → IsAffectedText P text
text_of_all P kept all text are each (vs, (up, exact), is) = (
  vs,
  (
    up,
    λ v. (
      λ has. (let (at, listed, at_v) = (exact v).0 has in (are.1 v).0 (contains_at kept.vertices at v at_v)),
      λ p. (let (at, at_v) = place_of kept.vertices v ((are.1 v).1 p) in (exact v).1 (at, each at (slice_get_within kept.vertices at v at_v), at_v)),
    ),
  ),
  is,
)
