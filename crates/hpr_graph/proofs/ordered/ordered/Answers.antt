use Rattle.std.proofs.Common.{◌≡◌, ◌<◌, ◌↔◌, ◌⊎◌, ℕ, Option, List, Contains, length, sym, ◌∙◌, subst}
use Rattle.hpr_graph.specs.declared.vertex.Vertex.{Vertex}
use Rattle.hpr_graph.specs.Graphs.{IsOnce}
use Rattle.hpr_graph.specs.InOrder.{Ascends}
use Rattle.hpr_graph.specs.Numbered.{HasEdge}
use Rattle.hpr_graph.specs.Moves.{ArePlaced, HasNumber, MovesEdge}
use Rattle.hpr_graph.specs.Order.{vertex_cmp}
use Rattle.hpr_graph.proofs.Joined.{no_link}
use Rattle.hpr_graph.proofs.Reordered.{reordered_vertices, reordered_same, ascending_vertices_once}
use Rattle.hpr_graph.proofs.ordered.ordered.Goals as goal

members : (vs us ws xs : List Vertex) → us ≡ vs → xs ≡ ws → ((v : Vertex) → Contains ws v ↔ Contains vs v) → (v : Vertex) → Contains us v → Contains xs v
members vs us ws xs e f all v h = subst (λ (ys : List Vertex). Contains ys v) (sym f) ((all v).1 (subst (λ (ys : List Vertex). Contains ys v) e h))

read : (vs us ws : List Vertex) → us ≡ vs → ((v : Vertex) → Contains ws v ↔ Contains us v) → (v : Vertex) → Contains ws v ↔ Contains vs v
read vs us ws e all = subst (λ (ys : List Vertex). (v : Vertex) → Contains ws v ↔ Contains ys v) e all

pub numbers_among-requires-clause-all : goal.numbers_among-requires-clause-all
numbers_among-requires-clause-all c =
    members c.args.graph.now.vertices c.vertices-2.result.now c.in_ok-vertices.vertices.items c.deref.result.now c.vertices-2.ensures.vertices c.deref.ensures.value
    (read _ _ _ c.vertices.ensures.vertices c.in_ok-vertices.ensures.same)

pub returns-clause-vertices : goal.returns-clause-vertices
returns-clause-vertices c =
    reordered_vertices c.args.graph.now c.in_ok-draft.draft c.add_edges.new.target c.finish.result c.in_ok-vertices.vertices.items c.in_ok-numbers.numbers.items
    c.in_ok-draft.ensures.vertices c.in_ok-add_edges.ensures.vertices c.finish.ensures.vertices
    c.in_ok-vertices.ensures.ascend (read _ _ _ c.vertices.ensures.vertices c.in_ok-vertices.ensures.same)

pub returns-clause-same : goal.returns-clause-same
returns-clause-same c =
    reordered_same c.args.graph.now c.in_ok-draft.draft c.add_edges.new.target c.finish.result c.in_ok-vertices.vertices.items c.in_ok-numbers.numbers.items
    c.in_ok-draft.ensures.vertices (λ e (to, l, has, is). c.in_ok-draft.ensures.none to l has) c.in_ok-add_edges.ensures.vertices
    (λ e. subst (λ (ns : List (Option ℕ)). HasEdge c.add_edges.new.target e ↔ (HasEdge c.in_ok-draft.draft e ⊎ MovesEdge c.args.graph.now ns e)) c.deref-2.ensures.value (c.in_ok-add_edges.ensures.edges e))
    c.finish.ensures.vertices c.finish.ensures.links
    (read _ _ _ c.vertices.ensures.vertices c.in_ok-vertices.ensures.same)
    (subst (λ (us : List Vertex). ArePlaced c.args.graph.now.vertices c.in_ok-numbers.numbers.items us) c.deref.ensures.value
    (subst (λ (vs : List Vertex). ArePlaced vs c.in_ok-numbers.numbers.items c.deref.result.now) c.vertices-2.ensures.vertices c.in_ok-numbers.ensures.placed))
    (subst (λ (vs : List Vertex). (i : ℕ) → i < length vs → HasNumber c.in_ok-numbers.numbers.items i) c.vertices-2.ensures.vertices c.in_ok-numbers.ensures.all)

pub add_edges-requires-clause-known : goal.add_edges-requires-clause-known
add_edges-requires-clause-known c = λ at l. (
  λ h. absurd (no_link c.empty.result c.empty.ensures.links at l h),
  λ h. absurd (c.in_ok-draft.ensures.none at l h),
)

pub from_vertices-requires : goal.from_vertices-requires
from_vertices-requires c = ascending_vertices_once c.in_ok-vertices.vertices.items c.in_ok-vertices.ensures.ascend

pub sorted_vertices-requires : goal.sorted_vertices-requires
sorted_vertices-requires c = subst IsOnce (sym c.vertices.ensures.vertices) c.requires.once

pub numbers_among-requires-clause-ascend : goal.numbers_among-requires-clause-ascend
numbers_among-requires-clause-ascend c = subst (Ascends vertex_cmp) (sym c.deref.ensures.value) c.in_ok-vertices.ensures.ascend

pub add_edges-requires-clause-placed : goal.add_edges-requires-clause-placed
add_edges-requires-clause-placed c =
    subst (λ (ns : List (Option ℕ)). ArePlaced c.args.graph.now.vertices ns c.in_ok-draft.draft.vertices) (sym c.deref-2.ensures.value)
    (subst (λ (us : List Vertex). ArePlaced c.args.graph.now.vertices c.in_ok-numbers.numbers.items us) (c.deref.ensures.value ∙ sym c.in_ok-draft.ensures.vertices)
    (subst (λ (vs : List Vertex). ArePlaced vs c.in_ok-numbers.numbers.items c.deref.result.now) c.vertices-2.ensures.vertices c.in_ok-numbers.ensures.placed))

pub returns-clause-rows : goal.returns-clause-rows
returns-clause-rows c = c.finish.ensures.rows
