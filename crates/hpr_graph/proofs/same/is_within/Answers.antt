use Rattle.std.proofs.Common.{◌≡◌, ◌∙◌, ℕ, ◌<◌, true, Some, List, length, get_or, slice_get, ap, sym, subst, refl, arith, below_more}
use Rattle.std.proofs.lemmas.Option.{slice_get-get_or, slice_get_within}
use Rattle.hpr_graph.specs.declared.vertex.Vertex.{Vertex}
use Rattle.hpr_graph.specs.Twins.{IsSomeLink}
use Rattle.hpr_graph.proofs.Lists.{never}
use Rattle.hpr_graph.proofs.Twinned.{IsVertexWithin, within_from_twins, twins_from_within, read_twins}
use Rattle.hpr_graph.proofs.same.is_within.Goals as goal

pub is_row_within-requires-clause-row : goal.is_row_within-requires-clause-row
is_row_within-requires-clause-row c = λ l h.
    subst (λ (vs : List Vertex). IsSomeLink vs l) (sym c.vertices-vertices.ensures.vertices) (let (e, is) = c.edges_into.ensures.links l h in (c.loop-at.at, e, is))

here : (vs us ws : List Vertex) (i j : ℕ) (v : Vertex) → vs ≡ ws → i < length vs → v ≡ get_or vs i v → slice_get us j ≡ Some v → slice_get us j ≡ slice_get ws i
here vs us ws i j v e l is there = there ∙ ap Some is ∙ sym (slice_get-get_or vs i v l) ∙ ap (λ (xs : List Vertex). slice_get xs i) e

pub returns-then-not-is_row_within : goal.returns-then-not-is_row_within
returns-then-not-is_row_within c = (
  λ t. absurd (never _ t refl),
  λ w.
      (let same = here _ c.args.other.now.vertices _ c.loop-at.at c.in-Some.there _ c.vertices-vertices.ensures.vertices c.loop-at-test.true c.index-vertices-at.is c.in-Some.ensures.found in
      let twins = twins_from_within c.args.graph.now c.args.other.now c.vertices-vertices.ensures.numbered c.edges_into-in-loop-at.ensures.numbered w c.loop-at.at c.in-Some.there same in
      let read = read_twins c.args.graph.now c.args.other.now _ _ _ _ c.loop-at.at c.in-Some.there c.vertices-vertices.ensures.vertices refl c.edges_into.ensures.row c.edges_into-in-loop-at.ensures.row in
      let within : c.is_row_within.result ≡ true = c.is_row_within.ensures.1 (read.1 twins) in
      sym c.if-not-is_row_within.true ∙ within),
)

pub loop-at-preserved : goal.loop-at-preserved
loop-at-preserved c =
    below_more (λ i. IsVertexWithin c.args.graph.now c.args.other.now i) c.loop-at.at c.loop-at.invariant (
      c.in-Some.there,
      here _ c.args.other.now.vertices _ c.loop-at.at c.in-Some.there _ c.vertices-vertices.ensures.vertices c.loop-at-test.true c.index-vertices-at.is c.in-Some.ensures.found,
      (read_twins c.args.graph.now c.args.other.now _ _ _ _ c.loop-at.at c.in-Some.there c.vertices-vertices.ensures.vertices refl c.edges_into.ensures.row c.edges_into-in-loop-at.ensures.row).0
          (c.is_row_within.ensures.0 c.if-not-is_row_within.false),
    )

pub returns : goal.returns
returns c =
    let all : length c.vertices-vertices.result.now ≡ length c.args.graph.now.vertices = ap length c.vertices-vertices.ensures.vertices in
    (λ t. within_from_twins c.args.graph.now c.args.other.now (λ i l. c.loop-at.invariant i (omega (arith, l, all, c.loop-at-test.false))), λ w. refl)

pub edges_into-requires : goal.edges_into-requires
edges_into-requires c = subst (λ (vs : List Vertex). c.loop-at.at < length vs) c.vertices-vertices.ensures.vertices c.loop-at-test.true

pub edges_into-requires-in-loop-at : goal.edges_into-requires-in-loop-at
edges_into-requires-in-loop-at c = slice_get_within _ _ _ c.in-Some.ensures.found
