use Rattle.std.proofs.Common.{◌≡◌, ◌≢◌, ℕ, ◌<◌, List, Some, length, get_or, slice_get, refl, sym, ap, ◌∙◌, arith, below_more}
use Rattle.std.proofs.lemmas.Option.{slice_get_within}
use Rattle.hpr_graph.specs.declared.vertex.Vertex.{Vertex}
use Rattle.hpr_graph.proofs.Lists.{never, some_inj, contains_at, place_of, read_at}
use Rattle.hpr_graph.proofs.vertex.place_of.Goals as goal

here : (vs : List Vertex) (i : ℕ) (v w : Vertex) → i < length vs → v ≡ get_or vs i v → v ≡ w → slice_get vs i ≡ Some w
here vs i v w l is same = read_at vs vs i v refl l is ∙ ap Some same

pub returns-then-same_vertex-clause-found : goal.returns-then-same_vertex-clause-found
returns-then-same_vertex-clause-found c = here _ _ _ _ c.loop-at-test.true c.index-vertices-at.is (c.same_vertex.ensures.0 c.if-same_vertex.true)

pub returns-then-same_vertex-clause-stranger : goal.returns-then-same_vertex-clause-stranger
returns-then-same_vertex-clause-stranger c =
    let found = here _ _ _ _ c.loop-at-test.true c.index-vertices-at.is (c.same_vertex.ensures.0 c.if-same_vertex.true) in
    (λ e. absurd cc, λ none. absurd (none (contains_at c.args.vertices.now c.loop-at.at c.args.vertex.now found)))

pub loop-at-preserved : goal.loop-at-preserved
loop-at-preserved c =
    below_more (λ k. slice_get c.args.vertices.now k ≢ Some c.args.vertex.now) c.loop-at.at c.loop-at.invariant
    (λ e.
    let read = here _ _ _ _ c.loop-at-test.true c.index-vertices-at.is refl in
    never c.same_vertex.result (c.same_vertex.ensures.1 (some_inj _ _ (sym read ∙ e))) c.if-same_vertex.false)

pub returns-clause-stranger : goal.returns-clause-stranger
returns-clause-stranger c = (
  λ e there.
      (let (i, is) = place_of c.args.vertices.now c.args.vertex.now there in
      c.loop-at.invariant i (omega (arith, slice_get_within c.args.vertices.now i c.args.vertex.now is, c.loop-at-test.false)) is),
  λ stranger. refl,
)
