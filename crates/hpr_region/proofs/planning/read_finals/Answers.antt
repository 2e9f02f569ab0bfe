use borrow.Author.Count.{below_more}
use Rattle.std.proofs.Common.{◌≡◌, ℕ, List, Some, slice_get, arith, sym, ◌∙◌, subst}
use Rattle.std.proofs.lemmas.Option.{slice_get_within}
use Rattle.hpr_terms.specs.Names.{IsVariable}
use Rattle.hpr_terms.proofs.Facts.{place_of}
use Rattle.hpr_graph.specs.declared.vertex.Vertex.TheVariants.{Final}
use Rattle.hpr_order.proofs.ListFacts.{one_get}
use Rattle.hpr_order.proofs.Steps.{read_of}
use Rattle.hpr_region.proofs.planning.read_finals.Goals as goal

pub loop-vertex-preserved : goal.loop-vertex-preserved
loop-vertex-preserved c = λ k x within at.
    let vs = c.args.vertices.now in
    below_more (λ (n : ℕ). (y : List ℕ) → slice_get vs n ≡ Some (Final y) → IsVariable y) c.loop-vertex.vertex-index
    (λ n lt y e. c.loop-vertex.invariant n y lt e)
    (λ y e.
    let is : c.vertex-item.result ≡ Final y = one_get vs c.loop-vertex.vertex-index c.vertex-item.result (Final y) (read_of vs c.loop-vertex.vertex-index c.vertex-item.result c.loop-vertex-test.true c.vertex-item.is) e in
    let both : Final c.in-Final.name ≡ Final y = sym c.in-Final.is ∙ is in
    let same : c.in-Final.name ≡ y = cc in
    subst IsVariable same c.text-text.ensures.variable)
    k within x at

pub loop-vertex-preserved-in_default : goal.loop-vertex-preserved-in_default
loop-vertex-preserved-in_default c = λ k x within at.
    let vs = c.args.vertices.now in
    below_more (λ (n : ℕ). (y : List ℕ) → slice_get vs n ≡ Some (Final y) → IsVariable y) c.loop-vertex.vertex-index
    (λ n lt y e. c.loop-vertex.invariant n y lt e)
    (λ y e.
    absurd (c.in_default.not-Final y
    (one_get vs c.loop-vertex.vertex-index c.vertex-item.result (Final y) (read_of vs c.loop-vertex.vertex-index c.vertex-item.result c.loop-vertex-test.true c.vertex-item.is) e)))
    k within x at

pub returns : goal.returns
returns c = λ x h.
    let (k, at) = place_of c.args.vertices.now (Final x) h in
    c.loop-vertex.invariant k x (let lt = slice_get_within c.args.vertices.now k (Final x) at in omega (arith, lt, c.loop-vertex-test.false)) at
