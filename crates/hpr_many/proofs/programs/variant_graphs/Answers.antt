use Rattle.std.proofs.Common.{◌≡◌, ◌+◌, ℕ, Vec, Global}
use Rattle.std.proofs.lemmas.Result.{err_from_is_err_and}
use Rattle.hpr_graph.specs.Numbered.{Numbered}
use Rattle.hpr_engine.specs.Limit.{HasTooManyEdges}
use Rattle.hpr_many.specs.Answers.{IsFirstTooLargeVariant}
use Rattle.hpr_many.proofs.InLimit.{first_large, made_all, made_next}
use Rattle.hpr_many.proofs.Refused.{too_many_passed}
use Rattle.hpr_many.proofs.programs.variant_graphs.Goals as goal

pub returns-in_err-graph-clause-too_many : goal.returns-in_err-graph-clause-too_many
returns-in_err-graph-clause-too_many c =
    let vs = c.args.variants.now in
    let v = c.index-variants-at.result in
    let number = c.loop-at.at + 1 in
    let first : (n : ℕ) → (n ≡ number) × HasTooManyEdges v → IsFirstTooLargeVariant vs n =
    λ n (same, large). first_large vs c.loop-at.at c.loop-at.graphs.items c.loop-at.invariant v c.loop-at-test.true c.index-variants-at.is n same large in
    let p = err_from_is_err_and c.from_residual.result c.from_residual.ensures.1 in
    rw (p.1, p.2) (too_many_passed Numbered (Vec Numbered Global) c.in_err-graph.field-0.0 (λ n. (n ≡ number) × HasTooManyEdges v) (IsFirstTooLargeVariant vs) first c.in_err-graph.ensures.too_many)

pub loop-at-preserved : goal.loop-at-preserved
loop-at-preserved c =
    let made = c.in_ok-graph.ensures in
    made_next c.args.variants.now c.loop-at.at c.loop-at.graphs.items c.loop-at.invariant c.index-variants-at.result c.loop-at-test.true c.index-variants-at.is c.in_ok-graph.graph c.push_graph.new.graphs.items
    (record { program = made.program; numbered = made.numbered; same = made.graph }) made.within c.in_ok-push_graph.ensures

pub returns-clause-graphs : goal.returns-clause-graphs
returns-clause-graphs c = made_all c.args.variants.now c.loop-at.at c.loop-at.graphs.items c.loop-at.invariant c.loop-at-test.false
