use Rattle.std.proofs.Common.{◌≡◌, ◌∷◌, Vec, Global}
use Rattle.std.proofs.lemmas.Result.{err_from_is_err_and}
use Rattle.hpr_graph.specs.Numbered.{Numbered}
use Rattle.hpr_engine.specs.Limit.{HasTooManyEdges, IsFirstTooLargeOf}
use Rattle.hpr_many.specs.Answers.{IsFirstTooLargeVariant}
use Rattle.hpr_many.specs.declared.programs.Graphs.{Graphs}
use Rattle.hpr_many.proofs.InLimit.{base_large, variant_large, within_more}
use Rattle.hpr_many.proofs.Refused.{interference_passed, too_many_passed}
use Rattle.hpr_many.proofs.programs.limited_graphs.Goals as goal

pub returns-in_err-base_graph-clause-too_many : goal.returns-in_err-base_graph-clause-too_many
returns-in_err-base_graph-clause-too_many c =
    let base = c.args.base.now in
    let vs = c.args.variants.now in
    let p = err_from_is_err_and c.from_residual.result c.from_residual.ensures.1 in
    rw (p.1, p.2) (too_many_passed Numbered Graphs c.in_err-base_graph.field-0.0 (λ n. (n ≡ 0) × HasTooManyEdges base) (IsFirstTooLargeOf (base ∷ vs)) (λ n (same, large). base_large base vs n same large)
    c.in_err-base_graph.ensures.too_many)

pub returns-in_err-base_graph-clause-no_interference : goal.returns-in_err-base_graph-clause-no_interference
returns-in_err-base_graph-clause-no_interference c =
    let p = err_from_is_err_and c.from_residual.result c.from_residual.ensures.1 in
    rw (p.1, p.2) (interference_passed Numbered Graphs c.in_err-base_graph.field-0.0 (λ _. ⊥) c.in_err-base_graph.ensures.no_interference)

pub returns-in_err-base_graph-clause-unsearched : goal.returns-in_err-base_graph-clause-unsearched
returns-in_err-base_graph-clause-unsearched c =
    let p = err_from_is_err_and c.from_residual.result c.from_residual.ensures.1 in
    rw (p.1, p.2) c.in_err-base_graph.ensures.unsearched

pub returns-in_err-graphs-clause-too_many : goal.returns-in_err-graphs-clause-too_many
returns-in_err-graphs-clause-too_many c =
    let base = c.args.base.now in
    let vs = c.args.variants.now in
    let p = err_from_is_err_and c.from_residual-in_err-graphs.result c.from_residual-in_err-graphs.ensures.1 in
    rw (p.1, p.2) (too_many_passed (Vec Numbered Global) Graphs c.in_err-graphs.field-0.0 (IsFirstTooLargeVariant vs) (IsFirstTooLargeOf (base ∷ vs)) (λ n large. variant_large base vs n c.in_ok-base_graph.ensures.within large)
    c.in_err-graphs.ensures.too_many)

pub returns-in_err-graphs-clause-no_interference : goal.returns-in_err-graphs-clause-no_interference
returns-in_err-graphs-clause-no_interference c =
    let p = err_from_is_err_and c.from_residual-in_err-graphs.result c.from_residual-in_err-graphs.ensures.1 in
    rw (p.1, p.2) (interference_passed (Vec Numbered Global) Graphs c.in_err-graphs.field-0.0 (λ _. ⊥) c.in_err-graphs.ensures.no_interference)

pub returns-in_err-graphs-clause-unsearched : goal.returns-in_err-graphs-clause-unsearched
returns-in_err-graphs-clause-unsearched c =
    let p = err_from_is_err_and c.from_residual-in_err-graphs.result c.from_residual-in_err-graphs.ensures.1 in
    rw (p.1, p.2) c.in_err-graphs.ensures.unsearched

pub returns-clause-base : goal.returns-clause-base
returns-clause-base c =
    let made = c.in_ok-base_graph.ensures in
    record { program = made.program; numbered = made.numbered; same = made.graph }

pub returns-clause-variants : goal.returns-clause-variants
returns-clause-variants c = c.in_ok-graphs.ensures.graphs

pub returns-clause-within : goal.returns-clause-within
returns-clause-within c = within_more c.args.base.now c.args.variants.now c.in_ok-base_graph.ensures.within c.in_ok-graphs.ensures.within
