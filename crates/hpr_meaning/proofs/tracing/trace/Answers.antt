use Rattle.std.proofs.Common.{[], ap, ◌∙◌}
use Rattle.hpr_run.specs.Observed.{walk, known_in}
use Rattle.hpr_meaning.specs.Notes.{Notes, tracing}
use Rattle.hpr_meaning.proofs.TraceWalk.{items_told}
use Rattle.hpr_meaning.proofs.tracing.trace.Goals as goal

pub returns-clause-items : goal.returns-clause-items
returns-clause-items c =
    let p = c.args.program.now in
    let s = c.args.state.now in
    let n = c.args.most in
    c.into_items.ensures
    ∙ ap (λ (m : Notes). m.items) (c.in_ok-outcome.ensures.known
    ∙ ap (λ x. known_in (walk tracing p.body x c.new-memo.result s n)) c.new-around.ensures
    ∙ ap (λ (m : Notes). known_in (walk tracing p.body [] m s n)) c.new-memo.ensures)
    ∙ items_told p s n
