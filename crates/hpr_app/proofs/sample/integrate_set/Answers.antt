use Rattle.std.proofs.Common.{◌≡◌, codes}
use Rattle.hpr_terms.specs.declared.limits.TheConstants.{DEFAULT_TRIES}
use Rattle.hpr_graph.specs.Answer.{printed}
use Rattle.hpr_inputs.specs.Decision.{prints}
use Rattle.hpr_inputs.specs.declared.answer.Kind.TheVariants as kind
use Rattle.hpr_decisions.specs.Sampled.{IsSampled, sample_line}
use Rattle.hpr_app.proofs.IntegrateLemmas.{program_merges, stop_merges}
use Rattle.hpr_app.proofs.SampleLemmas.{unprinted_sampled}
use Rattle.hpr_app.proofs.sample.integrate_set.Goals as goal

pub returns-in-Ok : goal.returns-in-Ok
returns-in-Ok c =
    let v = c.args.set.now in
    let m = c.in-Ok.merged in
    let e = c.in-Ok.ensures in
    program_merges (codes "base") (codes "A") (codes "B") v.base v.a v.b DEFAULT_TRIES (λ d. IsSampled c.args.seed c.args.parts v.base v.a v.b d)
    (unprinted_sampled c.args.seed c.args.parts v.base v.a v.b)
    (λ d. d ≡ prints kind.Done (sample_line c.args.seed c.args.parts v.base v.a v.b m)) c.show_parts.result e.within (λ d is. (printed m, e.printed, is)) c.show_parts.ensures

pub returns-in-Err : goal.returns-in-Err
returns-in-Err c =
    let v = c.args.set.now in
    let e = c.in-Err.ensures in
    stop_merges (codes "base") (codes "A") (codes "B") v.base v.a v.b DEFAULT_TRIES (λ d. IsSampled c.args.seed c.args.parts v.base v.a v.b d)
    (unprinted_sampled c.args.seed c.args.parts v.base v.a v.b)
    c.in-Err.stop c.stopped.result e.too_many e.within e.interference e.no_program e.spent c.stopped.ensures
