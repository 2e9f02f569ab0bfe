use Rattle.hpr_terms.specs.declared.limits.TheConstants.{DEFAULT_TRIES}
use Rattle.hpr_graph.specs.Answer.{printed}
use Rattle.hpr_decisions.specs.TrialFiles.{IsTried, IsTrialOf}
use Rattle.hpr_app.proofs.IntegrateLemmas.{program_merges, stop_merges}
use Rattle.hpr_app.proofs.TrialLemmas.{unprinted_tried}
use Rattle.hpr_app.proofs.trial.try_versions.Goals as goal

pub returns-in-Ok : goal.returns-in-Ok
returns-in-Ok c =
    let v = c.args.versions.now in
    let s = c.args.state.now in
    let n = c.args.steps in
    let m = c.in-Ok.merged in
    let e = c.in-Ok.ensures in
    program_merges c.args.base.now c.args.a.now c.args.b.now v.base v.a v.b DEFAULT_TRIES (λ d. IsTried v.base v.a v.b s n d) (unprinted_tried v.base v.a v.b s n)
    (λ d. IsTrialOf v.base v.a v.b m s n d) c.try_merged.result e.within (λ d is. (printed m, e.printed, is)) c.try_merged.ensures

pub returns-in-Err : goal.returns-in-Err
returns-in-Err c =
    let v = c.args.versions.now in
    let s = c.args.state.now in
    let n = c.args.steps in
    let e = c.in-Err.ensures in
    stop_merges c.args.base.now c.args.a.now c.args.b.now v.base v.a v.b DEFAULT_TRIES (λ d. IsTried v.base v.a v.b s n d) (unprinted_tried v.base v.a v.b s n)
    c.in-Err.stop c.stopped.result e.too_many e.within e.interference e.no_program e.spent c.stopped.ensures
