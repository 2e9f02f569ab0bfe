use Rattle.std.proofs.Common.{◌≡◌}
use Rattle.hpr_syntax.specs.Print.{text}
use Rattle.hpr_graph.specs.Answer.{printed}
use Rattle.hpr_inputs.specs.Decision.{prints}
use Rattle.hpr_decisions.specs.Integrate.{IsReported}
use Rattle.hpr_inputs.specs.declared.answer.Kind.TheVariants as kind
use Rattle.hpr_app.proofs.IntegrateLemmas.{program_merges, stop_merges}
use Rattle.hpr_app.proofs.integrate.integrate_versions.Goals as goal

pub returns-in-Ok : goal.returns-in-Ok
returns-in-Ok c =
    let v = c.args.versions.now in
    let e = c.in-Ok.ensures in
    program_merges c.args.base.now c.args.a.now c.args.b.now v.base v.a v.b c.args.tries (λ d. IsReported v.base v.a v.b c.args.tries d) (λ x d none answer is. (x, answer, is))
    (λ d. d ≡ prints kind.Done (text c.in-Ok.merged)) c.print_program.result e.within (λ d is. (printed c.in-Ok.merged, e.printed, is)) c.print_program.ensures

pub returns-in-Err : goal.returns-in-Err
returns-in-Err c =
    let v = c.args.versions.now in
    let e = c.in-Err.ensures in
    stop_merges c.args.base.now c.args.a.now c.args.b.now v.base v.a v.b c.args.tries (λ d. IsReported v.base v.a v.b c.args.tries d) (λ x d none answer is. (x, answer, is))
    c.in-Err.stop c.stopped.result e.too_many e.within e.interference e.no_program e.spent c.stopped.ensures
