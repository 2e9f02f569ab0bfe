use Rattle.std.proofs.Common.{◌≡◌, map, sym, ◌∙◌}
use Rattle.std.proofs.lemmas.List.{length-map}
use Rattle.hpr_syntax.specs.Print.{text}
use Rattle.hpr_graph.specs.Answer.{printed}
use Rattle.hpr_inputs.specs.Decision.{prints}
use Rattle.hpr_inputs.specs.declared.answer.Kind.TheVariants as kind
use Rattle.hpr_app.proofs.ManyLemmas.{many_program_merges, many_stop_merges}
use Rattle.hpr_app.proofs.integrate_many.integrate_programs.Goals as goal

pub returns-in-Ok : goal.returns-in-Ok
returns-in-Ok c =
    let names = map (λ s. s.now) c.args.names.now in
    let e = c.in-Ok.ensures in
    many_program_merges c.args.base.now c.args.base_program.now names c.args.programs.now (c.requires.count ∙ sym (length-map c.args.names.now (λ s. s.now))) c.args.tries
    (λ d. d ≡ prints kind.Done (text c.in-Ok.merged)) c.print_program.result e.within (λ d is. (printed c.in-Ok.merged, e.printed, is)) c.print_program.ensures

pub returns-in-Err : goal.returns-in-Err
returns-in-Err c =
    let names = map (λ s. s.now) c.args.names.now in
    let e = c.in-Err.ensures in
    many_stop_merges c.args.base.now c.args.base_program.now names c.args.programs.now (c.requires.count ∙ sym (length-map c.args.names.now (λ s. s.now))) c.args.tries
    c.in-Err.stop c.stopped.result e.too_many e.within e.interference e.numbers e.no_program e.spent c.stopped.ensures
