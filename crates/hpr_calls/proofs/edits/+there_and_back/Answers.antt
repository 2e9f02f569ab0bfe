use Rattle.std.proofs.Common.{◌≤◌, sym, ap, arith}
use Rattle.hpr_syntax.specs.Issued.{issued_to}
use Rattle.hpr_edit.proofs.Back.{undoes_again, issued_again}
use Rattle.hpr_edit.proofs.Fresh.{after_command}
use Rattle.hpr_calls.proofs.edits.+there_and_back.Goals as goal

pub revert-requires-clause-issued : goal.revert-requires-clause-issued
revert-requires-clause-issued t c =
    issued_again c.in_ok-inverse-in-Some.inverse c.apply.new.self.program c.there_and_back.new.editor.program c.in_ok-inverse-in-Some.ensures.issued
    c.in_ok-there_and_back-in-Some.ensures.issued

pub returns-in-Ok-clause-body : goal.returns-in-Ok-clause-body
returns-in-Ok-clause-body t c =
    c.in-Ok.ensures.body c.args.editor.now.program
    (undoes_again c.args.editor.now.program c.in_ok-inverse-in-Some.inverse c.apply.new.self.program c.there_and_back.new.editor.program
    c.in_ok-inverse-in-Some.ensures.undoes (sym c.in_ok-there_and_back-in-Some.ensures.body) (sym c.in_ok-there_and_back-in-Some.ensures.finals))

pub returns-in-Ok-clause-finals : goal.returns-in-Ok-clause-finals
returns-in-Ok-clause-finals t c =
    c.in-Ok.ensures.finals c.args.editor.now.program
    (undoes_again c.args.editor.now.program c.in_ok-inverse-in-Some.inverse c.apply.new.self.program c.there_and_back.new.editor.program
    c.in_ok-inverse-in-Some.ensures.undoes (sym c.in_ok-there_and_back-in-Some.ensures.body) (sym c.in_ok-there_and_back-in-Some.ensures.finals))

pub returns-in-Ok-clause-issued : goal.returns-in-Ok-clause-issued
returns-in-Ok-clause-issued t c = λ a.
    let rise : issued_to a c.args.editor.now.program.issued ≤ issued_to a c.apply.new.self.program.issued =
    (after_command c.args.editor.now.program c.apply.new.self.program c.in-Some.first.now c.args.editor.now.author
    c.in_ok-inverse-in-Some.inverse c.in_ok-inverse-in-Some.ensures.edited).rises c.in_ok-inverse-in-Some.ensures.undoes.is.proper.ascending a in
    omega (arith, rise, c.in_ok-there_and_back-in-Some.ensures.issued a, ap (issued_to a) c.in-Ok.ensures.numbers)
