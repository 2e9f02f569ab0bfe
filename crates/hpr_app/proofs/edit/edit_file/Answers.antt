use Rattle.std.proofs.Common.{◌≡◌, ◌∙◌, subst}
use Rattle.std.proofs.lemmas.Result.{err_from_is_err_and}
use Rattle.hpr_io.specs.Files.{bytes_of}
use Rattle.hpr_edit.specs.Applied.{applied}
use Rattle.hpr_refusals.specs.Refusals.{IsRefusedScript, IsScriptOf}
use Rattle.hpr_inputs.specs.Answer.{Merges}
use Rattle.hpr_decisions.specs.EditFiles.{edit_decision}
use Rattle.hpr_app.proofs.EditLemmas.{decided, program_fails, script_fails}
use Rattle.hpr_inputs.proofs.ReadLemmas.{read_fails_behind, told_same}
use Rattle.hpr_decisions.proofs.KindLemmas.{in_kind, edit_suits}
use Rattle.hpr_words.specs.Request.{edit}
use Rattle.hpr_app.proofs.edit.edit_file.Goals as goal

pub returns-in_err-program-clause-answers : goal.returns-in_err-program-clause-answers
returns-in_err-program-clause-answers g c =
    let p = err_from_is_err_and c.from_residual.result c.from_residual.ensures.1 in
    rw (p.1, p.2) (program_fails (g.S.Shelf.files c.args.shelf.now) c.args.file.now c.args.script.now c.args.author _ _ _ c.in_err-program.ensures.reads)

pub returns-in_err-commands-clause-answers : goal.returns-in_err-commands-clause-answers
returns-in_err-commands-clause-answers g c =
    let p = err_from_is_err_and c.from_residual-in_err-commands.result c.from_residual-in_err-commands.ensures.1 in
    let program = c.in_ok-program.ensures in
    let told = g.S.Shelf.files c.args.shelf.now in
    rw (p.1, p.2) (script_fails told c.args.file.now c.args.script.now c.args.author _ _ c.in_ok-program.program _ program.reads.0
    (read_fails_behind (IsRefusedScript c.args.script.now) told _ c.args.script.now _ _ _ _ program.same_files program.reads.1 c.in_err-commands.ensures.reads))

pub returns-clause-answers : goal.returns-clause-answers
returns-clause-answers g c =
    let program = c.in_ok-program.ensures in
    let commands = c.in_ok-commands.commands.items in
    let told = g.S.Shelf.files c.args.shelf.now in
    let script = c.args.script.now in
    decided told c.args.file.now script c.args.author _ _ c.in_ok-program.program commands c.show_edited.result program.reads.0
    (told_same told (g.S.Shelf.files c.read_program.new.shelf) (λ fs. IsScriptOf (bytes_of fs script) commands) program.same_files c.in_ok-commands.ensures.reads.0)
    (c.in_ok-commands.ensures.reads.1 ∙ program.reads.1)
    (subst (λ cs. Merges (λ r. r ≡ edit_decision script (applied c.in_ok-program.program cs c.args.author)) c.show_edited.result) c.deref.ensures.value c.show_edited.ensures)

pub returns-clause-kind : goal.returns-clause-kind
returns-clause-kind g c =
    let file = c.args.file.now in
    let script = c.args.script.now in
    let made = applied c.in_ok-program.program c.deref.result.now c.args.author in
    in_kind (edit file script c.args.author) (λ r. r ≡ edit_decision script made) (edit_suits file script c.args.author made) c.show_edited.result c.show_edited.ensures
