use Rattle.std.proofs.Common.{◌≡◌, ◌∙◌, ap, subst}
use Rattle.std.specs.Result.{IfOk}
use Rattle.hpr_edit.specs.Editing.{Editing}
use Rattle.hpr_edit.specs.Reverted.{Undoes}
use Rattle.hpr_edit.proofs.Proper.{undoes_made, issued_made}
use Rattle.hpr_edit.proofs.editor.Editor.apply.Goals as goal

pub returns-clause-undoes : goal.returns-clause-undoes
returns-clause-undoes c =
    let q = c.edited-program.result.0 in
    let r = c.edited-program.result.1 in
    let e : c.replace-program.result ≡ c.args.self.now.program = c.replace-program.ensures.value ∙ ap (λ (x : Editing). x.program) c.self.view_is in
    subst (λ p. IfOk r (λ i. Undoes p i q)) e
    (undoes_made c.replace-program.result c.edited-program.ensures.program c.args.command.now c.self.inside.author q r c.edited-program.ensures.made)

pub returns-clause-issued : goal.returns-clause-issued
returns-clause-issued c =
    issued_made c.replace-program.result c.edited-program.ensures.program c.args.command.now c.self.inside.author c.edited-program.result.0 c.edited-program.result.1
    c.edited-program.ensures.made
