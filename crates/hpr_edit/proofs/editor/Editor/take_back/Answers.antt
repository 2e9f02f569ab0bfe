use Rattle.std.proofs.Common.{◌≡◌, ap, sym, subst}
use Rattle.hpr_edit.specs.Editing.{Editing}
use Rattle.hpr_edit.specs.Reverted.{Undoes, IsPutBackIssued}
use Rattle.hpr_edit.proofs.editor.Editor.take_back.Goals as goal

pub reverted-requires-clause-undoes : goal.reverted-requires-clause-undoes
reverted-requires-clause-undoes c =
    let e : c.args.self.now.program ≡ c.self.inside.program = ap (λ (x : Editing). x.program) (sym c.self.view_is) in
    (c.requires.undoes.0, subst (λ p. Undoes c.requires.undoes.0 c.args.inverse.now p) e c.requires.undoes.1)

pub reverted-requires-clause-issued : goal.reverted-requires-clause-issued
reverted-requires-clause-issued c =
    let e : c.args.self.now.program ≡ c.self.inside.program = ap (λ (x : Editing). x.program) (sym c.self.view_is) in
    subst (λ p. IsPutBackIssued c.args.inverse.now p) e c.requires.issued
