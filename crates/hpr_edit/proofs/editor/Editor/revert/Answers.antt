use Rattle.std.proofs.Common.{◌∙◌, ap}
use Rattle.hpr_syntax.specs.Tree.{Tree}
use Rattle.hpr_edit.proofs.Back.{restored_body, restored_finals}
use Rattle.hpr_edit.proofs.editor.Editor.revert.Goals as goal

pub returns-in-Ok-clause-body : goal.returns-in-Ok-clause-body
returns-in-Ok-clause-body c =
    λ old u. ap (λ (p : Tree). p.body) c.in-Ok.ensures.reverted ∙ restored_body c.args.inverse c.args.self.now.program old u

pub returns-in-Ok-clause-finals : goal.returns-in-Ok-clause-finals
returns-in-Ok-clause-finals c =
    λ old u. ap (λ (p : Tree). p.finals) c.in-Ok.ensures.reverted ∙ restored_finals c.args.inverse c.args.self.now.program old u
