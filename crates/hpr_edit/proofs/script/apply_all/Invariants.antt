use Rattle.std.proofs.Common.{◌≡◌}
use Rattle.hpr_edit.proofs.Scripts.{Left}
use Rattle.hpr_edit.proofs.script.apply_all.Given as goal

abbrev pub invariant-loop-at : goal.invariant-loop-at
invariant-loop-at l = record {
  left : Left l.fn.editor.program l.commands l.fn.editor.author l.at l.editor.program;
  author : l.editor.author ≡ l.fn.editor.author;
}
