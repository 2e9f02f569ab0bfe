use Rattle.std.proofs.Common.{◌∙◌}
use Rattle.hpr_edit.proofs.Scripts.{one_more}
use Rattle.hpr_edit.proofs.script.apply_all.Goals as goal

pub loop-at-preserved : goal.loop-at-preserved
loop-at-preserved c =
    let l = c.loop-at in
    let from = c.args.editor.now in
    let made = c.in_ok-apply_command.ensures.edited in record {
      left = one_more from.program c.args.commands.now from.author l.at l.editor.program _ c.loop-at-test.true c.index-commands-at.is l.invariant.left
          l.editor.author l.invariant.author c.apply_command.new.editor.program made.0 made.1;
      author = c.in_ok-apply_command.ensures.author ∙ l.invariant.author;
    }
