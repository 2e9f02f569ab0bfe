use Rattle.hpr_edit.specs.Applied.{applied}
use Rattle.hpr_app.proofs.EditLemmas.{edited_decides, refused_decides}
use Rattle.hpr_app.proofs.edit.show_edited.Goals as goal

pub returns-in-Ok : goal.returns-in-Ok
returns-in-Ok c =
    edited_decides c.args.script.now (applied c.args.program c.args.commands.now c.args.author) c.in-Ok.edited c.print_program.result
    c.in-Ok.ensures.edited c.print_program.ensures

pub returns-in_ok-message-in-Err : goal.returns-in_ok-message-in-Err
returns-in_ok-message-in-Err c =
    refused_decides c.args.script.now (applied c.args.program c.args.commands.now c.args.author) c.in-Err.refusal.number c.in-Err.refusal.why _
    (c.in-Err.ensures.refused c.in_ok-message-in-Err.ensures.memory) c.in_ok-message-in-Err.ensures.text
