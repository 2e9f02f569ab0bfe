use Rattle.hpr_inputs.proofs.FileLemmas.{refused_script}
use Rattle.hpr_inputs.proofs.files.spelled_commands.Goals as goal

pub returns-in-Err-Syntax : goal.returns-in-Err-Syntax
returns-in-Err-Syntax c =
    refused_script c.args.file.now c.args.bytes.now c.requires c.refused.result _ c.in-Err-Syntax.place c.in-Err-Syntax.field-0-is c.in-Err-Syntax.ensures.syntax c.refused.ensures
