use Rattle.hpr_text.specs.Forms.{form_of}
use Rattle.hpr_inputs.proofs.FileLemmas.{refused_shape, refused_syntax}
use Rattle.hpr_inputs.proofs.files.spelled_program.Goals as goal

pub returns-in-Err-Syntax : goal.returns-in-Err-Syntax
returns-in-Err-Syntax c =
    refused_syntax c.args.file.now c.args.bytes.now c.requires.short c.refused.result (form_of c.args.mode) _ c.in-Err-Syntax.place c.in-Err-Syntax.field-0-is
    c.in-Err-Syntax.ensures.syntax c.refused.ensures

pub returns-in-Err-Shape : goal.returns-in-Err-Shape
returns-in-Err-Shape c =
    refused_shape c.args.file.now c.args.bytes.now c.requires.short c.refused-in-Err-Shape.result (form_of c.args.mode) _ c.in-Err-Shape.error c.in-Err-Shape.field-0-is
    c.in-Err-Shape.ensures.shape c.refused-in-Err-Shape.ensures
