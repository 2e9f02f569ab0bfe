use Rattle.std.proofs.Common.{IsUtf8, IsOk}
use Rattle.hpr_json.proofs.Ascii.{text_utf8}
use Rattle.hpr_json.proofs.answers.program_text.Goals as goal

pub unreachable-requires : goal.unreachable-requires
unreachable-requires c =
    let utf8 : IsUtf8 c.in_ok-text_of.field-0.items = text_utf8 c.args.program.now _ c.body-body.ensures.program c.in_ok-text_of.ensures in
    let ok : IsOk c.from_utf8.result = c.from_utf8.ensures.succeeds utf8 in
    absurd cc
