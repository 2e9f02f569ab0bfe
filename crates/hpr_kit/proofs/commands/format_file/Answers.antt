use Rattle.std.proofs.Common.{◌≡◌}
use Rattle.hpr_kit.specs.Comes.{formatted}
use Rattle.hpr_kit.specs.Reading.{OnProgram}
use Rattle.hpr_kit.specs.Private.Replies.{seen}
use Rattle.hpr_kit.proofs.EndsLemmas.{of_read}
use Rattle.hpr_kit.proofs.TakenLemmas.{program_taken}
use Rattle.hpr_kit.proofs.commands.format_file.Goals as goal

pub returns-clause-decides : goal.returns-clause-decides
returns-clause-decides g c =
    let file = c.args.file.now in
    let reply = c.in_ok-format_bytes.field-0 in (
      of_read (g.S.Shelf.files c.args.shelf.now) file c.in_ok-bytes.bytes.items c.as_slice.result.now
          (λ bytes. OnProgram file bytes (λ p. seen reply ≡ formatted c.args.form file bytes p) (seen reply)) c.in_ok-bytes.ensures.fetches.0 c.as_slice.ensures.value
          c.in_ok-format_bytes.ensures,
      c.in_ok-bytes.ensures.fetches.1,
    )

pub returns-clause-taken : goal.returns-clause-taken
returns-clause-taken g c = program_taken c.args.form c.args.file.now c.as_slice.result.now (seen c.in_ok-format_bytes.field-0) c.in_ok-format_bytes.ensures
