use Rattle.std.proofs.Common.{◌≡◌}
use Rattle.hpr_kit.specs.Comes.{placed}
use Rattle.hpr_kit.specs.Private.Replies.{seen}
use Rattle.hpr_kit.proofs.EndsLemmas.{of_read}
use Rattle.hpr_kit.proofs.TakenLemmas.{place_taken}
use Rattle.hpr_kit.proofs.commands.place_file.Goals as goal

pub returns-clause-decides : goal.returns-clause-decides
returns-clause-decides g c =
    let file = c.args.file.now in
    let reply = c.in_ok-place_bytes.field-0 in (
      of_read (g.S.Shelf.files c.args.shelf.now) file c.in_ok-bytes.bytes.items c.as_slice.result.now (λ bytes. seen reply ≡ placed file bytes c.args.byte)
          c.in_ok-bytes.ensures.fetches.0 c.as_slice.ensures.value c.in_ok-place_bytes.ensures,
      c.in_ok-bytes.ensures.fetches.1,
    )

pub returns-clause-taken : goal.returns-clause-taken
returns-clause-taken g c = place_taken c.args.file.now c.as_slice.result.now c.args.byte (seen c.in_ok-place_bytes.field-0) c.in_ok-place_bytes.ensures
