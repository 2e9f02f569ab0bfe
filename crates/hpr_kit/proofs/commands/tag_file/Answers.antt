use Rattle.std.proofs.Common.{◌≡◌}
use Rattle.hpr_tagging.specs.Tagging.{kept}
use Rattle.hpr_kit.specs.Comes.{OnTagged, retold}
use Rattle.hpr_kit.specs.Private.Replies.{seen}
use Rattle.hpr_kit.proofs.EndsLemmas.{of_read}
use Rattle.hpr_kit.proofs.TakenLemmas.{tagging_taken}
use Rattle.hpr_kit.proofs.commands.tag_file.Goals as goal

pub returns-clause-decides : goal.returns-clause-decides
returns-clause-decides g c =
    let file = c.args.file.now in
    let author = c.args.author in
    let reply = c.in_ok-tag_bytes.field-0 in (
      of_read (g.S.Shelf.files c.args.shelf.now) file c.in_ok-bytes.bytes.items c.as_slice.result.now
          (λ bytes. OnTagged author file bytes (λ p. seen reply ≡ retold c.args.keep file bytes (kept author bytes) p) (seen reply)) c.in_ok-bytes.ensures.fetches.0
          c.as_slice.ensures.value c.in_ok-tag_bytes.ensures,
      c.in_ok-bytes.ensures.fetches.1,
    )

pub returns-clause-taken : goal.returns-clause-taken
returns-clause-taken g c =
    tagging_taken c.args.author c.args.keep c.args.file.now c.as_slice.result.now (seen c.in_ok-tag_bytes.field-0) c.in_ok-tag_bytes.ensures
