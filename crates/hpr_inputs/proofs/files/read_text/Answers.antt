use Rattle.std.proofs.lemmas.Result.{err_from_is_err_and}
use Rattle.hpr_text.specs.Answers.{IsText, IsMisshapen}
use Rattle.hpr_text.specs.Forms.{form_of}
use Rattle.hpr_refusals.specs.Refusals.{IsFileIn, IsRefusedIn}
use Rattle.hpr_inputs.proofs.FileLemmas.{judged, too_long_fails}
use Rattle.hpr_inputs.proofs.files.read_text.Goals as goal

pub returns-in_err-bytes-clause-reads : goal.returns-in_err-bytes-clause-reads
returns-in_err-bytes-clause-reads g c =
    let form = form_of c.args.mode in
    let p = err_from_is_err_and c.from_residual.result c.from_residual.ensures.1 in
    rw (p.1, p.2) (too_long_fails (IsText form) (IsMisshapen form) (g.S.Shelf.files c.args.shelf.now) c.args.file.now _ _ _ c.in_err-bytes.ensures.fetches)

pub returns-clause-reads : goal.returns-clause-reads
returns-clause-reads g c =
    let form = form_of c.args.mode in
    let fetched = c.in_ok-bytes.ensures.fetches in
    judged (g.S.Shelf.files c.args.shelf.now) c.args.file.now c.in_ok-bytes.bytes.items (IsRefusedIn form c.args.file.now) (IsFileIn form) c.as_slice.result.now _ _ c.spelled_program.result
    fetched.0 c.as_slice.ensures.value fetched.1 c.spelled_program.ensures
