use Rattle.std.proofs.lemmas.Result.{err_from_is_err_and}
use Rattle.hpr_script.specs.ScriptGrammar.{HasScript}
use Rattle.hpr_refusals.specs.Refusals.{IsRefusedScript, IsScriptOf}
use Rattle.hpr_inputs.proofs.FileLemmas.{judged, too_long_fails}
use Rattle.hpr_inputs.proofs.files.read_commands.Goals as goal

pub returns-in_err-bytes-clause-reads : goal.returns-in_err-bytes-clause-reads
returns-in_err-bytes-clause-reads g c =
    let p = err_from_is_err_and c.from_residual.result c.from_residual.ensures.1 in
    rw (p.1, p.2) (too_long_fails HasScript (λ bytes error. ⊥) (g.S.Shelf.files c.args.shelf.now) c.args.file.now _ _ _ c.in_err-bytes.ensures.fetches)

pub returns-clause-reads : goal.returns-clause-reads
returns-clause-reads g c =
    let fetched = c.in_ok-bytes.ensures.fetches in
    judged (g.S.Shelf.files c.args.shelf.now) c.args.file.now c.in_ok-bytes.bytes.items (IsRefusedScript c.args.file.now) (λ bytes v. IsScriptOf bytes v.items) c.as_slice.result.now _ _ c.spelled_commands.result
    fetched.0 c.as_slice.ensures.value fetched.1 c.spelled_commands.ensures
