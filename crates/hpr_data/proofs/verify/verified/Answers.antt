use Rattle.std.proofs.Common.{map}
use Rattle.std.proofs.lemmas.Result.{err_from_is_err_and}
use Rattle.hpr_io.specs.Files.{files_in}
use Rattle.hpr_data.specs.Findings.{Verified}
use Rattle.hpr_data.proofs.TextLemmas.{all_fail, past_all}
use Rattle.hpr_data.proofs.verify.verified.Goals as goal

pub returns-in_err-programs : goal.returns-in_err-programs
returns-in_err-programs c =
    let e = err_from_is_err_and c.from_residual.result c.from_residual.ensures.1 in
    let names = map (λ s. s.now) c.args.names.now in
    rw (e.1, e.2) (all_fail (files_in c.args.files.now) names (λ ps f. Verified names ps f) _ c.in_err-programs.ensures.programs)

pub returns : goal.returns
returns c =
    let names = map (λ s. s.now) c.args.names.now in
    past_all (files_in c.args.files.now) names (λ ps f. Verified names ps f) c.in_ok-programs.programs.items c.verdict_of.result c.in_ok-programs.ensures.programs
    (rw c.deref.ensures.value at c.verdict_of.ensures)
