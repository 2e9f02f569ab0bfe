use Rattle.std.proofs.Common.{Some}
use Rattle.std.proofs.lemmas.Result.{IfOk-weaker}
use Rattle.hpr_io.specs.Files.{files_in}
use Rattle.hpr_words.specs.Asked.{request}
use Rattle.hpr_data.specs.Findings.{Finds}
use Rattle.hpr_data.proofs.ToldLemmas.{found_told}
use Rattle.hpr_data.proofs.tell_asked.Goals as goal

pub returns-in-Ok : goal.returns-in-Ok
returns-in-Ok c = IfOk-weaker c.told.result _ _ (λ reply told. found_told (Finds (Some (request c.args.asked)) (files_in c.args.files.now)) _ reply c.in-Ok.ensures told) c.told.ensures
