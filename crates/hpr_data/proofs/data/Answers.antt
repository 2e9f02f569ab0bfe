use Rattle.std.proofs.lemmas.Result.{IfOk-weaker}
use Rattle.hpr_io.specs.Files.{files_in}
use Rattle.hpr_decisions.specs.Asked.{asked_by}
use Rattle.hpr_data.proofs.ReplyLemmas.{reply_agrees, reply_kept}
use Rattle.hpr_data.proofs.data.Goals as goal

pub returns-clause-agrees : goal.returns-clause-agrees
returns-clause-agrees c = IfOk-weaker c.tell.result _ _ (λ reply told. reply_agrees (asked_by c.args.words.now) (files_in c.args.files.now) reply told) c.tell.ensures

pub returns-clause-keeps : goal.returns-clause-keeps
returns-clause-keeps c = IfOk-weaker c.tell.result _ _ (λ reply told. reply_kept (asked_by c.args.words.now) (files_in c.args.files.now) reply told) c.tell.ensures
