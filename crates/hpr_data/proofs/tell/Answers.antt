use Rattle.std.proofs.Common.{ap, Err, refl}
use Rattle.std.proofs.lemmas.Result.{IfOk-weaker}
use Rattle.hpr_data.proofs.tell.Goals as goal

pub returns-in-Err-Refused : goal.returns-in-Err-Refused
returns-in-Err-Refused c =
    rw (c.in-Err-Refused.ensures.refused (ap Err c.in-Err-Refused.field-0-is)) (IfOk-weaker c.stopped.result _ _ (λ reply told. (_, refl, told)) c.stopped.ensures)
