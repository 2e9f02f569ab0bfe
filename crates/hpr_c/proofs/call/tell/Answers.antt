use Rattle.std.proofs.Common.{◌∙◌, inl}
use Rattle.hpr_c.proofs.EndsLemmas.{quiet_ends}
use Rattle.hpr_c.proofs.TellsLemmas.{kept_so}
use Rattle.hpr_c.proofs.call.tell.Goals as goal

pub returns : goal.returns
returns g c =
    inl (record {
      s = c.call_hpr-status.result;
      number_is = c.from.ensures ∙ c.number.ensures;
      ends = quiet_ends _ _ _ _ _ _ _ _ _
          (kept_so _ _ _ _ c.new-out.ensures.faults c.if-out-gt0.false c.new-out.ensures.taken)
          (kept_so _ _ _ _ c.new-err.ensures.faults c.if-err-gt0.false c.new-err.ensures.taken)
          c.call_hpr-status.ensures;
    })
