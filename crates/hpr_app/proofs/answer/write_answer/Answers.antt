use Rattle.std.proofs.Common.{refl, inr, rules}
use Rattle.hpr_app.proofs.answer.write_answer.Goals as goal

pub returns-in-Ok : goal.returns-in-Ok
returns-in-Ok g c =
    rw c.in-Ok.is (inr (record {
      status_is = refl;
      count = search rules;
      took = rw c.as_slice.ensures.value at c.in-Err-put_all.ensures.cut;
      says = c.write_message.ensures;
    }))
