use Rattle.std.proofs.Common.{subst, sym}
use Rattle.hpr_c.specs.Call.{TellsOver}
use Rattle.hpr_c.proofs.hpr_call.Goals as goal

pub returns-clause-does : goal.returns-clause-does
returns-clause-does c texts files is =
    let told = c.tell_given-told.result in (
      told.out.items,
      told.err.items,
      c.hand_out.ensures.out,
      c.hand_out.ensures.err,
      subst (λ n. TellsOver texts files n told.out.items told.err.items) (sym c.hand_out.ensures.number) (c.tell_given-told.ensures.does texts files is),
    )
