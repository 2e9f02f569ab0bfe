use Rattle.hpr_any.proofs.Answered.{integrated}
use Rattle.hpr_any.proofs.integration.integrate.Goals as goal

pub returns-clause-keeps : goal.returns-clause-keeps
returns-clause-keeps g c =
    integrated _ _ c.args.base.now c.args.a.now c.args.b.now c.args.tries c.finals-base.ensures.program c.finals-a.ensures.program c.finals-b.ensures.program
    c.integrate.result c.integrate.ensures.printed
