use Rattle.hpr_any.proofs.Answered.{all_integrated}
use Rattle.hpr_any.proofs.variants.integrate_many.Goals as goal

pub returns-clause-keeps : goal.returns-clause-keeps
returns-clause-keeps g c =
    all_integrated _ _ c.args.base.now c.args.variants.now c.args.tries c.finals-base.ensures.program c.read_programs.ensures c.integrate_many.result
    c.integrate_many.ensures.printed
