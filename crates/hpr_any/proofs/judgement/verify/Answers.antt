use Rattle.hpr_any.proofs.Answered.{judged}
use Rattle.hpr_any.proofs.judgement.verify.Goals as goal

pub returns-clause-keeps : goal.returns-clause-keeps
returns-clause-keeps g c =
    judged _ _ c.args.base.now c.args.a.now c.args.b.now c.args.offered.now c.finals-base.ensures.program c.finals-a.ensures.program
    c.finals-b.ensures.program c.finals-offered.ensures.program c.verify.result c.verify.ensures.same
