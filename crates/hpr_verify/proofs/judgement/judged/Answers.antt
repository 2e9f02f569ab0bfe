use Rattle.hpr_verify.proofs.Verdicts.{judged_from}
use Rattle.hpr_verify.proofs.judgement.judged.Goals as goal

pub returns-clause-judged : goal.returns-clause-judged
returns-clause-judged c =
    judged_from c.args.base.now c.args.a.now c.args.b.now c.args.offered.now c.in_ok-graph.graph c.in_ok-searched.searched c.in_ok-difference.field-0
    c.in_ok-graph.ensures.graph c.in_ok-searched.ensures.searched c.in_ok-difference.ensures
