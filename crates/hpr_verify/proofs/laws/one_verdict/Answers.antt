use Rattle.hpr_verify.proofs.SomeVerdict.{some_verdict}
use Rattle.hpr_verify.proofs.Verdicts.{one_verdict}
use Rattle.hpr_verify.proofs.laws.one_verdict.Goals as goal

pub returns-clause-one : goal.returns-clause-one
returns-clause-one c = one_verdict

pub returns-clause-some : goal.returns-clause-some
returns-clause-some c = some_verdict
