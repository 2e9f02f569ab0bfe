use Rattle.hpr_meaning.proofs.Own as proof
use Rattle.hpr_meaning.proofs.laws.trace_is_run.Goals as goal

pub returns : goal.returns
returns c = proof.trace_is_run
