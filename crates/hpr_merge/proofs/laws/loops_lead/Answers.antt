use Rattle.hpr_closure.proofs.ProgramLoops.{program_loops}
use Rattle.hpr_merge.proofs.laws.loops_lead.Goals as goal

pub returns : goal.returns
returns c = program_loops
