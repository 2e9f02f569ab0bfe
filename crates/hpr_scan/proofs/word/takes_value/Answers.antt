use Rattle.hpr_scan.specs.Words.{value_after}
use Rattle.hpr_scan.proofs.Words.{large_not_taken}
use Rattle.hpr_scan.proofs.word.takes_value.Goals as goal

pub returns-in-None : goal.returns-in-None
returns-in-None g c = large_not_taken g.M.TokenMachine.next g.met.M.TokenMachine.laws c.args.machine.now (value_after 0 c.args.word.now) c.in-None.ensures
