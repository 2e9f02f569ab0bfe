use Rattle.std.proofs.Common.{ap}
use Rattle.hpr_scan.specs.Words.{value_after}
use Rattle.hpr_script.specs.Machine.{turns_at, number_after}
use Rattle.hpr_script.proofs.MachineLaws.{large_number}
use Rattle.hpr_script.proofs.scanner.after_number.Goals as goal

pub returns-in-None : goal.returns-in-None
unfolding number_after
returns-in-None c = ap (turns_at c.args.found) (large_number c.args.stage (value_after 0 c.args.word.now) c.in-None.ensures)
