use Rattle.std.proofs.Common.{ap, sym}
use Rattle.std.specs.Option.{is_some}
use Rattle.hpr_scan.specs.Words.{value_after}
use Rattle.hpr_script.proofs.MachineLaws.{large_number}
use Rattle.hpr_script.proofs.scanner.takes_value.Goals as goal

pub returns-in-None : goal.returns-in-None
returns-in-None c = sym (ap is_some (large_number c.args.stage (value_after 0 c.args.word.now) c.in-None.ensures))
