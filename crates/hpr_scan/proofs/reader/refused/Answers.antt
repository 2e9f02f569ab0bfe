use Rattle.std.proofs.Common.{sym, ap}
use Rattle.hpr_scan.specs.Scanner.{refusal_at}
use Rattle.hpr_scan.proofs.reader.refused.Goals as goal

pub returns-in-Refused : goal.returns-in-Refused
returns-in-Refused c = sym (ap (refusal_at c.args.place) c.in-Refused.is)
