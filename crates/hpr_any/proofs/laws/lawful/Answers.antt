use Rattle.hpr_any.proofs.ByReads.{by_reads_lawful}
use Rattle.hpr_any.proofs.laws.lawful.Goals as goal

pub returns : goal.returns
returns g c = λ m. by_reads_lawful m
