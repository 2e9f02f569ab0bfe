use Rattle.hpr_verify.proofs.Rows.{Agree}
use Rattle.hpr_verify.proofs.first.first_apart.Given as goal

abbrev pub invariant-loop-at : goal.invariant-loop-at
invariant-loop-at g l = Agree l.offered l.merged l.at
