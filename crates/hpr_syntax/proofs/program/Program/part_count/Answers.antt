use Rattle.std.proofs.Common.{arith}
use Rattle.hpr_syntax.proofs.PartBound.{few_parts}
use Rattle.hpr_syntax.proofs.program.Program.part_count.Goals as goal

pub part_count-requires : goal.part_count-requires
part_count-requires c = omega (arith, few_parts _ c.self.invariant)

pub returns-clause-few : goal.returns-clause-few
returns-clause-few c = omega (arith, c.part_count.ensures, few_parts _ c.self.invariant)
