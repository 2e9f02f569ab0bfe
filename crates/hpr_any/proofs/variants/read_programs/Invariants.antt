use Rattle.std.proofs.Common.{drop}
use Rattle.std.specs.List.{AllByRecursion}
use Rattle.hpr_syntax.specs.Shape.{IsProgram}
use Rattle.hpr_any.proofs.variants.read_programs.Given as goal

abbrev pub invariant-loop-program : goal.invariant-loop-program
invariant-loop-program l = AllByRecursion IsProgram (drop l.program-index l.programs) → AllByRecursion IsProgram l.programs
