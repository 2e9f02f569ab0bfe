use Rattle.std.proofs.Common.{All, drop}
use Rattle.hpr_terms.specs.Names.{IsVariable}
use Rattle.hpr_syntax.proofs.proper.read_names.Given as goal

abbrev pub invariant-loop-name : goal.invariant-loop-name
invariant-loop-name l = All IsVariable (drop l.name-index l.names) → All IsVariable l.names
