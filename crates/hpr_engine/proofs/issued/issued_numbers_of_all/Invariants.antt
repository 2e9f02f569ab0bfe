use Rattle.std.proofs.Common.{drop}
use Rattle.std.specs.List.{AllByRecursion}
use Rattle.hpr_syntax.specs.Shape.{IsProgram}
use Rattle.hpr_engine.proofs.IssuedRows.{AreRaised}
use Rattle.hpr_engine.proofs.issued.issued_numbers_of_all.Given as goal

abbrev pub invariant-loop-variant : goal.invariant-loop-variant
invariant-loop-variant l = AreRaised l.base l.variants l.variant-index l.issued
    × (AllByRecursion IsProgram (drop l.variant-index l.variants) → AllByRecursion IsProgram l.variants)
