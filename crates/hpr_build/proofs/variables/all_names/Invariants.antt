use Rattle.std.proofs.Common.{◌≡◌, map, take}
use Rattle.hpr_build.specs.declared.uses.Use.{Use}
use Rattle.hpr_build.proofs.variables.all_names.Given as goal

abbrev pub invariant-loop-one : goal.invariant-loop-one
invariant-loop-one l = l.names.items ≡ map (λ (u : Use). u.name) (take l.one-index l.uses)
