use Rattle.std.proofs.Common.{◌≡◌, ◌++◌, map, take}
use Rattle.hpr_build.specs.Links.{name_vertex}
use Rattle.hpr_build.proofs.tables.push_names.Given as goal

abbrev pub invariant-loop-name : goal.invariant-loop-name
invariant-loop-name l = l.into.items ≡ l.fn.into.items ++ map (name_vertex l.is_final) (take l.name-index l.names)
