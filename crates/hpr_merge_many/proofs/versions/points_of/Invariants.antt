use Rattle.std.proofs.Common.{◌≡◌, map, take}
use Rattle.hpr_search.specs.Rows.{numbers_of}
use Rattle.hpr_merge_many.specs.ManyPoints.{AreAffectedIn}
use Rattle.hpr_merge_many.proofs.ManyPoints.{with_base}
use Rattle.hpr_merge_many.proofs.versions.points_of.Given as goal

abbrev pub invariant-loop-variant : goal.invariant-loop-variant
invariant-loop-variant l = AreAffectedIn l.base (take l.variant-index l.variants) (numbers_of l.affected.items)
    × (l.beside.items ≡ map (with_base l.base) (take l.variant-index l.variants))
