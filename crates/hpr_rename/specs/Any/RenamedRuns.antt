-- Runs and their instances with other tags, whatever the contents mean.
--
-- outcome_with f o  == how a run went, with the tag of a fault renamed
-- read_with f r     == the read of the same name and value, with its origin renamed
-- instance_with f i == the instance with the tags of its place and of its reads renamed
use Rattle.hpr_meaning.specs.Any.Meaning.{Meaning}
use Rattle.std.specs.Prelude.{map}
use Rattle.hpr_terms.specs.declared.tag.Tag.{Tag}
use Rattle.hpr_meaning.specs.Any.Run.{Outcome, ends, faults, more}
use Rattle.hpr_meaning.specs.Any.Instances.{Read, Instance}
use Rattle.hpr_rename.specs.RenamedRuns.{place_with, origin_with}

module _ (M : Meaning) where
  abbrev pub outcome_with : (Tag → Tag) → Outcome M → Outcome M
  outcome_with f (ends finals steps) = ends finals steps
  outcome_with f (faults t fault steps) = faults (f t) fault steps
  outcome_with f (more steps) = more steps

  abbrev pub read_with : (Tag → Tag) → Read M → Read M
  read_with f r = record { name = r.name; value = r.value; origin = origin_with f r.origin }

  abbrev pub instance_with : (Tag → Tag) → Instance M → Instance M
  instance_with f i =
      (place_with f i.0, record { content = i.1.content; reads = map (read_with f) i.1.reads; gave = i.1.gave; number = i.1.number })
