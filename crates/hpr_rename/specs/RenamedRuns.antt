-- Runs and their instances with other tags.
--
-- outcome_with f o  == how a run went, with the tag of a fault renamed
-- place_with f a    == the place with its tag renamed, and with the same turns
-- origin_with f o   == the step that last defined a name, if there is one, with the tag of its place renamed
-- read_with f r     == the read of the same name and value, with its origin renamed
-- instance_with f i == the instance with the tags of its place and of its reads renamed
use Rattle.std.specs.Prelude.{map, Option, Some, None}
use Rattle.hpr_terms.specs.declared.tag.Tag.{Tag}
use Rattle.hpr_syntax.specs.declared.rows.Content.{Content}
use Rattle.hpr_syntax.specs.Run.{Outcome, ends, faults, more}
use Rattle.hpr_paths.specs.Times.{Place}
use Rattle.hpr_meaning.specs.Instances.{Read, Instance}

abbrev pub outcome_with : (Tag → Tag) → Outcome → Outcome
outcome_with f (ends finals steps) = ends finals steps
outcome_with f (faults t fault steps) = faults (f t) fault steps
outcome_with f (more steps) = more steps

abbrev pub place_with : (Tag → Tag) → Place → Place
place_with f a = (f a.0, a.1)

abbrev pub origin_with : (Tag → Tag) → Option (Place × Content) → Option (Place × Content)
origin_with f None = None
origin_with f (Some step) = Some (place_with f step.0, step.1)

abbrev pub read_with : (Tag → Tag) → Read → Read
read_with f r = record { name = r.name; value = r.value; origin = origin_with f r.origin }

abbrev pub instance_with : (Tag → Tag) → Instance → Instance
instance_with f i =
    (place_with f i.0, record { content = i.1.content; reads = map (read_with f) i.1.reads; gave = i.1.gave; number = i.1.number })
