-- The items of a trace: the instances of a run, with numbers in place of the steps that last defined names.
--
-- Item              == a tag, the turns, the reads and the number that was assigned, stored, written or
--                      decided by
-- item_in i         == an item of the code as this
-- origin_in x log   == the number of the step of the log, newest first, that last defined the name x
-- IsOriginOf is o d == the origin o is Initial where d is none, and else the number, among the instances, of
--                      the step d
-- reading_of v      == a value as a read shows it: a number, how many numbers were written, or how many
--                      elements of an array aren't 0
-- read_after log r  == a read after the log
-- item_after log i  == an instance after the log
-- items_after log is == instances after the log
-- items_of is       == the items of these instances
use Rattle.std.specs.Prelude.{◌≡◌, slice_get, ℕ, ℤ, if◌then◌else◌, List, [], ◌∷◌, map, length, Option, Some, None}
use Rattle.std.specs.Ordering.{is_eq}
use Rattle.std.specs.FinMap.{len}
use Rattle.hpr_syntax.specs.declared.value.Value.{Value}
use Rattle.hpr_terms.specs.declared.tag.Tag.{Tag}
use Rattle.hpr_syntax.specs.declared.rows.Content.{Content}
use Rattle.hpr_syntax.specs.declared.value.Value.TheVariants as value
use Rattle.hpr_syntax.specs.Rows.{assigned}
use Rattle.hpr_graph.specs.Order.{name_cmp}
use Rattle.hpr_paths.specs.Times.{Place}
use Rattle.hpr_meaning.specs.declared.traced.Origin.{Origin}
use Rattle.hpr_meaning.specs.declared.traced.Origin.TheVariants as origin
use Rattle.hpr_meaning.specs.declared.traced.Read.{Read}
use Rattle.hpr_meaning.specs.declared.traced.Reading.{Reading}
use Rattle.hpr_meaning.specs.declared.traced.Reading.TheVariants as reading
use Rattle.hpr_meaning.specs.declared.traced.Instance as code
use Rattle.hpr_meaning.specs.Instances.{Instance}
use Rattle.hpr_meaning.specs.Instances as means

pub record Item : Type 0 where
  pub tag : Tag
  pub turns : List ℕ
  pub reads : List Read
  pub value : ℤ

abbrev pub item_in : code.Instance → Item
item_in i = record { tag = i.tag; turns = i.turns.items; reads = i.reads.items; value = i.value }

-- the step with the number n that defines y, if y is x; else an older one
abbrev pub with_number : Option (List ℕ) → ℕ → List ℕ → Origin → Origin
with_number None n x older = older
with_number (Some y) n x older = if is_eq (name_cmp x y) then origin.Instance n else older

abbrev pub origin_in : List ℕ → List Instance → Origin
origin_in x [] = origin.Initial
origin_in x (i ∷ log) = with_number (assigned i.1.content) (length log) x (origin_in x log)

abbrev pub IsOriginOf : List Instance → Origin → Option (Place × Content) → Type 0
IsOriginOf is origin.Initial d = d ≡ None
IsOriginOf is (origin.Instance n) d = (i : Instance) × (slice_get is n ≡ Some i) × (d ≡ Some (i.0, i.1.content))

abbrev pub reading_of : Value → Reading
reading_of (value.Number z) = reading.Number z
reading_of (value.List zs) = reading.Size (length zs)
reading_of (value.Array es) = reading.Size (len es)

abbrev pub read_after : List Instance → means.Read → Read
read_after log r = record { name = r.name; value = reading_of r.value; origin = origin_in r.name log }

abbrev pub item_after : List Instance → Instance → Item
item_after log i = record { tag = i.0.0; turns = i.0.1; reads = map (read_after log) i.1.reads; value = i.1.number }

abbrev pub items_after : List Instance → List Instance → List Item
items_after log [] = []
items_after log (i ∷ is) = item_after log i ∷ items_after (i ∷ log) is

abbrev pub items_of : List Instance → List Item
items_of is = items_after [] is
