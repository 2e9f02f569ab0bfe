-- What a traced run keeps.
--
-- Notes               == the items that last defined the names, and all items so far
-- origin_at ns x      == where the value of the name x comes from
-- no_notes            == before the first step
-- read_at s m x       == the read of the name x in the state s
-- item_at a c z s m   == the item of a step at the place a of a part that says c, shown by the number z, in s
-- noted turns t c z s m == with that item of the part t, under these turns
-- defined x m         == where the last item defined the name x
-- tracing             == the observer that keeps this, with the turns of the loops around a part, the
--                        outermost loop first
use Rattle.std.specs.Prelude.{ℕ, ℤ, ◌-◌, List, [], ◌∷◌, ◌++◌, map, length, Option, Some, None}
use Rattle.std.specs.FinMap.{empty, get, insert}
use Rattle.hpr_terms.specs.declared.tag.Tag.{Tag}
use Rattle.hpr_syntax.specs.declared.rows.Content.{Content}
use Rattle.hpr_syntax.specs.Values.{Values, value_at}
use Rattle.hpr_run.specs.Observed.{Observing, observing}
use Rattle.hpr_paths.specs.Times.{Place}
use Rattle.hpr_meaning.specs.declared.traced.Origin.{Origin}
use Rattle.hpr_meaning.specs.declared.traced.Origin.TheVariants.{Initial, Instance}
use Rattle.hpr_meaning.specs.declared.traced.Read.{Read}
use Rattle.hpr_meaning.specs.Instances.{names_of}
use Rattle.hpr_meaning.specs.Items.{Item, reading_of}
use Rattle.hpr_meaning.specs.Numbers.{Numbers}

pub record Notes : Type 0 where
  pub definers : Numbers
  pub items : List Item

abbrev pub origin_by : Option ℕ → Origin
origin_by None = Initial
origin_by (Some n) = Instance n

abbrev pub origin_at : Numbers → List ℕ → Origin
origin_at ns x = origin_by (get ns x)

abbrev pub no_notes : Notes
no_notes = record { definers = empty; items = [] }

abbrev pub read_at : Values → Notes → List ℕ → Read
read_at s m x = record { name = x; value = reading_of (value_at s x); origin = origin_at m.definers x }

abbrev pub item_at : Place → Content → ℤ → Values → Notes → Item
item_at a c z s m = record { tag = a.0; turns = a.1; reads = map (read_at s m) (names_of c); value = z }

abbrev pub noted : List ℕ → Tag → Content → ℤ → Values → Notes → Notes
noted turns t c z s m = record { definers = m.definers; items = m.items ++ item_at (t, turns) c z s m ∷ [] }

abbrev pub defined : List ℕ → Notes → Notes
defined x m = record { definers = insert m.definers x (length m.items - 1); items = m.items }

abbrev pub tracing : Observing Notes (List ℕ)
tracing = observing (λ turns k. turns ++ k ∷ []) noted defined
