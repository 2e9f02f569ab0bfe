-- Whether an item clashes with those placed before it, by tables of the items.
--
-- slot_of t k           == where the item k stands
-- variable_of t k       == the number of the variable that the item k defines, if it defines one
-- uses_of t k           == the numbers of the variables that it uses
-- readers_of t k        == the items into which an independent flow edge goes from it
-- same_block t a b      == whether both stand in one block
-- same_variable u v     == whether both are the same variable
-- is_among v xs         == whether v is one of these variables
-- defined_in t v items  == whether one of these items defines the variable
-- reaches_wrongly t d back c == whether c, placed next, is reached by d without such an edge, where `back` is
--                               what is placed behind d
-- reached_wrongly t placed c == whether one of the placed items reaches c so
-- is_left t placed c u  == whether u is another item of the block of c that is not yet placed
-- some_left t placed c us == whether one of these is
-- kills_of t placed c d == whether c, placed next, kills what d defines: another item of the block, not yet
--                          placed, still needs it
-- kills_one t placed items c == whether c kills what one of these items defines
-- clash t placed c      == whether c is reached wrongly, or kills
use Rattle.std.specs.Prelude.{ℕ, Bool, true, false, cond, eqb, Option, Some, None, List, [], ◌∷◌, get_or, slice_get}
use Rattle.hpr_forest.specs.Blocks.{row_at}
use Rattle.hpr_forest.specs.Marks.{is_in}
use Rattle.hpr_forest.specs.Trees.{Slot, same_slot}
use Rattle.hpr_region.specs.declared.flows.Flows.{Flows}

abbrev pub same_variable : Option ℕ → Option ℕ → Bool
same_variable None v = false
same_variable (Some x) None = false
same_variable (Some x) (Some y) = eqb x y

abbrev pub is_among : Option ℕ → List ℕ → Bool
is_among None xs = false
is_among (Some x) xs = is_in xs x

module _ (t : Flows) where
  abbrev pub slot_of : ℕ → Slot
  slot_of k = get_or t.slots.items k None

  abbrev pub variable_of : ℕ → Option ℕ
  variable_of k = get_or t.variables.items k None

  abbrev pub uses_of : ℕ → List ℕ
  uses_of k = row_at (slice_get t.uses.items k)

  abbrev pub readers_of : ℕ → List ℕ
  readers_of k = row_at (slice_get t.readers.items k)

  abbrev pub same_block : ℕ → ℕ → Bool
  same_block a b = same_slot (slot_of a) (slot_of b)

  abbrev pub defined_in : Option ℕ → List ℕ → Bool
  defined_in v [] = false
  defined_in v (k ∷ items) = cond (same_variable v (variable_of k)) true (defined_in v items)

  abbrev pub reaches_wrongly : ℕ → List ℕ → ℕ → Bool
  reaches_wrongly d back c =
      cond (same_block d c) (cond (is_among (variable_of d) (uses_of c)) (cond (is_in (readers_of d) c) false (cond (defined_in (variable_of d) back) false true)) false) false

  abbrev pub reached_wrongly : List ℕ → ℕ → Bool
  reached_wrongly [] c = false
  reached_wrongly (d ∷ back) c = cond (reaches_wrongly d back c) true (reached_wrongly back c)

  abbrev pub is_left : List ℕ → ℕ → ℕ → Bool
  is_left placed c u = cond (eqb u c) false (cond (is_in placed u) false (same_block c u))

  abbrev pub some_left : List ℕ → ℕ → List ℕ → Bool
  some_left placed c [] = false
  some_left placed c (u ∷ us) = cond (is_left placed c u) true (some_left placed c us)

  abbrev pub kills_of : List ℕ → ℕ → ℕ → Bool
  kills_of placed c d = cond (same_block d c) (cond (same_variable (variable_of d) (variable_of c)) (some_left placed c (readers_of d)) false) false

  abbrev pub kills_one : List ℕ → List ℕ → ℕ → Bool
  kills_one placed [] c = false
  kills_one placed (d ∷ items) c = cond (kills_of placed c d) true (kills_one placed items c)

  abbrev pub clash : List ℕ → ℕ → Bool
  clash placed c = cond (reached_wrongly placed c) true (kills_one placed placed c)
