-- The line of an item of a trace.
--
-- item_line i == the line of its step
use Rattle.std.specs.Prelude.{ℕ, List}
use Rattle.hpr_meaning.specs.Items.{Item}
use Rattle.hpr_decisions.specs.TraceText.{step_line}

abbrev pub item_line : Item → List ℕ
item_line i = step_line i.tag i.turns i.value
