-- Which texts are read.
--
-- form_of mode   == the form of the texts
-- HasAuthor mode == the author of untagged parts is at least 1
use Rattle.std.specs.Prelude.{◌≤◌}
use Rattle.hpr_syntax.specs.Grammar.{Form, tagged, untagged}
use Rattle.hpr_text.specs.declared.form.Mode.{Mode}
use Rattle.hpr_text.specs.declared.form.Mode.TheVariants.{Tagged, Untagged}

abbrev pub form_of : Mode → Form
form_of Tagged = tagged
form_of (Untagged a) = untagged a

abbrev pub HasAuthor : Mode → Type 0
HasAuthor Tagged = Unit {0}
HasAuthor (Untagged a) = 1 ≤ a
