-- How a run went, as JSON.
--
-- integer_data z    == a number
-- element_data e    == an element of an array: its index and the number there
-- elements_data es  == these elements of an array
-- value_data v      == a number; the numbers of the stream; the elements of an array that aren't 0, ascending
-- final_data x      == a name and its value
-- outcome_data o    == how the run went, how many steps it took, and the values of the names of `end`, in its
--                      order, or the fault and the tag of the part that came to it
use Rattle.std.specs.Prelude.{ℕ, ℤ, List, map, codes}
use Rattle.std.specs.FinMap.{entries}
use Rattle.serde_json.specs.Data.{Data, number, string, array, item, no_items, object, member, no_members}
use Rattle.serde_json.specs.Find.{of_integer}
use Rattle.serde_json.specs.View.{items_of}
use Rattle.hpr_terms.specs.Texts.{tag_text}
use Rattle.hpr_syntax.specs.declared.value.Value.{Value}
use Rattle.hpr_syntax.specs.declared.value.Value.TheVariants as value
use Rattle.hpr_syntax.specs.Run.{Outcome, ends, faults, more}
use Rattle.hpr_report.specs.GraphJson.{number_data}
use Rattle.hpr_report.specs.Texts.{fault_word}

abbrev pub integer_data : ℤ → Data
integer_data z = number (of_integer z)

abbrev pub element_data : ℕ × ℤ → Data
element_data e = array (item (number_data e.0) (item (integer_data e.1) no_items))

abbrev pub elements_data : List (ℕ × ℤ) → Data
elements_data es = object (member (codes "elements") (array (items_of (map element_data es))) no_members)

abbrev pub value_data : Value → Data
value_data (value.Number z) = integer_data z
value_data (value.List zs) = array (items_of (map integer_data zs))
value_data (value.Array es) = elements_data (entries es)

abbrev pub final_data : List ℕ × Value → Data
final_data x = object (member (codes "name") (string x.0) (member (codes "value") (value_data x.1) no_members))

abbrev pub outcome_data : Outcome → Data
outcome_data (ends finals steps) =
    object
    (member (codes "status") (string (codes "done"))
    (member (codes "steps") (number_data steps) (member (codes "values") (array (items_of (map final_data finals))) no_members)))
outcome_data (faults tag fault steps) =
    object
    (member (codes "fault") (string (fault_word fault))
    (member (codes "status") (string (codes "faulted"))
    (member (codes "steps") (number_data steps) (member (codes "tag") (string (tag_text tag)) no_members))))
outcome_data (more steps) =
    object (member (codes "status") (string (codes "not ended")) (member (codes "steps") (number_data steps) no_members))
