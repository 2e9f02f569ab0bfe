-- The texts of reports.
--
-- fault_word fault  == what a fault is called
-- comma_number z    == the number behind a comma
-- numbers_text zs   == the numbers, a comma between each two
-- element_text e    == the index of an element, a colon and the element
-- comma_element e   == the same behind a comma
-- elements_text es  == the elements with their indices, a comma between each two
-- value_text v      == a number as it is; a list in brackets, a comma between each two of its numbers; an
--                      array in braces, of which the elements that aren't 0 stand there, ascending
-- value_line x      == the line of a name and its value
-- outcome_line o    == how a run went, without its values: a line
-- outcome_text o    == that line, and where the run ended a line for each name of `end`, in its order
use Rattle.std.specs.Prelude.{ℕ, ℤ, List, [], ◌∷◌, ◌++◌, flat_map, codes}
use Rattle.std.specs.FinMap.{entries}
use Rattle.std.specs.Fmt.{decimal, signed_decimal}
use Rattle.hpr_terms.specs.Texts.{tag_text}
use Rattle.hpr_syntax.specs.declared.value.Value.{Value}
use Rattle.hpr_syntax.specs.Run.{Outcome, ends, faults, more}
use Rattle.hpr_syntax.specs.Value.{Fault, overflow, zero_divide, output_full, index_range}
use Rattle.hpr_syntax.specs.declared.value.Value.TheVariants as value

abbrev pub fault_word : Fault → List ℕ
fault_word overflow = codes "overflow"
fault_word zero_divide = codes "zero-divide"
fault_word output_full = codes "output-full"
fault_word index_range = codes "index-range"

abbrev pub comma_number : ℤ → List ℕ
comma_number z = codes "," ++ signed_decimal z

abbrev pub numbers_text : List ℤ → List ℕ
numbers_text [] = []
numbers_text (z ∷ zs) = signed_decimal z ++ flat_map comma_number zs

abbrev pub element_text : ℕ × ℤ → List ℕ
element_text e = decimal e.0 ++ codes ":" ++ signed_decimal e.1

abbrev pub comma_element : ℕ × ℤ → List ℕ
comma_element e = codes "," ++ element_text e

abbrev pub elements_text : List (ℕ × ℤ) → List ℕ
elements_text [] = []
elements_text (e ∷ es) = element_text e ++ flat_map comma_element es

unfoldable pub value_text : Value → List ℕ
value_text (value.Number z) = signed_decimal z
value_text (value.List zs) = codes "[" ++ numbers_text zs ++ codes "]"
value_text (value.Array es) = codes "{" ++ elements_text (entries es) ++ codes "}"

unfoldable pub value_line : List ℕ × Value → List ℕ
value_line x = x.0 ++ codes " = " ++ value_text x.1 ++ codes "\n"

abbrev pub outcome_line : Outcome → List ℕ
outcome_line (ends finals steps) = codes "ended, steps " ++ decimal steps ++ codes "\n"
outcome_line (faults tag fault steps) =
    codes "faulted " ++ fault_word fault ++ codes " at " ++ tag_text tag ++ codes ", steps " ++ decimal steps ++ codes "\n"
outcome_line (more steps) = codes "not ended, steps " ++ decimal steps ++ codes "\n"

abbrev pub outcome_text : Outcome → List ℕ
outcome_text (ends finals steps) = outcome_line (ends finals steps) ++ flat_map value_line finals
outcome_text (faults tag fault steps) = outcome_line (faults tag fault steps)
outcome_text (more steps) = outcome_line (more steps)
