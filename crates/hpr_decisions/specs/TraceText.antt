-- The text of a trace: a line an instance, then how the run went.
--
-- turns_text turns      == the turns, a comma between each two
-- step_line tag turns v == the line of a step: the tag of the part, its turns in brackets, and the number
--                          that shows it
-- instance_line i       == the line of an instance
-- trace_text is         == the lines of instances
-- run_text p state steps trace == what is printed of a run: the lines of its instances, if its trace is asked
--                                 for, and then how it went
use Rattle.std.specs.Prelude.{ℕ, ℤ, Bool, List, [], ◌∷◌, ◌++◌, flat_map, codes, if◌then◌else◌}
use Rattle.std.specs.Fmt.{decimal, signed_decimal}
use Rattle.hpr_terms.specs.declared.tag.Tag.{Tag}
use Rattle.hpr_terms.specs.Texts.{tag_text}
use Rattle.hpr_syntax.specs.Run.{run}
use Rattle.hpr_syntax.specs.Tree.{Tree}
use Rattle.hpr_syntax.specs.Values.{Values}
use Rattle.hpr_meaning.specs.Instances.{Instance, instances}
use Rattle.hpr_report.specs.Texts.{outcome_text}

abbrev pub comma_turn : ℕ → List ℕ
comma_turn n = codes "," ++ decimal n

abbrev pub turns_text : List ℕ → List ℕ
turns_text [] = []
turns_text (n ∷ ns) = decimal n ++ flat_map comma_turn ns

abbrev pub step_line : Tag → List ℕ → ℤ → List ℕ
step_line tag turns v = tag_text tag ++ codes " [" ++ turns_text turns ++ codes "] " ++ signed_decimal v ++ codes "\n"

abbrev pub instance_line : Instance → List ℕ
instance_line i = step_line i.0.0 i.0.1 i.1.number

abbrev pub trace_text : List Instance → List ℕ
trace_text is = flat_map instance_line is

abbrev pub run_text : Tree → Values → ℕ → Bool → List ℕ
run_text p state steps trace =
    if trace then trace_text (instances p state steps) ++ outcome_text (run p state steps) else outcome_text (run p state steps)
