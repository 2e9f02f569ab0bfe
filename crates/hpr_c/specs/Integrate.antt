-- What the call that integrates three texts tells.
--
-- integrate_words              == the words that integrate two variants with their base
-- three base a b               == the files that they name
-- variant_names                == the names of the two variants
-- IsAnswered base a b x        == the three texts spell programs whose graphs are within the limit, and x is
--                                 an answer of their integration
-- HasTheirGraph base a b out   == this text spells a program whose graph is the merged graph, under split
--                                 tags
-- IsInterfering base a b out   == the variants interfere, and this is the text of all conflicts
-- IsWithoutProgram base a b out == no program has the merged graph, with its so many parts, and this text
--                                  says so
-- IsOverBudget base a b out    == the budget of tries is spent, and this text says so
-- IsRefused base a b err       == one of the three texts is refused with this message
use Rattle.std.specs.Prelude.{◌≡◌, ℕ, List, [], ◌∷◌, codes}
use Rattle.hpr_terms.specs.declared.limits.TheConstants.{DEFAULT_TRIES}
use Rattle.hpr_io.specs.Files.{Files}
use Rattle.hpr_graph.specs.Answer.{Answer, interference, no_program, spent}
use Rattle.hpr_graph.specs.Conflicts.{told_as}
use Rattle.hpr_graph.specs.declared.conflict.Conflict.{Conflict}
use Rattle.hpr_report.specs.ConflictsText.{conflicts_text}
use Rattle.hpr_words.specs.Request.{Text}
use Rattle.hpr_inputs.specs.Decision.{refuses}
use Rattle.hpr_decisions.specs.Integrate.{IntegrateOutcome, no_program_text, spent_text}
use Rattle.hpr_decisions.specs.MergedText.{HasMergedGraph}
use Rattle.hpr_decisions.specs.Reports.{AnswersFiles, SpentIn}

abbrev pub integrate_words : List Text
integrate_words = codes "integrate" ∷ codes "base" ∷ codes "a" ∷ codes "b" ∷ []

abbrev pub three : (base a b : List ℕ) → Files
three base a b = (codes "base", base) ∷ (codes "a", a) ∷ (codes "b", b) ∷ []

abbrev pub variant_names : List Text
variant_names = codes "a" ∷ codes "b" ∷ []

abbrev pub IsAnswered : (base a b : List ℕ) → Answer → Type 0
IsAnswered base a b x = AnswersFiles told_as (three base a b) (codes "base") variant_names DEFAULT_TRIES x

abbrev pub HasTheirGraph : (base a b out : List ℕ) → Type 0
HasTheirGraph base a b out = HasMergedGraph (three base a b) (codes "base") variant_names out

abbrev pub IsInterfering : (base a b out : List ℕ) → Type 0
IsInterfering base a b out =
    (cs : List Conflict) × IsAnswered base a b (interference cs) × (out ≡ conflicts_text cs)

abbrev pub IsWithoutProgram : (base a b out : List ℕ) → Type 0
IsWithoutProgram base a b out =
    (parts : ℕ) × IsAnswered base a b (no_program parts) × (out ≡ no_program_text parts)

abbrev pub IsOverBudget : (base a b out : List ℕ) → Type 0
IsOverBudget base a b out =
    IsAnswered base a b spent × SpentIn (three base a b) (codes "base") variant_names DEFAULT_TRIES
    × (out ≡ spent_text DEFAULT_TRIES)

abbrev pub IsRefused : (base a b err : List ℕ) → Type 0
IsRefused base a b err =
    IntegrateOutcome (three base a b) (codes "base") (codes "a") (codes "b") DEFAULT_TRIES (refuses err)
