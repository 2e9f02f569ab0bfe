-- The commands as rows of data in the code: what each takes, and what it asks for.
--
-- form_of command    == what the command takes and asks for
-- Reads asked result == a result of what is asked for: that, or refused where there is nothing, or want of
--                       memory
use Rattle.std.specs.Prelude.{◌≡◌, Option, Some, None, Result, MatchResult}
use Rattle.hpr_words.specs.declared.asked.WordsError.{WordsError}
use Rattle.hpr_words.specs.declared.asked.WordsError.TheVariants.{Refused}
use Rattle.hprkit_words.specs.Ask.{Ask}
use Rattle.hprkit_words.specs.Asked.{ask_of}
use Rattle.hprkit_words.specs.Commands.{Form, affected_form, at_form, conflicts_form, format_form, graph_form, impact_form, merge_form, tag_form}
use Rattle.hprkit_words.specs.declared.asked.Asked.{Asked}
use Rattle.hprkit_words.specs.declared.commands.CommandName.{CommandName}
use Rattle.hprkit_words.specs.declared.commands.CommandName.TheVariants.{Affected, At, Conflicts, Format, Graph, Impact, Merge, Tag}

abbrev pub form_of : CommandName → Form
form_of Format = format_form
form_of At = at_form
form_of Tag = tag_form
form_of Graph = graph_form
form_of Impact = impact_form
form_of Affected = affected_form
form_of Conflicts = conflicts_form
form_of Merge = merge_form

abbrev pub Reads : Option Ask → Result Asked WordsError → Type 0
Reads asked result =
    MatchResult result (λ read. asked ≡ Some (ask_of read)) (λ error. error ≡ Refused → asked ≡ None)
