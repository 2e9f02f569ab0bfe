-- The commands as rows of data in the code: what each takes, and what it asks for.
--
-- form_of command    == what the command takes and asks for
-- Reads asked result == a result of what is asked for: that request, or refused where there is none, or
--                       want of memory
use Rattle.std.specs.Prelude.{◌≡◌, Option, Some, None, Result, MatchResult}
use Rattle.hpr_words.specs.Asked.{request}
use Rattle.hpr_words.specs.Commands.{Form, affected_form, edit_form, graph_form, integrate_form, run_form, sample_form, slice_form, tag_form, trial_form, verify_form}
use Rattle.hpr_words.specs.Request.{Request}
use Rattle.hpr_words.specs.declared.asked.Asked.{Asked}
use Rattle.hpr_words.specs.declared.asked.WordsError.{WordsError}
use Rattle.hpr_words.specs.declared.asked.WordsError.TheVariants.{Refused}
use Rattle.hpr_words.specs.declared.commands.CommandName.{CommandName}
use Rattle.hpr_words.specs.declared.commands.CommandName.TheVariants.{Affected, Edit, Graph, Integrate, Run, Sample, Slice, Tag, Trial, Verify}

abbrev pub form_of : CommandName → Form
form_of Integrate = integrate_form
form_of Run = run_form
form_of Graph = graph_form
form_of Slice = slice_form
form_of Affected = affected_form
form_of Trial = trial_form
form_of Edit = edit_form
form_of Tag = tag_form
form_of Sample = sample_form
form_of Verify = verify_form

abbrev pub Reads : Option Request → Result Asked WordsError → Type 0
Reads asked result = MatchResult result (λ read. asked ≡ Some (request read)) (λ error. error ≡ Refused → asked ≡ None)
