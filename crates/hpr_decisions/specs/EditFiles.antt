-- What `edit` and `tag` decide.
--
-- OnScript files script next r      == r is the refusal of the script; or the file spells a script, and r is
--                                      what next says of its commands
-- OnUntagged files file author next r == r is the refusal of the file; or it spells a program in the untagged
--                                        form, and r is what next says of that, with this author's tags
-- edit_decision script result       == the program that a script makes is printed; or its first command that
--                                      is refused is named
-- EditOutcome files file script author r == that, of the program and the script that two files spell, read in
--                                           order
-- TagOutcome files file author r    == r prints the program that the untagged file spells
use Rattle.std.specs.Prelude.{◌≡◌, ℕ, List}
use Rattle.hpr_io.specs.Files.{Files, bytes_of}
use Rattle.hpr_syntax.specs.Grammar.{untagged}
use Rattle.hpr_syntax.specs.Print.{text}
use Rattle.hpr_syntax.specs.Tree.{Tree}
use Rattle.hpr_edit.specs.declared.command.Command.{Command}
use Rattle.hpr_edit.specs.Applied.{Applied, applied, becomes, refused}
use Rattle.hpr_refusals.specs.Reasons.{command_text}
use Rattle.hpr_refusals.specs.Refusals.{IsFileIn, IsRefusedIn, IsRefusedScript, IsScriptOf}
use Rattle.hpr_words.specs.Request.{Text}
use Rattle.hpr_inputs.specs.Decision.{Decision, OnRead, prints, refuses}
use Rattle.hpr_inputs.specs.Files.{OnFile}
use Rattle.hpr_inputs.specs.declared.answer.Kind.TheVariants.{Done}

abbrev pub OnScript : Files → Text → (List Command → Type 0) → Decision → Type 0
OnScript files script next r = OnRead (IsRefusedScript script (bytes_of files script)) (IsScriptOf (bytes_of files script)) next r

abbrev pub OnUntagged : Files → Text → ℕ → (Tree → Type 0) → Decision → Type 0
OnUntagged files file author next r =
    OnRead (IsRefusedIn (untagged author) file (bytes_of files file)) (IsFileIn (untagged author) (bytes_of files file)) next r

abbrev pub edit_decision : Text → Applied → Decision
edit_decision script (becomes p) = prints Done (text p)
edit_decision script (refused k why) = refuses (command_text script k why)

abbrev pub EditOutcome : Files → Text → Text → ℕ → Decision → Type 0
EditOutcome files file script author r = OnFile files file (λ p. OnScript files script (λ cs. r ≡ edit_decision script (applied p cs author)) r) r

abbrev pub TagOutcome : Files → Text → ℕ → Decision → Type 0
TagOutcome files file author r = OnUntagged files file author (λ p. r ≡ prints Done (text p)) r
