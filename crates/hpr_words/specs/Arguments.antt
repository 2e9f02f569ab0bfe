-- The arguments of a command as rows of data in the code.
--
-- rule_of_argument argument == the argument as `clap` has it
-- app_with name arguments   == the command of this name and these arguments
use Rattle.std.specs.Prelude.{List}
use Rattle.std.specs.List.{fold}
use Rattle.clap.specs.Words.{App, Rule, Text, new_app, with_rule}
use Rattle.hpr_words.specs.Commands.{flag_rule, list_rule, number_rule, word_rule}
use Rattle.hpr_words.specs.declared.arguments.Argument.{Argument}
use Rattle.hpr_words.specs.declared.arguments.Argument.TheVariants as argument

abbrev pub rule_of_argument : Argument → Rule
rule_of_argument (argument.Word id) = word_rule id.now
rule_of_argument (argument.List id needed) = list_rule (id.now, needed)
rule_of_argument (argument.Number id most needed) = number_rule id.now most needed
rule_of_argument (argument.Flag id) = flag_rule id.now

abbrev pub app_with : Text → List Argument → App
app_with name arguments = fold (λ app one. with_rule app (rule_of_argument one)) (new_app name) arguments
