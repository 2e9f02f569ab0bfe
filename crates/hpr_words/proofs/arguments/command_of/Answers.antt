use Rattle.std.proofs.Common.{◌∙◌, ap₂, sym}
use Rattle.std.proofs.lemmas.List.Sums.{fold_more}
use Rattle.clap.specs.Words.{new_app, with_rule}
use Rattle.hpr_words.specs.Arguments.{rule_of_argument}
use Rattle.hpr_words.proofs.arguments.command_of.Goals as goal

pub loop-argument-preserved : goal.loop-argument-preserved
loop-argument-preserved c =
    c.in_ok-command.ensures.shape c.arg_of.ensures.local
    ∙ (ap₂ with_rule c.loop-argument.invariant c.arg_of.ensures.rule
    ∙ sym (fold_more (λ app argument. with_rule app (rule_of_argument argument)) (new_app c.args.name.now) c.args.arguments.now c.loop-argument.argument-index _ c.loop-argument-test.true))
