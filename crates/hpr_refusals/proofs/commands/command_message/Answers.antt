use Rattle.std.proofs.Common.{◌≡◌, ◌++◌, ◌∙◌, IfOk, rules, append_assoc, codes, string_bytes, subst}
use Rattle.std.specs.Fmt.{decimal}
use Rattle.hpr_refusals.specs.Reasons.{about, command_reason}
use Rattle.hpr_refusals.proofs.commands.command_message.Goals as goal

pub returns-clause-text : goal.returns-clause-text
returns-clause-text c =
    let refusal = c.args.refusal.now in
    let said : string_bytes c.in_ok-text.text ≡ codes "command " ++ decimal refusal.number ++ codes ": " ++ command_reason refusal.why = search (rules, append_assoc) in
    subst (λ t. IfOk c.about.result (λ message. string_bytes message ≡ about c.args.script.now t)) (c.as_str.ensures.value ∙ said) c.about.ensures
