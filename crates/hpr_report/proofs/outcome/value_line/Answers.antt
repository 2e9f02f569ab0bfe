use Rattle.std.proofs.Common.{rules, ◌≡◌, ◌++◌, codes, string_bytes, append_assoc}
use Rattle.hpr_report.specs.Texts.{value_line}
use Rattle.hpr_report.proofs.outcome.value_line.Goals as goal

pub returns : goal.returns
unfolding value_line
returns c =
    let named : string_bytes c.in_ok-line.line ≡ c.args.name.now ++ codes " = " = search rules in
    rw (c.in_ok-push_str.ensures.bytes, c.in_ok-put_value_text.ensures, named) (simp append_assoc)
