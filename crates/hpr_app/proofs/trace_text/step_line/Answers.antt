use Rattle.std.proofs.Common.{string_bytes, ◌≡◌, ◌++◌, codes, append_assoc}
use Rattle.std.specs.Fmt.{signed_decimal}
use Rattle.std.proofs.lemmas.Int.{to_z-of_z}
use Rattle.std.proofs.lemmas.Result.{IfOk-weaker}
use Rattle.hpr_terms.specs.Texts.{tag_text}
use Rattle.hpr_app.proofs.trace_text.step_line.Goals as goal

pub returns : goal.returns
returns c =
    IfOk-weaker c.format.result _
    (λ line. string_bytes line ≡ tag_text c.args.tag ++ codes " [" ++ c.args.turns.now ++ codes "] " ++ signed_decimal c.args.value ++ codes "\n")
    (λ s e. simp append_assoc (rw (to_z-of_z _ c.args.value c.ranges.value) at e)) c.format.ensures.ok
