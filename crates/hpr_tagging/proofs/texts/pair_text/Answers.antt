use Rattle.std.proofs.Common.{string_bytes, ◌≡◌, ◌++◌, codes, append_assoc}
use Rattle.std.specs.Fmt.{decimal}
use Rattle.std.proofs.lemmas.Result.{IfOk-weaker}
use Rattle.hpr_tagging.proofs.texts.pair_text.Goals as goal

pub returns : goal.returns
returns c =
    IfOk-weaker c.format.result _ (λ text. string_bytes text ≡ decimal c.args.author ++ codes ":" ++ decimal c.args.serial ++ codes ", ")
    (λ s e. simp append_assoc e) c.format.ensures.ok
