use Rattle.std.proofs.Common.{◌≡◌, ◌==◌, ◌∙◌, sym, false, slice_index, arith}
use Rattle.hpr_inputs.proofs.ValueLemmas.{read_is}
use Rattle.hpr_inputs.proofs.states.read_value.Goals as goal

pub returns : goal.returns
returns c =
    let plain : (slice_index c.args.text.now 0 == 43) ≡ false = sym (c.starts_with.ensures.byte (omega arith) (omega arith) (λ w o h. h)) ∙ c.if-starts_with.false in
    c.ok.ensures.value ∙ read_is c.args.text.now plain c.parse.result c.parse.ensures.value.0
