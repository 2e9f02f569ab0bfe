use Rattle.std.proofs.Common.{◌∙◌}
use Rattle.hpr_terms.proofs.Plain.{plain_is, stream_unless}
use Rattle.hpr_terms.proofs.name.Name.is_plain.Goals as goal

pub returns-then-not-is_stream : goal.returns-then-not-is_stream
returns-then-not-is_stream c =
    plain_is c.args.self.now c.as_bytes.result.now c.is_array.result c.is_stream.result c.text-text.ensures.variable
    (c.as_bytes.ensures.value ∙ c.text-text.ensures.text) c.is_stream.ensures c.if-not-is_stream.true c.is_array.ensures

pub returns-else-not-is_stream : goal.returns-else-not-is_stream
returns-else-not-is_stream c = stream_unless c.args.self.now c.is_stream.result c.is_stream.ensures c.if-not-is_stream.false
