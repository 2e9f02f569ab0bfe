use Rattle.std.proofs.Common.{◌∙◌, arith}
use Rattle.hpr_report.proofs.VertexRows.{text_there}
use Rattle.hpr_report.proofs.edges.text_at.Goals as goal

pub returns-then-at-len : goal.returns-then-at-len
returns-then-at-len c =
    let of = c.args.of.now in
    c.as_str.ensures.value
    ∙ text_there of.texts.items of.graph.now.vertices c.args.at c.index.result.now c.requires (omega (arith, c.if-at-len.true, c.len.ensures, of.texts.ok.0)) c.index.ensures
