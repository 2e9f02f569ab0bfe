use Rattle.std.proofs.Common.{◌++◌, map, codes, string_bytes, refl, ap, ◌∙◌}
use Rattle.hpr_report.specs.GraphTexts.{on_lines}
use Rattle.hpr_report.proofs.Lines.{put_next}
use Rattle.hpr_report.proofs.edges.put_lines.Goals as goal

pub loop-text-preserved : goal.loop-text-preserved
loop-text-preserved c =
    put_next (λ ts. on_lines (map string_bytes ts)) (λ x. string_bytes x ++ codes "\n") (λ x rest. refl) c.args.texts.now c.loop-text.text-index c.text-item.result c.loop-text.out.items
    c.put_line.new.out.items _ c.loop-text-test.true c.text-item.is c.loop-text.invariant
    (c.in_ok-put_line.ensures ∙ ap (λ t. c.loop-text.out.items ++ (t ++ codes "\n")) c.as_str.ensures.value)
