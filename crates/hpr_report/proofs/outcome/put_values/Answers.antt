use Rattle.std.proofs.Common.{flat_map, refl}
use Rattle.hpr_report.specs.Texts.{value_line}
use Rattle.hpr_report.proofs.Lines.{put_next}
use Rattle.hpr_report.proofs.outcome.put_values.Goals as goal

pub loop-name-preserved : goal.loop-name-preserved
loop-name-preserved c =
    let item = c.loop-name-item.result in
    put_next (flat_map value_line) value_line (λ x rest. refl) c.args.values.now c.loop-name.name-index item c.loop-name.out.items c.put_value.new.out.items _ c.loop-name-test.true
    c.loop-name-item.is c.loop-name.invariant c.in_ok-put_value.ensures
