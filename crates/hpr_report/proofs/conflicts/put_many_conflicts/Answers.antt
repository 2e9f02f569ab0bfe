use Rattle.std.proofs.Common.{◌++◌, map, codes, refl}
use Rattle.hpr_report.specs.ConflictsText.{many_conflict_text}
use Rattle.hpr_report.specs.GraphTexts.{on_lines}
use Rattle.hpr_report.proofs.Lines.{put_next}
use Rattle.hpr_report.proofs.conflicts.put_many_conflicts.Goals as goal

pub loop-conflict-preserved : goal.loop-conflict-preserved
loop-conflict-preserved c =
    put_next (λ cs. on_lines (map many_conflict_text cs)) (λ x. many_conflict_text x ++ codes "\n") (λ x rest. refl) c.args.conflicts.now c.loop-conflict.conflict-index c.conflict-item.result
    c.loop-conflict.out.items c.put_many_conflict.new.out.items _ c.loop-conflict-test.true c.conflict-item.is c.loop-conflict.invariant c.in_ok-put_many_conflict.ensures
