use Rattle.std.proofs.Common.{ℕ, ap, sym, ◌∙◌, arith}
use Rattle.hpr_region.specs.Flows.{is_left}
use Rattle.hpr_region.specs.Private.Needs.{one_if}
use Rattle.hpr_region.proofs.Totals.{total_drop}
use Rattle.hpr_region.proofs.flows.Flows.left_over.Goals as goal
use Rattle.hpr_region.proofs.flows.Flows.left_over.Goals.{then-is_left, else-is_left}

pub loop-reader-preserved : goal.loop-reader-preserved
loop-reader-preserved c =
    let step = total_drop (λ (u : ℕ). one_if (is_left c.args.self.now c.args.placed.now c.args.child u)) c.args.readers.now c.loop-reader.reader-index 0 c.loop-reader-test.true in
    elim c.if-is_left.branch [
      | then-is_left w ↦
          let one = ap one_if (sym c.is_left.ensures ∙ w.if-is_left.true) in
          record { most = omega (arith, w.count-is, c.loop-reader.invariant.most); counted = omega (arith, w.count-is, step, one, c.loop-reader.invariant.counted) }
      | else-is_left w ↦
          let none = ap one_if (sym c.is_left.ensures ∙ w.if-is_left.false) in
          record { most = omega (arith, w.count-is, c.loop-reader.invariant.most); counted = omega (arith, w.count-is, step, none, c.loop-reader.invariant.counted) }
    ]
