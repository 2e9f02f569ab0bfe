use Rattle.std.proofs.Common.{sym, ap, ◌∙◌, arith}
use Rattle.hpr_region.specs.Private.Needs.{one_if}
use Rattle.hpr_region.proofs.Needed.{tied_step}
use Rattle.hpr_region.proofs.rivals.Rivals.tied.Goals as goal
use Rattle.hpr_region.proofs.rivals.Rivals.tied.Goals.{then-is_same_variable, else-is_same_variable}

pub loop-source-preserved : goal.loop-source-preserved
loop-source-preserved c =
    let i = c.loop-source.source-index in
    let step = tied_step c.args.flows.now c.args.self.now c.requires.rivals c.args.placed.now c.args.child c.args.group i c.args.sources.now c.tie.result c.loop-source-test.true (sym c.tie.ensures) in
    elim c.if-is_same_variable.branch [
      | then-is_same_variable w ↦
          let one = ap one_if (sym c.is_same_variable.ensures ∙ w.if-is_same_variable.true) in
          record { most = omega (arith, w.count-is, c.loop-source.invariant.most); counted = omega (arith, w.count-is, step, one, c.loop-source.invariant.counted) }
      | else-is_same_variable w ↦
          let none = ap one_if (sym c.is_same_variable.ensures ∙ w.if-is_same_variable.false) in
          record { most = omega (arith, w.count-is, c.loop-source.invariant.most); counted = omega (arith, w.count-is, step, none, c.loop-source.invariant.counted) }
    ]
