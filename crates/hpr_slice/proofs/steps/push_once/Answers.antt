use Rattle.std.proofs.Common.{refl, ap, sym, arith}
use Rattle.std.proofs.lemmas.Result.{IfOk-weaker}
use Rattle.hpr_graph.specs.Numbered.{row_items}
use Rattle.hpr_slice.proofs.StepLists.{steps_more, not_marked}
use Rattle.hpr_slice.proofs.steps.push_once.Goals as goal

pub returns-clause-steps : goal.returns-clause-steps
returns-clause-steps c =
    IfOk-weaker c.push_steps.result _ _
    (λ x is.
    steps_more c.args.graph.now c.args.done.now.items _ c.args.steps.now.items _ c.args.to c.edges_into.result.now (omega (arith, c.if-to-len.false, c.len.ensures)) refl (sym (ap row_items c.edges_into.ensures.row))
    (not_marked c.args.done.now.items c.args.to c.index.result.now (omega (arith, c.if-to-len.false, c.len.ensures)) c.index.ensures c.if-index.false) c.requires.steps is)
    c.push_steps.ensures
