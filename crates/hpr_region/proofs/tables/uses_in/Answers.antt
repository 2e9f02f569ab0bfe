use Rattle.std.proofs.Common.{◌∙◌}
use Rattle.std.proofs.lemmas.Result.{IfOk-weaker}
use Rattle.hpr_region.proofs.Uses.{are_used}
use Rattle.hpr_region.proofs.tables.uses_in.Goals as goal

pub returns : goal.returns
returns c =
    IfOk-weaker c.numbers_among.result _ _ (λ row all. are_used c.args.names.now row.items c.args.content.now c.deref.result.now (c.deref.ensures.value ∙ c.in_ok-used.ensures) all) c.numbers_among.ensures
