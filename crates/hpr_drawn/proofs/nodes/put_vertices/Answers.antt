use Rattle.std.proofs.Common.{◌++◌, ◌∙◌}
use Rattle.std.proofs.lemmas.Result.{on_ok_weaker}
use Rattle.hpr_drawn.specs.Pictures.{rows_text}
use Rattle.hpr_drawn.proofs.nodes.put_vertices.Goals as goal

pub returns : goal.returns
returns c =
    let inits = c.deref.ensures.value ∙ c.in_ok-inits.ensures in
    let parts = c.deref-2.ensures.value ∙ c.in_ok-parts.ensures in
    let finals = c.deref-3.ensures.value ∙ c.in_ok-finals.ensures in
    on_ok_weaker c.put_rows.result (λ put. put ∙ (λ i. c.args.out.now.items ++ rows_text (inits i) (parts i) (finals i))) c.put_rows.ensures
