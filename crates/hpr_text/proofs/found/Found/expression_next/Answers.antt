use Rattle.std.proofs.Common.{Option, sym, subst, ◌∙◌}
use Rattle.hpr_text.specs.declared.state.State.{State}
use Rattle.hpr_text.specs.Machine.{limit, state_at}
use Rattle.hpr_text.specs.Private.InPlace.{InPlace}
use Rattle.hpr_text.proofs.Going.{goes_on_within, ends_within}
use Rattle.hpr_text.proofs.found.Found.expression_next.Goals as goal

pub returns-then-ends_at : goal.returns-then-ends_at
returns-then-ends_at c =
    let e = ends_within limit c.args.self.now c.args.purpose c.args.reading c.args.token (sym c.ends_at.ensures ∙ c.if-ends_at.true) in
    subst (λ (o : Option State). InPlace (state_at c.expression_ends.new.self) o c.expression_ends.result) (sym e) c.expression_ends.ensures

pub returns-else-ends_at : goal.returns-else-ends_at
returns-else-ends_at c =
    let e = goes_on_within limit c.args.self.now c.args.purpose c.args.reading c.args.token (sym c.ends_at.ensures ∙ c.if-ends_at.false) in
    subst (λ (o : Option State). InPlace (state_at c.expression_goes_on.new.self) o c.expression_goes_on.result) (sym e) c.expression_goes_on.ensures
