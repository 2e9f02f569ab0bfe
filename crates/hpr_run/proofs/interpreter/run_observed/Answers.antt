use Rattle.std.proofs.Common.{◌-◌, ap, ◌∙◌}
use Rattle.hpr_syntax.specs.Run.{FinalValues, final_values, ends}
use Rattle.hpr_run.specs.Observed.{observing}
use Rattle.hpr_run.proofs.Observed.{outcome_at, spent_at, faulted_at, knows, knows_stopped, knows_spent}
use Rattle.hpr_run.proofs.interpreter.run_observed.Goals as goal

pub returns-in-Ok-clause-outcome : goal.returns-in-Ok-clause-outcome
returns-in-Ok-clause-outcome g c =
    let w = observing g.O.Observer.in_turn g.O.Observer.told g.O.Observer.assigned in
    ap (λ (x : FinalValues). ends x (c.args.most - c.walk_block.new.left))
    (c.in_ok-final_values-in-Ok.ensures ∙ ap (λ x. final_values x c.walk_block.new.state) c.finals.ensures.finals)
    ∙ outcome_at w c.args.program.now c.body.result.now c.args.around.now c.args.observer.now c.in_ok-state.state c.args.state.now c.args.most
    c.body.ensures.body c.in_ok-state.ensures _ c.in-Ok.ensures.did

pub returns-in-Err-Faulty-clause-outcome : goal.returns-in-Err-Faulty-clause-outcome
returns-in-Err-Faulty-clause-outcome g c =
    let w = observing g.O.Observer.in_turn g.O.Observer.told g.O.Observer.assigned in
    let e = c.in-Err-Faulty in
    faulted_at w c.args.program.now c.body.result.now c.args.around.now c.args.observer.now c.in_ok-state.state c.args.state.now c.args.most
    c.body.ensures.body c.in_ok-state.ensures e.field-0 e.tag _ e.fault _ e.field-0-is e.tag-is e.fault-is _ _ _ e.ensures.did

pub returns-in-Err-Spent-clause-outcome : goal.returns-in-Err-Spent-clause-outcome
returns-in-Err-Spent-clause-outcome g c =
    let w = observing g.O.Observer.in_turn g.O.Observer.told g.O.Observer.assigned in
    let e = c.in-Err-Spent in
    spent_at w c.args.program.now c.body.result.now c.args.around.now c.args.observer.now c.in_ok-state.state c.args.state.now c.args.most
    c.body.ensures.body c.in_ok-state.ensures e.field-0 e.field-0-is _ _ _ e.ensures.did

pub returns-in-Ok-clause-known : goal.returns-in-Ok-clause-known
returns-in-Ok-clause-known g c =
    let w = observing g.O.Observer.in_turn g.O.Observer.told g.O.Observer.assigned in
    knows w c.body.result.now c.args.program.now.body c.args.around.now c.args.observer.now c.in_ok-state.state c.args.state.now c.args.most c.body.ensures.body c.in_ok-state.ensures _ c.in-Ok.ensures.did

pub returns-in-Err-Faulty-clause-known : goal.returns-in-Err-Faulty-clause-known
returns-in-Err-Faulty-clause-known g c =
    let w = observing g.O.Observer.in_turn g.O.Observer.told g.O.Observer.assigned in
    let e = c.in-Err-Faulty in
    knows_stopped w c.body.result.now c.args.program.now.body c.args.around.now c.args.observer.now c.in_ok-state.state c.args.state.now c.args.most c.body.ensures.body c.in_ok-state.ensures
    e.field-0 e.tag e.fault e.field-0-is _ _ _ e.ensures.did

pub returns-in-Err-Spent-clause-known : goal.returns-in-Err-Spent-clause-known
returns-in-Err-Spent-clause-known g c =
    let w = observing g.O.Observer.in_turn g.O.Observer.told g.O.Observer.assigned in
    let e = c.in-Err-Spent in
    knows_spent w c.body.result.now c.args.program.now.body c.args.around.now c.args.observer.now c.in_ok-state.state c.args.state.now c.args.most c.body.ensures.body c.in_ok-state.ensures
    e.field-0 e.field-0-is _ _ _ e.ensures.did
