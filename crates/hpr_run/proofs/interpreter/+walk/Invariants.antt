use Rattle.std.proofs.Common.{◌≡◌, ◌≤◌, ◌+◌, ◌-◌, drop}
use Rattle.hpr_syntax.specs.BodyOf.{body_of}
use Rattle.hpr_syntax.specs.Parts.{tag_of, expr_of}
use Rattle.hpr_run.specs.Observed.{observing, walk, walk_turns}
use Rattle.hpr_run.proofs.interpreter.+walk.Given as goal

abbrev pub invariant-walk_block-loop-stmt : goal.invariant-walk_block-loop-stmt
invariant-walk_block-loop-stmt g l =
    let w = observing g.O.Observer.in_turn g.O.Observer.told g.O.Observer.assigned in
    (body_of l.stmt-items ≡ l.block) ×
    (walk w l.block l.around l.initial.observer l.initial.state l.initial.left ≡ walk w (body_of (drop l.stmt-index l.stmt-items)) l.around l.observer l.state l.left) ×
    (l.left ≤ l.initial.left)

abbrev pub invariant-walk_loop-loop-turn : goal.invariant-walk_loop-loop-turn
invariant-walk_loop-loop-turn g l =
    let w = observing g.O.Observer.in_turn g.O.Observer.told g.O.Observer.assigned in
    (walk_turns w 0 (l.initial.left + 1) (tag_of l.stmt) (expr_of l.stmt) (walk w l.body) l.around l.initial.observer l.initial.state l.initial.left
    ≡ walk_turns w l.turn (l.initial.left + 1 - l.turn) (tag_of l.stmt) (expr_of l.stmt) (walk w l.body) l.around l.observer l.state l.left) ×
    (l.left ≤ l.initial.left)
