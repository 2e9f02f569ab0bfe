use Rattle.hpr_order.proofs.Downs.{reached_marks, unreached_marks}
use Rattle.hpr_order.proofs.reached.reached_in.Goals as goal

pub returns-in_ok-reachable-in-Some : goal.returns-in_ok-reachable-in-Some
returns-in_ok-reachable-in-Some c =
    reached_marks c.args.graph.now c.requires.numbered _ c.requires.rows c.in-Some.entry c.in_ok-reachable-in-Some.field-0.items c.in-Some.ensures.found
    c.in_ok-reachable-in-Some.ensures.row c.in_ok-reachable-in-Some.ensures.sound c.in_ok-reachable-in-Some.ensures.complete

pub returns-in_ok-reachable-in-None : goal.returns-in_ok-reachable-in-None
returns-in_ok-reachable-in-None c =
    unreached_marks c.args.graph.now c.requires.numbered _ c.requires.rows c.in_ok-reachable-in-None.field-0.items c.in-None.ensures.none
    c.in_ok-reachable-in-None.ensures.row c.in_ok-reachable-in-None.ensures.sound
