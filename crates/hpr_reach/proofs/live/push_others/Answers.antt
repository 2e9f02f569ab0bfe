use Rattle.std.proofs.Common.{not, Contains, IsTrue, ◌↔◌}
use Rattle.std.proofs.lemmas.Bool.{not-true, both_ways, false_from_ne_true, not_from_false}
use Rattle.hpr_reach.proofs.Grown.{turn_of_list, taken_whole}
use Rattle.hpr_reach.proofs.live.push_others.Goals as goal

pub loop-name-preserved : goal.loop-name-preserved
loop-name-preserved c = λ x.
    let b = c.is_among.result in
    let test : IsTrue (not b) ↔ (¬ Contains c.args.defined.now c.name-item.result) = (
      (λ t h. both_ways b (not-true b t) (c.is_among.ensures.1 h)),
      (λ n. not_from_false b (false_from_ne_true b (λ t. n (c.is_among.ensures.0 t)))),
    ) in
    turn_of_list c.args.names.now c.loop-name.name-index c.name-item.result x (λ y. ¬ Contains c.args.defined.now y) (not b) c.loop-name-test.true c.name-item.is test _ _ _ (c.in_ok-push_if.ensures x) (c.loop-name.invariant x)

pub returns : goal.returns
returns c = λ x. taken_whole c.args.names.now c.loop-name.name-index x _ _ (¬ Contains c.args.defined.now x) c.loop-name-test.false (c.loop-name.invariant x)
