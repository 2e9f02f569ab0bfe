use Rattle.std.proofs.Common.{◌⊎◌, ◌↔◌, ◌+◌, ℕ, List, Contains, subst, arith}
use Rattle.std.proofs.lemmas.List.{take_all}
use Rattle.hpr_build.specs.Orders.{IsBefore}
use Rattle.hpr_build.proofs.Pairs.{After, after_none, after_pushed, after_once, passed_first, passed_later, right_after, outside}
use Rattle.hpr_build.proofs.Rising.{rising_once}
use Rattle.hpr_build.proofs.orders.push_after.Goals as goal

pub loop-next-init : goal.loop-next-init
loop-next-init c =
    let xs = c.args.definitions.now in
    let places = c.args.places.now in
    let left = c.args.left in
    let next = c.place_outside-next.result in
    let spans = c.others_of-others.result.now in
    record {
      low = omega (arith, c.place_outside-next.ensures.from);
      within = c.place_outside-next.ensures.within;
      here = outside places left c.args.at xs c.requires.definitions c.requires.at spans c.others_of-others.ensures next c.place_outside-next.ensures.here;
      exact = after_none (IsBefore places left) left xs next (passed_first places left c.args.at xs c.requires.definitions c.requires.at spans
          c.others_of-others.ensures next c.place_outside-next.ensures.passed) c.args.into.now.items;
      once = λ once fresh. once;
    }

pub loop-next-preserved : goal.loop-next-preserved
loop-next-preserved c =
    let xs = c.args.definitions.now in
    let places = c.args.places.now in
    let left = c.args.left in
    let n = c.loop-next.next in
    let m = c.place_outside-next-in-loop-next.result in
    let out = c.place_outside-next-in-loop-next.ensures in
    let spans = c.others_of-others.result.now in
    let r = right_after places left c.args.at xs c.requires.definitions c.requires.at spans c.others_of-others.ensures n c.loop-next.invariant.low
    c.loop-next-test.true (c.loop-next.invariant.here c.loop-next-test.true) in
    record {
      low = omega (arith, out.from, c.loop-next.invariant.low);
      within = out.within;
      here = outside places left c.args.at xs c.requires.definitions c.requires.at spans c.others_of-others.ensures m out.here;
      exact = after_pushed (IsBefore places left) left xs n m c.loop-next-test.true out.from r
          (passed_later places left c.args.at xs c.requires.definitions c.requires.at spans c.others_of-others.ensures (n + 1) m out.passed)
          c.args.into.now.items c.loop-next.into.items c.push.new.self.items c.in_ok-push.ensures.items c.loop-next.invariant.exact;
      once = λ once fresh. after_once (IsBefore places left) left xs n c.loop-next-test.true (rising_once xs c.requires.definitions) c.args.into.now.items
          c.loop-next.into.items c.push.new.self.items c.in_ok-push.ensures.items
          c.loop-next.invariant.exact fresh (c.loop-next.invariant.once once fresh);
    }

pub returns-clause-exact : goal.returns-clause-exact
returns-clause-exact c = λ o.
    let P : List ℕ → Type 0 = λ xs. Contains c.loop-next.into.items o ↔
    (Contains c.args.into.now.items o ⊎ After (IsBefore c.args.places.now c.args.left) c.args.left xs o) in
    subst P (take_all c.loop-next.next c.args.definitions.now (omega (arith, c.loop-next-test.false))) (c.loop-next.invariant.exact o)
