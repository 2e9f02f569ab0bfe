use Rattle.std.proofs.Common.{◌↔◌, ℕ, List, Contains, get_or, take, subst, arith}
use Rattle.std.proofs.lemmas.List.{take_all, get_or_default}
use Rattle.std.proofs.lemmas.Option.{slice_get-get_or}
use Rattle.hpr_graph.proofs.Lists.{not_before}
use Rattle.hpr_build.specs.Orders.{IsBefore}
use Rattle.hpr_build.proofs.Pairs.{order_more}
use Rattle.hpr_build.proofs.Rising.{rising_once}
use Rattle.hpr_build.proofs.orders.order_of.Goals as goal

pub push_after-requires-clause-at : goal.push_after-requires-clause-at
push_after-requires-clause-at c = slice_get-get_or c.args.definitions.now c.loop-at.at 0 c.loop-at-test.true

pub push_after-requires-clause-first : goal.push_after-requires-clause-first
push_after-requires-clause-first c = (c.requires.parts c.loop-at.at 0 c.loop-at-test.true).0

pub push_after-requires-clause-last : goal.push_after-requires-clause-last
push_after-requires-clause-last c = (c.requires.parts c.loop-at.at 0 c.loop-at-test.true).1

pub loop-at-preserved : goal.loop-at-preserved
loop-at-preserved c =
    let k = c.loop-at.at in
    let xs = c.args.definitions.now in
    let left : ℕ = get_or xs k 0 in
    record {
      exact = order_more (IsBefore c.args.places.now) xs k left c.loop-at.pairs.items _ c.loop-at-test.true (get_or_default xs k 0 left c.loop-at-test.true)
          c.loop-at.invariant.exact c.in_ok-push_after.ensures.exact;
      once = c.in_ok-push_after.ensures.once c.loop-at.invariant.once
          (λ o h e. not_before xs k left (rising_once xs c.requires.ascending) c.loop-at-test.true (get_or_default xs k 0 left c.loop-at-test.true)
          (subst (Contains (take k xs)) e ((c.loop-at.invariant.exact o).0 h).0));
    }

pub returns-clause-exact : goal.returns-clause-exact
returns-clause-exact c = λ o.
    let P : List ℕ → Type 0 = λ xs. Contains c.loop-at.pairs.items o ↔
    (Contains xs o.left × Contains c.args.definitions.now o.right × IsBefore c.args.places.now o.left o.right) in
    subst P (take_all c.loop-at.at c.args.definitions.now (omega (arith, c.loop-at-test.false))) (c.loop-at.invariant.exact o)
