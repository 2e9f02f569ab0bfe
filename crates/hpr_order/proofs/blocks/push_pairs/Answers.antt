use Rattle.std.proofs.Common.{ℕ, ◌<◌, get_or, sym, subst}
use Rattle.std.proofs.lemmas.List.{take_all}
use Rattle.std.proofs.lemmas.Option.{slice_get-get_or}
use Rattle.hpr_terms.proofs.Facts.{contains_at}
use Rattle.hpr_order.proofs.Tabling.{lifted_always, lifted_pushed, lifted_whole, none_lifted_yet}
use Rattle.hpr_order.proofs.blocks.push_pairs.Goals as goal

pub loop-source-init : goal.loop-source-init
loop-source-init c = record { latest = c.requires.latest; lifted = none_lifted_yet c.args.items.now c.args.pairs.now c.args.asked.now c.requires.count c.requires.none }

pub lifted-requires-clause-source : goal.lifted-requires-clause-source
lifted-requires-clause-source c =
    let pair : ℕ × ℕ = get_or c.args.pairs.now c.loop-source.source-index (0, 0) in
    (c.requires.within pair.0 pair.1 (contains_at c.args.pairs.now c.loop-source.source-index pair (slice_get-get_or c.args.pairs.now c.loop-source.source-index (0, 0) c.loop-source-test.true))).0

pub lifted-requires-clause-target : goal.lifted-requires-clause-target
lifted-requires-clause-target c =
    let pair : ℕ × ℕ = get_or c.args.pairs.now c.loop-source.source-index (0, 0) in
    (c.requires.within pair.0 pair.1 (contains_at c.args.pairs.now c.loop-source.source-index pair (slice_get-get_or c.args.pairs.now c.loop-source.source-index (0, 0) c.loop-source-test.true))).1

pub loop-source-preserved-in-Always : goal.loop-source-preserved-in-Always
loop-source-preserved-in-Always c =
    let pair : ℕ × ℕ = get_or c.args.pairs.now c.loop-source.source-index (0, 0) in
    record {
      latest = c.loop-source.invariant.latest;
      lifted = lifted_always c.args.items.now c.args.pairs.now c.loop-source.source-index pair (slice_get-get_or c.args.pairs.now c.loop-source.source-index (0, 0) c.loop-source-test.true)
          c.loop-source.asked c.loop-source.invariant.lifted c.in-Always.ensures;
    }

pub loop-source-preserved : goal.loop-source-preserved
loop-source-preserved c =
    let pair : ℕ × ℕ = get_or c.args.pairs.now c.loop-source.source-index (0, 0) in
    record {
      latest = c.in_ok-push_sibling-in-Siblings.ensures.latest;
      lifted = lifted_pushed c.args.items.now c.args.pairs.now c.loop-source.source-index pair (slice_get-get_or c.args.pairs.now c.loop-source.source-index (0, 0) c.loop-source-test.true)
          c.loop-source.asked c.push_sibling.new.asked c.in-Siblings.first c.in-Siblings.second c.loop-source.invariant.lifted c.in-Siblings.ensures
          c.in_ok-push_sibling-in-Siblings.ensures.count c.in_ok-push_sibling-in-Siblings.ensures.pushed;
    }

pub returns-clause-lifted : goal.returns-clause-lifted
returns-clause-lifted c = λ _.
    lifted_whole c.args.items.now c.args.pairs.now c.loop-source.source-index c.loop-source.asked (take_all c.loop-source.source-index c.args.pairs.now c.loop-source-test.false) c.loop-source.invariant.lifted

pub push_sibling-requires-clause-first : goal.push_sibling-requires-clause-first
push_sibling-requires-clause-first c = subst (λ n. c.in-Siblings.first < n) (sym c.loop-source.invariant.lifted.count) c.in-Siblings.ensures.first

pub push_sibling-requires-clause-second : goal.push_sibling-requires-clause-second
push_sibling-requires-clause-second c = subst (λ n. c.in-Siblings.second < n) (sym c.loop-source.invariant.lifted.count) c.in-Siblings.ensures.second

pub returns-in-Never-clause-never : goal.returns-in-Never-clause-never
returns-in-Never-clause-never c = λ _.
    let pair : ℕ × ℕ = get_or c.args.pairs.now c.loop-source.source-index (0, 0) in
    let here = contains_at c.args.pairs.now c.loop-source.source-index pair (slice_get-get_or c.args.pairs.now c.loop-source.source-index (0, 0) c.loop-source-test.true) in
    (pair.0, pair.1, here, c.in-Never.ensures)
