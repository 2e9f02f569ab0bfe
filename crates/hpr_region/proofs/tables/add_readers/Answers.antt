use Rattle.std.proofs.Common.{◌≡◌, Some, None, Contains, sym, ◌∙◌, arith}
use Rattle.hpr_search.specs.Rows.{numbers_at, numbers_of}
use Rattle.hpr_order.proofs.Linking.{false_is, true_is}
use Rattle.hpr_region.proofs.Readers.{push_at, read_whole, skip_at}
use Rattle.hpr_region.proofs.tables.add_readers.Goals as goal

pub loop-link-preserved-then-not-is_independent : goal.loop-link-preserved-then-not-is_independent
loop-link-preserved-then-not-is_independent c = record {
  count = c.loop-link.invariant.count;
  rows = skip_at (λ a b. Contains (numbers_at (numbers_of c.args.rows.now.items) a) b) c.args.item c.args.places.now c.args.links.now c.loop-link.link-index _ c.loop-link-test.true (numbers_of c.loop-link.rows.items)
      (λ a is p. false_is c.is_independent.result c.if-not-is_independent.true (c.is_independent.ensures.1 is)) c.loop-link.invariant.rows;
}

pub loop-link-preserved-in_default : goal.loop-link-preserved-in_default
loop-link-preserved-in_default c = record {
  count = c.loop-link.invariant.count;
  rows = skip_at (λ a b. Contains (numbers_at (numbers_of c.args.rows.now.items) a) b) c.args.item c.args.places.now c.args.links.now c.loop-link.link-index _ c.loop-link-test.true (numbers_of c.loop-link.rows.items)
      (λ a is p. (let e : None ≡ Some a = sym c.in_default.is ∙ c.number_at.ensures ∙ p in absurd cc)) c.loop-link.invariant.rows;
}

pub loop-link-preserved : goal.loop-link-preserved
loop-link-preserved c = record {
  count = omega (arith, c.in_ok-push_at.ensures.count, c.push_at.ensures.count, c.loop-link.invariant.count);
  rows = push_at (λ a b. Contains (numbers_at (numbers_of c.args.rows.now.items) a) b) c.args.item c.args.places.now c.args.links.now c.loop-link.link-index _ c.loop-link-test.true (numbers_of c.loop-link.rows.items) (numbers_of c.push_at.new.rows.items) c.in-Some.source
      (c.is_independent.ensures.0 (true_is c.is_independent.result c.if-not-is_independent.false)) (sym c.number_at.ensures ∙ c.in-Some.is) c.in_ok-push_at.ensures.pushed c.loop-link.invariant.rows;
}

pub returns-clause-rows : goal.returns-clause-rows
returns-clause-rows c =
    read_whole (λ a b. Contains (numbers_at (numbers_of c.args.rows.now.items) a) b) c.args.item c.args.places.now c.args.links.now c.loop-link.link-index (numbers_of c.loop-link.rows.items)
    c.loop-link-test.false c.loop-link.invariant.rows

pub push_at-requires : goal.push_at-requires
push_at-requires c = omega (arith, c.requires _ c.in-Some.source (sym c.number_at.ensures ∙ c.in-Some.is), c.loop-link.invariant.count)
