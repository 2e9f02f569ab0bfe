use Rattle.std.proofs.Common.{◌<◌, length, get_or, ◌∙◌}
use Rattle.std.proofs.lemmas.Option.{slice_get-get_or}
use Rattle.hpr_order.proofs.ItemRows.{first_here, first_not, with_pushed, with_skipped, with_whole}
use Rattle.hpr_order.proofs.blocks.push_first_block.Goals as goal

pub loop-other-preserved-then-not-stands_first : goal.loop-other-preserved-then-not-stands_first
loop-other-preserved-then-not-stands_first c =
    let other = get_or c.args.siblings.now c.loop-other.other-index 0 in
    let less : other < length c.args.items.now = c.requires.siblings c.loop-other.other-index 0 c.loop-other-test.true in
    record {
      count = c.loop-other.invariant.count;
      rows = with_skipped c.args.items.now c.args.siblings.now c.loop-other.other-index other c.args.item (slice_get-get_or c.args.siblings.now c.loop-other.other-index 0 c.loop-other-test.true)
          c.args.before.now c.loop-other.before c.loop-other.invariant.rows
          (first_not c.args.items.now other c.args.item c.stands_first.result (slice_get-get_or c.args.items.now other _ less) (slice_get-get_or c.args.items.now c.args.item _ c.requires.item) c.stands_first.ensures c.if-not-stands_first.true);
    }

pub loop-other-preserved : goal.loop-other-preserved
loop-other-preserved c =
    let other = get_or c.args.siblings.now c.loop-other.other-index 0 in
    let less : other < length c.args.items.now = c.requires.siblings c.loop-other.other-index 0 c.loop-other-test.true in
    record {
      count = c.in_ok-push.ensures.count ∙ c.loop-other.invariant.count;
      rows = with_pushed c.args.items.now c.args.siblings.now c.loop-other.other-index other c.args.item (slice_get-get_or c.args.siblings.now c.loop-other.other-index 0 c.loop-other-test.true)
          c.args.before.now c.loop-other.before c.loop-other.invariant.rows c.push.new.self
          (first_here c.args.items.now other c.args.item c.stands_first.result (slice_get-get_or c.args.items.now other _ less) (slice_get-get_or c.args.items.now c.args.item _ c.requires.item) c.stands_first.ensures c.if-not-stands_first.false)
          c.in_ok-push.ensures.pushed;
    }

pub returns-clause-rows : goal.returns-clause-rows
returns-clause-rows c = with_whole c.args.items.now c.args.siblings.now c.loop-other.other-index c.args.item c.args.before.now c.loop-other.before c.loop-other-test.false c.loop-other.invariant.rows
