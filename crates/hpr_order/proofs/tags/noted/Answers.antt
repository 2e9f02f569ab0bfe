use Rattle.std.specs.BTreeSet.{contains}
use Rattle.hpr_graph.specs.Order.{tag_cmp}
use Rattle.hpr_order.proofs.Leasts.{seen_now, noted_fresh, noted_again}
use Rattle.hpr_order.proofs.tags.noted.Goals as goal

pub returns-then-branch-clause-seen : goal.returns-then-branch-clause-seen
returns-then-branch-clause-seen c =
    seen_now c.args.vertex.now c.in-Part.tag c.in-Part.field-1 c.in-Part.is (contains tag_cmp c.args.seen.now) (contains tag_cmp c.insert.new.self)
    c.in_ok-insert-in-Part.ensures.updates.0

pub returns-then-branch-clause-least : goal.returns-then-branch-clause-least
returns-then-branch-clause-least c =
    noted_fresh c.args.vertex.now c.in-Part.tag c.in-Part.field-1 c.in-Part.is (contains tag_cmp c.args.seen.now) c.args.least _ c.in_ok-insert-in-Part.ensures.added c.if-branch.true

pub returns-else-branch-clause-least : goal.returns-else-branch-clause-least
returns-else-branch-clause-least c =
    noted_again c.args.vertex.now c.in-Part.tag c.in-Part.field-1 c.in-Part.is (contains tag_cmp c.args.seen.now) c.args.least _ c.lesser_tag.result
    c.in_ok-insert-in-Part.ensures.added c.if-branch.false c.lesser_tag.ensures
