use Rattle.std.proofs.Common.{◌≡◌, ◌++◌, drop, flat_map, map}
use Rattle.hpr_meaning.specs.Items.{item_in}
use Rattle.hpr_app.specs.Private.ItemLine.{item_line}
use Rattle.hpr_app.proofs.trace_text.put_items.Given as goal

abbrev pub invariant-loop-item : goal.invariant-loop-item
invariant-loop-item l = l.out.items ++ flat_map item_line (map item_in (drop l.item-index l.items)) ≡ l.initial.out.items ++ flat_map item_line (map item_in l.items)
