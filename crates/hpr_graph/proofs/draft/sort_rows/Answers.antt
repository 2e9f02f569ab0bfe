use Rattle.std.proofs.Common.{◌≡◌, ◌≤◌, List, Vec, Global, length, set, drop, slice_get, sym, subst, arith}
use Rattle.std.proofs.lemmas.List.{take_at, length-map, map-set}
use Rattle.std.specs.List.Sorted.{IsSorted, IsPermutation}
use Rattle.hpr_graph.specs.declared.link.Link.{Link}
use Rattle.hpr_graph.specs.Numbered.{row_items, rows_of}
use Rattle.hpr_graph.proofs.LinkOrder.{link_cmp}
use Rattle.hpr_graph.proofs.Rows.{row_read}
use Rattle.hpr_graph.proofs.Reordered.{rows_sorted_more, rows_sorted_all}
use Rattle.hpr_graph.proofs.draft.sort_rows.Goals as goal

pub loop-row-preserved : goal.loop-row-preserved
loop-row-preserved c =
    rows_sorted_more _ (rows_of c.loop-row.row-items) c.loop-row.row-index c.loop-row.invariant (rows_of (set c.loop-row.row-items c.loop-row.row-index c.sort_unstable.new.self)) c.row-item.result.items c.sort_unstable.new.self.items
    (row_read c.loop-row.row-items c.loop-row.row-index c.row-item.result (omega (arith, c.loop-row-test.true, c.loop-row.auto.row-items)) c.row-item.is)
    (subst (λ (r : Vec Link Global). IsPermutation r.items c.sort_unstable.new.self.items) (sym c.row-item.is) c.sort_unstable.ensures.permutation)
    c.sort_unstable.ensures.sorted
    (map-set (λ (r : Vec Link Global). r.items) c.loop-row.row-items c.loop-row.row-index c.sort_unstable.new.self)

pub returns-clause-sorted : goal.returns-clause-sorted
returns-clause-sorted c = λ at.
    let kept : length c.loop-row.row-items ≡ c.args.rows.now.len = omega (arith, c.loop-row.auto.row-items, c.deref_mut-row-items.ensures.len) in
    let past : length (rows_of c.loop-row.row-items) ≤ c.loop-row.row-index =
    omega (arith, c.loop-row-test.false, c.loop-row.auto.row-items, length-map c.loop-row.row-items (λ (r : Vec Link Global). r.items)) in
    subst (λ (rows : List (Vec Link Global)). IsSorted link_cmp (row_items (slice_get (rows_of rows) at)))
    (sym (take_at c.loop-row.row-items (drop (length c.loop-row.row-items) c.args.rows.now.items) c.args.rows.now.len kept))
    (rows_sorted_all _ (rows_of c.loop-row.row-items) c.loop-row.row-index c.loop-row.invariant past at)
