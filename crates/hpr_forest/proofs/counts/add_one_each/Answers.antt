use Rattle.std.proofs.Common.{◌+◌, ◌<◌, ◌∙◌, get_or, length, arith}
use Rattle.std.proofs.lemmas.List.{length-set}
use Rattle.hpr_forest.proofs.Counted.{added, room_to_add}
use Rattle.hpr_forest.proofs.counts.add_one_each.Goals as goal

pub overflow_add-index_mut : goal.overflow_add-index_mut
overflow_add-index_mut c =
    let cur = c.loop-entry.left.items in
    let i = c.loop-entry.entry-index in
    let small : get_or c.args.entries.now i 0 < length cur = (let h = c.requires.within i 0 c.loop-entry-test.true in omega (arith, h, c.loop-entry.invariant.count)) in
    omega (arith, room_to_add c.args.left.now.items cur c.args.entries.now i c.index_mut.result.now c.loop-entry-test.true small c.index_mut.ensures.value c.loop-entry.invariant.each c.requires.room)

pub loop-entry-preserved : goal.loop-entry-preserved
loop-entry-preserved c =
    let cur = c.loop-entry.left.items in
    let i = c.loop-entry.entry-index in
    let m = c.index_mut.result.now in
    let small : get_or c.args.entries.now i 0 < length cur = (let h = c.requires.within i 0 c.loop-entry-test.true in omega (arith, h, c.loop-entry.invariant.count)) in
    record {
      count = length-set cur (get_or c.args.entries.now i 0) (m + 1) ∙ c.loop-entry.invariant.count;
      each = added c.args.left.now.items cur c.args.entries.now i m c.loop-entry-test.true small c.index_mut.ensures.value c.loop-entry.invariant.each;
    }
