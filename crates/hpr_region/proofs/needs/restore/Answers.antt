use Rattle.std.proofs.Common.{◌≡◌, ◌+◌, Some, None, get_or, sym, ◌∙◌, arith}
use Rattle.std.proofs.lemmas.List.{length-set}
use Rattle.hpr_region.specs.Private.Needs.{tie}
use Rattle.hpr_region.proofs.Needed.{read_number, restore_room, restore_step, tie_group, tied_step}
use Rattle.hpr_region.proofs.needs.restore.Goals as goal

pub overflow_add-index_mut : goal.overflow_add-index_mut
overflow_add-index_mut c =
    let t = c.args.flows.now in
    let r = c.args.rivals.now in
    let i = c.loop-source.source-index in
    let k = c.in-Some.group in
    let is : tie t r c.args.placed.now c.args.child (get_or c.args.sources.now i 0) ≡ Some k = sym c.tie.ensures ∙ c.in-Some.is in
    let within = c.requires.rivals.within (get_or c.args.sources.now i 0) k (tie_group t r c.args.placed.now c.args.child (get_or c.args.sources.now i 0) k is) in
    let room = restore_room t r c.requires.rivals c.args.placed.now c.args.child c.args.needs.now.items c.loop-source.needs.items c.args.sources.now i k c.loop-source-test.true is within c.loop-source.invariant.count
    c.loop-source.invariant.each (c.requires.room k within) in
    let read = read_number c.loop-source.needs.items k c.index_mut.result.now (omega (arith, within, c.loop-source.invariant.count)) c.index_mut.ensures.value in
    omega (arith, room, read)

pub loop-source-preserved : goal.loop-source-preserved
loop-source-preserved c =
    let t = c.args.flows.now in
    let r = c.args.rivals.now in
    let i = c.loop-source.source-index in
    let k = c.in-Some.group in
    let m = c.index_mut.result.now in
    let is : tie t r c.args.placed.now c.args.child (get_or c.args.sources.now i 0) ≡ Some k = sym c.tie.ensures ∙ c.in-Some.is in
    let within = c.requires.rivals.within (get_or c.args.sources.now i 0) k (tie_group t r c.args.placed.now c.args.child (get_or c.args.sources.now i 0) k is) in
    let read = read_number c.loop-source.needs.items k m (omega (arith, within, c.loop-source.invariant.count)) c.index_mut.ensures.value in
    record {
      count = length-set c.loop-source.needs.items k (m + 1) ∙ c.loop-source.invariant.count;
      each = restore_step t r c.requires.rivals c.args.placed.now c.args.child c.args.needs.now.items c.loop-source.needs.items c.args.sources.now i k c.loop-source-test.true is within c.loop-source.invariant.count m read
          c.loop-source.invariant.each;
    }

pub loop-source-preserved-in_default : goal.loop-source-preserved-in_default
loop-source-preserved-in_default c = record {
  count = c.loop-source.invariant.count;
  each = λ g small.
      let step = tied_step c.args.flows.now c.args.rivals.now c.requires.rivals c.args.placed.now c.args.child g c.loop-source.source-index c.args.sources.now None c.loop-source-test.true (sym c.tie.ensures ∙ c.in_default.is) in
      let each = c.loop-source.invariant.each g small in
      omega (arith, each, step);
}
