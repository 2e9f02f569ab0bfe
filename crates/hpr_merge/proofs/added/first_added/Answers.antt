use Rattle.std.proofs.Common.{◌∙◌, ◌<◌, None, length, ap, arith}
use Rattle.std.proofs.lemmas.List.{length-replicate}
use Rattle.std.proofs.lemmas.Option.{slice_get_within}
use Rattle.hpr_merge.proofs.Past.{found_none, found_more, found_whole}
use Rattle.hpr_merge.proofs.added.first_added.Goals as goal

pub loop-to-init : goal.loop-to-init
loop-to-init c = record {
  count = ap length c.in_ok-firsts.ensures ∙ length-replicate c.args.count None;
  found = λ i l.
      (let few = c.requires.few in
      let below : i < 64 = omega (arith, l, few) in
      found_none c.args.merged.now c.args.variant.now c.args.grown.now c.args.own.now c.args.count c.in_ok-firsts.firsts.items c.in_ok-firsts.ensures i l below);
}

pub loop-to-preserved : goal.loop-to-preserved
loop-to-preserved c = record {
  count = c.past_vertex-waiting.ensures.count ∙ c.loop-to.invariant.count;
  found = λ i l.
      found_more c.args.merged.now c.args.variant.now c.args.grown.now c.args.own.now c.loop-to.to c.loop-to.waiting _ c.loop-to.firsts.items _ i (c.loop-to.invariant.found i l)
      (c.past_vertex-waiting.ensures.past i (omega (arith, l, c.loop-to.invariant.count)));
}

pub returns-clause-each : goal.returns-clause-each
returns-clause-each c = λ i o at.
    (let within = slice_get_within c.loop-to.firsts.items i o at in
    let count = c.loop-to.invariant.count in
    found_whole c.args.merged.now c.args.variant.now c.args.grown.now c.args.own.now c.loop-to.to c.loop-to.waiting c.loop-to.firsts.items i c.vertices-to-end.ensures.numbered
    (let same = ap length c.vertices-to-end.ensures.vertices in omega (arith, same, c.loop-to-test.false)) (c.loop-to.invariant.found i (omega (arith, within, count))) o at)
