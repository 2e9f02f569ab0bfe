use Rattle.std.proofs.Common.{◌<◌, bit_and, ap, sym, arith}
use Rattle.hpr_graph.specs.Numbered.{row_items, row_of}
use Rattle.hpr_merge.proofs.Bits.{and_fits, here_bit, rest_bit}
use Rattle.hpr_merge.proofs.Past.{past_skipped, past_into}
use Rattle.hpr_merge.proofs.added.past_vertex.Goals as goal

pub returns-then-here-eq0-clause-past : goal.returns-then-here-eq0-clause-past
returns-then-here-eq0-clause-past c = λ i l.
    past_skipped c.args.variant.now c.args.grown.now c.args.own.now c.args.to c.args.waiting _ (row_of c.args.merged.now c.args.to) c.args.firsts.now.items c.args.firsts.now.items i
    (rw c.word_at.ensures (rw c.word_at-2.ensures (here_bit c.args.waiting c.args.grown.now c.args.own.now c.args.to i))) c.if-here-eq0.true

pub returns-clause-past : goal.returns-clause-past
returns-clause-past c = λ i l.
    (let few = c.requires.few in
    let below : i < 64 = omega (arith, l, few) in
    past_into c.args.variant.now c.args.grown.now c.args.own.now c.args.to c.args.waiting _ (row_of c.args.merged.now c.args.to) c.args.firsts.now.items _ i
    (rw c.word_at.ensures (rw c.word_at-2.ensures (here_bit c.args.waiting c.args.grown.now c.args.own.now c.args.to i))) c.past_links-left.result _ c.edges_into-links.result.now c.edges_into-own_links.result.now
    (sym (ap row_items c.edges_into-links.ensures.row)) (sym (ap row_items c.edges_into-own_links.ensures.row))
    (rest_bit c.args.waiting (bit_and (bit_and c.args.waiting c.word_at.result) c.word_at-2.result) c.past_links-left.result i (and_fits (bit_and c.args.waiting c.word_at.result) c.word_at-2.result (and_fits c.args.waiting c.word_at.result c.ranges.waiting.fits)) below)
    (c.past_links-left.ensures.past i l))
