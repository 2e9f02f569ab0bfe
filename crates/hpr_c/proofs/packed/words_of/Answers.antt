use Rattle.std.proofs.Common.{◌∙◌, map, string_bytes, sym}
use Rattle.hpr_c.proofs.PackedLemmas.{packed_first, packed_front, some_left}
use Rattle.hpr_c.proofs.packed.words_of.Goals as goal

pub returns-in_default-clause-form : goal.returns-in_default-clause-form
returns-in_default-clause-form c _ texts is =
    let kept = c.loop-rest.invariant in
    let left = packed_front (map string_bytes c.loop-rest.words.items) c.loop-rest.rest.now texts kept.texts is.0 (sym kept.so_far ∙ is.1) in
    let first = packed_first c.loop-rest.rest.now left.0 (some_left c.is_empty.result c.loop-rest.rest.now c.is_empty.ensures c.loop-rest-test.true) left.2 in
    c.in_default.ensures.none first.0 first.1 first.2
