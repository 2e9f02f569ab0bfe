use Rattle.std.proofs.Common.{◌≡◌, ◌+◌, drop, ap, ◌∙◌, arith}
use Rattle.hpr_places.specs.Private.Walk.{closer_len, content_len}
use Rattle.hpr_places.proofs.Steps.{all_left, content_open, content_closed, content_over}
use Rattle.hpr_places.proofs.scan.content_len.Goals as goal

pub returns-then-closer-gt0-clause-count : goal.returns-then-closer-gt0-clause-count
returns-then-closer-gt0-clause-count c =
    let is = c.closer_len-closer.ensures.count ∙ ap (closer_len c.loop-place.before) (all_left c.args.bytes.now c.loop-place.place) in
    let e = content_closed c.loop-place.before c.args.bytes.now c.loop-place.place c.closer_len-closer.result c.loop-place-test.true is c.if-closer-gt0.true in
    omega (arith, e, c.loop-place.invariant)

pub loop-place-preserved : goal.loop-place-preserved
loop-place-preserved c =
    let zero : c.closer_len-closer.result ≡ 0 = omega (arith, c.if-closer-gt0.false) in
    let is = c.closer_len-closer.ensures.count ∙ ap (closer_len c.loop-place.before) (all_left c.args.bytes.now c.loop-place.place) in
    let e = content_open c.loop-place.before c.args.bytes.now c.loop-place.place c.closer_len-closer.result c.loop-place-test.true is zero in
    let f = ap (λ s. content_len s (drop (c.loop-place.place + 1) c.args.bytes.now)) c.after-before.ensures in
    omega (arith, e, f, c.loop-place.invariant)

pub returns-clause-count : goal.returns-clause-count
returns-clause-count c =
    let e = content_over c.loop-place.before c.args.bytes.now c.loop-place.place (omega arith) in
    omega (arith, e, c.loop-place.invariant, c.loop-place.auto.place-end)
