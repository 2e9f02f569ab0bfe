use Rattle.std.proofs.Common.{◌+◌, arith, ◌∙◌, ap}
use Rattle.hpr_arrays.proofs.Rows.{pushed}
use Rattle.hpr_arrays.proofs.pages.make_rows.Goals as goal

pub loop-preserved : goal.loop-preserved
loop-preserved c =
    let l = c.loop.invariant.2 in
    let t = c.loop-test.true in
    let most = c.requires.count in
    let made = pushed c.loop.pages.items c.push.new.self.items c.new.result c.in_ok-push.ensures.items c.new.ensures.items (omega (arith, l, t, most)) c.loop.invariant.0 in
    (made.0, made.1 ∙ c.loop.invariant.1, made.2 ∙ ap (λ n. n + 1) c.loop.invariant.2)
