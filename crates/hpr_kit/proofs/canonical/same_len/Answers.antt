use Rattle.std.proofs.Common.{◌==◌, drop, arith, length-drop}
use Rattle.std.proofs.lemmas.List.Sums.{common_prefix_len-le}
use Rattle.hpr_kit.proofs.canonical.same_len.Goals as goal

pub returns-then-at-b-clause-count : goal.returns-then-at-b-clause-count
returns-then-at-b-clause-count c =
    let at = c.loop-at.at in
    let b = c.args.b.now in
    omega (arith, c.loop-at.invariant.count, (common_prefix_len-le (λ x y. x == y) (drop at c.args.a.now) (drop at b)).1, length-drop at b)
