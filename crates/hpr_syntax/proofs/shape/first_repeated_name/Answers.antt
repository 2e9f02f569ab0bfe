use Rattle.std.proofs.Common.{◌∷◌, arith}
use Rattle.std.proofs.lemmas.Grind.{common_steps}
use Rattle.hpr_syntax.proofs.SetLemmas.{with_name}
use Rattle.hpr_syntax.proofs.shape.first_repeated_name.Goals as goal

pub loop-name-preserved : goal.loop-name-preserved
loop-name-preserved c =
    let earlier = c.loop-name.invariant.0 in
    let same = c.loop-name.invariant.1 in
    let had = c.loop-name.invariant.2 in
    let x = c.in_ok-copy.copy in
    let h = had x in
    (x ∷ earlier, grind (arith, common_steps, same, h), λ y. with_name x y _ _ earlier (c.in_ok-insert.ensures.updates.0 y) (had y))
