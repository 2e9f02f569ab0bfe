use Rattle.std.proofs.Common.{◌+◌, ℕ, List, length, ap, arith}
use Rattle.std.proofs.lemmas.List.Sorted.{Contains-permutation, IsPermutation-sym}
use Rattle.hpr_paths.specs.Spots.{Spot}
use Rattle.hpr_paths.proofs.Stands.{count_whole}
use Rattle.hpr_build.specs.Uses.{AreUses}
use Rattle.hpr_build.proofs.Permuted.{once_permuted}
use Rattle.hpr_build.proofs.UseRows.{all_uses}
use Rattle.hpr_build.proofs.uses.uses_of.Goals as goal

pub part_uses-requires : goal.part_uses-requires
part_uses-requires c = omega (arith, c.part_count-exit.ensures.count, ap (λ (s : List Spot). length s) c.requires, count_whole c.args.program.now)

pub returns-clause-exact : goal.returns-clause-exact
returns-clause-exact c = λ u.
    let t = c.args.program.now in
    let whole : AreUses t c.push_ends.new.into.items = all_uses t (c.part_count-exit.result + 1) c.finals.result.now c.args.succ.now c.in_ok-uses.uses.items c.push_ends.new.into.items c.requires
    (ap (λ (n : ℕ). n + 1) c.part_count-exit.ensures.count) c.finals.ensures.finals c.in_ok-uses.ensures.exact c.in_ok-push_ends.ensures.exact in
    let moved = c.sort.ensures.permutation in (
      (λ h. (whole u).0 (Contains-permutation _ _ u (IsPermutation-sym _ _ moved) h)),
      (λ h. Contains-permutation _ _ u moved ((whole u).1 h)),
    )

pub returns-clause-once : goal.returns-clause-once
returns-clause-once c = once_permuted _ _ c.sort.ensures.permutation (c.in_ok-push_ends.ensures.once c.in_ok-uses.ensures.once (λ u h. ((c.in_ok-uses.ensures.exact u).0 h).0))
