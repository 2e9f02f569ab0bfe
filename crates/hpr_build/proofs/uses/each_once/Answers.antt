use Rattle.std.proofs.Common.{◌<◌, ℕ, List, [], ◌∷◌, length, arith}
use Rattle.std.specs.List.Sorted.{IsStrictlySortedBy}
use Rattle.std.specs.Cmp.Lexicographic.{slice_cmp}
use Rattle.std.specs.Ordering.{nat_cmp}
use Rattle.hpr_build.proofs.uses.each_once.Goals as goal

few_sorted : (names : List (List ℕ)) → length names < 2 → IsStrictlySortedBy (slice_cmp nat_cmp) names
unfolding IsStrictlySortedBy
few_sorted [] l = tt
few_sorted (x ∷ []) l = (tt, tt)
few_sorted (x ∷ y ∷ names) l = absurd (omega (arith, l))

pub returns-then-len-lt2-clause-ascending : goal.returns-then-len-lt2-clause-ascending
returns-then-len-lt2-clause-ascending c = few_sorted c.args.names.items (grind (arith, c.len.ensures, c.if-len-lt2.true))
