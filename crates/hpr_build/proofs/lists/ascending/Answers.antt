use Rattle.std.proofs.Common.{◌≡◌, ◌==◌}
use Rattle.std.specs.List.{dedup}
use Rattle.std.proofs.lemmas.List.Filters.{dedup_is}
use Rattle.std.proofs.lemmas.List.Kept.{Contains-dedup_nat, Contains-from_dedup}
use Rattle.std.proofs.lemmas.List.Sorted.{Contains-permutation, IsPermutation-sym}
use Rattle.std.proofs.lemmas.Map.Keys.{IsStrictlyIncreasing-dedup}
use Rattle.hpr_build.proofs.lists.ascending.Goals as goal

pub returns-clause-ascending : goal.returns-clause-ascending
returns-clause-ascending c =
    let is : c.dedup.new.self.items ≡ dedup ◌==◌ c.sort_unstable.new.self.items = dedup_is ◌==◌ _ _ c.dedup.ensures.filtered in
    rw is (IsStrictlyIncreasing-dedup c.sort_unstable.new.self.items c.sort_unstable.ensures.sorted)

pub returns-clause-same : goal.returns-clause-same
returns-clause-same c = λ n.
    let numbers = c.args.numbers.items in
    let sorted = c.sort_unstable.new.self.items in
    let is : c.dedup.new.self.items ≡ dedup ◌==◌ sorted = dedup_is ◌==◌ _ _ c.dedup.ensures.filtered in
    rw is (
      (λ h. Contains-permutation sorted numbers n (IsPermutation-sym numbers sorted c.sort_unstable.ensures.permutation) (Contains-from_dedup ◌==◌ sorted n h)),
      (λ h. Contains-dedup_nat sorted n (Contains-permutation numbers sorted n c.sort_unstable.ensures.permutation h)),
    )
