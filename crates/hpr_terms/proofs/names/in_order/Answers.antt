use Rattle.std.proofs.lemmas.List.Filters.{dedup_is}
use Rattle.std.proofs.Common.{◌≡◌, ◌==◌}
use Rattle.std.specs.Cmp.Lexicographic.{pointwise}
use Rattle.std.specs.List.{dedup}
use Rattle.hpr_terms.proofs.InOrder.{strict_of_dedup, dedup_keeps}
use Rattle.hpr_terms.proofs.names.in_order.Goals as goal

pub returns-clause-ascending : goal.returns-clause-ascending
returns-clause-ascending c =
    let is : c.dedup.new.self.items ≡ dedup (pointwise ◌==◌) c.sort.new.self.items = dedup_is (pointwise ◌==◌) _ _ c.dedup.ensures.filtered in
    rw is (strict_of_dedup c.sort.new.self.items c.in_ok-sort.ensures.sorted)

pub returns-clause-same : goal.returns-clause-same
returns-clause-same c = λ x.
    let is : c.dedup.new.self.items ≡ dedup (pointwise ◌==◌) c.sort.new.self.items = dedup_is (pointwise ◌==◌) _ _ c.dedup.ensures.filtered in
    rw is (dedup_keeps c.args.names.items c.sort.new.self.items x c.sort.ensures.permutation)
