use Rattle.std.proofs.Common.{◌∙◌, ◌++◌}
use Rattle.hpr_merge.proofs.versions.both_conflicts.Goals as goal

pub returns : goal.returns
returns c = (
  c.in_ok-pairs_a.pairs_a.items,
  c.in_ok-pairs_b.pairs_b.items,
  c.in_ok-append.ensures.items ∙ (λ i. c.in_ok-conflicts.ensures i ++ c.in_ok-others.ensures i),
  c.in_ok-pairs_a.ensures,
  c.in_ok-pairs_b.ensures,
)
