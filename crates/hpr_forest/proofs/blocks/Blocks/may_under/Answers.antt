use Rattle.std.proofs.Common.{ℕ, All, ◌<◌, subst, sym}
use Rattle.hpr_forest.proofs.Starts.{before_within}
use Rattle.hpr_forest.proofs.blocks.Blocks.may_under.Goals as goal

pub all_marked-requires-clause-within : goal.all_marked-requires-clause-within
all_marked-requires-clause-within c = subst (λ (n : ℕ). All (λ x. x < n) c.before_of.result.now) (sym c.requires.row) (before_within c.args.self.now c.args.item c.before_of.result.now c.before_of.ensures.row)
