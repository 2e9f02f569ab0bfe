use Rattle.std.proofs.Common.{Contains, refl, subst}
use Rattle.hpr_graph.proofs.Lists.{contains_at}
use Rattle.hpr_merge.proofs.conflicts.is_one_of.Goals as goal

pub returns-in-Some : goal.returns-in-Some
returns-in-Some c = (
  λ t. (c.in-Some.at, c.has_number.ensures.0 t, c.in-Some.ensures.found),
  λ (n, has, at). c.has_number.ensures.1 (subst (Contains c.args.numbers.now) (c.requires.once n c.in-Some.at c.args.vertex.now at c.in-Some.ensures.found) has),
)

pub returns-in-None : goal.returns-in-None
returns-in-None c = (λ t. absurd cc, λ (n, has, at). absurd (c.in-None.ensures.stranger.0 refl (contains_at c.args.graph.now.vertices n c.args.vertex.now at)))
