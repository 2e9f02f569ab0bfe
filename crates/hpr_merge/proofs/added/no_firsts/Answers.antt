use Rattle.std.proofs.Common.{◌∙◌, ◌++◌, ◌∷◌, [], List, Option, None, ℕ, ap}
use Rattle.hpr_graph.specs.declared.link.Link.{Link}
use Rattle.hpr_merge.proofs.Past.{replicate_more}
use Rattle.hpr_merge.proofs.added.no_firsts.Goals as goal

pub loop-preserved : goal.loop-preserved
loop-preserved c = c.in_ok-push.ensures.items ∙ ap (λ (xs : List (Option (ℕ × Link))). xs ++ None ∷ []) c.loop.invariant ∙ replicate_more c.loop.counter None
