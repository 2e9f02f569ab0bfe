use Rattle.std.proofs.Common.{ℕ, ◌<◌}
use Rattle.hpr_search.specs.Marks.{IsMarked}
use Rattle.hpr_graph.specs.Numbered.{row_of}
use Rattle.hpr_merge.specs.Candidates.{HasFollowed}
use Rattle.hpr_merge.proofs.candidates.keeps_steps.Given as goal

abbrev pub invariant-loop-to : goal.invariant-loop-to
invariant-loop-to l = (t : ℕ) → t < l.to → IsMarked l.near t → HasFollowed (row_of l.variant t) (row_of l.merged t)
