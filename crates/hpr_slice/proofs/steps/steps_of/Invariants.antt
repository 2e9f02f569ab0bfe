use Rattle.std.proofs.Common.{◌≡◌, ℕ, ◌<◌, length}
use Rattle.hpr_search.specs.Marks.{IsMarked}
use Rattle.hpr_slice.specs.Steps.{AreStepsInto}
use Rattle.hpr_slice.proofs.steps.steps_of.Given as goal

abbrev pub invariant-loop-to : goal.invariant-loop-to
invariant-loop-to l = record {
  count : length l.done.items ≡ length l.graph.vertices;
  steps : AreStepsInto l.graph l.done.items l.steps.items;
}

abbrev pub invariant-loop-at : goal.invariant-loop-at
invariant-loop-at l = record {
  count : length l.done.items ≡ length l.graph.vertices;
  steps : AreStepsInto l.graph l.done.items l.steps.items;
  marked : (n : ℕ) → n < l.at → IsMarked l.done.items n;
}
