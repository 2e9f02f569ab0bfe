use Rattle.std.proofs.Common.{◌≡◌, ℕ, ◌≤◌, ◌<◌, false}
use Rattle.hpr_graph_calls.proofs.WalkExample.{stands}
use Rattle.hpr_graph_calls.proofs.walk.ExampleChoices.next_child.Given as goal

abbrev pub invariant-loop-number : goal.invariant-loop-number
invariant-loop-number l = (d : ℕ) → l.from ≤ d → d < l.number → stands l.self.blocked l.placed d ≡ false
