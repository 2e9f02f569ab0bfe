use Rattle.std.proofs.Common.{◌↔◌, ℕ, Contains, take}
use Rattle.hpr_search.specs.Marks.{IsMarked}
use Rattle.hpr_located.specs.Sources.{standing_of}
use Rattle.hpr_impact.specs.Lines.{BeginsIn}
use Rattle.hpr_impact.proofs.marks.line_marks.Given as goal

abbrev pub invariant-loop-vertex : goal.invariant-loop-vertex
invariant-loop-vertex l = (n : ℕ) → IsMarked l.marks.items n ↔ BeginsIn (standing_of l.source) (Contains (take l.vertex-index l.vertices)) n
