-- What a search finds with so many tries, each of which is on the next leaf of the arrangements.
--
-- IsFoundWithin g rank issued tries p == the whole preorder of p is one of the first `tries` leaves
-- AreAllWithin g rank issued tries    == there are no more leaves than tries
-- AreSoMany g rank issued n           == there are n leaves
use Rattle.std.specs.Prelude.{◌≡◌, ℕ, ◌≤◌, List, Contains, length, take}
use Rattle.hpr_syntax.specs.Issued.{Issued}
use Rattle.hpr_syntax.specs.Tree.{Tree}
use Rattle.hpr_graph.specs.declared.vertex.Vertex.{Vertex}
use Rattle.hpr_graph.specs.Graphs.{Graph}
use Rattle.hpr_graph.specs.Rank.{parts_of}
use Rattle.hpr_graph.specs.Arrangements.{AreArrangements}
use Rattle.hpr_graph.specs.Leaves.{AreLeaves}

abbrev pub IsFoundWithin : Graph → List Vertex → Issued → ℕ → Tree → Type 0
IsFoundWithin g rank issued tries p =
    (ps : List Tree) × (xs : List (List Vertex)) × AreArrangements g rank issued ps × AreLeaves g ps xs
    × Contains (take tries xs) (parts_of p)

abbrev pub AreAllWithin : Graph → List Vertex → Issued → ℕ → Type 0
AreAllWithin g rank issued tries =
    (ps : List Tree) × (xs : List (List Vertex)) × AreArrangements g rank issued ps × AreLeaves g ps xs × (length xs ≤ tries)

abbrev pub AreSoMany : Graph → List Vertex → Issued → ℕ → Type 0
AreSoMany g rank issued n =
    (ps : List Tree) × (xs : List (List Vertex)) × AreArrangements g rank issued ps × AreLeaves g ps xs × (length xs ≡ n)
