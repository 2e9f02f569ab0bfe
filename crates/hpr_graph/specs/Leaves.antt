-- The leaves of arrangements: a leaf is the preorder of one, cut behind its first part that clashes with
-- those before it. So many arrangements share a leaf that fits none of them, and a search gives all of them
-- up with one try.
--
-- IsCut g placed rest x == x is the rest up to its first part that clashes with those before it, this part
--                          included; the whole rest where none does
-- IsLeaf g p x          == x is p's preorder, cut so
-- AreLeaves g ps xs     == the leaves of these programs in their order, each once
-- LeafFits g ps x       == x is the whole preorder of one of them whose graph is g
-- AreLeavesSpent g rank issued tries == there are more leaves of the arrangements than tries, and none of the
--                                       first `tries` fits
use Rattle.std.specs.Prelude.{◌≡◌, ℕ, ◌<◌, ◌⊎◌, ◌↔◌, Some, List, [], ◌∷◌, ◌++◌, Contains, slice_get, length, take}
use Rattle.hpr_syntax.specs.Issued.{Issued}
use Rattle.hpr_syntax.specs.Tree.{Tree}
use Rattle.hpr_graph.specs.declared.vertex.Vertex.{Vertex}
use Rattle.hpr_graph.specs.Graphs.{Graph, IsOnce}
use Rattle.hpr_graph.specs.Rank.{parts_of}
use Rattle.hpr_graph.specs.Arrangements.{AreArrangements}
use Rattle.hpr_graph.specs.Fits.{Fits}
use Rattle.hpr_graph.specs.Clashes.{Clashes}

abbrev pub IsCut : Graph → List Vertex → List Vertex → List Vertex → Type 0
IsCut g placed [] x = x ≡ []
IsCut g placed (c ∷ rest) x =
    (Clashes g placed c × (x ≡ c ∷ []))
    ⊎ ((¬ Clashes g placed c) × ((y : List Vertex) × (x ≡ c ∷ y) × IsCut g (placed ++ c ∷ []) rest y))

abbrev pub IsLeaf : Graph → Tree → List Vertex → Type 0
IsLeaf g p x = IsCut g [] (parts_of p) x

abbrev pub AreLeaves : Graph → List Tree → List (List Vertex) → Type 0
AreLeaves g ps xs =
    IsOnce xs
    × ((x : List Vertex) → Contains xs x ↔ ((p : Tree) × Contains ps p × IsLeaf g p x))
    × ((i j k l : ℕ) (p q : Tree) (x y : List Vertex) → slice_get ps i ≡ Some p → slice_get ps j ≡ Some q → IsLeaf g p x → IsLeaf g q y
    → slice_get xs k ≡ Some x → slice_get xs l ≡ Some y → k < l → i < j)

abbrev pub LeafFits : Graph → List Tree → List Vertex → Type 0
LeafFits g ps x = (p : Tree) × Contains ps p × (parts_of p ≡ x) × Fits g p

abbrev pub AreLeavesSpent : Graph → List Vertex → Issued → ℕ → Type 0
AreLeavesSpent g rank issued tries =
    (ps : List Tree) × (xs : List (List Vertex)) × AreArrangements g rank issued ps × AreLeaves g ps xs × (tries < length xs)
    × ((x : List Vertex) → Contains (take tries xs) x → ¬ LeafFits g ps x)
