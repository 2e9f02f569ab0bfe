-- Conflicts in groups: those of one variant that one edge explains.
--
-- Group            == the number of a variant, an edge, and its conflicts by their places in the list, from
--                     0, with their points
-- IsAt cs g i v    == at the place i of the list there is a conflict of the group's variant with its edge, at
--                     the point v
-- IsGroupOf cs g   == the places are exactly those of such conflicts, ascending, with their points; there is
--                     one
-- AreGroups cs ns gs == these are groups; each conflict's number is the place of a group that has it; and
--                     the groups stand in the order of their first conflicts
use Rattle.std.specs.Prelude.{◌≡◌, ◌≢◌, ℕ, ◌<◌, Some, List, [], Contains, length, slice_get, slice_index}
use Rattle.std.specs.List.{AllZip}
use Rattle.std.specs.List.Sorted.{IsStrictlyIncreasing}
use Rattle.hpr_graph.specs.declared.conflict.ManyConflict.{ManyConflict}
use Rattle.hpr_graph.specs.declared.edge.Edge.{Edge}
use Rattle.hpr_graph.specs.declared.vertex.Vertex.{Vertex}

pub record Group : Type 0 where
  pub variant : ℕ
  pub edge : Edge
  pub places : List ℕ
  pub points : List Vertex

abbrev pub IsAt : List ManyConflict → Group → ℕ → Vertex → Type 0
IsAt cs g i v = slice_get cs i ≡ Some (record { variant = g.variant; point = v; edge = g.edge })

pub record IsGroupOf (cs : List ManyConflict) (g : Group) : Type 0 where
  pub some : g.places ≢ []
  pub ascend : IsStrictlyIncreasing g.places
  pub all : (i : ℕ) (v : Vertex) → IsAt cs g i v → Contains g.places i
  pub only : AllZip (IsAt cs g) g.places g.points

pub record AreGroups (cs : List ManyConflict) (ns : List ℕ) (gs : List Group) : Type 0 where
  pub groups : (g : Group) → Contains gs g → IsGroupOf cs g
  pub count : length ns ≡ length cs
  pub numbers : (i n : ℕ) → slice_get ns i ≡ Some n
      → (g : Group) × (slice_get gs n ≡ Some g) × Contains g.places i
  pub order : (m n : ℕ) (g h : Group) → m < n → slice_get gs m ≡ Some g → slice_get gs n ≡ Some h
      → slice_index g.places 0 < slice_index h.places 0
