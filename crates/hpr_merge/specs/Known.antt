-- At which points the first link that may be added is known to be the least edge that is added.
--
-- IsNear k ns near      == the points with these numbers are marked, and with a vertex those from which links
--                          that a slice follows lead to it in k
-- IsKnown o             == there is no link, or a slice follows it
-- AreKnownLinks p ns os == there is a place for each vertex; at each point with one of these numbers what is
--                          known is the link of the least edge added there, none where none is added
-- AreUnknown ns os unknown == the list has exactly those of the numbers at which the link isn't known; these
--                          ascend
-- IsLinkOf os unknown found n o == o is what stands at n, if it is known, or else what is found beside n
use Rattle.std.specs.Prelude.{◌≡◌, ℕ, Bool, Option, Some, None, List, Contains, slice_get, length}
use Rattle.std.specs.Ordering.{nat_cmp}
use Rattle.hpr_search.specs.Marks.{IsMarked}
use Rattle.hpr_graph.specs.declared.vertex.Vertex.{Vertex}
use Rattle.hpr_graph.specs.declared.link.Link.{Link}
use Rattle.hpr_graph.specs.Numbered.{Numbered, HasLink}
use Rattle.hpr_graph.specs.InOrder.{Ascends}
use Rattle.hpr_slice.specs.Neighbours.{Follows}
use Rattle.hpr_merge.specs.Beside.{Pair, IsLeastLink}

pub record IsNear (k : Numbered) (ns : List ℕ) (near : List Bool) : Type 0 where
  pub points : (n : ℕ) → Contains ns n → IsMarked near n
  pub closed : (to : ℕ) (l : Link) → IsMarked near to → HasLink k to l → Follows l.kind → IsMarked near l.from

abbrev pub IsKnown : Option (ℕ × Link) → Type 0
IsKnown None = Unit {0}
IsKnown (Some (to, l)) = Follows l.kind

pub record AreKnownLinks (p : Pair) (ns : List ℕ) (os : List (Option (ℕ × Link))) : Type 0 where
  pub count : length os ≡ length p.merged.vertices
  pub each : (n : ℕ) (o : Option (ℕ × Link)) (v : Vertex) → Contains ns n → slice_get os n ≡ Some o
      → slice_get p.merged.vertices n ≡ Some v → IsKnown o → IsLeastLink p.merged p.own v o

pub record AreUnknown (ns : List ℕ) (os : List (Option (ℕ × Link))) (unknown : List ℕ) : Type 0 where
  pub ascend : Ascends nat_cmp unknown
  pub only : (n : ℕ) → Contains unknown n
      → Contains ns n × ((o : Option (ℕ × Link)) → slice_get os n ≡ Some o → ¬ IsKnown o)
  pub all : (n : ℕ) (o : Option (ℕ × Link)) → Contains ns n → slice_get os n ≡ Some o → (¬ IsKnown o)
      → Contains unknown n

pub record IsLinkOf (os : List (Option (ℕ × Link))) (unknown : List ℕ) (found : List (Option (ℕ × Link)))
    (n : ℕ) (o : Option (ℕ × Link)) : Type 0 where
  pub if_known : (first : Option (ℕ × Link)) → slice_get os n ≡ Some first → IsKnown first → o ≡ first
  pub if_unknown : (i : ℕ) (first : Option (ℕ × Link)) → slice_get os n ≡ Some first → (¬ IsKnown first)
      → slice_get unknown i ≡ Some n → slice_get found i ≡ Some o
