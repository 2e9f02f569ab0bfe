-- Which links of a graph m may be added to slices of a graph k, whatever the point. Both have the same
-- vertices by the same numbers.
--
-- HasFollowed ls known      == the known links have each of the links that a slice follows
-- KeepsSteps m k near       == m has each link of k into a marked vertex that a slice follows
-- IsNewFrom ls known s      == a slice follows one of the links that comes from s and isn't known
-- IsNewSource m k near s    == a slice follows a link of m from s into a marked vertex that k lacks
-- AreNewSources m k near ss == the list has exactly these vertices
-- IsSettled far from kind   == a slice follows links of this kind, or neither `from` nor the shared use is
--                              marked
-- MayBeNew known far l      == the link isn't known, or isn't settled
-- AreCandidates m k near far cs == for each marked vertex the first link of m into it that k lacks or that
--                              isn't settled, where there is one, told with the vertex; these ascend
-- with_first to o cs        == the pairs with `to` and the link behind them, if there is a link
use Rattle.std.specs.Prelude.{◌≡◌, ℕ, ◌<◌, ◌⊎◌, Bool, Option, Some, None, List, [], ◌∷◌, ◌++◌, Contains}
use Rattle.std.specs.Prelude.{slice_get}
use Rattle.hpr_search.specs.Marks.{IsMarked}
use Rattle.hpr_graph.specs.declared.link.LinkKind.{LinkKind}
use Rattle.hpr_graph.specs.declared.link.LinkKind.TheVariants.{Control, Independent, Carried, Order}
use Rattle.hpr_graph.specs.declared.link.Link.{Link}
use Rattle.hpr_graph.specs.Numbered.{Numbered, HasLink, row_of}
use Rattle.hpr_slice.specs.Neighbours.{Follows}
use Rattle.hpr_merge.specs.Added.{IsFirst}

abbrev pub HasFollowed : List Link → List Link → Type 0
HasFollowed ls known = (l : Link) → Contains ls l → Follows l.kind → Contains known l

abbrev pub KeepsSteps : Numbered → Numbered → List Bool → Type 0
KeepsSteps m k near = (to : ℕ) → IsMarked near to → HasFollowed (row_of k to) (row_of m to)

abbrev pub IsNewFrom : List Link → List Link → ℕ → Type 0
IsNewFrom ls known s = (l : Link) × Contains ls l × Follows l.kind × (¬ Contains known l) × (l.from ≡ s)

abbrev pub IsNewSource : Numbered → Numbered → List Bool → ℕ → Type 0
IsNewSource m k near s = (to : ℕ) × IsMarked near to × IsNewFrom (row_of m to) (row_of k to) s

pub record AreNewSources (m k : Numbered) (near : List Bool) (ss : List ℕ) : Type 0 where
  pub only : (s : ℕ) → Contains ss s → IsNewSource m k near s
  pub all : (to : ℕ) (l : Link) → IsMarked near to → HasLink m to l → Follows l.kind
      → HasLink k to l ⊎ Contains ss l.from

abbrev pub IsSettled : List Bool → ℕ → LinkKind → Type 0
IsSettled far from (Control label) = Unit {0}
IsSettled far from Independent = Unit {0}
IsSettled far from (Carried w) = Unit {0}
IsSettled far from (Order u) = (¬ IsMarked far from) × (¬ IsMarked far u)

abbrev pub MayBeNew : List Link → List Bool → Link → Type 0
MayBeNew known far l = ¬ (Contains known l × IsSettled far l.from l.kind)

pub record AreCandidates (m k : Numbered) (near far : List Bool) (cs : List (ℕ × Link)) : Type 0 where
  pub only : (c : ℕ × Link) → Contains cs c
      → IsMarked near c.0 × IsFirst (MayBeNew (row_of k c.0) far) (row_of m c.0) (Some c.1)
  pub all : (to : ℕ) (l : Link) → IsMarked near to → HasLink m to l → MayBeNew (row_of k to) far l
      → (f : Link) × Contains cs (to, f)
  pub ascend : (i j : ℕ) (c d : ℕ × Link) → i < j → slice_get cs i ≡ Some c → slice_get cs j ≡ Some d
      → c.0 < d.0

abbrev pub with_first : ℕ → Option Link → List (ℕ × Link) → List (ℕ × Link)
with_first to None cs = cs
with_first to (Some l) cs = cs ++ (to, l) ∷ []
