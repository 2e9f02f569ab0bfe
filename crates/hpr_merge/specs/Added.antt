-- The least link that a slice got.
--
-- IsFirst P ls o               == o is the first of the links that have P, none where none has
-- IsMore grown own ls l        == l is inside the marks `grown`, and isn't one of the links ls inside the
--                                 marks `own`
-- MoreEach grown own ls i      == that, by the marks that the bits i of the words are
-- IsAddedLink k grown own to l == l goes into a vertex that both mark and is inside `grown`, and isn't a link
--                                 of k inside `own`
-- AddedEach k grown own to i   == that, by the marks that the bits i of the words are
-- IsFirstAdded m k grown own o == o is the first such link of m by target and place in the row, if there is
--                                 one
-- ArePast P ls to waiting left old new i == the slice i, if its bit is set in `waiting`, either has it left,
--                                           and none of the links has P, or got the first that has, into
--                                           `to`; others stay as they are
use Rattle.std.specs.Prelude.{◌≡◌, ℕ, Bool, ◌<◌, Option, Some, None, List, Contains, slice_get}
use Rattle.hpr_search.specs.Marks.{IsMarked}
use Rattle.hpr_graph.specs.declared.link.Link.{Link}
use Rattle.hpr_graph.specs.Inside.{IsInside}
use Rattle.hpr_graph.specs.Numbered.{Numbered, HasLink, row_of}
use Rattle.hpr_merge.specs.Words.{HasBit, column}

abbrev pub IsFirst : (Link → Type 0) → List Link → Option Link → Type 0
IsFirst P ls None = (l : Link) → Contains ls l → ¬ P l
IsFirst P ls (Some l) = P l × ((i : ℕ) × (slice_get ls i ≡ Some l) × ((j : ℕ) (m : Link) → j < i → slice_get ls j ≡ Some m → ¬ P m))

abbrev pub IsMore : List Bool → List Bool → List Link → Link → Type 0
IsMore grown own ls l = IsInside grown l × ¬ (Contains ls l × IsInside own l)

abbrev pub MoreEach : List ℕ → List ℕ → List Link → ℕ → Link → Type 0
MoreEach grown own ls i = IsMore (column grown i) (column own i) ls

abbrev pub IsAddedLink : Numbered → List Bool → List Bool → ℕ → Link → Type 0
IsAddedLink k grown own to l = IsMarked grown to × IsMarked own to × IsMore grown own (row_of k to) l

abbrev pub AddedEach : Numbered → List ℕ → List ℕ → ℕ → ℕ → Link → Type 0
AddedEach k grown own to i = IsAddedLink k (column grown i) (column own i) to

abbrev pub IsFirstAdded : Numbered → Numbered → List Bool → List Bool → Option (ℕ × Link) → Type 0
IsFirstAdded m k grown own None = (to : ℕ) (l : Link) → HasLink m to l → ¬ IsAddedLink k grown own to l
IsFirstAdded m k grown own (Some (to, l)) =
    IsFirst (IsAddedLink k grown own to) (row_of m to) (Some l)
    × ((t : ℕ) (l' : Link) → t < to → HasLink m t l' → ¬ IsAddedLink k grown own t l')

pub record ArePast (P : ℕ → Link → Type 0) (ls : List Link) (to waiting left : ℕ)
    (old new : List (Option (ℕ × Link))) (i : ℕ) : Type 0 where
  pub others : ¬ HasBit waiting i → (¬ HasBit left i) × (slice_get new i ≡ slice_get old i)
  pub kept : HasBit left i → HasBit waiting i × IsFirst (P i) ls None × (slice_get new i ≡ slice_get old i)
  pub put : HasBit waiting i → ¬ HasBit left i
      → (l : Link) × IsFirst (P i) ls (Some l) × (slice_get new i ≡ Some (Some (to, l)))
