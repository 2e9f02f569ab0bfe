-- The first difference of two rows, and of two graphs by the rows of their links.
--
-- row_by h xs ys             == the row of this holder, where xs is offered and ys was merged
-- IsFirstApart cmp xs ys o   == o is the place of the least item that one of the rows alone has, with its
--                               holder; none where both have the same
-- IsFirstLinkApart cmp g m o == o is the least link that one of the graphs alone has into the first vertex
--                               into which they have other links, with that vertex and its holder; none where
--                               both have the same
use Rattle.std.specs.Prelude.{◌≡◌, ◌↔◌, ℕ, ◌<◌, Option, Some, None, List, Contains, slice_get}
use Rattle.std.specs.declared.cmp.Ordering.{Ordering}
use Rattle.hpr_graph.specs.declared.link.Link.{Link}
use Rattle.hpr_graph.specs.Numbered.{Numbered, HasLink}
use Rattle.hpr_verify.specs.declared.verdict.Holder.{Holder}
use Rattle.hpr_verify.specs.declared.verdict.Holder.TheVariants.{Offered, Merged}
use Rattle.hpr_verify.specs.Difference.{IsLeastHeld}

abbrev pub row_by : {X : Type 0} → Holder → List X → List X → List X
row_by Offered xs ys = xs
row_by Merged xs ys = ys

abbrev pub IsFirstApart : {X : Type 0} → (X → X → Ordering) → List X → List X → Option (ℕ × Holder) → Type 0
IsFirstApart {X} cmp xs ys None = (x : X) → Contains xs x ↔ Contains ys x
IsFirstApart {X} cmp xs ys (Some (i, h)) = (x : X) × (slice_get (row_by h xs ys) i ≡ Some x) × IsLeastHeld cmp (Contains xs) (Contains ys) x h

abbrev pub IsFirstLinkApart : (Link → Link → Ordering) → Numbered → Numbered → Option (ℕ × Link × Holder) → Type 0
IsFirstLinkApart cmp g m None = (to : ℕ) (l : Link) → HasLink g to l ↔ HasLink m to l
IsFirstLinkApart cmp g m (Some (to, l, h)) =
    IsLeastHeld cmp (HasLink g to) (HasLink m to) l h × ((t : ℕ) (k : Link) → t < to → HasLink g t k ↔ HasLink m t k)
