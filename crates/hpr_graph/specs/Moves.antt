-- Edges put into another graph under its numbers.
--
-- number_at ns i           == the number there of the vertex i, none where it has none
-- HasNumber ns i           == the vertex i has a number there
-- moved_kind ns k          == the kind by the numbers there, none where one is lacking
-- moved ns l               == the link by the numbers there, none where one is lacking
-- IsMoved ns l             == all of the link's numbers have numbers there
-- ArePlaced vs ns us       == each number leads from a vertex of vs to the same vertex of us
-- MovesLink g ns at l e    == the link l into the vertex `at` is the edge e, and all its vertices have
--                             numbers there
-- MovesEdge g ns e         == some link of g is so
-- MovesEdgeBelow g ns n e  == some link of the first n rows is so
-- MovesEdgeIn g ns at ls e == some link into the vertex `at` among these is so
-- IsKeptElsewhere g h to   == all rows but that of the vertex number `to` have the same links in both
-- with_link rows to l      == the rows with a link behind those of one row
-- with_row rows            == the rows with an empty one behind them
use Rattle.std.specs.Prelude.{◌≡◌, ◌≢◌, ◌↔◌, ℕ, ◌<◌, List, [], ◌∷◌, ◌++◌, Option, Some, None, IsSome, Contains, slice_get, slice_set, slice_index_or}
use Rattle.std.specs.Option.{option_map, option_and_then}
use Rattle.hpr_graph.specs.declared.vertex.Vertex.{Vertex}
use Rattle.hpr_graph.specs.declared.edge.Edge.{Edge}
use Rattle.hpr_graph.specs.declared.link.LinkKind.{LinkKind}
use Rattle.hpr_graph.specs.declared.link.LinkKind.TheVariants.{Control, Independent, Carried, Order}
use Rattle.hpr_graph.specs.declared.link.Link.{Link}
use Rattle.hpr_graph.specs.Numbered.{Numbered, HasLink, IsEdgeAt, row_items}

abbrev pub number_at : List (Option ℕ) → ℕ → Option ℕ
number_at ns i = slice_index_or ns i None

abbrev pub HasNumber : List (Option ℕ) → ℕ → Type 0
HasNumber ns i = IsSome (number_at ns i)

abbrev pub moved_kind : List (Option ℕ) → LinkKind → Option LinkKind
moved_kind ns (Control label) = Some (Control label)
moved_kind ns Independent = Some Independent
moved_kind ns (Carried w) = option_map Carried (number_at ns w)
moved_kind ns (Order u) = option_map Order (number_at ns u)

abbrev pub moved : List (Option ℕ) → Link → Option Link
moved ns l = option_and_then (λ from. option_map (λ kind. record { from = from; kind = kind }) (moved_kind ns l.kind)) (number_at ns l.from)

abbrev pub IsMoved : List (Option ℕ) → Link → Type 0
IsMoved ns l = IsSome (moved ns l)

abbrev pub ArePlaced : List Vertex → List (Option ℕ) → List Vertex → Type 0
ArePlaced vs ns us = (i j : ℕ) → number_at ns i ≡ Some j → (v : Vertex) × (slice_get vs i ≡ Some v) × (slice_get us j ≡ Some v)

abbrev pub MovesLink : Numbered → List (Option ℕ) → ℕ → Link → Edge → Type 0
MovesLink g ns at l e = HasNumber ns at × IsMoved ns l × IsEdgeAt g.vertices at l e

abbrev pub MovesEdge : Numbered → List (Option ℕ) → Edge → Type 0
MovesEdge g ns e = (at : ℕ) × (l : Link) × HasLink g at l × MovesLink g ns at l e

abbrev pub MovesEdgeBelow : Numbered → List (Option ℕ) → ℕ → Edge → Type 0
MovesEdgeBelow g ns n e = (at : ℕ) × (l : Link) × (at < n) × HasLink g at l × MovesLink g ns at l e

abbrev pub MovesEdgeIn : Numbered → List (Option ℕ) → ℕ → List Link → Edge → Type 0
MovesEdgeIn g ns at ls e = (l : Link) × Contains ls l × MovesLink g ns at l e

abbrev pub IsKeptElsewhere : Numbered → Numbered → ℕ → Type 0
IsKeptElsewhere g h to = (i : ℕ) (l : Link) → i ≢ to → HasLink h i l ↔ HasLink g i l

abbrev pub with_link : List (List Link) → ℕ → Link → List (List Link)
with_link rows to l = slice_set rows to (row_items (slice_get rows to) ++ l ∷ [])

abbrev pub with_row : List (List Link) → List (List Link)
with_row rows = rows ++ [] ∷ []
