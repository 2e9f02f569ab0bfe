-- The numbers of a program's parts, row by row.
use Rattle.std.proofs.Common.{◌≡◌, ℕ, ◌+◌, ◌≤◌, Option, Some, None, List, [], ◌∷◌, ◌++◌, length, map, take, slice_get, refl, sym, ap, ◌∙◌}
use Rattle.std.proofs.lemmas.List.{take_more, take_all}
use Rattle.std.proofs.lemmas.Option.{slice_get_within, get_or_from_slice_get}
use Rattle.hpr_syntax.specs.declared.rows.Row.{Row}
use Rattle.hpr_syntax.specs.declared.rows.Content.{Content}
use Rattle.hpr_syntax.specs.Rows.{rows_of}
use Rattle.hpr_syntax.specs.Tree.{Tree}
use Rattle.hpr_graph.specs.declared.vertex.Vertex.{Vertex}
use Rattle.hpr_graph.specs.declared.vertex.Vertex.TheVariants.{Part}
use Rattle.hpr_graph.specs.Numbered.{Numbered}
use Rattle.hpr_order.specs.Arranging.{IsPreorderOf}
use Rattle.hpr_order.proofs.ListFacts.{map_append}

abbrev pub place_of : Row → Option Vertex
place_of row = Some (Part row.tag row.content)

abbrev pub IsNumberedTo : List Vertex → List Row → ℕ → List ℕ → Type 0
IsNumberedTo vs rows index ns = map (slice_get vs) ns ≡ map place_of (take index rows)

pub number_more : (vs : List Vertex) (rows : List Row) (index : ℕ) (ns more : List ℕ) (row : Row) (n : ℕ) (c : Content) → slice_get rows index ≡ Some row → slice_get vs n ≡ Some (Part row.tag c) → c ≡ row.content
    → more ≡ ns ++ n ∷ [] → IsNumberedTo vs rows index ns → IsNumberedTo vs rows (index + 1) more
number_more vs rows index ns more row n c here at copied is all =
    let taken : take (index + 1) rows ≡ take index rows ++ row ∷ [] =
    take_more rows index row (slice_get_within rows index row here) ∙ ap (λ (z : Row). take index rows ++ z ∷ []) (get_or_from_slice_get rows index row row here) in
    ap (map (slice_get vs)) is
    ∙ map_append (slice_get vs) ns (n ∷ [])
    ∙ ap (λ z. z ++ slice_get vs n ∷ []) all
    ∙ ap (λ z. map place_of (take index rows) ++ z ∷ []) (at ∙ ap (λ (z : Content). Some (Part row.tag z)) copied)
    ∙ sym (map_append place_of (take index rows) (row ∷ []))
    ∙ ap (map place_of) (sym taken)

places_map : (rows : List Row) → map place_of rows ≡ map Some (map (λ (row : Row). Part row.tag row.content) rows)
places_map [] = refl
places_map (row ∷ rows) = ap (λ z. Some (Part row.tag row.content) ∷ z) (places_map rows)

pub numbers_whole : (g : Numbered) (p : Tree) (rows : List Row) (index : ℕ) (ns : List ℕ) → rows ≡ rows_of None 0 p.body → length rows ≤ index → IsNumberedTo g.vertices rows index ns → IsPreorderOf g ns p
numbers_whole g p rows index ns is end all =
    all ∙ ap (map place_of) (take_all index rows end) ∙ places_map rows ∙ ap (λ z. map Some (map (λ (row : Row). Part row.tag row.content) z)) is
