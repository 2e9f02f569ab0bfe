-- The edges of a graph row by row, each made into something.
use Rattle.std.proofs.Common.{◌≡◌, ℕ, suc, ◌+◌, ◌<◌, ◌≤◌, List, [], ◌∷◌, ◌++◌, length, map, get_or, drop, add-one, sym, ap, ◌∙◌, arith, append_assoc, drop_of_length-le}
use Rattle.std.proofs.Math.Seq.{drop-cons}
use Rattle.std.proofs.lemmas.List.{map-append, append-nil}
use Rattle.std.proofs.lemmas.Option.{slice_get-get_or}
use Rattle.hpr_graph.specs.declared.edge.Edge.{Edge}
use Rattle.hpr_graph.specs.declared.link.Link.{Link}
use Rattle.hpr_graph.specs.Numbered.{Numbered, IsNumbered, row_items, row_of}
use Rattle.hpr_graph.specs.InOrder.{edge_of, edges_from, row_edges}

-- the edges into the vertices from this number on
abbrev pub edges_past : Numbered → ℕ → List Edge
edges_past g to = edges_from g.vertices to (drop to g.links)

-- the first of them are those into the vertex with this number
row_first : (g : Numbered) (to : ℕ) → IsNumbered g → to < length g.vertices → edges_past g to ≡ row_edges g to ++ edges_past g (to + 1)
row_first g to k below =
    let within : to < length g.links = omega (arith, k.rows) in
    let row : List Link = get_or g.links to [] in
    let here : drop to g.links ≡ row ∷ drop (suc to) g.links = drop-cons g.links to [] within in
    let one : drop (suc to) g.links ≡ drop (to + 1) g.links = ap (λ n. drop n g.links) (sym (add-one to)) in
    let is : row ≡ row_of g to = ap row_items (sym (slice_get-get_or g.links to [] within)) in
    ap (edges_from g.vertices to) (here ∙ ap (λ rest. row ∷ rest) one) ∙ ap (λ r. map (edge_of g.vertices to) r ++ edges_past g (to + 1)) is

-- past the last vertex there are none
none_past : (g : Numbered) (to : ℕ) → IsNumbered g → length g.vertices ≤ to → edges_past g to ≡ []
none_past g to k past = let beyond : length g.links ≤ to = omega (arith, k.rows) in ap (edges_from g.vertices to) (drop_of_length-le g.links beyond)

module _ {D : Type 0} (f : Edge → D) where
  pub values_more : (g : Numbered) (to : ℕ) (out new all : List D) → IsNumbered g → to < length g.vertices → out ++ map f (edges_past g to) ≡ all
      → new ≡ out ++ map f (row_edges g to) → new ++ map f (edges_past g (to + 1)) ≡ all
  values_more g to out new all k below so_far is =
      let first = ap (map f) (row_first g to k below) ∙ map-append f (row_edges g to) (edges_past g (to + 1)) in
      ap (λ x. x ++ map f (edges_past g (to + 1))) is ∙ append_assoc out (map f (row_edges g to)) (map f (edges_past g (to + 1)))
      ∙ ap (λ x. out ++ x) (sym first) ∙ so_far

  pub values_done : (g : Numbered) (to : ℕ) (out all : List D) → IsNumbered g → length g.vertices ≤ to → out ++ map f (edges_past g to) ≡ all → out ≡ all
  values_done g to out all k past so_far = rw (ap (map f) (none_past g to k past), append-nil) at so_far
