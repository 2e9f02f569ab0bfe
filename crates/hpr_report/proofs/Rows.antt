-- The edges of a graph row by row.
use Rattle.std.proofs.Common.{◌≡◌, ℕ, suc, ◌+◌, ◌<◌, ◌≤◌, List, [], ◌∷◌, ◌++◌, length, map, get_or, drop, add-one, sym, ap, ◌∙◌, arith, append_assoc, drop_of_length-le}
use Rattle.std.proofs.Math.Seq.{drop-cons}
use Rattle.std.proofs.lemmas.Grind.{flat_map-append}
use Rattle.std.proofs.lemmas.List.{map-append, append-nil}
use Rattle.std.proofs.lemmas.Option.{slice_get-get_or}
use Rattle.hpr_graph.specs.declared.edge.Edge.{Edge}
use Rattle.hpr_graph.specs.declared.link.Link.{Link}
use Rattle.hpr_graph.specs.Numbered.{Numbered, IsNumbered, row_items, row_of}
use Rattle.hpr_graph.specs.InOrder.{edge_of, edges_from, row_edges}
use Rattle.hpr_report.specs.GraphTexts.{edge_text, on_lines}

-- the edges into the vertices from this number on
abbrev pub edges_past : Numbered → ℕ → List Edge
edges_past g to = edges_from g.vertices to (drop to g.links)

-- the first of them are those into the vertex with this number
pub row_first : (g : Numbered) (to : ℕ) → IsNumbered g → to < length g.vertices → edges_past g to ≡ row_edges g to ++ edges_past g (to + 1)
row_first g to k below =
    let within : to < length g.links = omega (arith, k.rows) in
    let row : List Link = get_or g.links to [] in
    let here : drop to g.links ≡ row ∷ drop (suc to) g.links = drop-cons g.links to [] within in
    let one : drop (suc to) g.links ≡ drop (to + 1) g.links = ap (λ n. drop n g.links) (sym (add-one to)) in
    let is : row ≡ row_of g to = ap row_items (sym (slice_get-get_or g.links to [] within)) in
    ap (edges_from g.vertices to) (here ∙ ap (λ rest. row ∷ rest) one) ∙ ap (λ r. map (edge_of g.vertices to) r ++ edges_past g (to + 1)) is

-- past the last vertex there are none
pub none_past : (g : Numbered) (to : ℕ) → IsNumbered g → length g.vertices ≤ to → edges_past g to ≡ []
none_past g to k past = let beyond : length g.links ≤ to = omega (arith, k.rows) in ap (edges_from g.vertices to) (drop_of_length-le g.links beyond)

abbrev pub lines_past : Numbered → ℕ → List ℕ
lines_past g to = on_lines (map edge_text (edges_past g to))

pub lines_first : (g : Numbered) (to : ℕ) → IsNumbered g → to < length g.vertices → lines_past g to ≡ on_lines (map edge_text (row_edges g to)) ++ lines_past g (to + 1)
lines_first g to k below = rw (row_first g to k below, map-append edge_text (row_edges g to) (edges_past g (to + 1))) (flat_map-append _ (map edge_text (row_edges g to)) (map edge_text (edges_past g (to + 1))))

-- the lines with one row more
pub lines_more : (g : Numbered) (to : ℕ) (out new all : List ℕ) → IsNumbered g → to < length g.vertices → out ++ lines_past g to ≡ all
    → new ≡ out ++ on_lines (map edge_text (row_edges g to)) → new ++ lines_past g (to + 1) ≡ all
lines_more g to out new all k below so_far is =
    let first = lines_first g to k below in
    ap (λ x. x ++ lines_past g (to + 1)) is ∙ append_assoc out (on_lines (map edge_text (row_edges g to))) (lines_past g (to + 1)) ∙ ap (λ x. out ++ x) (sym first) ∙ so_far

pub lines_done : (g : Numbered) (to : ℕ) (out all : List ℕ) → IsNumbered g → length g.vertices ≤ to → out ++ lines_past g to ≡ all → out ≡ all
lines_done g to out all k past so_far = rw (ap (λ es. on_lines (map edge_text es)) (none_past g to k past), append-nil) at so_far

pub regroup : (a l b m z e : List ℕ) → ((a ++ l) ++ (b ++ m ++ z)) ++ e ≡ a ++ (l ++ b ++ m ++ z ++ e)
regroup a l b m z e = simp append_assoc

-- the values of the edges in the same way
module _ {D : Type 0} (f : Edge → D) where
  pub values_more : (g : Numbered) (to : ℕ) (out new all : List D) → IsNumbered g → to < length g.vertices → out ++ map f (edges_past g to) ≡ all
      → new ≡ out ++ map f (row_edges g to) → new ++ map f (edges_past g (to + 1)) ≡ all
  values_more g to out new all k below so_far is =
      let first = ap (map f) (row_first g to k below) ∙ map-append f (row_edges g to) (edges_past g (to + 1)) in
      ap (λ x. x ++ map f (edges_past g (to + 1))) is ∙ append_assoc out (map f (row_edges g to)) (map f (edges_past g (to + 1)))
      ∙ ap (λ x. out ++ x) (sym first) ∙ so_far

  pub values_done : (g : Numbered) (to : ℕ) (out all : List D) → IsNumbered g → length g.vertices ≤ to → out ++ map f (edges_past g to) ≡ all → out ≡ all
  values_done g to out all k past so_far = rw (ap (map f) (none_past g to k past), append-nil) at so_far
