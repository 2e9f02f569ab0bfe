-- Rows with no link.
use Rattle.std.proofs.Common.{◌≡◌, ℕ, zero, suc, ◌+◌, List, [], ◌∷◌, ◌++◌, Vec, Global, length, replicate, Contains, slice_get, sum_by, refl, sym, ap, subst, ◌∙◌}
use Rattle.std.proofs.lemmas.List.{length-replicate, map-append, replicate_more}
use Rattle.hpr_graph.specs.declared.vertex.Vertex.{Vertex}
use Rattle.hpr_graph.specs.declared.link.Link.{Link}
use Rattle.hpr_graph.specs.Graphs.{IsOnce}
use Rattle.hpr_graph.specs.Numbered.{IsCounted, row_items, rows_of}
use Rattle.hpr_graph.proofs.Lists.{in_none, once_none}

pub one_more : (rows new_rows : List (Vec Link Global)) (row : Vec Link Global) (n : ℕ) → row.items ≡ [] → new_rows ≡ rows ++ row ∷ [] → rows_of rows ≡ replicate n [] → rows_of new_rows ≡ replicate (n + 1) []
one_more rows new_rows row n none is before =
    ap rows_of is ∙ map-append (λ (r : Vec Link Global). r.items) rows (row ∷ [])
    ∙ ap (λ (r : List Link). rows_of rows ++ r ∷ []) none ∙ ap (λ (rs : List (List Link)). rs ++ [] ∷ []) before ∙ replicate_more n []

blank_row : (n to : ℕ) → row_items (slice_get (replicate {A = List Link} n []) to) ≡ []
blank_row zero to = refl
blank_row (suc n) zero = refl
blank_row (suc n) (suc to) = blank_row n to

blank_count : (n : ℕ) → sum_by (λ (r : List Link). length r) (replicate n []) ≡ 0
blank_count zero = refl
blank_count (suc n) = blank_count n

-- vertices with no link are a graph
pub blank_counted : (vs : List Vertex) (rows : List (List Link)) → IsOnce vs → rows ≡ replicate (length vs) [] → IsCounted (record { vertices = vs; links = rows }) 0
blank_counted vs rows once is =
    let n : ℕ = length vs in
    let none : (to : ℕ) → row_items (slice_get rows to) ≡ [] = λ to. ap (λ (rs : List (List Link)). row_items (slice_get rs to)) is ∙ blank_row n to in
    record {
      numbered = record {
        once = once;
        rows = ap (λ (rs : List (List Link)). length rs) is ∙ length-replicate n [];
        links_once = λ to. subst (λ (r : List Link). IsOnce r) (sym (none to)) once_none;
        links = λ to l h. absurd (in_none l (subst (λ (r : List Link). Contains r l) (none to) h));
      };
      count = sym (ap (sum_by (λ (r : List Link). length r)) is ∙ blank_count n);
    }

pub blank_none : (rows : List (List Link)) (n to : ℕ) (l : Link) → rows ≡ replicate n [] → ¬ Contains (row_items (slice_get rows to)) l
blank_none rows n to l is h = in_none l (subst (λ (r : List Link). Contains r l) (ap (λ (rs : List (List Link)). row_items (slice_get rs to)) is ∙ blank_row n to) h)
