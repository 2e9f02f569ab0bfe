-- The affected points of the variants, and the base beside them, one variant after another.
use Rattle.std.proofs.Common.{◌≡◌, ℕ, zero, suc, ◌+◌, ◌<◌, ◌≤◌, inl, inr, Some, Vec, Global, List, [], ◌∷◌, ◌++◌, length, map, take, get_or, refl, sym, ap, ◌∙◌, subst, arith, length-append}
use Rattle.std.proofs.lemmas.List.{get_or_append_left, get_or_push, take_more, take_all, map-append}
use Rattle.std.proofs.lemmas.Option.{slice_get_within, slice_get-get_or}
use Rattle.hpr_search.specs.Rows.{numbers_at, numbers_of}
use Rattle.hpr_search.proofs.RowLists.{length_rows, push_row, read_row}
use Rattle.hpr_graph.specs.Numbered.{Numbered, graph_in, graphs_in}
use Rattle.hpr_graph.specs.Points.{IsAffected}
use Rattle.hpr_graph.specs.Whole.{AreAll, IsWhole}
use Rattle.hpr_graph.proofs.Lists.{at_push}
use Rattle.hpr_affected.specs.Comparison.{Sides}
use Rattle.hpr_affected.specs.Numbers.{AreNumbersOf}
use Rattle.hpr_affected.specs.Shared.{AreOfBase, others_of}
use Rattle.hpr_merge_many.specs.ManyPoints.{AreAffectedIn}

module _ (base : Numbered) where
  abbrev Affected : Numbered → List ℕ → Type 0
  Affected g ns = AreNumbersOf g (IsAffected (graph_in g) (graph_in base)) ns

  pub affected_none : (rows : List (Vec ℕ Global)) → rows ≡ [] → AreAffectedIn base [] (numbers_of rows)
  affected_none rows none = rw none (record { count = refl; each = λ at g at_g. absurd cc })

  affected_push : (gs : List Numbered) (rows : List (List ℕ)) (g : Numbered) (ns : List ℕ) → AreAffectedIn base gs rows → Affected g ns → AreAffectedIn base (gs ++ g ∷ []) (rows ++ ns ∷ [])
  affected_push gs rows g ns a own = record {
    count = omega (arith, a.count, length-append rows (ns ∷ []), length-append gs (g ∷ []));
    each = λ at h at_h. elim (at_push gs g at h at_h) [
      | inl old ↦
          (let w = slice_get_within gs at h old in
          subst (Affected h) (sym (get_or_append_left rows (ns ∷ []) [] at (omega (arith, w, a.count)))) (a.each at h old))
      | inr (last, same) ↦
          subst (λ (k : Numbered). Affected k (numbers_at (rows ++ ns ∷ []) at)) same (subst (Affected g) (sym (get_or_push rows ns [] at (a.count ∙ sym last))) own)
    ];
  }

  -- one variant more
  next_taken : (gs : List Numbered) (i : ℕ) (g : Numbered) → i < length gs → g ≡ get_or gs i g → take (i + 1) gs ≡ take i gs ++ g ∷ []
  next_taken gs i g l is = take_more gs i g l ∙ ap (λ (h : Numbered). take i gs ++ h ∷ []) (sym is)

  pub affected_more : (gs : List Numbered) (i : ℕ) (g : Numbered) (rows new : List (Vec ℕ Global)) (row : Vec ℕ Global) → i < length gs → g ≡ get_or gs i g → AreAffectedIn base (take i gs) (numbers_of rows) → Affected g row.items
      → new ≡ rows ++ row ∷ [] → AreAffectedIn base (take (i + 1) gs) (numbers_of new)
  affected_more gs i g rows new row l is a own items =
      subst (λ (hs : List Numbered). AreAffectedIn base hs (numbers_of new)) (sym (next_taken gs i g l is))
      (subst (AreAffectedIn base (take i gs ++ g ∷ [])) (sym (ap numbers_of items ∙ push_row rows row)) (affected_push (take i gs) (numbers_of rows) g row.items a own))

  pub affected_all : (gs : List Numbered) (i : ℕ) (rows : List (List ℕ)) → length gs ≤ i → AreAffectedIn base (take i gs) rows → AreAffectedIn base gs rows
  affected_all gs i rows l = subst (λ (hs : List Numbered). AreAffectedIn base hs rows) (take_all i gs l)

  -- the points that a comparison with the base finds
  pub points_found : (s : Sides) (g : Numbered) (ns : List ℕ) → s.graph ≡ g → s.other ≡ base → AreNumbersOf s.graph (IsAffected (graph_in s.graph) (graph_in s.other)) ns → Affected g ns
  points_found s g ns is_g is_base a =
      subst (λ (h : Numbered). Affected h ns) is_g (subst (λ (b : Numbered). AreNumbersOf s.graph (IsAffected (graph_in s.graph) (graph_in b)) ns) is_base a)

  -- the base beside a graph
  abbrev pub with_base : Numbered → Sides
  with_base g = record { graph = base; other = g }

  pub beside_more : (gs : List Numbered) (i : ℕ) (g : Numbered) (cs new : List Sides) (c : Sides) → i < length gs → g ≡ get_or gs i g → cs ≡ map with_base (take i gs) → c.graph ≡ base → c.other ≡ g → new ≡ cs ++ c ∷ [] → new ≡ map with_base (take (i + 1) gs)
  beside_more gs i g cs new c l is before graph other items =
      let same : c ≡ with_base g = λ k. record { graph = graph k; other = other k } in
      let pushed : cs ++ c ∷ [] ≡ map with_base (take i gs) ++ with_base g ∷ [] = λ k. before k ++ same k ∷ [] in
      items ∙ pushed ∙ sym (map-append with_base (take i gs) (g ∷ [])) ∙ ap (map with_base) (sym (next_taken gs i g l is))

  of_base : (gs : List Numbered) → AreOfBase base (map with_base gs)
  of_base [] = tt
  of_base (g ∷ gs) = (refl, of_base gs)

  others : (gs : List Numbered) → others_of (map with_base gs) ≡ gs
  others [] = refl
  others (g ∷ gs) = ap (λ (hs : List Numbered). g ∷ hs) (others gs)

  -- the comparisons that are read
  module _ (gs : List Numbered) (i : ℕ) (cs read : List Sides) (l : length gs ≤ i) (made : cs ≡ map with_base (take i gs)) (is : read ≡ cs) where
    read_all : read ≡ map with_base gs
    read_all = is ∙ made ∙ ap (map with_base) (take_all i gs l)

    pub read_base : AreOfBase base read
    read_base = subst (AreOfBase base) (sym read_all) (of_base gs)

    pub read_others : others_of read ≡ gs
    read_others = ap others_of read_all ∙ others gs

-- whole graphs
pub whole_one : (gs : List Numbered) (i : ℕ) (g : Numbered) → i < length gs → g ≡ get_or gs i g → AreAll IsWhole (graphs_in gs) → IsWhole (graph_in g)
whole_one [] i g l is all = absurd (omega (arith, l))
whole_one (h ∷ gs) zero g l is all = subst (λ (k : Numbered). IsWhole (graph_in k)) (sym is) all.0
whole_one (h ∷ gs) (suc i) g l is all = whole_one gs i g (omega (arith, l)) is all.1

-- the affected points of one variant, in its row
module _ (base : Numbered) (gs : List Numbered) (rows : List (Vec ℕ Global)) (a : AreAffectedIn base gs (numbers_of rows)) (i : ℕ) (l : i < length gs) where
  pub row_inside : i < length rows
  row_inside = let n = length_rows rows in omega (arith, l, n, a.count)

  pub own_points : (g : Numbered) (row : Vec ℕ Global) → g ≡ get_or gs i g → row ≡ get_or rows i row → AreNumbersOf g (IsAffected (graph_in g) (graph_in base)) row.items
  own_points g row is is_row =
      subst (λ (ns : List ℕ). AreNumbersOf g (IsAffected (graph_in g) (graph_in base)) ns) (read_row rows i row row_inside is_row) (a.each i g (slice_get-get_or gs i g l ∙ ap Some (sym is)))
