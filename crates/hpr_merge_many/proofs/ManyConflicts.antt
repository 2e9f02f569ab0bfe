-- The conflicts of all variants, one variant after another.
use Rattle.std.proofs.Common.{◌≡◌, ℕ, zero, suc, ◌+◌, ◌-◌, ◌<◌, ◌≤◌, ◌↔◌, inl, inr, List, [], ◌∷◌, ◌++◌, length, map, get_or, Contains, refl, sym, ap, ◌∙◌, subst, arith}
use Rattle.std.proofs.lemmas.List.{map-append}
use Rattle.std.proofs.lemmas.List.Elements.{Contains-append_cases}
use Rattle.hpr_terms.proofs.Facts.{map_in}
use Rattle.hpr_graph.specs.declared.edge.Edge.{Edge}
use Rattle.hpr_graph.specs.declared.vertex.Vertex.{Vertex}
use Rattle.hpr_graph.specs.Conflicts.{graph_at, AreConflictsBy, told_many}
use Rattle.hpr_graph.specs.Graphs.{Graph, Same}
use Rattle.hpr_graph.specs.Numbered.{Numbered, graph_in, graphs_in}
use Rattle.hpr_graph.specs.Points.{IsAffected, merged_all}
use Rattle.hpr_graph.proofs.Lists.{in_none}
use Rattle.hpr_merge.specs.PointConflicts.{ArePointConflicts}
use Rattle.hpr_merge.proofs.ToldConflicts.{AreToldBelow, IsTelling, told_all, told_more, told_none}
use Rattle.hpr_graph.specs.declared.conflict.ManyConflict.{ManyConflict}
use Rattle.hpr_merge_many.specs.Conflicts.{conflict_of}

abbrev Told : Type 0
Told = ℕ × Vertex × Edge

-- those of the first n variants
pub record AreManyBelow (base : Numbered) (gs : List Numbered) (n : ℕ) (cs : List ManyConflict) : Type 0 where
  pub told : AreToldBelow {X = Told} (λ t. t) (graph_in base) (graphs_in gs) n (map told_many cs)
  pub from_one : (c : ManyConflict) → Contains cs c → 1 ≤ c.variant

at_number : (gs : List Numbered) (i : ℕ) (g : Numbered) → i < length gs → g ≡ get_or gs i g → graph_at (graphs_in gs) i ≡ graph_in g
at_number [] i g l is = absurd (omega (arith, l))
at_number (h ∷ gs) zero g l is = ap graph_in (sym is)
at_number (h ∷ gs) (suc i) g l is = at_number gs i g (omega (arith, l)) is

tells_one : (i : ℕ) → IsTelling {X = Told} (λ t. t) i (λ p. told_many (conflict_of (i + 1) p))
tells_one i = let back : i + 1 - 1 ≡ i = omega arith in record {
  tells = λ p k. (back k, p.0, p.1);
  told = λ t same. (let is : t.0 ≡ i + 1 - 1 = same ∙ sym back in λ k. (is k, t.1, t.2));
}

told_each : (n : ℕ) (ps : List (Vertex × Edge)) → map told_many (map (conflict_of n) ps) ≡ map (λ p. told_many (conflict_of n p)) ps
told_each n [] = refl
told_each n (p ∷ ps) = ap (λ (ts : List Told). told_many (conflict_of n p) ∷ ts) (told_each n ps)

length_graphs : (gs : List Numbered) → length (graphs_in gs) ≡ length gs
length_graphs [] = refl
length_graphs (g ∷ gs) = ap suc (length_graphs gs)

module _ (base : Numbered) (gs : List Numbered) where
  pub many_none : (cs : List ManyConflict) → cs ≡ [] → AreManyBelow base gs 0 cs
  many_none cs none = record {
    told = told_none {X = Told} (λ t. t) (graph_in base) (graphs_in gs) (map told_many cs) (ap (map told_many) none);
    from_one = λ c h. absurd (in_none c (subst (λ (ds : List ManyConflict). Contains ds c) none h));
  }

  -- one variant more
  pub many_more : (m : Graph) → Same m (merged_all (graph_in base) (graphs_in gs)) → (i : ℕ) (g : Numbered) → i < length gs → g ≡ get_or gs i g → (P : Vertex → Type 0) → ((v : Vertex) → P v ↔ IsAffected (graph_in g) (graph_in base) v)
      → (ps : List (Vertex × Edge)) → ArePointConflicts m (graph_in g) P ps → (old new : List ManyConflict) → AreManyBelow base gs i old → new ≡ old ++ map (conflict_of (i + 1)) ps → AreManyBelow base gs (i + 1) new
  many_more m same i g l is P affected ps are old new a items =
      let here = at_number gs i g l is in
      let next =
      told_more {X = Told} (λ t. t) (graph_in base) (graphs_in gs) m same i P
      (subst (λ (h : Graph). (v : Vertex) → P v ↔ IsAffected h (graph_in base) v) (sym here) affected) ps
      (subst (λ (h : Graph). ArePointConflicts m h P ps) (sym here) are) (λ p. told_many (conflict_of (i + 1) p)) (tells_one i) (map told_many old) a.told in
      let made : map told_many new ≡ map told_many old ++ map (λ p. told_many (conflict_of (i + 1) p)) ps =
      ap (map told_many) items ∙ map-append told_many old (map (conflict_of (i + 1)) ps) ∙ ap (λ (ts : List Told). map told_many old ++ ts) (told_each (i + 1) ps) in
      record {
        told = subst (AreToldBelow {X = Told} (λ t. t) (graph_in base) (graphs_in gs) (i + 1)) (sym made) next;
        from_one = λ c h. elim (Contains-append_cases old (map (conflict_of (i + 1)) ps) c (subst (λ (ds : List ManyConflict). Contains ds c) items h)) [
          | inl was ↦ a.from_one c was
          | inr now ↦ (let (p, has, is_c) = map_in (conflict_of (i + 1)) ps c now in subst (λ (d : ManyConflict). 1 ≤ d.variant) is_c (omega arith))
        ];
      }

  pub many_all : (i : ℕ) (cs : List ManyConflict) → length gs ≤ i → AreManyBelow base gs i cs → AreConflictsBy {X = Told} (λ t. t) (graph_in base) (graphs_in gs) (map told_many cs)
  many_all i cs l a = told_all {X = Told} (λ t. t) (graph_in base) (graphs_in gs) i (map told_many cs) (let n = length_graphs gs in omega (arith, l, n)) a.told
