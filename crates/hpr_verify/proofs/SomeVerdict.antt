-- Three programs and one that is offered have a verdict.
use Rattle.std.proofs.Common.{◌≡◌, ◌↔◌, ℕ, zero, suc, ◌+◌, ◌<◌, ◌≤◌, inl, inr, Option, Some, None, List, [], ◌∷◌, length, Contains, slice_get, refl, sym, arith}
use Rattle.std.specs.Cmp.{IsTotalOrder}
use Rattle.std.specs.declared.cmp.Ordering.{Ordering}
use Rattle.std.specs.declared.cmp.Ordering.TheVariants.{Less, Equal, Greater}
use Rattle.std.proofs.lemmas.Bool.{cases_lt}
use Rattle.hpr_terms.specs.declared.tag.Tag.{Tag}
use Rattle.hpr_terms.proofs.Facts.{get_below}
use Rattle.hpr_syntax.specs.Tree.{Tree}
use Rattle.hpr_graph.specs.declared.conflict.Conflict.{Conflict}
use Rattle.hpr_graph.specs.declared.edge.Edge.{Edge}
use Rattle.hpr_graph.specs.declared.vertex.Vertex.{Vertex}
use Rattle.hpr_graph.specs.Answer.{IsWithoutConflict, merged_of, searched_graph_of}
use Rattle.hpr_graph.specs.Conflicts.{AreConflicts}
use Rattle.hpr_graph.specs.Graphs.{Graph}
use Rattle.hpr_graph.specs.InOrder.{Ascends}
use Rattle.hpr_graph.specs.Order.{vertex_cmp, edge_cmp}
use Rattle.hpr_graph.specs.ProgramGraph.{graph_of}
use Rattle.hpr_graph.specs.Split.{renamed, renamed_edge, split_graph}
use Rattle.hpr_graph.proofs.Bounded.{Bounded, of_each, of_one, of_within}
use Rattle.hpr_graph.proofs.EdgeOrder.{edge_tied}
use Rattle.hpr_graph.proofs.PutInOrder.{ascending}
use Rattle.hpr_graph.proofs.VertexOrder.{edge_total, vertex_tied, vertex_total}
use Rattle.hpr_merge.proofs.BoundedGraph as graphs
use Rattle.hpr_merge.proofs.SomeConflicts.{some_conflicts}
use Rattle.hpr_engine.proofs.SearchedFor as searched
use Rattle.hpr_verify.specs.declared.verdict.Holder.{Holder}
use Rattle.hpr_verify.specs.declared.verdict.Holder.TheVariants.{Offered, Merged}
use Rattle.hpr_verify.specs.declared.verdict.Verdict.{Verdict}
use Rattle.hpr_verify.specs.declared.verdict.Verdict.TheVariants as verdict
use Rattle.hpr_verify.specs.Difference.{IsDifference, IsLeastApart}
use Rattle.hpr_verify.specs.First.{IsFirstApart}
use Rattle.hpr_verify.specs.Verdict.{IsVerdict}
use Rattle.hpr_verify.proofs.Differences.{least_same}
use Rattle.hpr_verify.proofs.Rows.{Agree, agree_more, agree_turned, greater_turned, merged_first, none_apart, offered_less, offered_more}
use Rattle.hpr_verify.proofs.Verdicts.{free_verdict}

module _ {X : Type 0} (cmp : X → X → Ordering) (total : IsTotalOrder cmp) (exact : (x y : X) → cmp x y ≡ Equal → x ≡ y) where
  -- two rows that ascend have a first difference, or the same items
  module _ (xs ys : List X) (up : Ascends cmp xs) (up' : Ascends cmp ys) where
    abbrev HasFirst : Type 0
    HasFirst = (o : Option (ℕ × Holder)) × IsFirstApart cmp xs ys o

    by_order : (n : ℕ) (x y : X) → Agree xs ys n → slice_get xs n ≡ Some x → slice_get ys n ≡ Some y → (Agree xs ys (n + 1) → HasFirst) → (o : Ordering) → o ≡ cmp x y → HasFirst
    by_order n x y agree at at' more Less is = (Some (n, Offered), offered_less cmp total xs ys up up' n agree x y at at' is)
    by_order n x y agree at at' more Equal is = more (agree_more cmp exact xs ys n x y agree at at' is)
    by_order n x y agree at at' more Greater is = (
      Some (n, Merged),
      merged_first cmp xs ys n (offered_less cmp total ys xs up' up n (agree_turned xs ys n agree) y x at' at (greater_turned cmp total x y is)),
    )

    both_go_on : (n : ℕ) → Agree xs ys n → n < length xs → n < length ys → (Agree xs ys (n + 1) → HasFirst) → HasFirst
    both_go_on n agree within within' more =
        let (x, at) = get_below xs n within in
        let (y, at') = get_below ys n within' in
        by_order n x y agree at at' more (cmp x y) refl

    ended : (n : ℕ) → Agree xs ys n → length xs ≤ n → HasFirst
    ended n agree end = elim (cases_lt n (length ys)) [
      | inl within ↦ (Some (n, Merged), merged_first cmp xs ys n (offered_more cmp total ys xs up' up n (agree_turned xs ys n agree) within end))
      | inr end' ↦ (None, none_apart cmp total xs ys up up' n agree end end')
    ]

    first_from : (k n : ℕ) → length xs ≤ n + k → Agree xs ys n → HasFirst
    first_from zero n short agree = ended n agree (omega (arith, short))
    first_from (suc k) n short agree = elim (cases_lt n (length xs)) [
      | inl within ↦ elim (cases_lt n (length ys)) [
        | inl within' ↦ both_go_on n agree within within' (first_from k (n + 1) (omega (arith, short)))
        | inr end ↦ (Some (n, Offered), offered_more cmp total xs ys up up' n agree within end)
      ]
      | inr end ↦ ended n agree end
    ]

    some_first : HasFirst
    some_first = first_from (length xs) 0 (omega arith) (λ j low. absurd (omega (arith, low)))

  -- of what lies within bounds, that there is a least that one of two alone has, or that both have the same, can't be refuted
  module _ (P Q : X → Type 0) where
    abbrev HasLeast : Type 0
    HasLeast = (o : Option (X × Holder)) × IsLeastApart cmp P Q o

    of_rows : (xs ys : List X) → ((x : X) → Contains xs x ↔ P x) → ((x : X) → Contains ys x ↔ Q x) → (o : Option (ℕ × Holder)) → IsFirstApart cmp xs ys o → HasLeast
    of_rows xs ys p q None same = (None, λ x. (λ h. (q x).0 ((same x).0 ((p x).1 h)), λ h. (p x).0 ((same x).1 ((q x).1 h))))
    of_rows xs ys p q (Some (n, h)) (x, at, held) = (Some (x, h), least_same (Contains xs) P (Contains ys) Q p q cmp x h held)

    some_least : Bounded P → Bounded Q → ¬ (¬ HasLeast)
    some_least p q n =
        ascending cmp total exact P p (λ xs.
        ascending cmp total exact Q q (λ ys.
        (let first = some_first xs.0 ys.0 xs.1 ys.1 in
        n (of_rows xs.0 ys.0 xs.2 ys.2 first.0 first.1))))

-- two graphs within bounds have a difference, or are the same
module _ (g m : Graph) (vertices : Bounded g.vertex) (edges : Bounded g.edge) (vertices' : Bounded m.vertex) (edges' : Bounded m.edge) where
  abbrev HasDifference : Type 0
  HasDifference = (v : Verdict) × IsDifference g m v

  by_edges : ((v : Vertex) → g.vertex v ↔ m.vertex v) → (o : Option (Edge × Holder)) → IsLeastApart edge_cmp g.edge m.edge o → HasDifference
  by_edges same None alike = (verdict.Same, (same, alike))
  by_edges same (Some (e, h)) least = (verdict.Edge e h, (same, least))

  by_vertices : (o : Option (Vertex × Holder)) → IsLeastApart vertex_cmp g.vertex m.vertex o → ¬ (¬ HasDifference)
  by_vertices None same n = some_least edge_cmp edge_total edge_tied g.edge m.edge edges edges' (λ found. n (by_edges same found.0 found.1))
  by_vertices (Some (v, h)) least n = n (verdict.Vertex v h, least)

  some_difference : ¬ (¬ HasDifference)
  some_difference n = some_least vertex_cmp vertex_total vertex_tied g.vertex m.vertex vertices vertices' (λ found. by_vertices found.0 found.1 n)

-- what things within bounds become lies within bounds, and so does the split graph
images_bounded : {X : Type 0} (f : X → X) (P : X → Type 0) → Bounded P → Bounded (λ y. (x : X) × P x × (f x ≡ y))
images_bounded {X} f P bounded =
    of_within (λ y. (x : X) × P x × (f x ≡ y)) (λ y. (x : X) × P x × (y ≡ f x)) (λ y (x, has, is). (x, has, sym is))
    (of_each P (λ x y. y ≡ f x) bounded (λ x has. of_one (f x)))

module _ (rs : List (Vertex × Tag)) (g : Graph) where
  split_vertices : Bounded g.vertex → Bounded (split_graph rs g).vertex
  split_vertices = images_bounded (renamed rs) g.vertex

  split_edges : Bounded g.edge → Bounded (split_graph rs g).edge
  split_edges = images_bounded (renamed_edge rs) g.edge

module _ (base a b offered : Tree) where
  abbrev variants : List Tree
  variants = a ∷ b ∷ []

  abbrev M : Graph
  M = merged_of base a b

  abbrev HasVerdict : Type 0
  HasVerdict = (v : Verdict) × IsVerdict base a b offered v

  without_conflict : IsWithoutConflict base a b → ¬ (¬ HasVerdict)
  without_conflict free n =
      searched.some_split_off base variants (λ split.
      some_difference (graph_of offered) (searched_graph_of split.0 base variants) (graphs.vertices_bounded offered) (graphs.edges_bounded offered)
      (split_vertices split.0 M (searched.vertices_bounded base variants)) (split_edges split.0 M (graphs.merged_bounded base variants)) (λ found.
      n (found.0, free_verdict base a b offered free found.0 (split.0, split.1, found.1))))

  pub some_verdict : ¬ (¬ HasVerdict)
  some_verdict n = some_conflicts base a b (λ found. of_list found.0 found.1)
    where
      of_list : (cs : List Conflict) → AreConflicts (graph_of base) (graph_of a) (graph_of b) cs → ⊥
      of_list [] are = without_conflict are n
      of_list (c ∷ cs) are = n (verdict.Conflict c, (cs, are))
