-- From the orders of the allowed trees of items to the arrangements, and back.
use Rattle.std.proofs.Common.{◌≡◌, ℕ, zero, suc, ◌<◌, inl, inr, Some, None, List, [], ◌∷◌, ◌++◌, length, map, Contains, slice_get, refl, sym, ap, ◌∙◌, subst, arith}
use Rattle.std.proofs.lemmas.List.Elements.{Contains-get_or}
use Rattle.hpr_terms.proofs.Facts.{some_inj, contains_at, get_map, in_map, map_in}
use Rattle.hpr_syntax.specs.declared.rows.Row.{Row}
use Rattle.hpr_syntax.specs.Issued.{Issued}
use Rattle.hpr_syntax.specs.Rows.{rows_of}
use Rattle.hpr_syntax.specs.Tree.{Tree}
use Rattle.hpr_graph.specs.declared.vertex.Vertex.{Vertex}
use Rattle.hpr_graph.specs.declared.vertex.Vertex.TheVariants.{Part}
use Rattle.hpr_graph.specs.Arrangements.{IsArrangement, AreArrangements, IsEarlier}
use Rattle.hpr_graph.specs.Graphs.{Graph}
use Rattle.hpr_graph.specs.Rank.{parts_of, StandsBefore}
use Rattle.hpr_forest.specs.Lists.{LexLess, IsAscending}
use Rattle.hpr_forest.proofs.Unique.{in_first, in_later}
use Rattle.hpr_forest.specs.ArrangedTrees.{Earlier}
use Rattle.hpr_forest.specs.Trees.{Tree as ItemTree, preorder}
use Rattle.hpr_order.specs.declared.item.Item.{Item}
use Rattle.hpr_order.specs.Arranging.{programs_of, IsProgramOrder, ArePrograms}
use Rattle.hpr_order.specs.Items.{program_of}
use Rattle.hpr_order.specs.Limits.{IsAllowedTree, AreOrdersOf}
use Rattle.hpr_order.proofs.ListFacts.{map_append}
use Rattle.hpr_order.proofs.Shapes.{vertex_of, parts_in}
use Rattle.hpr_order.proofs.Sound.{IsGiven, known_of, tree_arranged, block_read}
use Rattle.hpr_order.proofs.Complete.{arranged_tree}

-- where two lists of one length first differ
lex_split : (s t : List ℕ) → LexLess s t → length s ≡ length t → (front ps qs : List ℕ) × (k j : ℕ) × (s ≡ front ++ k ∷ ps) × (t ≡ front ++ j ∷ qs) × (k < j)
lex_split [] [] l e = absurd l
lex_split [] (b ∷ t) l e = absurd (omega arith)
lex_split (a ∷ s) [] l e = absurd l
lex_split (a ∷ s) (b ∷ t) (inl lt) e = ([], s, t, a, b, refl, refl, lt)
lex_split (a ∷ s) (b ∷ t) (inr (is, l)) e =
    let (front, ps, qs, k, j, p, q, lt) = lex_split s t l (omega (arith, e)) in
    (a ∷ front, ps, qs, k, j, ap (λ z. a ∷ z) p, ap (λ z. b ∷ z) q ∙ ap (λ z. z ∷ (front ++ j ∷ qs)) (sym is), lt)

ascending_at : {X : Type 0} (Before : X → X → Type 0) (xs : List X) → IsAscending Before xs → (i j : ℕ) (x y : X) → i < j → slice_get xs i ≡ Some x → slice_get xs j ≡ Some y → Before x y
ascending_at Before [] up i j x y lt a b = absurd cc
ascending_at Before (z ∷ xs) up i zero x y lt a b = absurd (omega (arith, lt))
ascending_at Before (z ∷ xs) up zero (suc j) x y lt a b = subst (λ w. Before w y) (some_inj z x a) (up.0 y (contains_at xs j y b))
ascending_at Before (z ∷ xs) up (suc i) (suc j) x y lt a b = ascending_at Before xs up.1 i j x y (omega (arith, lt)) a b

map_map : (f : List ℕ → Tree) (ts : List ItemTree) → map f (map preorder ts) ≡ map (λ t. f (preorder t)) ts
map_map f [] = refl
map_map f (t ∷ ts) = ap (λ z. f (preorder t) ∷ z) (map_map f ts)

module _ (g : Graph) (items : List Item) (issued : Issued) (finals : List (List ℕ)) (is : IsGiven g items issued finals) where
  pub parts_at : (t : ItemTree) → IsAllowedTree g items t → parts_of (program_of items issued finals (preorder t)) ≡ map (vertex_of items) (preorder t)
  parts_at t a =
      let (b, h, e) = block_read g items issued finals is t a in
      ap (λ z. map (λ (row : Row). Part row.tag row.content) (rows_of None 0 z)) e ∙ parts_in items t b None 0 h

  module _ (rank : List Vertex) (ranked : (k j : ℕ) → k < j → j < length items → StandsBefore rank (vertex_of items k) (vertex_of items j)) where
    earlier : (t u : ItemTree) → IsAllowedTree g items t → IsAllowedTree g items u → Earlier t u
        → IsEarlier rank (program_of items issued finals (preorder t)) (program_of items issued finals (preorder u))
    earlier t u a b l =
        let f = vertex_of items in
        let (front, ps, qs, k, j, p, q, lt) = lex_split (preorder t) (preorder u) l (a.arranged.len ∙ sym b.arranged.len) in
        let inside : j < length items = b.arranged.within j (subst (λ z. Contains z j) (sym q) (in_middle front qs j)) in (
          map f front,
          map f ps,
          map f qs,
          f k,
          f j,
          parts_at t a ∙ ap (map f) p ∙ map_append f front (k ∷ ps),
          parts_at u b ∙ ap (map f) q ∙ map_append f front (j ∷ qs),
          ranked k j lt inside,
        )
      where
        in_middle : (xs ys : List ℕ) (k : ℕ) → Contains (xs ++ k ∷ ys) k
        in_middle [] ys k = in_first k ys
        in_middle (x ∷ xs) ys k = in_later x k (xs ++ k ∷ ys) (in_middle xs ys k)

    -- the programs of the orders are the arrangements
    pub orders_arranged : (orders : List (List ℕ)) → AreOrdersOf g items orders → AreArrangements g rank issued (programs_of items issued finals orders)
    orders_arranged orders (ts, e, list) =
        let same : map (λ t. program_of items issued finals (preorder t)) ts ≡ programs_of items issued finals orders =
        sym (map_map (program_of items issued finals) ts) ∙ ap (map (program_of items issued finals)) e in
        subst (AreArrangements g rank issued) same (
          λ p. (
            (λ h. let (t, m, is_p) = map_in (λ (t : ItemTree). program_of items issued finals (preorder t)) ts p h in
                subst (IsArrangement g issued) is_p (tree_arranged g items issued finals is t (list.sound t m))),
            (λ r. let (t, a, _, is_p) = arranged_tree g items issued finals (known_of g items issued finals is) p r in
                subst (Contains (map (λ (t : ItemTree). program_of items issued finals (preorder t)) ts)) is_p
                (in_map (λ (t : ItemTree). program_of items issued finals (preorder t)) ts t (list.complete t a))),
          ),
          λ i j p q lt at_i at_j.
              (let f : ItemTree → Tree = λ t. program_of items issued finals (preorder t) in
              let (t, ti, tp) = get_map f ts i p at_i in
              let (u, uj, uq) = get_map f ts j q at_j in
              let e' = earlier t u (list.sound t (contains_at ts i t ti)) (list.sound u (contains_at ts j u uj)) (ascending_at Earlier ts list.ascending i j t u lt ti uj) in
              subst (λ z. IsEarlier rank z q) tp (subst (λ z. IsEarlier rank (f t) z) uq e')),
        )

  -- each of them is a program
  pub orders_programs : (orders : List (List ℕ)) → AreOrdersOf g items orders → ArePrograms items issued finals orders
  orders_programs orders (ts, e, list) order h =
      let (t, m, is_o) = map_in preorder ts order (subst (λ z. Contains z order) (sym e) h) in
      let a = list.sound t m in
      subst (IsProgramOrder items issued finals) is_o (record {
        once = a.arranged.once;
        within = λ k d lt. a.arranged.within _ (Contains-get_or (preorder t) k d lt);
        program = (tree_arranged g items issued finals is t a).program;
      })
