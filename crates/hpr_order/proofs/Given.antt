-- The arrangement that has a given preorder.
use Rattle.std.proofs.Common.{◌≡◌, ℕ, suc, ◌+◌, ◌<◌, inl, inr, true, false, Some, None, List, [], ◌∷◌, ◌++◌, length, map, Contains, slice_get, refl, sym, ap, ap₂, ◌∙◌, subst, arith, append_assoc}
use Rattle.std.proofs.lemmas.List.{append-nil}
use Rattle.std.proofs.lemmas.List.Elements.{Contains-append_left, Contains-append_right}
use Rattle.hpr_terms.specs.declared.tag.Tag.{Tag}
use Rattle.hpr_terms.proofs.Facts.{some_inj, contains_at, place_of, get_in_map, get_map}
use Rattle.hpr_syntax.specs.declared.rows.Row.{Row}
use Rattle.hpr_syntax.specs.declared.rows.Content.{Content}
use Rattle.hpr_syntax.specs.declared.rows.Content.TheVariants.{If, While}
use Rattle.hpr_syntax.specs.Rows.{content_by, Parent, row_of, rows_of}
use Rattle.hpr_syntax.specs.Body.{Body, done, action, branch, loop}
use Rattle.hpr_syntax.specs.Issued.{Issued}
use Rattle.hpr_syntax.specs.Nests.{Says}
use Rattle.hpr_syntax.specs.Parts.{same_tag, tags_of}
use Rattle.hpr_syntax.specs.Tree.{Tree}
use Rattle.hpr_syntax.proofs.NoRefusal.{no_refusal}
use Rattle.hpr_syntax.proofs.Repeats.{places_once}
use Rattle.hpr_graph.specs.declared.vertex.Vertex.{Vertex}
use Rattle.hpr_graph.specs.declared.vertex.Vertex.TheVariants.{Part}
use Rattle.hpr_graph.specs.Arrangements.{IsArrangement}
use Rattle.hpr_graph.specs.Numbered.{Numbered, IsNumbered, graph_in}
use Rattle.hpr_graph.specs.Rank.{parts_of}
use Rattle.hpr_forest.proofs.Unique.{in_first, in_later}
use Rattle.hpr_forest.specs.Trees.{Tree as ItemTree, preorder}
use Rattle.hpr_syntax.proofs.TagLemmas.{same_tag_itself}
use Rattle.hpr_order.specs.declared.item.Item.{Item}
use Rattle.hpr_order.specs.Arranging.{AreFirstNumbers, IsPreorderOf}
use Rattle.hpr_order.specs.Items.{program_of}
use Rattle.hpr_order.specs.Numbers.{ArePartsOf, AreItemsAt, AreItemsOf}
use Rattle.hpr_order.specs.Ordered.{IsListedProgram}
use Rattle.hpr_order.proofs.Complete.{arranged_tree}
use Rattle.hpr_order.proofs.ListFacts.{map_append, one_get}
use Rattle.hpr_order.proofs.Shapes.{tag_of, vertex_of, vertex_is, parts_in}
use Rattle.hpr_order.proofs.Sound.{IsKnown, item_at, part_same}

-- the rows of a block say what its parts say, and have their tags
says_row : (b : Body) (up : Parent) (i : ℕ) (t : Tag) (c : Content) → Says b t c → (row : Row) × Contains (rows_of up i b) row × (row.tag ≡ t) × (row.content ≡ c)
says_row done up i t c s = absurd s
says_row (action u d rest) up i t c (inl s) = (row_of u up i (content_by d), in_first _ _, sym s.0, sym s.1)
says_row (action u action_ rest) up i t c (inr s) = (let (r, h, a, d) = says_row rest up (i + 1) t c s in (r, in_later _ r (rows_of up (i + 1) rest) h, a, d))
says_row (branch u e p q rest) up i t c (inl s) = (row_of u up i (If e), in_first _ _, sym s.0, sym s.1)
says_row (branch u e p q rest) up i t c (inr (inl s)) =
    (let (r, h, a, d) = says_row p (Some (u, true)) 0 t c s in
    (r, in_later _ r _ (Contains-append_left (rows_of (Some (u, true)) 0 p ++ rows_of (Some (u, false)) 0 q) (rows_of up (i + 1) rest) r (Contains-append_left (rows_of (Some (u, true)) 0 p) (rows_of (Some (u, false)) 0 q) r h)), a, d))
says_row (branch u e p q rest) up i t c (inr (inr (inl s))) =
    (let (r, h, a, d) = says_row q (Some (u, false)) 0 t c s in
    (r, in_later _ r _ (Contains-append_left (rows_of (Some (u, true)) 0 p ++ rows_of (Some (u, false)) 0 q) (rows_of up (i + 1) rest) r (Contains-append_right (rows_of (Some (u, true)) 0 p) (rows_of (Some (u, false)) 0 q) r h)), a, d))
says_row (branch u e p q rest) up i t c (inr (inr (inr s))) =
    (let (r, h, a, d) = says_row rest up (i + 1) t c s in
    (r, in_later _ r _ (Contains-append_right (rows_of (Some (u, true)) 0 p ++ rows_of (Some (u, false)) 0 q) (rows_of up (i + 1) rest) r h), a, d))
says_row (loop u e p rest) up i t c (inl s) = (row_of u up i (While e), in_first _ _, sym s.0, sym s.1)
says_row (loop u e p rest) up i t c (inr (inl s)) =
    (let (r, h, a, d) = says_row p (Some (u, true)) 0 t c s in (r, in_later _ r _ (Contains-append_left (rows_of (Some (u, true)) 0 p) (rows_of up (i + 1) rest) r h), a, d))
says_row (loop u e p rest) up i t c (inr (inr s)) =
    (let (r, h, a, d) = says_row rest up (i + 1) t c s in (r, in_later _ r _ (Contains-append_right (rows_of (Some (u, true)) 0 p) (rows_of up (i + 1) rest) r h), a, d))

tags_rows : (b : Body) (up : Parent) (i : ℕ) (after : List Tag) → tags_of b after ≡ map (λ (row : Row). row.tag) (rows_of up i b) ++ after
tags_rows done up i after = refl
tags_rows (action t d rest) up i after = ap (λ z. t ∷ z) (tags_rows rest up (i + 1) after)
tags_rows (branch t e p q rest) up i after =
    let f : Row → Tag = λ row. row.tag in
    let ps = rows_of (Some (t, true)) 0 p in
    let qs = rows_of (Some (t, false)) 0 q in
    let rs = rows_of up (i + 1) rest in
    ap (λ z. t ∷ z) (tags_rows p (Some (t, true)) 0 (tags_of q (tags_of rest after))
    ∙ ap (λ z. map f ps ++ z) (tags_rows q (Some (t, false)) 0 (tags_of rest after) ∙ ap (λ z. map f qs ++ z) (tags_rows rest up (i + 1) after))
    ∙ sym (append_assoc (map f ps) (map f qs) (map f rs ++ after))
    ∙ ap (λ z. z ++ (map f rs ++ after)) (sym (map_append f ps qs))
    ∙ sym (append_assoc (map f (ps ++ qs)) (map f rs) after)
    ∙ ap (λ z. z ++ after) (sym (map_append f (ps ++ qs) rs)))
tags_rows (loop t e p rest) up i after =
    let f : Row → Tag = λ row. row.tag in
    let ps = rows_of (Some (t, true)) 0 p in
    let rs = rows_of up (i + 1) rest in
    ap (λ z. t ∷ z) (tags_rows p (Some (t, true)) 0 (tags_of rest after)
    ∙ ap (λ z. map f ps ++ z) (tags_rows rest up (i + 1) after)
    ∙ sym (append_assoc (map f ps) (map f rs) after)
    ∙ ap (λ z. z ++ after) (sym (map_append f ps rs)))

list_same : (xs ys : List ℕ) → length xs ≡ length ys → ((k x : ℕ) → slice_get xs k ≡ Some x → slice_get ys k ≡ Some x) → xs ≡ ys
list_same [] [] len all = refl
list_same [] (y ∷ ys) len all = absurd (omega arith)
list_same (x ∷ xs) [] len all = absurd (omega arith)
list_same (x ∷ xs) (y ∷ ys) len all =
    let first : y ≡ x = some_inj y x (all 0 x refl) in
    ap₂ (λ (u : ℕ) (us : List ℕ). u ∷ us) (sym first) (list_same xs ys (omega arith) (λ k z e. all (suc k) z e))

module _ (g : Numbered) (num : IsNumbered g) (issued : Issued) (order : List ℕ) (p : Tree) (r : IsArrangement (graph_in g) issued p) (pre : IsPreorderOf g order p) where
  at_order : (k n : ℕ) → slice_get order k ≡ Some n → (v : Vertex) × (slice_get (parts_of p) k ≡ Some v) × (slice_get g.vertices n ≡ Some v)
  at_order k n e =
      let there : slice_get (map Some (parts_of p)) k ≡ Some (slice_get g.vertices n) = subst (λ z. slice_get z k ≡ Some (slice_get g.vertices n)) pre (get_in_map (slice_get g.vertices) order k n e) in
      let (v, ev, is) = get_map Some (parts_of p) k (slice_get g.vertices n) there in
      (v, ev, sym is)

  order_at : (k : ℕ) (v : Vertex) → slice_get (parts_of p) k ≡ Some v → (n : ℕ) × (slice_get order k ≡ Some n) × (slice_get g.vertices n ≡ Some v)
  order_at k v e =
      let there : slice_get (map (slice_get g.vertices) order) k ≡ Some (Some v) = subst (λ z. slice_get z k ≡ Some (Some v)) (sym pre) (get_in_map Some (parts_of p) k v e) in
      get_map (slice_get g.vertices) order k (Some v) there

  row_at : (k : ℕ) (v : Vertex) → slice_get (parts_of p) k ≡ Some v → (row : Row) × (slice_get (rows_of None 0 p.body) k ≡ Some row) × (Part row.tag row.content ≡ v)
  row_at k v e = get_map (λ (row : Row). Part row.tag row.content) (rows_of None 0 p.body) k v e

  tag_at : (k : ℕ) (v : Vertex) (t : Tag) (c : Content) → slice_get (parts_of p) k ≡ Some v → v ≡ Part t c → slice_get (tags_of p.body []) k ≡ Some t
  tag_at k v t c e is =
      let (row, er, f) = row_at k v e in
      let same : row.tag ≡ t = (part_same row.tag t row.content c (f ∙ is)).0 in
      let tags : tags_of p.body [] ≡ map (λ (row : Row). row.tag) (rows_of None 0 p.body) = tags_rows p.body None 0 [] ∙ append-nil (map (λ (row : Row). row.tag) (rows_of None 0 p.body)) in
      subst (λ z. slice_get z k ≡ Some t) (sym tags) (get_in_map (λ (row : Row). row.tag) (rows_of None 0 p.body) k row er ∙ ap Some same)

  pub order_parts : ArePartsOf g order
  order_parts = record {
    parts = λ k n e.
        (let (v, ev, at) = at_order k n e in
        let (row, er, is) = row_at k v ev in
        (row.tag, row.content, at ∙ ap Some (sym is)));
    all = λ n t c part.
        (let (row, h, a, b) = says_row p.body None 0 t c ((r.parts t c).1 (contains_at g.vertices n (Part t c) part)) in
        let (k, ek) = place_of (rows_of None 0 p.body) row h in
        let at_k : slice_get (parts_of p) k ≡ Some (Part t c) = get_in_map (λ (row : Row). Part row.tag row.content) (rows_of None 0 p.body) k row ek ∙ ap Some (ap₂ Part a b) in
        let (m, em, at) = order_at k (Part t c) at_k in
        (k, em ∙ ap Some (num.once m n (Part t c) at part)));
    once = λ i j n a b.
        (let (v, ev, at_i) = at_order i n a in
        let (w, ew, at_j) = at_order j n b in
        let same : w ≡ v = one_get g.vertices n w v at_j at_i in
        let (row, er, is) = row_at i v ev in
        places_once same_tag same_tag_itself [] (tags_of p.body []) i j row.tag (no_refusal p r.program.shape).tags
        (tag_at i v row.tag row.content ev (sym is)) (tag_at j w row.tag row.content ew (same ∙ sym is)));
  }

  -- it is the program of the items in the order of the list
  module _ (items : List Item) (finals : List (List ℕ)) (is : IsKnown (graph_in g) items finals) (at : AreItemsAt g order items) where
    in_line : (t : ItemTree) → ((k : ℕ) → Contains (preorder t) k → k < length items) → parts_of p ≡ map (vertex_of items) (preorder t) → (k x : ℕ) → slice_get (preorder t) k ≡ Some x → k ≡ x
    in_line t within parts k x e =
        let u = tag_of items x in
        let (c, i) = item_at items x (within x (contains_at (preorder t) k x e)) in
        let at_k : slice_get (parts_of p) k ≡ Some (Part u c) = subst (λ z. slice_get z k ≡ Some (Part u c)) (sym parts) (get_in_map (vertex_of items) (preorder t) k x e ∙ ap Some (vertex_is items x u c i)) in
        let (n, en, part) = order_at k (Part u c) at_k in
        is.items.once k x u c c ((at.parts k n u c en).1 part) i

    program_given : (ns : List ℕ) → AreFirstNumbers (length items) ns → program_of items issued finals ns ≡ p
    program_given ns (len, first) =
        let (t, a, h, e) = arranged_tree (graph_in g) items issued finals is p r in
        let parts : parts_of p ≡ map (vertex_of items) (preorder t) = parts_in items t p.body None 0 h in
        let same : preorder t ≡ ns = list_same (preorder t) ns (a.arranged.len ∙ sym len) (λ k x ex.
        let is_x : k ≡ x = in_line t a.arranged.within parts k x ex in
        subst (λ z. slice_get ns k ≡ Some z) is_x (first k (subst (λ z. z < length items) (sym is_x) (a.arranged.within x (contains_at (preorder t) k x ex))))) in
        subst (λ z. program_of items issued finals z ≡ p) same e

  pub listed_program : (items : List Item) → AreItemsOf g order items → IsListedProgram (graph_in g) items issued p
  listed_program items is xs ns finals first = program_given items xs (record { items = is.items; finals = finals.names; order = finals.ascending }) is.at ns first
