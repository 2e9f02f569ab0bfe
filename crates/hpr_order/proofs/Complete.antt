-- Each arrangement is that of an allowed tree of items.
use Rattle.std.proofs.Common.{◌≡◌, ℕ, zero, suc, ◌<◌, ◌⊎◌, inl, inr, Bool, true, Some, None, List, [], ◌∷◌, length, map, Contains, slice_get, refl, sym, ap, ◌∙◌, subst, arith}
use Rattle.std.specs.declared.cmp.Ordering.TheVariants.{Less}
use Rattle.std.specs.Cmp.Lexicographic.{nat_list_cmp_total}
use Rattle.std.proofs.lemmas.List.{append-nil}
use Rattle.hpr_terms.specs.declared.limits.TheConstants.{MAX_LEVELS}
use Rattle.hpr_terms.specs.declared.tag.Tag.{Tag}
use Rattle.hpr_terms.proofs.Facts.{place_of, in_map, neither}
use Rattle.hpr_syntax.specs.declared.rows.Content.{Content}
use Rattle.hpr_syntax.specs.declared.rows.Content.TheVariants.{If, While}
use Rattle.hpr_syntax.specs.Rows.{content_by, Parent}
use Rattle.hpr_syntax.specs.Body.{Body, done, action, branch, loop}
use Rattle.hpr_syntax.specs.Issued.{Issued}
use Rattle.hpr_syntax.specs.Nests.{Says}
use Rattle.hpr_syntax.specs.Parts.{same_tag, tags_of}
use Rattle.hpr_syntax.specs.Shape.{says_large, is_wrong}
use Rattle.hpr_syntax.specs.Tree.{Tree}
use Rattle.hpr_syntax.proofs.NoRefusal.{no_refusal}
use Rattle.hpr_syntax.proofs.PartBound.{few_parts}
use Rattle.hpr_syntax.proofs.Repeats.{places_once}
use Rattle.hpr_graph.specs.declared.vertex.Vertex.{Vertex}
use Rattle.hpr_graph.specs.declared.vertex.Vertex.TheVariants.{Entry, Part}
use Rattle.hpr_graph.specs.Arrangements.{IsArrangement}
use Rattle.hpr_graph.specs.Graphs.{Graph}
use Rattle.hpr_graph.specs.InOrder.{Ascends}
use Rattle.hpr_graph.specs.Order.{name_cmp}
use Rattle.hpr_forest.specs.Lists.{IsAscending}
use Rattle.hpr_forest.proofs.Unique.{in_none, in_cons, one_list}
use Rattle.hpr_forest.specs.Forest.{IsDistinct}
use Rattle.hpr_forest.specs.Lifted.{IsLeft}
use Rattle.hpr_forest.specs.Trees.{Tree as ItemTree, empty, node, Slot, StandsIn, preorder}
use Rattle.hpr_forest.proofs.Members.{no_longer, below, below_has, length-below}
use Rattle.hpr_syntax.proofs.TagLemmas.{same_tag_itself}
use Rattle.hpr_graph.proofs.NameOrder.{never_less}
use Rattle.hpr_graph.proofs.Laws.{part_tag}
use Rattle.hpr_order.specs.declared.item.Item.{Item}
use Rattle.hpr_order.specs.Items.{IsItem, IsSource, Asks, slot_at, block_at, program_of}
use Rattle.hpr_order.specs.Limits.{IsAllowedTree}
use Rattle.hpr_order.proofs.BlockOf.{IsBlockOf, Places, IsParent, says_in, so_stands, stands_by_place, place_in, in_which}
use Rattle.hpr_order.proofs.Lefts.{left_is, one_left, left_stands}
use Rattle.hpr_order.proofs.ReadBack.{read_whole}
use Rattle.hpr_order.proofs.Shapes.{tag_of, tags_in, count_in, in_none_of, in_shallow}
use Rattle.hpr_order.proofs.Sound.{IsKnown, source_control, item_at, below_of}

below_less : (n k : ℕ) → Contains (below n) k → k < n
below_less zero k h = absurd (in_none k h)
below_less (suc n) k h = elim (in_cons n k (below n) h) [
  | inl is ↦ omega (arith, is)
  | inr later ↦ (let lt = below_less n k later in omega arith)
]

below_once : (n : ℕ) → IsDistinct (below n)
below_once zero = tt
below_once (suc n) = ((λ h. let lt = below_less n n h in omega arith), below_once n)

-- a list of all numbers below n, each once, has n of them
all_length : (n : ℕ) (l : List ℕ) → IsDistinct l → ((k : ℕ) → Contains l k → k < n) → ((k : ℕ) → k < n → Contains l k) → length l ≡ n
all_length n l once within all =
    omega (arith, length-below n, no_longer l (below n) once (λ k h. below_has n k (within k h)), no_longer (below n) l (below_once n) (λ k h. all k (below_less n k h)))

-- what differs under a function differs
once_by : {X : Type 0} (f : ℕ → X) (l : List ℕ) → ((i j : ℕ) (x : X) → slice_get (map f l) i ≡ Some x → slice_get (map f l) j ≡ Some x → i ≡ j) → IsDistinct l
once_by f [] one = tt
once_by {X} f (k ∷ l) one = (
  λ h. (let (j, e) = place_of (map f l) (f k) (in_map f l k h) in let no : 0 ≡ suc j = one 0 (suc j) (f k) refl e in omega arith),
  once_by f l (λ i j x a b. let e : suc i ≡ suc j = one (suc i) (suc j) x a b in omega arith),
)

names_before : (xs : List (List ℕ)) → Ascends name_cmp xs → IsAscending (λ x y. name_cmp x y ≡ Less) xs
names_before [] up = tt
names_before (x ∷ xs) up = (
  λ y a. (let (j, e) = place_of xs y a in up 0 (suc j) x y (omega arith) refl e),
  names_before xs (λ i j x' y' lt a b. up (suc i) (suc j) x' y' (omega (arith, lt)) a b),
)

same_names : (xs ys : List (List ℕ)) → Ascends name_cmp xs → Ascends name_cmp ys → ((x : List ℕ) → Contains xs x → Contains ys x) → ((x : List ℕ) → Contains ys x → Contains xs x) → xs ≡ ys
same_names xs ys a b to from =
    one_list (λ x y. name_cmp x y ≡ Less) never_less (λ x y z p q. nat_list_cmp_total.trans x y z p q) xs ys (names_before xs a) (names_before ys b) to from

-- the tree of a block whose parts are items
tree_there : (items : List Item) (b : Body) → ((u : Tag) (c : Content) → Says b u c → (k : ℕ) × IsItem items k u c) → (t : ItemTree) × IsBlockOf items t b
tree_there items done all = (empty, tt)
tree_there items (action t d rest) all =
    let (k, i) = all t (content_by d) (inl (refl, refl)) in
    let (r, hr) = tree_there items rest (λ u c s. all u c (inr s)) in
    (node k empty empty r, (i, tt, tt, hr))
tree_there items (branch t e p q rest) all =
    let (k, i) = all t (If e) (inl (refl, refl)) in
    let (y, hy) = tree_there items p (λ u c s. all u c (inr (inl s))) in
    let (n, hn) = tree_there items q (λ u c s. all u c (inr (inr (inl s)))) in
    let (r, hr) = tree_there items rest (λ u c s. all u c (inr (inr (inr s)))) in
    (node k y n r, (i, hy, hn, hr))
tree_there items (loop t e p rest) all =
    let (k, i) = all t (While e) (inl (refl, refl)) in
    let (y, hy) = tree_there items p (λ u c s. all u c (inr (inl s))) in
    let (r, hr) = tree_there items rest (λ u c s. all u c (inr (inr s))) in
    (node k y empty r, (i, hy, tt, hr))

-- what stands in the tree of a block is an item
item_of : (items : List Item) (t : ItemTree) (b : Body) (k : ℕ) → IsBlockOf items t b → Contains (preorder t) k → (u : Tag) × (c : Content) × IsItem items k u c
item_of items empty b k h a = absurd (in_none k a)
item_of items (node c y n r) done k h a = absurd h
item_of items (node c y n r) (action t d rest) k h a = elim (in_which c y n r k a) [
  | inl is ↦ (t, content_by d, subst (λ z. IsItem items z t (content_by d)) is h.0)
  | inr (inl one) ↦ item_of items y done k h.1 one
  | inr (inr (inl two)) ↦ item_of items n done k h.2 two
  | inr (inr (inr three)) ↦ item_of items r rest k h.3 three
]
item_of items (node c y n r) (branch t e p q rest) k h a = elim (in_which c y n r k a) [
  | inl is ↦ (t, If e, subst (λ z. IsItem items z t (If e)) is h.0)
  | inr (inl one) ↦ item_of items y p k h.1 one
  | inr (inr (inl two)) ↦ item_of items n q k h.2 two
  | inr (inr (inr three)) ↦ item_of items r rest k h.3 three
]
item_of items (node c y n r) (loop t e p rest) k h a = elim (in_which c y n r k a) [
  | inl is ↦ (t, While e, subst (λ z. IsItem items z t (While e)) is h.0)
  | inr (inl one) ↦ item_of items y p k h.1 one
  | inr (inr (inl two)) ↦ item_of items n done k h.2 two
  | inr (inr (inr three)) ↦ item_of items r rest k h.3 three
]

module _ (items : List Item) (once : (k j : ℕ) (t : Tag) (c d : Content) → IsItem items k t c → IsItem items j t d → k ≡ j) where
  source_top : (v : Slot) (label : Bool) → IsSource items v Entry label → v ≡ None
  source_top None label s = refl
  source_top (Some (k, b)) label (e, (t, c, f, i)) = absurd cc

  entry_part : (t : Tag) (c : Content) → Part t c ≡ Entry → ⊥
  entry_part t c e = absurd cc

  source_slot : (v : Slot) (j : ℕ) (b : Bool) (t : Tag) (c : Content) → IsItem items j t c → IsSource items v (Part t c) b → v ≡ Some (j, b)
  source_slot None j b t c i (e, l) = absurd (entry_part t c e)
  source_slot (Some (k, b')) j b t c i (e, (t', c', f, i')) =
      let same : t' ≡ t = sym (part_tag t t' c c' f) in
      let one : k ≡ j = once k j t c' c (subst (λ z. IsItem items k z c') same i') i in
      ap (λ z. Some (z, b')) one ∙ ap (λ z. Some (j, z)) (sym e)

module _ (g : Graph) (items : List Item) (issued : Issued) (finals : List (List ℕ)) (is : IsKnown g items finals) where
  -- an arrangement with its tree of items
  pub record HasTree (p : Tree) (t : ItemTree) : Type 0 where
    pub arranged : IsArrangement g issued p
    pub block : IsBlockOf items t p.body

  tree_for : (p : Tree) → IsArrangement g issued p → (t : ItemTree) × HasTree p t
  tree_for p r =
      let (t, h) = tree_there items p.body (λ u c s. (is.items.parts u c).0 ((r.parts u c).0 s)) in
      (t, record { arranged = r; block = h })

  says_item : (p : Tree) (t : ItemTree) → HasTree p t → (j : ℕ) (u : Tag) (d : Content) → IsItem items j u d → Says p.body u d
  says_item p t has j u d i = (has.arranged.parts u d).1 ((is.items.parts u d).1 (j, i))

  -- each item of the tree stands in its slot
  placed_so : (p : Tree) (t : ItemTree) → HasTree p t → (k : ℕ) (w : Slot) → Places t None k w → slot_at items k ≡ w
  placed_so p t has k w pl =
      let (u, c, i) = item_of items t p.body k has.block (place_in t None k w pl) in
      let (s, st, says, up) = so_stands items t p.body [] None None k w u c has.block refl pl i in
      let src : (from : Vertex) (label : Bool) → IsSource items w from label → IsSource items (slot_at items k) from label =
      λ from label x. (is.items.control k u c from label i).0 ((has.arranged.control label from u c).0
      (source_control items is.items.once p w s from label u c (says_item p t has) x up st says)) in
      at w s.parent src up
    where
      at : (w : Slot) (up : Parent) → ((from : Vertex) (label : Bool) → IsSource items w from label → IsSource items (slot_at items k) from label) → IsParent items w up → slot_at items k ≡ w
      at None up src _ = source_top items is.items.once (slot_at items k) true (src Entry true (refl, refl))
      at (Some (j, b)) up src (t', d, i, e) = source_slot items is.items.once (slot_at items k) j b t' d i (src (Part t' d) b (refl, (t', d, refl, i)))

  distinct : (p : Tree) (t : ItemTree) → HasTree p t → IsDistinct (preorder t)
  distinct p t has =
      let none = (no_refusal p has.arranged.program.shape).tags in
      let tags : tags_of p.body [] ≡ map (tag_of items) (preorder t) = tags_in items t p.body [] has.block ∙ append-nil (map (tag_of items) (preorder t)) in
      once_by (tag_of items) (preorder t) (λ i j x a b.
      places_once same_tag same_tag_itself [] (tags_of p.body []) i j x none (subst (λ z. slice_get z i ≡ Some x) (sym tags) a) (subst (λ z. slice_get z j ≡ Some x) (sym tags) b))

  within : (p : Tree) (t : ItemTree) → HasTree p t → (k : ℕ) → Contains (preorder t) k → k < length items
  within p t has k a = let (u, c, i) = item_of items t p.body k has.block a in below_of items k u c i

  all_there : (p : Tree) (t : ItemTree) → HasTree p t → (k : ℕ) → k < length items → Contains (preorder t) k
  all_there p t has k lt =
      let (c, i) = item_at items k lt in
      let (j, a, i') = says_in items t p.body (tag_of items k) c has.block (says_item p t has k (tag_of items k) c i) in
      subst (Contains (preorder t)) (is.items.once j k (tag_of items k) c c i' i) a

  respects : (p : Tree) (t : ItemTree) → HasTree p t → (s u : ℕ) → Asks g items s u → (s ≡ u) ⊎ IsLeft (preorder t) s u
  respects p t has s u (k, ts, tu, cs, cu, is_s, is_u, e, dir) =
      elim (one_left (preorder t) s u (all_there p t has s (below_of items s ts cs is_s)) (all_there p t has u (below_of items u tu cu is_u))) [
        | inl same ↦ inl same
        | inr (inl left) ↦ inr (left_is (preorder t) s u left)
        | inr (inr back) ↦ absurd (has.arranged.directed ts tu cs cu k e dir (left_stands items t p.body tu ts u s has.block back (cu, is_u) (cs, is_s)))
      ]

  allowed : (p : Tree) (t : ItemTree) → HasTree p t → IsAllowedTree g items t
  allowed p t has =
      let stands : StandsIn (slot_at items) None t = stands_by_place (slot_at items) t None (placed_so p t has) in
      let count : length (preorder t) ≡ length items = all_length (length items) (preorder t) (distinct p t has) (within p t has) (all_there p t has) in
      let shape = no_refusal p has.arranged.program.shape in
      record {
        limits = record {
          parts = omega (arith, few_parts p has.arranged.program, count_in items t p.body has.block, count);
          contents = λ k u c i.
              (let there = all_there p t has k (below_of items k u c i) in
              neither (says_large c) (is_wrong c) (in_none_of items says_large t p.body k u c shape.expressions has.block there i)
              (in_none_of items is_wrong t p.body k u c shape.variables has.block there i));
          levels = λ k lt. in_shallow (slot_at items) items MAX_LEVELS 0 t p.body None k (omega arith) refl stands has.block shape.levels (all_there p t has k lt);
        };
        arranged = record {
          stands = stands;
          len = count;
          once = distinct p t has;
          within = within p t has;
          all = all_there p t has;
          respects = respects p t has;
        };
      }

  same_program : (p : Tree) (b : Body) → b ≡ p.body → p.issued ≡ issued → p.finals ≡ finals → record { issued = issued; body = b; finals = finals } ≡ p
  same_program p b e f n = (λ i. record { issued = sym f i; body = e i; finals = sym n i })

  program_is : (p : Tree) (t : ItemTree) → HasTree p t → program_of items issued finals (preorder t) ≡ p
  program_is p t has =
      let a = allowed p t has in
      same_program p (block_at items (preorder t) None) (read_whole items t p.body a.arranged.stands has.block a.arranged.once) has.arranged.numbers
      (same_names p.finals finals has.arranged.ascending is.order (λ x h. (is.finals x).1 ((has.arranged.finals x).0 h)) (λ x h. (has.arranged.finals x).1 ((is.finals x).0 h)))

  -- each arrangement is the program of an allowed tree's preorder
  pub arranged_tree : (p : Tree) → IsArrangement g issued p → (t : ItemTree) × IsAllowedTree g items t × IsBlockOf items t p.body × (program_of items issued finals (preorder t) ≡ p)
  arranged_tree p r = let (t, has) = tree_for p r in (t, allowed p t has, has.block, program_is p t has)
