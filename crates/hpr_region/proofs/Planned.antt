-- What the tables of a graph's parts, in the order of a rank, say of its arrangements.
use Rattle.std.proofs.Common.{◌≡◌, ℕ, ◌<◌, ◌≤◌, inl, inr, Bool, true, false, Option, Some, None, IfSome, IfNone, List, [], ◌∷◌, All, map, length, vec_len, Contains, slice_get, Vec, refl, sym, ap, ap₂, ◌∙◌, subst, arith, rules}
use Rattle.std.specs.Global.{Global}
use Rattle.std.proofs.lemmas.Option.{slice_get_within, get_or_from_slice_get}
use Rattle.hpr_terms.specs.declared.tag.Tag.{Tag}
use Rattle.hpr_terms.proofs.Facts.{get_below, get_map, get_in_map, in_here, in_later}
use Rattle.hpr_syntax.specs.Issued.{Issued}
use Rattle.hpr_syntax.specs.Proper.{IsProperTag, IsProperIssued}
use Rattle.hpr_syntax.specs.Tree.{Tree}
use Rattle.hpr_graph.specs.declared.vertex.Vertex.{Vertex}
use Rattle.hpr_graph.specs.declared.vertex.Vertex.TheVariants.{Entry, Part}
use Rattle.hpr_graph.specs.Arrangements.{AreArrangements}
use Rattle.hpr_graph.specs.Numbered.{Numbered, IsNumbered, graph_in}
use Rattle.hpr_graph.specs.Rank.{parts_of}
use Rattle.hpr_forest.specs.declared.blocks.Blocks.{Blocks}
use Rattle.hpr_forest.specs.Choices.{IsWhole, IsBacktrackFree}
use Rattle.hpr_forest.specs.Leaves.{from_here}
use Rattle.hpr_forest.specs.Lists.{LexLess, IsListOf}
use Rattle.hpr_forest.specs.Remaining.{can_of}
use Rattle.hpr_forest.specs.Trees.{Tree as ItemTree, empty, preorder}
use Rattle.hpr_forest.proofs.Leaves.{all_leaves}
use Rattle.hpr_forest.proofs.Starts.{blocks_open}
use Rattle.hpr_forest.proofs.Unique.{in_none}
use Rattle.hpr_order.specs.declared.item.Item.{Item}
use Rattle.hpr_order.specs.Arranging.{AreIssued, IsProperItem, programs_of}
use Rattle.hpr_order.specs.Limits.{AreOrdersOf, IsAllowedTree}
use Rattle.hpr_order.specs.Numbers.{AreFinals, AreItemsOf, ArePartsOf, AreRanked, IsPartAt}
use Rattle.hpr_order.specs.declared.ordered.OrderedItems.{OrderedItems}
use Rattle.hpr_order.specs.Ordered.{AreChoices, IsOrdered}
use Rattle.hpr_order.specs.Regions.{AllPossible}
use Rattle.hpr_order.proofs.Arranges.{parts_at}
use Rattle.hpr_order.proofs.Coming.{given, starts_with}
use Rattle.hpr_order.proofs.Shapes.{tag_of, vertex_is, vertex_of}
use Rattle.hpr_order.proofs.Sound.{item_at}
use Rattle.hpr_region.specs.declared.plan.Plan.{Plan}
use Rattle.hpr_region.specs.Openings.{IsOpen, IsShut}
use Rattle.hpr_region.specs.Plans.{IsPlanOf, can_by, vertex_by}
use Rattle.hpr_region.specs.Tables.{AreFlowsOf}
use Rattle.hpr_region.proofs.ClashTables.{clash_false, clash_true}
use Rattle.hpr_region.proofs.IssuedFor.{IsAllowedBy, allowed_at, issued_for, may_be_issued, proper_pairs}

-- with no tables nothing is whole but the empty list
none_free : (n : ℕ) → IsBacktrackFree (can_by None) n
none_free n = record {
  within = λ q c e. absurd (let h : false ≡ true = e in cc);
  fresh = λ q c e. absurd (let h : false ≡ true = e in cc);
  goes_on = λ q l f lt whole. absurd (at q l lt whole);
}
  where
    at : (q l : List ℕ) → length q < n → IsWhole (can_by None) n l → ⊥
    at q [] lt whole = let e : 0 ≡ n = whole.len in omega (arith, lt, e)
    at q (c ∷ l) lt whole = absurd (let h : false ≡ true = whole.follows.0 in cc)

blocks_free : (b : Blocks) (n : ℕ) → vec_len b.parents ≡ n → IsBacktrackFree (can_of b) n
blocks_free b n e = subst (IsBacktrackFree (can_of b)) e (blocks_open b)

pub choices_free : (choices : Option Blocks) (n : ℕ) → IfSome choices (λ b. vec_len b.parents ≡ n) → IsBacktrackFree (can_by choices) n
choices_free None n e = none_free n
choices_free (Some b) n e = blocks_free b n e

-- the empty tree, where there are no items
no_items : (g : Numbered) (items : List Item) → length items ≡ 0 → IsAllowedTree (graph_in g) items empty
no_items g items none = record {
  limits = record {
    parts = omega (arith, none);
    contents = λ k t c item. absurd (let (i, e, _, _) = item in let lt = slice_get_within items k i e in omega (arith, lt, none));
    levels = λ k lt. absurd (omega (arith, lt, none));
  };
  arranged = record {
    stands = tt;
    len = sym none;
    once = tt;
    within = λ x h. absurd (in_none x h);
    all = λ x lt. absurd (omega (arith, lt, none));
    respects = λ s t asks. absurd (let (k, ts, tu, cs, ct, (i, e, _, _), _, _, _) = asks in let lt = slice_get_within items s i e in omega (arith, lt, none));
  };
}

some_items : (g : Numbered) (items : List Item) → AreOrdersOf (graph_in g) items [] → ¬ (length items ≡ 0)
some_items g items (ts, e, list) none = at ts e (list.complete empty (no_items g items none))
  where
    at : (ts : List ItemTree) → map preorder ts ≡ [] → Contains ts empty → ⊥
    at [] e h = in_none empty h
    at (t ∷ ts) e h = absurd cc

map_same : {Y : Type 0} (f h : ℕ → Y) (l : List ℕ) → ((k : ℕ) → Contains l k → f k ≡ h k) → map f l ≡ map h l
map_same f h [] same = refl
map_same f h (k ∷ l) same = ap₂ (λ x xs. x ∷ xs) (same k (in_here k l)) (map_same f h l (λ j a. same j (in_later k j l a)))

no_list : (n : ℕ) → ¬ (n ≡ 0) → IsListOf LexLess (IsWhole (can_by None) n) []
no_list n some = record {
  sound = λ x h. absurd (in_none x h);
  complete = λ x w. absurd (at x w);
  ascending = tt;
}
  where
    at : (x : List ℕ) → IsWhole (can_by None) n x → ⊥
    at [] w = some (sym w.len)
    at (c ∷ x) w = absurd (let h : false ≡ true = w.follows.0 in cc)

module _ (g : Numbered) (numbered : IsNumbered g) (numbers : List ℕ) (parts : ArePartsOf g numbers) (items : Vec Item Global) (is : AreItemsOf g numbers items.items) where
  -- the vertex of an item
  vertex_same : (k : ℕ) → k < length items.items → vertex_of items.items k ≡ vertex_by g (slice_get numbers k)
  vertex_same k lt =
      let count = is.at.count in
      let (n, en) = get_below numbers k (let l : k < length numbers = omega arith in l) in
      let (c, item) = item_at items.items k lt in
      let there : IsPartAt g n (tag_of items.items k) c = (is.at.parts k n (tag_of items.items k) c en).0 item in
      vertex_is items.items k (tag_of items.items k) c item
      ∙ sym (ap (vertex_by g) en ∙ get_or_from_slice_get g.vertices n (Part (tag_of items.items k) c) Entry there)

  module _ (possible : AllPossible (graph_in g)) (rank : List Vertex) (ranked : AreRanked g rank numbers) (xs : List (List ℕ)) (finals : AreFinals (graph_in g) xs) where
    module _ (ns : Issued) (proper : IsProperIssued ns) (issued : AreIssued (graph_in g) ns) (orders : List (List ℕ)) (are : AreOrdersOf (graph_in g) items.items orders) where
      abbrev ordered : OrderedItems
      ordered = record { items = items; orders = Some orders }

      is_ordered : IsOrdered g numbers ordered
      is_ordered = record { items = is; orders = are }

      arranged : AreArrangements (graph_in g) rank ns (programs_of items.items ns xs orders)
      arranged = starts_with g possible rank numbers ranked ordered is_ordered ns issued proper.0 proper.1 xs finals ns refl orders refl

      parts_same : (ts : List ItemTree) → ((t : ItemTree) → Contains ts t → IsAllowedTree (graph_in g) items.items t)
          → map parts_of (programs_of items.items ns xs (map preorder ts)) ≡ map (λ (l : List ℕ). map (λ k. vertex_by g (slice_get numbers k)) l) (map preorder ts)
      parts_same [] all = refl
      parts_same (t ∷ ts) all =
          let a = all t (in_here t ts) in
          ap₂ (λ (x : List Vertex) (rest : List (List Vertex)). x ∷ rest)
          (parts_at (graph_in g) items.items ns xs (given g possible rank numbers ranked ordered is_ordered ns issued proper.0 proper.1 xs finals) t a
          ∙ map_same (vertex_of items.items) (λ k. vertex_by g (slice_get numbers k)) (preorder t) (λ k h. vertex_same k (a.arranged.within k h)))
          (parts_same ts (λ u h. all u (in_later t u ts h)))

      parts_listed : map parts_of (programs_of items.items ns xs orders) ≡ map (λ (l : List ℕ). map (λ k. vertex_by g (slice_get numbers k)) l) orders
      parts_listed = let (ts, e, list) = are in
          subst (λ z. map parts_of (programs_of items.items ns xs z) ≡ map (λ (l : List ℕ). map (λ k. vertex_by g (slice_get numbers k)) l) z) e (parts_same ts list.sound)

    abbrev IsListed : (List ℕ → ℕ → Bool) → Issued → Type 0
    IsListed can ns =
        (orders : List (List ℕ)) × (ps : List Tree) × IsListOf LexLess (IsWhole can (length numbers)) orders
        × AreArrangements (graph_in g) rank ns ps × (map parts_of ps ≡ map (λ (l : List ℕ). map (λ k. vertex_by g (slice_get numbers k)) l) orders)

    listed_by : (can : List ℕ → ℕ → Bool) (ns : Issued) → IsProperIssued ns → AreIssued (graph_in g) ns → (orders : List (List ℕ)) → AreOrdersOf (graph_in g) items.items orders
        → IsListOf LexLess (IsWhole can (length numbers)) orders → IsListed can ns
    listed_by can ns proper issued orders are list = (orders, programs_of items.items ns xs orders, list, arranged ns proper issued orders are, parts_listed ns proper issued orders are)

    -- where there is nothing to place
    shut_orders : (choices : Option Blocks) → AreChoices (graph_in g) items.items choices → IsShut items.items choices → (ns : Issued) → AreIssued (graph_in g) ns → AreOrdersOf (graph_in g) items.items []
    shut_orders None are shut ns issued = are
    shut_orders (Some b) are (inl none) ns issued = are.1 [] (record { sound = λ x h. absurd (in_none x h); complete = λ x w. absurd (none x w); ascending = tt })
    shut_orders (Some b) are (inr (k, i, e, low0)) ns issued =
        absurd (let low = (issued i.tag i.content ((is.items.parts i.tag i.content).1 (k, (i, e, refl, refl)))).0 in omega (arith, low, low0))

    pub listed : (before choices : Option Blocks) → AreChoices (graph_in g) items.items before → IfSome choices (λ b. before ≡ Some b) → IfNone choices (IsShut items.items before)
        → (ns : Issued) → IsProperIssued ns → AreIssued (graph_in g) ns → IsListed (can_by choices) ns
    listed before None are same shut ns proper issued =
        let none = shut_orders before are shut ns issued in
        listed_by (can_by None) ns proper issued [] none (no_list (length numbers) (λ e. some_items g items.items none (is.at.count ∙ e)))
    listed before (Some b) are same shut ns proper issued =
        let (count, orders) = subst (AreChoices (graph_in g) items.items) same are in
        let n : vec_len b.parents ≡ length numbers = count ∙ is.at.count in
        let list : IsListOf LexLess (IsWhole (can_of b) (length numbers)) (from_here (can_of b) (length numbers) []) = all_leaves (can_of b) (length numbers) (blocks_free b (length numbers) n) in
        listed_by (can_of b) ns proper issued (from_here (can_of b) (length numbers) [])
        (orders (from_here (can_of b) (length numbers) []) (subst (λ z. IsListOf LexLess (IsWhole (can_of b) z) (from_here (can_of b) (length numbers) [])) (sym n) list)) list

    tags : List Tag
    tags = map (λ (i : Item). i.tag) items.items

    -- issued numbers that the tags of all parts allow
    some_issued : ((k : ℕ) (i : Item) → slice_get items.items k ≡ Some i → 1 ≤ i.tag.serial) → (ns : Issued) × IsProperIssued ns × AreIssued (graph_in g) ns
    unfolding tags
    some_issued serials =
        let (ns, (up, pairs), all) = issued_for tags (may_be_issued tags (λ k t e. (
        let (i, ei, it) = get_map (λ (i : Item). i.tag) items.items k t e in
        subst (λ z. (1 ≤ z.serial) × IsProperTag z) it (serials k i ei, (proper_at items.items is.proper k i ei).0)))) in (
          ns,
          (up, proper_pairs ns pairs),
          (λ t c v. (
              let (k, (i, e, it, ic)) = (is.items.parts t c).0 v in
              subst (IsAllowedBy ns) it (allowed_at ns tags k i.tag all (get_in_map (λ (j : Item). j.tag) items.items k i e)))),
        )
      where
        proper_at : (items : List Item) → All IsProperItem items → (k : ℕ) (i : Item) → slice_get items k ≡ Some i → IsProperItem i
        proper_at items all k i e = subst IsProperItem (get_or_from_slice_get items k i i e) (all k i (slice_get_within items k i e))

    pub some_stands : (choices : Option Blocks) → IfSome choices (λ b. vec_len b.parents ≡ length numbers) → IfSome choices (λ b. IsOpen items.items b) → (placed : List ℕ) (k : ℕ) → can_by choices placed k ≡ true
        → ((l : List ℕ) × IsWhole (can_by choices) (length numbers) l) × ((ns : Issued) × IsProperIssued ns × AreIssued (graph_in g) ns)
    some_stands None n able placed k e = absurd cc
    some_stands (Some b) n able placed k e =
        let ((l, whole), serials) = able in
        ((l, subst (λ z. IsWhole (can_of b) z l) n whole), some_issued serials)

pub plan_is : (g : Numbered) → IsNumbered g → AllPossible (graph_in g) → (rank : List Vertex) (plan : Plan) (items : Vec Item Global) (before : Option Blocks) (xs : List (List ℕ))
    → ArePartsOf g plan.numbers.items → AreRanked g rank plan.numbers.items → AreItemsOf g plan.numbers.items items.items → AreChoices (graph_in g) items.items before
    → AreFinals (graph_in g) xs → AreFlowsOf g plan.numbers.items plan.flows → IfSome plan.choices (λ b. before ≡ Some b) → IfSome plan.choices (λ b. IsOpen items.items b)
    → IfNone plan.choices (IsShut items.items before) → IsPlanOf g rank plan
plan_is g numbered possible rank plan items before xs parts ranked is are finals (names, flows) same able shut =
    let count : IfSome plan.choices (λ b. vec_len b.parents ≡ length plan.numbers.items) = counted plan.choices plan.choice_count in
    record {
      numbered = numbered;
      parts = parts;
      ranked = ranked;
      free = choices_free plan.choices (length plan.numbers.items) count;
      listed = λ issued proper allowed. listed g numbered plan.numbers.items parts items is possible rank ranked xs finals before plan.choices are same shut issued proper allowed;
      some = λ placed k e. some_stands g numbered plan.numbers.items parts items is possible rank ranked xs finals plan.choices count able placed k e;
      clashes = λ q k e. clash_true g plan.numbers.items names plan.flows flows parts numbered q k e;
      no_clash = λ q k e. clash_false g plan.numbers.items names plan.flows flows parts numbered q k e;
    }
  where
    counted : (choices : Option Blocks) → IfSome choices (λ b. vec_len b.parents ≡ vec_len plan.numbers) → IfSome choices (λ b. vec_len b.parents ≡ length plan.numbers.items)
    counted None e = tt
    counted (Some b) e = let l : length plan.numbers.items ≡ vec_len plan.numbers = search rules in omega (arith, e, l)
