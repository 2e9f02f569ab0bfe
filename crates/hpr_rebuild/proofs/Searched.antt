-- What a search of the orders of items says of the arrangements.
use Rattle.std.proofs.Common.{◌≡◌, ℕ, ◌<◌, Bool, true, inl, inr, Option, Some, None, List, [], ◌∷◌, ◌++◌, map, length, take, slice_get, Contains, get_or, Result, IfOk, refl, sym, ap, ap₂, ◌∙◌, subst, arith}
use Rattle.std.proofs.lemmas.List.{map-append, length-map, take-map}
use Rattle.std.proofs.lemmas.List.Elements.{Contains-append_left, Contains-append_right}
use Rattle.std.proofs.lemmas.Result.{IfOk-weaker}
use Rattle.std.proofs.lemmas.Option.{get_or_from_slice_get, slice_get-get_or}
use Rattle.hpr_terms.proofs.Facts.{contains_at, place_of, get_map, get_in_map, in_here}
use Rattle.hpr_syntax.specs.Issued.{Issued}
use Rattle.hpr_syntax.specs.Tree.{Tree}
use Rattle.hpr_graph.specs.declared.conflict.Conflict.{Conflict}
use Rattle.hpr_graph.specs.declared.vertex.Vertex.{Vertex}
use Rattle.hpr_graph.specs.declared.vertex.Vertex.TheVariants.{Entry}
use Rattle.hpr_graph.specs.Numbered.{Numbered, graph_in}
use Rattle.hpr_graph.specs.Rank.{parts_of}
use Rattle.hpr_graph.specs.Arrangements.{IsArrangement, AreArrangements}
use Rattle.hpr_graph.specs.Answer.{printed, spent, Fits, NoneFits, IsFirstFit, IsFound}
use Rattle.hpr_graph.specs.Leaves.{AreLeaves, AreLeavesSpent}
use Rattle.hpr_forest.specs.Choices.{IsWhole}
use Rattle.hpr_forest.specs.Lists.{LexLess, IsListOf}
use Rattle.hpr_forest.specs.Cuts as tree
use Rattle.hpr_forest.proofs.Unique.{less_irreflexive, less_trans, one_list}
use Rattle.hpr_forest.proofs.CutOrder.{whole_lists}
use Rattle.hpr_order.specs.Arranging.{IsPreorderOf}
use Rattle.hpr_region.specs.declared.plan.Plan.{Plan}
use Rattle.hpr_region.specs.Plans.{AreListed, IsPlanOf, clash_in, may_follow, numbers_at, size_of, vertex_at, vertex_by, vertices_at}
use Rattle.hpr_rebuild.specs.Candidates.{FitsInOrder}
use Rattle.hpr_rebuild.specs.FirstClash.{HasNoFirstClash, IsClear, IsFirstClash}
use Rattle.hpr_rebuild.specs.Tries.{AreSoMany, IsFoundWithin}
use Rattle.hpr_rebuild.proofs.LeafList.{AreBelow, follows_below, are_leaves, leaf_in, spent_on_leaves, taken}

-- the same fact, with the result first
pub for_ok : {X E : Type 0} {P Q : X → Type 0} (r : Result X E) → IfOk r P → ((x : X) → P x → Q x) → IfOk r Q
for_ok {X} {E} {P} {Q} r h to = IfOk-weaker r P Q to h

some_map_same : (xs ys : List Vertex) → map Some xs ≡ map Some ys → xs ≡ ys
some_map_same [] [] e = refl
some_map_same [] (y ∷ ys) e = absurd cc
some_map_same (x ∷ xs) [] e = absurd cc
some_map_same (x ∷ xs) (y ∷ ys) e =
    let head : x ≡ y = cc in let more : map Some xs ≡ map Some ys = cc in ap₂ (λ (v : Vertex) (vs : List Vertex). v ∷ vs) head (some_map_same xs ys more)

-- a first list that fits is whole
pub first_whole : (can : List ℕ → ℕ → Bool) (fits : List ℕ → Type 0) (n : ℕ) (clash : List ℕ → ℕ → Bool) (x : List ℕ) → tree.FindsFirst can fits n clash x → IsWhole can n x
first_whole can fits n clash x finds = at (finds tree.never (λ q c e. absurd cc))
  where
    at : tree.IsFirstFit can fits n tree.never x → IsWhole can n x
    at (front, back, split, none, whole, fit) = whole

-- the arrangement m alone has these items in this order
abbrev pub IsOnly : Numbered → Issued → Plan → List ℕ → Tree → Type 0
IsOnly g issued plan x m = (p : Tree) → IsArrangement (graph_in g) issued p → parts_of p ≡ vertices_at g plan x → p ≡ m

pub only_too : (g h : Numbered) (issued issued' : Issued) (plan plan' : Plan) → g ≡ h → issued ≡ issued' → plan ≡ plan' → (x : List ℕ) (m : Tree) → IsOnly h issued' plan' x m
    → IsOnly g issued plan x m
only_too g h issued issued' plan plan' same numbers_ stays x m only =
    subst (λ (y : Numbered). IsOnly y issued plan x m) (sym same)
    (subst (λ (i : Issued). IsOnly h i plan x m) (sym numbers_) (subst (λ (q : Plan). IsOnly h issued' q x m) (sym stays) only))

pub parts_too : (g h : Numbered) (plan plan' : Plan) → g ≡ h → plan ≡ plan' → (x : List ℕ) (m : Tree) → parts_of m ≡ vertices_at h plan' x → parts_of m ≡ vertices_at g plan x
parts_too g h plan plan' same stays x m parts = parts ∙ sym (ap₂ (λ (y : Numbered) (q : Plan). vertices_at y q x) same stays)

-- numbers below n, but for the last
last_below : (n : ℕ) (q : List ℕ) (c : ℕ) → AreBelow n (q ++ c ∷ []) → c < n
last_below n [] c (h, more) = h
last_below n (x ∷ q) c (h, more) = last_below n q c more

front_below : (n : ℕ) (q : List ℕ) (c : ℕ) → AreBelow n (q ++ c ∷ []) → AreBelow n q
front_below n [] c all = tt
front_below n (x ∷ q) c (h, more) = (h, front_below n q c more)

-- where a function's values are split at one, so is the list
map_split : {X Y : Type 0} (f : X → Y) (ps : List X) (ys bs : List Y) (b : Y) → map f ps ≡ ys ++ b ∷ bs
    → (front back : List X) × (q : X) × (ps ≡ front ++ q ∷ back) × (map f front ≡ ys) × (f q ≡ b)
map_split f [] [] bs b e = absurd cc
map_split f [] (a ∷ ys) bs b e = absurd cc
map_split f (p ∷ ps) [] bs b e = ([], ps, p, refl, refl, cc)
map_split f (p ∷ ps) (a ∷ ys) bs b e =
    let head : f p ≡ a = cc in
    let more : map f ps ≡ ys ++ b ∷ bs = cc in
    let (front, back, q, is, mapped, at) = map_split f ps ys bs b more in
    (p ∷ front, back, q, ap (λ r. p ∷ r) is, ap₂ (λ x xs. x ∷ xs) head mapped, at)

module _ (g : Numbered) (rank : List Vertex) (plan : Plan) (is : IsPlanOf g rank plan) where
  abbrev can : List ℕ → ℕ → Bool
  can = may_follow plan

  abbrev n : ℕ
  n = size_of plan

  -- the part that an item is
  part_at : (k : ℕ) → k < n → (m : ℕ) × (slice_get plan.numbers.items k ≡ Some m) × (slice_get g.vertices m ≡ Some (vertex_at g plan k))
  part_at k h =
      let m = get_or plan.numbers.items k 0 in
      let there : slice_get plan.numbers.items k ≡ Some m = slice_get-get_or plan.numbers.items k 0 h in
      let (t, c, part) = is.parts.parts k m there in
      (m, there, part ∙ ap Some (sym (ap (vertex_by g) there ∙ get_or_from_slice_get g.vertices m _ Entry part)))

  pub apart : (a b : ℕ) → a < n → b < n → vertex_at g plan a ≡ vertex_at g plan b → a ≡ b
  apart a b h k same =
      let (m, there, part) = part_at a h in
      let (m', there', part') = part_at b k in
      is.parts.once a b m there (there' ∙ ap Some (sym (is.numbered.once m m' (vertex_at g plan a) part (part' ∙ ap Some (sym same)))))

  pub live : tree.IsLive can n
  live q c f may = (is.some q c may).0

  numbered : (l : List ℕ) → AreBelow n l → map (slice_get g.vertices) (numbers_at plan l) ≡ map Some (vertices_at g plan l)
  numbered [] below = refl
  numbered (k ∷ l) (h, below) =
      let (m, there, part) = part_at k h in
      ap₂ (λ v vs. v ∷ vs) (ap (slice_get g.vertices) (get_or_from_slice_get plan.numbers.items k m 0 there) ∙ part) (numbered l below)

  below_whole : (l : List ℕ) → IsWhole can n l → AreBelow n l
  below_whole l whole = follows_below can n is.free [] l whole.follows

  pub preorder_of : (l : List ℕ) (p : Tree) → IsWhole can n l → parts_of p ≡ vertices_at g plan l → IsPreorderOf g (numbers_at plan l) p
  preorder_of l p whole parts = numbered l (below_whole l whole) ∙ ap (λ (vs : List Vertex). map Some vs) (sym parts)

  pub of_preorder : (l : List ℕ) (p : Tree) → IsWhole can n l → IsPreorderOf g (numbers_at plan l) p → parts_of p ≡ vertices_at g plan l
  of_preorder l p whole pre = some_map_same (parts_of p) (vertices_at g plan l) (sym pre ∙ numbered l (below_whole l whole))

  module _ (issued : Issued) (listed : AreListed g rank issued plan) where
    abbrev orders : List (List ℕ)
    orders = listed.0

    abbrev ps : List Tree
    ps = listed.1

    abbrev fits : List ℕ → Type 0
    fits = FitsInOrder g issued plan

    all : IsListOf LexLess (IsWhole can n) orders
    all = listed.2

    pub are : AreArrangements (graph_in g) rank issued ps
    are = listed.3

    same : map parts_of ps ≡ map (vertices_at g plan) orders
    same = listed.4

    pub arrangement_of : (l : List ℕ) → IsWhole can n l → (p : Tree) × IsArrangement (graph_in g) issued p × (parts_of p ≡ vertices_at g plan l)
    arrangement_of l whole =
        let (i, at) = place_of orders l (all.complete l whole) in
        let (p, there, parts) = get_map parts_of ps i (vertices_at g plan l) (subst (λ (r : List (List Vertex)). slice_get r i ≡ Some (vertices_at g plan l)) (sym same) (get_in_map (vertices_at g plan) orders i l at)) in
        (p, (are.0 p).0 (contains_at ps i p there), parts)

    -- the whole lists are the leaves where nothing clashes
    all_whole : orders ≡ tree.leaves_of can n tree.never
    all_whole =
        let wholes = whole_lists can n is.free live in
        one_list LexLess less_irreflexive less_trans orders (tree.leaves_of can n tree.never) all.ascending wholes.ascending
        (λ x h. wholes.complete x (all.sound x h)) (λ x h. all.complete x (wholes.sound x h))

    none_within : (w : List ℕ → ℕ → Bool) → tree.IsWithin tree.never w
    none_within w q c e = absurd cc

    none_fit : (xs : List (List ℕ)) (qs : List Tree) → map parts_of qs ≡ map (vertices_at g plan) xs → ((x : List ℕ) → Contains xs x → IsWhole can n x)
        → ((q : Tree) → Contains qs q → IsArrangement (graph_in g) issued q) → tree.AllFail can fits n xs → NoneFits (graph_in g) qs
    none_fit xs qs e whole arrangement none q h fit =
        let (i, at) = place_of qs q h in
        let (x, there, parts) = get_map (vertices_at g plan) xs i (parts_of q) (subst (λ (r : List (List Vertex)). slice_get r i ≡ Some (parts_of q)) e (get_in_map parts_of qs i q at)) in
        let has = contains_at xs i x there in
        none x has (whole x has) (q, arrangement q h, sym parts, fit)

    first_of : (x : List ℕ) (m : Tree) → IsOnly g issued plan x m
        → tree.IsFirstFit can fits n tree.never x → IsFirstFit (graph_in g) ps m
    first_of x m only (front, back, split, none, whole, (p, arrangement, parts, fit)) =
        let cut : orders ≡ front ++ x ∷ back = all_whole ∙ split in
        let (fs, bs, q, is_, before, at) = map_split parts_of ps (map (vertices_at g plan) front) (map (vertices_at g plan) back) (vertices_at g plan x)
        (same ∙ ap (map (vertices_at g plan)) cut ∙ map-append (vertices_at g plan) front (x ∷ back)) in
        let in_ps : (r : Tree) → Contains (fs ++ q ∷ bs) r → Contains ps r = (λ r h. subst (λ (rs : List Tree). Contains rs r) (sym is_) h) in
        let q_is : q ≡ m = only q ((are.0 q).0 (in_ps q (Contains-append_right fs (q ∷ bs) q (in_here q bs)))) at in (
          fs,
          bs,
          subst (λ (r : Tree). ps ≡ fs ++ r ∷ bs) q_is is_,
          subst (Fits (graph_in g)) (only p arrangement parts) fit,
          none_fit front fs before
              (λ y h. all.sound y (subst (λ (ys : List (List ℕ)). Contains ys y) (sym cut) (Contains-append_left front (x ∷ back) y h)))
              (λ r h. (are.0 r).0 (in_ps r (Contains-append_left fs (q ∷ bs) r h))) none,
        )

    pub found : (clash : List ℕ → ℕ → Bool) (tries : ℕ) (x : List ℕ) (m : Tree)
        → IsOnly g issued plan x m
        → tree.FindsFirst can fits n clash x → IsFound {X = Conflict} (graph_in g) rank issued tries (printed m)
    found clash tries x m only finds = (ps, are, first_of x m only (finds tree.never (none_within clash)))

    pub none_found : (clash : List ℕ → ℕ → Bool) → tree.FindsNone can fits n clash → NoneFits (graph_in g) ps
    none_found clash finds =
        none_fit orders ps same all.sound (λ q h. (are.0 q).0 h)
        (subst (λ (xs : List (List ℕ)). tree.AllFail can fits n xs) (sym all_whole) (finds tree.never (none_within clash)))

    -- the leaves of the orders are those of the programs
    these : AreLeaves (graph_in g) ps (map (vertices_at g plan) (tree.leaves_of can n (clash_in plan)))
    these = are_leaves (graph_in g) (vertex_at g plan) can n apart (clash_in plan) is.clashes is.no_clash is.free live orders all ps same

    pub leaves_spent : (tries : ℕ) → tree.FindsSpent can fits n (clash_in plan) tries → AreLeavesSpent (graph_in g) rank issued tries
    leaves_spent tries finds =
        let clash = clash_in plan in
        let name = vertex_at g plan in
        let (more, misses) = spent_on_leaves (graph_in g) name can n apart clash is.clashes is.no_clash is.free live orders all ps same fits tries
        (λ l p parts has fit. (p, (are.0 p).0 has, parts, fit)) (finds clash (λ q c e. e)) in
        (ps, map (map name) (tree.leaves_of can n clash), are, these, more, misses)

    abbrev leaves : List (List ℕ)
    leaves = tree.leaves_of can n (clash_in plan)

    pub found_within : (tries : ℕ) (x : List ℕ) (m : Tree) → parts_of m ≡ vertices_at g plan x → tree.IsAmongFirst can n (clash_in plan) tries x
        → IsFoundWithin (graph_in g) rank issued tries m
    found_within tries x m parts among =
        let names = vertices_at g plan in
        let (i, at) = place_of (take tries leaves) x among in
        let named = subst (λ (r : List (List Vertex)). slice_get r i ≡ Some (names x)) (sym (take-map names tries leaves)) (get_in_map names (take tries leaves) i x at) in (
          ps,
          map names leaves,
          are,
          these,
          subst (λ (vs : List Vertex). Contains (take tries (map names leaves)) vs) (sym parts) (contains_at (take tries (map names leaves)) i (names x) named),
        )

    pub so_many : (k : ℕ) → tree.AreSoMany can n (clash_in plan) k → AreSoMany (graph_in g) rank issued k
    so_many k count = (ps, map (vertices_at g plan) leaves, are, these, length-map leaves (vertices_at g plan) ∙ count)

    -- the first leaf by its items
    first_below : (q : List ℕ) (c : ℕ) → tree.IsFirstLeafAt can n (clash_in plan) q c → AreBelow n (q ++ c ∷ [])
    first_below q c (back, first) =
        leaf_in (graph_in g) (vertex_at g plan) can n apart (clash_in plan) is.clashes is.no_clash is.free live orders all ps same (q ++ c ∷ [])
        (subst (λ (xs : List (List ℕ)). Contains xs (q ++ c ∷ [])) (sym first) (in_here (q ++ c ∷ []) back))

    pub first_item : (q : List ℕ) (c : ℕ) → tree.IsFirstLeafAt can n (clash_in plan) q c → c < n
    first_item q c first = last_below n q c (first_below q c first)

    pub first_numbers : (q : List ℕ) (c : ℕ) → tree.IsFirstLeafAt can n (clash_in plan) q c
        → map (slice_get g.vertices) (numbers_at plan q) ≡ map Some (vertices_at g plan q)
    first_numbers q c first = numbered q (front_below n q c (first_below q c first))

    pub first_number : (q : List ℕ) (c m : ℕ) → tree.IsFirstLeafAt can n (clash_in plan) q c → slice_get plan.numbers.items c ≡ Some m
        → slice_get g.vertices m ≡ Some (vertex_at g plan c)
    first_number q c m first there =
        let (k, at, part) = part_at c (first_item q c first) in
        let same_number : Some m ≡ Some k = sym there ∙ at in
        ap (λ (o : Option ℕ). slice_get g.vertices (or_none o)) same_number ∙ part
      where
        or_none : Option ℕ → ℕ
        or_none None = 0
        or_none (Some j) = j

    pub clash_of : (q : List ℕ) (c : ℕ) → tree.IsFirstLeafAt can n (clash_in plan) q c → clash_in plan q c ≡ true
        → IsFirstClash (graph_in g) rank issued (vertices_at g plan q) (vertex_at g plan c)
    clash_of q c (back, first) clashes =
        let names = vertices_at g plan in (
          ps,
          map names leaves,
          map names back,
          are,
          these,
          ap (map names) first ∙ ap (λ (x : List Vertex). x ∷ map names back) (map-append (vertex_at g plan) q (c ∷ [])),
          is.clashes q c clashes,
        )

    pub no_clash_of : tree.IsFirstClear can n (clash_in plan) → HasNoFirstClash (graph_in g) rank issued
    no_clash_of clear = (ps, map (vertices_at g plan) leaves, are, these, by clear)
      where
        by : tree.IsFirstClear can n (clash_in plan) → IsClear (graph_in g) (map (vertices_at g plan) leaves)
        by (inl none) = inl (ap (map (vertices_at g plan)) none)
        by (inr (inl zero_)) =
            inr (inl ([], ap (λ m. map (vertices_at g plan) (tree.leaves_of can m (clash_in plan))) zero_))
        by (inr (inr (q, c, (back, first), free))) =
            inr (inr (
              vertices_at g plan q,
              vertex_at g plan c,
              map (vertices_at g plan) back,
              ap (map (vertices_at g plan)) first
                  ∙ ap (λ (x : List Vertex). x ∷ map (vertices_at g plan) back) (map-append (vertex_at g plan) q (c ∷ [])),
              is.no_clash q c free,
            ))

    pub tries_spent : (tries : ℕ) → tree.FindsSpent can fits n (clash_in plan) tries → IsFound {X = Conflict} (graph_in g) rank issued tries spent
    tries_spent tries finds =
        let (more, none) = finds tree.never (none_within (clash_in plan)) in
        let count : length ps ≡ length orders = sym (length-map ps parts_of) ∙ ap length same ∙ length-map orders (vertices_at g plan) in (
          ps,
          are,
          omega (arith, count, more, ap length all_whole),
          none_fit (take tries orders) (take tries ps) (sym (take-map parts_of tries ps) ∙ ap (take tries) same ∙ take-map (vertices_at g plan) tries orders)
              (λ x h. all.sound x (taken orders tries x h)) (λ q h. (are.0 q).0 (taken ps tries q h))
              (subst (λ (xs : List (List ℕ)). tree.AllFail can fits n (take tries xs)) (sym all_whole) none),
          leaves_spent tries finds,
        )
