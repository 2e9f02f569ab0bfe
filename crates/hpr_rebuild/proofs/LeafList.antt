-- The leaves of the arrangements by their items: where the orders of items are the preorders of the programs, the leaves of the orders are the
-- leaves of the programs, and tries that are spent on those are spent on these.
use Rattle.std.proofs.Common.{◌≡◌, ℕ, ◌<◌, ◌↔◌, inl, inr, Bool, true, false, Some, List, [], ◌∷◌, ◌++◌, map, length, take, drop, Contains, slice_get, refl, sym, ap, ◌∙◌, subst}
use Rattle.std.proofs.lemmas.List.{map-append, length-map, take-append-drop, take-map}
use Rattle.std.proofs.lemmas.List.Elements.{Contains-append_left}
use Rattle.std.proofs.lemmas.Option.{same_Some}
use Rattle.hpr_syntax.specs.Tree.{Tree}
use Rattle.hpr_graph.specs.declared.vertex.Vertex.{Vertex}
use Rattle.hpr_graph.specs.Graphs.{Graph, IsOnce}
use Rattle.hpr_graph.specs.Rank.{parts_of}
use Rattle.hpr_graph.specs.Answer.{Fits}
use Rattle.hpr_terms.proofs.Facts.{compared, contains_at, place_of, get_map, get_in_map}
use Rattle.hpr_forest.specs.Lists.{LexLess, IsListOf}
use Rattle.hpr_forest.specs.Choices.{Follows, IsWhole, IsBacktrackFree}
use Rattle.hpr_forest.proofs.Unique.{less_irreflexive}
use Rattle.hpr_forest.specs.Cuts.{IsLive, cut, leaves_of, cut_at, AreSpent}
use Rattle.hpr_forest.proofs.Cuts.{all_cuts}
use Rattle.hpr_forest.proofs.CutOrder.{ascending_at, leaves_in_order}
use Rattle.hpr_graph.specs.Clashes.{Clashes}
use Rattle.hpr_graph.specs.Leaves.{IsCut, IsLeaf, AreLeaves, LeafFits}

pub taken : {X : Type 0} (xs : List X) (k : ℕ) (x : X) → Contains (take k xs) x → Contains xs x
taken {X} xs k x h = subst (λ (ys : List X). Contains ys x) (take-append-drop k xs) (Contains-append_left (take k xs) (drop k xs) x h)

-- numbers below n alone
abbrev pub AreBelow : ℕ → List ℕ → Type 0
AreBelow n [] = Unit {0}
AreBelow n (x ∷ xs) = (x < n) × AreBelow n xs

pub follows_below : (can : List ℕ → ℕ → Bool) (n : ℕ) → IsBacktrackFree can n → (p l : List ℕ) → Follows can p l → AreBelow n l
follows_below can n it p [] f = tt
follows_below can n it p (c ∷ l) f = (it.within p c f.0, follows_below can n it (p ++ c ∷ []) l f.1)

cut_below : (can : List ℕ → ℕ → Bool) (n : ℕ) (clash : List ℕ → ℕ → Bool) (p l : List ℕ) → AreBelow n l → AreBelow n (cut clash p l)
cut_below can n clash p [] b = tt
cut_below can n clash p (c ∷ l) b = at (clash p c) (cut_below can n clash (p ++ c ∷ []) l b.1)
  where
    at : (t : Bool) → AreBelow n (cut clash (p ++ c ∷ []) l) → AreBelow n (cut_at t c (cut clash (p ++ c ∷ []) l))
    at true more = (b.0, tt)
    at false more = (b.0, more)

map_injective : (f : ℕ → Vertex) (n : ℕ) → ((x z : ℕ) → x < n → z < n → f x ≡ f z → x ≡ z) → (xs zs : List ℕ) → AreBelow n xs → AreBelow n zs → map f xs ≡ map f zs → xs ≡ zs
map_injective f n inj [] [] b b' e = refl
map_injective f n inj [] (z ∷ zs) b b' e = absurd cc
map_injective f n inj (x ∷ xs) [] b b' e = absurd cc
map_injective f n inj (x ∷ xs) (z ∷ zs) b b' e =
    let head : Some (f x) ≡ Some (f z) = ap (λ (r : List Vertex). slice_get r 0) e in
    let same : x ≡ z = inj x z b.0 b'.0 (same_Some (f x) (f z) head) in
    let more : xs ≡ zs = map_injective f n inj xs zs b.1 b'.1 (ap tail e) in
    ap (λ v. v ∷ xs) same ∙ ap (λ r. z ∷ r) more
  where
    tail : List Vertex → List Vertex
    tail [] = []
    tail (v ∷ vs) = vs

module _ (g : Graph) where
  -- a preorder has one leaf
  pub one_cut : (placed rest x y : List Vertex) → IsCut g placed rest x → IsCut g placed rest y → x ≡ y
  one_cut placed [] x y h k = h ∙ sym k
  one_cut placed (c ∷ rest) x y (inl h) (inl k) = h.1 ∙ sym k.1
  one_cut placed (c ∷ rest) x y (inl h) (inr k) = absurd (k.0 h.0)
  one_cut placed (c ∷ rest) x y (inr h) (inl k) = absurd (h.0 k.0)
  one_cut placed (c ∷ rest) x y (inr (free, (s, e, h))) (inr (free', (t, e', k))) =
      e ∙ ap (λ (r : List Vertex). c ∷ r) (one_cut (placed ++ c ∷ []) rest s t h k) ∙ sym e'

module _ (g : Graph) (name : ℕ → Vertex) (can : List ℕ → ℕ → Bool) (n : ℕ) (inj : (a b : ℕ) → a < n → b < n → name a ≡ name b → a ≡ b) (clash : List ℕ → ℕ → Bool)
    (yes_ : (q : List ℕ) (c : ℕ) → clash q c ≡ true → Clashes g (map name q) (name c))
    (no_ : (q : List ℕ) (c : ℕ) → clash q c ≡ false → ¬ Clashes g (map name q) (name c)) where
  abbrev names : List ℕ → List Vertex
  names q = map name q

  abbrev cut_of : List ℕ → List ℕ → List ℕ
  cut_of = cut clash

  pub is_cut : (placed rest : List ℕ) → IsCut g (names placed) (names rest) (names (cut_of placed rest))
  is_cut placed [] = refl
  is_cut placed (c ∷ rest) = at (clash placed c) refl (is_cut (placed ++ c ∷ []) rest)
    where
      at : (b : Bool) → clash placed c ≡ b → IsCut g (names (placed ++ c ∷ [])) (names rest) (names (cut_of (placed ++ c ∷ []) rest)) → IsCut g (names placed) (names (c ∷ rest)) (names (cut_of placed (c ∷ rest)))
      at true is more = inl (yes_ placed c is, ap (λ b. names (cut_at b c (cut_of (placed ++ c ∷ []) rest))) is)
      at false is more =
          inr (
            no_ placed c is,
            (
              names (cut_of (placed ++ c ∷ []) rest),
              ap (λ b. names (cut_at b c (cut_of (placed ++ c ∷ []) rest))) is,
              subst (λ (p : List Vertex). IsCut g p (names rest) (names (cut_of (placed ++ c ∷ []) rest))) (map-append name placed (c ∷ [])) more,
            ),
          )

  module _ (it : IsBacktrackFree can n) (live : IsLive can n) (orders : List (List ℕ)) (all : IsListOf LexLess (IsWhole can n) orders) (ps : List Tree)
      (same : map parts_of ps ≡ map names orders) where
    abbrev leaves : List (List ℕ)
    leaves = leaves_of can n clash

    abbrev named : List (List Vertex)
    named = map names leaves

    -- a program and its order
    pub order_at : (i : ℕ) (p : Tree) → slice_get ps i ≡ Some p → (l : List ℕ) × (slice_get orders i ≡ Some l) × (names l ≡ parts_of p)
    order_at i p h = get_map names orders i (parts_of p) (subst (λ (r : List (List Vertex)). slice_get r i ≡ Some (parts_of p)) same (get_in_map parts_of ps i p h))

    pub program_at : (i : ℕ) (l : List ℕ) → slice_get orders i ≡ Some l → (p : Tree) × (slice_get ps i ≡ Some p) × (parts_of p ≡ names l)
    program_at i l h = get_map parts_of ps i (names l) (subst (λ (r : List (List Vertex)). slice_get r i ≡ Some (names l)) (sym same) (get_in_map names orders i l h))

    -- the leaf of a program is that of its order
    leaf_of : (p : Tree) (l : List ℕ) → names l ≡ parts_of p → IsLeaf g p (names (cut_of [] l))
    leaf_of p l e = subst (λ (vs : List Vertex). IsCut g [] vs (names (cut_of [] l))) e (is_cut [] l)

    leaf_is : (p : Tree) (l : List ℕ) (x : List Vertex) → names l ≡ parts_of p → IsLeaf g p x → x ≡ names (cut_of [] l)
    leaf_is p l x e h = one_cut g [] (parts_of p) x (names (cut_of [] l)) h (leaf_of p l e)

    all_of : IsListOf LexLess (λ x. (l : List ℕ) × IsWhole can n l × (x ≡ cut_of [] l)) leaves
    all_of = all_cuts can n clash it live

    names_same : (a b : List ℕ) → AreBelow n a → AreBelow n b → names a ≡ names b → a ≡ b
    names_same = map_injective name n inj

    pub leaf_in : (y : List ℕ) → Contains leaves y → AreBelow n y
    leaf_in y h =
        let (l, whole, is) = all_of.sound y h in
        subst (λ (v : List ℕ). AreBelow n v) (sym is) (cut_below can n clash [] l (follows_below can n it [] l whole.follows))

    leaf_below : (i : ℕ) (y : List ℕ) → slice_get leaves i ≡ Some y → AreBelow n y
    leaf_below i y h = leaf_in y (contains_at leaves i y h)

    order_below : (i : ℕ) (l : List ℕ) → slice_get orders i ≡ Some l → AreBelow n l
    order_below i l h = follows_below can n it [] l (all.sound l (contains_at orders i l h)).follows

    once : IsOnce named
    once i j x h k =
        let (a, ea, fa) = get_map names leaves i x h in
        let (b, eb, fb) = get_map names leaves j x k in
        let is : a ≡ b = names_same a b (leaf_below i a ea) (leaf_below j b eb) (fa ∙ sym fb) in
        three i j a b ea eb is
      where
        apart : (i j : ℕ) (a b : List ℕ) → slice_get leaves i ≡ Some a → slice_get leaves j ≡ Some b → a ≡ b → i < j → ⊥
        apart i j a b ea eb is less =
            less_irreflexive a (subst (λ (v : List ℕ). LexLess a v) (sym is) (ascending_at leaves all_of.ascending i j a b less ea eb))

        three : (i j : ℕ) (a b : List ℕ) → slice_get leaves i ≡ Some a → slice_get leaves j ≡ Some b → a ≡ b → i ≡ j
        three i j a b ea eb is = elim (compared i j) [
          | inl m ↦ absurd (apart i j a b ea eb is m)
          | inr h_ ↦ (elim h_ [ inl e ↦ e | inr m ↦ absurd (apart j i b a eb ea (sym is) m) ])
        ]

    members : (x : List Vertex) → Contains named x ↔ ((p : Tree) × Contains ps p × IsLeaf g p x)
    members x = (to, from)
      where
        to : Contains named x → (p : Tree) × Contains ps p × IsLeaf g p x
        to h =
            let (i, at) = place_of named x h in
            let (y, ey, fy) = get_map names leaves i x at in
            let (l, whole, is) = all_of.sound y (contains_at leaves i y ey) in
            let (j, lj) = place_of orders l (all.complete l whole) in
            let (p, pj, parts) = program_at j l lj in
            (p, contains_at ps j p pj, subst (λ (v : List Vertex). IsLeaf g p v) (ap names (sym is) ∙ fy) (leaf_of p l (sym parts)))

        from : ((p : Tree) × Contains ps p × IsLeaf g p x) → Contains named x
        from (p, has, leaf) =
            let (j, pj) = place_of ps p has in
            let (l, lj, parts) = order_at j p pj in
            let whole = all.sound l (contains_at orders j l lj) in
            let (i, at) = place_of leaves (cut_of [] l) (all_of.complete (cut_of [] l) (l, whole, refl)) in
            subst (λ (v : List Vertex). Contains named v) (sym (leaf_is p l x parts leaf)) (contains_at named i (names (cut_of [] l)) (get_in_map names leaves i (cut_of [] l) at))

    pub are_leaves : AreLeaves g ps named
    are_leaves = (once, members, ordered)
      where
        ordered : (i j k l : ℕ) (p q : Tree) (x y : List Vertex) → slice_get ps i ≡ Some p → slice_get ps j ≡ Some q → IsLeaf g p x → IsLeaf g q y
            → slice_get named k ≡ Some x → slice_get named l ≡ Some y → k < l → i < j
        ordered i j k l p q x y ep eq lx ly ex ey h =
            let (a, ea, fa) = order_at i p ep in
            let (b, eb, fb) = order_at j q eq in
            let (s, es, fs) = get_map names leaves k x ex in
            let (t, et, ft) = get_map names leaves l y ey in
            let is : s ≡ cut_of [] a = names_same s (cut_of [] a) (leaf_below k s es) (cut_below can n clash [] a (order_below i a ea)) (fs ∙ leaf_is p a x fa lx) in
            let js : t ≡ cut_of [] b = names_same t (cut_of [] b) (leaf_below l t et) (cut_below can n clash [] b (order_below j b eb)) (ft ∙ leaf_is q b y fb ly) in
            leaves_in_order clash orders leaves all.ascending all_of.ascending i j k l a b ea eb (es ∙ ap Some is) (et ∙ ap Some js) h

    -- where the tries are spent on the leaves of the orders, they are spent on those of the programs
    pub spent_on_leaves : (fits : List ℕ → Type 0) (tries : ℕ) → ((l : List ℕ) (p : Tree) → parts_of p ≡ names l → Contains ps p → Fits g p → fits l) → AreSpent can fits n clash tries
        → (tries < length named) × ((x : List Vertex) → Contains (take tries named) x → ¬ LeafFits g ps x)
    spent_on_leaves fits tries judges (more, none) = (subst (λ m. tries < m) (sym (length-map leaves names)) more, misses)
      where
        misses : (x : List Vertex) → Contains (take tries named) x → ¬ LeafFits g ps x
        misses x h (p, has, parts, fit) =
            let (i, at) = place_of (take tries named) x h in
            let (y, ey, fy) = get_map names (take tries leaves) i x (subst (λ (r : List (List Vertex)). slice_get r i ≡ Some x) (take-map names tries leaves) at) in
            let (j, pj) = place_of ps p has in
            let (l, lj, el) = order_at j p pj in
            let is : l ≡ y = names_same l y (order_below j l lj) (leaf_in y (taken leaves tries y (contains_at (take tries leaves) i y ey))) (el ∙ parts ∙ sym fy) in
            none y (contains_at (take tries leaves) i y ey) (subst (IsWhole can n) is (all.sound l (contains_at orders j l lj)))
            (subst fits is (judges l p (sym el) has fit))
