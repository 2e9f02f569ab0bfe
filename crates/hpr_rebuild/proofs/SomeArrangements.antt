-- A graph has a list of all arrangements in the order of a rank.
use Rattle.std.proofs.Common.{◌≡◌, ℕ, zero, suc, ◌≤◌, Bool, true, inl, inr, ◌⊎◌, Some, None, List, [], ◌∷◌, ◌++◌, length, map, Contains, slice_get, refl, sym, ap, ◌∙◌, subst, arith}
use Rattle.std.specs.declared.cmp.Ordering.TheVariants.{Less}
use Rattle.std.proofs.lemmas.Bool.{cases_order}
use Rattle.hpr_terms.specs.declared.tag.Tag.{Tag}
use Rattle.hpr_syntax.specs.declared.rows.Content.{Content}
use Rattle.hpr_syntax.specs.Issued.{Issued}
use Rattle.hpr_syntax.specs.Nests.{Standing, StandsAsIn}
use Rattle.hpr_syntax.specs.Tree.{Tree}
use Rattle.hpr_paths.proofs.Different.{distinct_program}
use Rattle.hpr_paths.proofs.Says.{standing_one}
use Rattle.hpr_graph.specs.declared.vertex.Vertex.{Vertex}
use Rattle.hpr_graph.specs.declared.vertex.Vertex.TheVariants.{Entry, Part}
use Rattle.hpr_graph.specs.Arrangements.{IsArrangement, IsEarlier, AreArrangements}
use Rattle.hpr_graph.specs.Graphs.{Graph, IsOnce}
use Rattle.hpr_graph.specs.Order.{name_cmp}
use Rattle.hpr_graph.specs.ProgramGraph.{IsControl}
use Rattle.hpr_graph.specs.Rank.{parts_of, StandsBefore}
use Rattle.hpr_graph.proofs.Lists.{place_of, in_here, in_later, no_longer, some_inj}
use Rattle.hpr_graph.proofs.Bounded.{Bounded, of_one, of_alone, of_within, of_either, of_list, of_each}
use Rattle.hpr_order.proofs.Ranks.{parts_once}
use Rattle.hpr_region.proofs.PartOrder.{part_says, says_part}
use Rattle.hpr_order.proofs.OneBody.{Placed, vertex, placed, parts_placed, stands_so, one_body}
use Rattle.hpr_graph.proofs.PutInOrder.{in_order, one_list}
use Rattle.hpr_graph.proofs.NameOrder.{never_both}

-- ---- what the parts in preorder say of an arrangement

-- parts that are listed alike, each under one parent, are placed alike
same_placed : (xs ys : List Placed) → map vertex xs ≡ map vertex ys
    → ((i j : Placed) → Contains xs i → Contains ys j → vertex i ≡ vertex j → i.parent ≡ j.parent) → xs ≡ ys
same_placed [] [] e one = refl
same_placed [] (y ∷ ys) e one = absurd cc
same_placed (x ∷ xs) [] e one = absurd cc
same_placed (x ∷ xs) (y ∷ ys) e one =
    let head : vertex x ≡ vertex y = cc in
    let tail : map vertex xs ≡ map vertex ys = cc in
    let tag : x.tag ≡ y.tag = cc in
    let content : x.content ≡ y.content = cc in
    let parent : x.parent ≡ y.parent = one x y (in_here x xs) (in_here y ys) head in
    let first : x ≡ y = λ i. record { tag = tag i; content = content i; parent = parent i } in
    let rest : xs ≡ ys = same_placed xs ys tail (λ i j in_xs in_ys. one i j (in_later x i xs in_xs) (in_later y j ys in_ys)) in
    cc

module _ (g : Graph) (issued : Issued) where
  module _ (p q : Tree) (is_p : IsArrangement g issued p) (is_q : IsArrangement g issued q) where
    -- the parent of a part in the one is that in the other
    module _ (i j : Placed) (s : Standing) (stands : StandsAsIn q.body j.tag s) (parent : s.parent ≡ j.parent) (same : vertex i ≡ vertex j) where
      standing_of : (r : Standing) → StandsAsIn q.body i.tag r → r.parent ≡ j.parent
      standing_of r there =
          let tag : i.tag ≡ j.tag = cc in
          let one : r ≡ s = standing_one q.body [] None (distinct_program q is_q.program) j.tag r s (subst (λ (t : Tag). StandsAsIn q.body t r) tag there) stands in
          ap (λ (x : Standing). x.parent) one ∙ parent

      under_top : IsControl q true Entry (vertex i) → j.parent ≡ None
      under_top (inl (is, truth, (r, there, content, top))) = sym (standing_of r there) ∙ top
      under_top (inr (u, c, is, says, under)) = absurd cc

      under_part : (u : Tag) (l : Bool) (c : Content) → IsControl q l (Part u c) (vertex i) → j.parent ≡ Some (u, l)
      under_part u l c (inl (is, truth, top)) = absurd cc
      under_part u l c (inr (v, d, is, says, (t, r, there, part, up))) =
          let tag : t ≡ i.tag = cc in
          let parent_is : v ≡ u = cc in
          sym (standing_of r (subst (λ (x : Tag). StandsAsIn q.body x r) tag there)) ∙ up ∙ ap (λ (x : Tag). Some (x, l)) parent_is

    same_parent : (i j : Placed) → Contains (placed None p.body) i → Contains (placed None q.body) j → vertex i ≡ vertex j → i.parent ≡ j.parent
    same_parent i j in_p in_q same =
        let h = stands_so [] None p.body i in_p in
        let k = stands_so [] None q.body j in_q in
        elim h.under [
          | inl top ↦ (let control : IsControl p true Entry (vertex i) = inl (refl, refl, (h.standing, h.stands, h.content, h.parent ∙ top)) in
              top ∙ sym (under_top i j k.standing k.stands k.parent same ((is_q.control true Entry i.tag i.content).1 ((is_p.control true Entry i.tag i.content).0 control))))
          | inr deep ↦ (let u = deep.0 in
              let l = deep.1 in
              let c = deep.2 in
              let part : vertex i ≡ Part i.tag h.standing.content = ap (λ (d : Content). Part i.tag d) (sym h.content) in
              let control : IsControl p l (Part u c) (vertex i) = inr (u, c, refl, deep.4, (i.tag, h.standing, h.stands, part, h.parent ∙ deep.3)) in
              deep.3 ∙ sym (under_part i j k.standing k.stands k.parent same u l c ((is_q.control l (Part u c) i.tag i.content).1 ((is_p.control l (Part u c) i.tag i.content).0 control))))
        ]

    same_finals : p.finals ≡ q.finals
    same_finals =
        one_list (λ x y. name_cmp x y ≡ Less) never_both p.finals q.finals is_p.ascending is_q.ascending
        (λ x. (λ h. (is_q.finals x).1 ((is_p.finals x).0 h), λ h. (is_p.finals x).1 ((is_q.finals x).0 h)))

    -- two arrangements with the same parts in preorder are the same
    pub one_preorder : parts_of p ≡ parts_of q → p ≡ q
    one_preorder e =
        let listed : map vertex (placed None p.body) ≡ map vertex (placed None q.body) = sym (parts_placed p) ∙ e ∙ parts_placed q in
        let body : p.body ≡ q.body =
        one_body p.body q.body (distinct_program p is_p.program) (distinct_program q is_q.program)
        (same_placed (placed None p.body) (placed None q.body) listed same_parent) in
        let numbers : p.issued ≡ q.issued = is_p.numbers ∙ sym is_q.numbers in
        (λ i. record { issued = numbers i; body = body i; finals = same_finals i })

    -- they have the same parts
    has_part : (v : Vertex) → Contains (parts_of p) v → Contains (parts_of q) v
    has_part v h =
        let (t, c, e, says) = part_says p v h in
        subst (λ (w : Vertex). Contains (parts_of q) w) (sym e) (says_part q t c ((is_q.parts t c).1 ((is_p.parts t c).0 says)))

    pub no_more_parts : length (parts_of p) ≤ length (parts_of q)
    no_more_parts = no_longer (parts_of p) (parts_of q) (parts_once p is_p.program) has_part

-- ---- within bounds

module _ {X : Type 0} where
  -- lists of no more than n things, each of them within bounds
  abbrev OfNoMore : (X → Type 0) → ℕ → List X → Type 0
  OfNoMore P n xs = (length xs ≤ n) × ((x : X) → Contains xs x → P x)

  abbrev IsMore : (X → Type 0) → ℕ → List X → Type 0
  IsMore P n xs = (ys : List X) × OfNoMore P n ys × ((x : X) × P x × (xs ≡ x ∷ ys))

  none_or_more : (P : X → Type 0) (n : ℕ) (xs : List X) → OfNoMore P (suc n) xs → (xs ≡ []) ⊎ IsMore P n xs
  none_or_more P n [] h = inl refl
  none_or_more P n (x ∷ xs) (few, all) = inr (xs, (omega (arith, few), λ y there. all y (in_later x y xs there)), (x, all x (in_here x xs), refl))

  none_alone : (P : X → Type 0) (xs : List X) → OfNoMore P 0 xs → xs ≡ []
  none_alone P [] h = refl
  none_alone P (x ∷ xs) (few, all) = absurd (omega (arith, few))

  lists_bounded : (P : X → Type 0) → Bounded P → (n : ℕ) → Bounded (OfNoMore P n)
  lists_bounded P bounded zero = of_within (OfNoMore P 0) (λ xs. xs ≡ []) (none_alone P) (of_one [])
  lists_bounded P bounded (suc n) =
      of_within (OfNoMore P (suc n)) (λ xs. (xs ≡ []) ⊎ IsMore P n xs) (none_or_more P n)
      (of_either (λ xs. xs ≡ []) (IsMore P n) (of_one [])
      (of_each (OfNoMore P n) (λ ys xs. (x : X) × P x × (xs ≡ x ∷ ys)) (lists_bounded P bounded n)
      (λ ys _. of_each P (λ x xs. xs ≡ x ∷ ys) bounded (λ x _. of_one (x ∷ ys)))))

-- ---- in the order of a rank

module _ (rank : List Vertex) (once : IsOnce rank) where
  -- at the first place where they differ, the first list has what stands before
  abbrev Precedes : List Vertex → List Vertex → Type 0
  Precedes [] ys = ⊥
  Precedes (x ∷ xs) [] = ⊥
  Precedes (x ∷ xs) (y ∷ ys) = StandsBefore rank x y ⊎ ((x ≡ y) × Precedes xs ys)

  abbrev Differ : List Vertex → List Vertex → Type 0
  Differ xs ys = (front ps qs : List Vertex) × (v w : Vertex) × (xs ≡ front ++ v ∷ ps) × (ys ≡ front ++ w ∷ qs) × StandsBefore rank v w

  differ_later : (x y : Vertex) (xs ys : List Vertex) → x ≡ y → Differ xs ys → Differ (x ∷ xs) (y ∷ ys)
  differ_later x y xs ys same (front, ps, qs, v, w, is, so, before) =
      (x ∷ front, ps, qs, v, w, ap (λ (l : List Vertex). x ∷ l) is, (let head : y ∷ ys ≡ x ∷ ys = ap (λ (z : Vertex). z ∷ ys) (sym same) in head ∙ ap (λ (l : List Vertex). x ∷ l) so), before)

  differ : (xs ys : List Vertex) → Precedes xs ys → Differ xs ys
  differ [] ys h = absurd h
  differ (x ∷ xs) [] h = absurd h
  differ (x ∷ xs) (y ∷ ys) (inl before) = ([], xs, ys, x, y, refl, refl, before)
  differ (x ∷ xs) (y ∷ ys) (inr (same, later)) = differ_later x y xs ys same (differ xs ys later)

  at_front : (front ps qs : List Vertex) (v w : Vertex) → StandsBefore rank v w → Precedes (front ++ v ∷ ps) (front ++ w ∷ qs)
  at_front [] ps qs v w before = inl before
  at_front (x ∷ front) ps qs v w before = inr (refl, at_front front ps qs v w before)

  precedes : (xs ys : List Vertex) → Differ xs ys → Precedes xs ys
  precedes xs ys (front, ps, qs, v, w, is, so, before) =
      subst (λ (l : List Vertex). Precedes xs l) (sym so) (subst (λ (l : List Vertex). Precedes l (front ++ w ∷ qs)) (sym is) (at_front front ps qs v w before))

  before_through : (u v w : Vertex) → StandsBefore rank u v → StandsBefore rank v w → StandsBefore rank u w
  before_through u v w (i, j, less, at_i, at_j) (k, l, more, at_k, at_l) = (i, l, omega (arith, less, more, once j k v at_j at_k), at_i, at_l)

  precedes_through : (xs ys zs : List Vertex) → Precedes xs ys → Precedes ys zs → Precedes xs zs
  precedes_through [] ys zs h k = absurd h
  precedes_through (x ∷ xs) [] zs h k = absurd h
  precedes_through (x ∷ xs) (y ∷ ys) [] h k = absurd k
  precedes_through (x ∷ xs) (y ∷ ys) (z ∷ zs) (inl h) (inl k) = inl (before_through x y z h k)
  precedes_through (x ∷ xs) (y ∷ ys) (z ∷ zs) (inl h) (inr (same, k)) = inl (subst (λ (v : Vertex). StandsBefore rank x v) same h)
  precedes_through (x ∷ xs) (y ∷ ys) (z ∷ zs) (inr (same, h)) (inl k) = inl (subst (λ (v : Vertex). StandsBefore rank v z) (sym same) k)
  precedes_through (x ∷ xs) (y ∷ ys) (z ∷ zs) (inr (same, h)) (inr (also, k)) = inr (same ∙ also, precedes_through xs ys zs h k)

  abbrev Ranked : Vertex → Vertex → Type 0
  Ranked x y = (x ≡ y) ⊎ (StandsBefore rank x y ⊎ StandsBefore rank y x)

  places : (i j : ℕ) (x y : Vertex) → slice_get rank i ≡ Some x → slice_get rank j ≡ Some y → Ranked x y
  places i j x y at_i at_j = elim (cases_order i j) [
    | inl same ↦ inl (some_inj x y (sym at_i ∙ ap (λ (n : ℕ). slice_get rank n) same ∙ at_j))
    | inr apart ↦ elim apart [ inl less ↦ inr (inl (i, j, less, at_i, at_j)) | inr more ↦ inr (inr (j, i, more, at_j, at_i)) ]
  ]

  ranked : (x y : Vertex) → Contains rank x → Contains rank y → Ranked x y
  ranked x y in_x in_y = let a = place_of rank x in_x in let b = place_of rank y in_y in places a.0 b.0 x y a.1 b.1

  abbrev AllRanked : List Vertex → Type 0
  AllRanked xs = (v : Vertex) → Contains xs v → Contains rank v

  abbrev Compared : List Vertex → List Vertex → Type 0
  Compared xs ys = (xs ≡ ys) ⊎ (Precedes xs ys ⊎ Precedes ys xs)

  compared_more : (x y : Vertex) (xs ys : List Vertex) → x ≡ y → Compared xs ys → Compared (x ∷ xs) (y ∷ ys)
  compared_more x y xs ys same (inl e) = inl cc
  compared_more x y xs ys same (inr (inl h)) = inr (inl (inr (same, h)))
  compared_more x y xs ys same (inr (inr h)) = inr (inr (inr (sym same, h)))

  -- lists of as many parts are the same, or the one precedes the other
  compare : (xs ys : List Vertex) → length xs ≡ length ys → AllRanked xs → AllRanked ys → Compared xs ys
  compare [] [] e in_xs in_ys = inl refl
  compare [] (y ∷ ys) e in_xs in_ys = absurd (omega (arith, e))
  compare (x ∷ xs) [] e in_xs in_ys = absurd (omega (arith, e))
  compare (x ∷ xs) (y ∷ ys) e in_xs in_ys = elim (ranked x y (in_xs x (in_here x xs)) (in_ys y (in_here y ys))) [
    | inl same ↦ compared_more x y xs ys same (compare xs ys (omega (arith, e)) (λ v h. in_xs v (in_later x v xs h)) (λ v h. in_ys v (in_later y v ys h)))
    | inr apart ↦ elim apart [ inl before ↦ inr (inl (inl before)) | inr after ↦ inr (inr (inl after)) ]
  ]

  module _ (g : Graph) (issued : Issued) (all : (t : Tag) (c : Content) → g.vertex (Part t c) → Contains rank (Part t c)) where
    abbrev Is : Tree → Type 0
    Is = IsArrangement g issued

    all_ranked : (p : Tree) → Is p → AllRanked (parts_of p)
    all_ranked p is v h =
        let (t, c, e, says) = part_says p v h in
        subst (λ (w : Vertex). Contains rank w) (sym e) (all t c ((is.parts t c).0 says))

    as_many : (p q : Tree) → Is p → Is q → length (parts_of p) ≡ length (parts_of q)
    as_many p q is_p is_q = omega (arith, no_more_parts g issued p q is_p is_q, no_more_parts g issued q p is_q is_p)

    which : (p q : Tree) → Is p → Is q → (p ≡ q) ⊎ (IsEarlier rank p q ⊎ IsEarlier rank q p)
    which p q is_p is_q = elim (compare (parts_of p) (parts_of q) (as_many p q is_p is_q) (all_ranked p is_p) (all_ranked q is_q)) [
      | inl same ↦ inl (one_preorder g issued p q is_p is_q same)
      | inr apart ↦ elim apart [
        | inl before ↦ inr (inl (differ (parts_of p) (parts_of q) before))
        | inr after ↦ inr (inr (differ (parts_of q) (parts_of p) after))
      ]
    ]

    through : (p q r : Tree) → IsEarlier rank p q → IsEarlier rank q r → IsEarlier rank p r
    through p q r h k =
        differ (parts_of p) (parts_of r)
        (precedes_through (parts_of p) (parts_of q) (parts_of r) (precedes (parts_of p) (parts_of q) h) (precedes (parts_of q) (parts_of r) k))

    -- the orders of parts that may be an arrangement's
    abbrev MayOrder : List Vertex → Type 0
    MayOrder = OfNoMore (λ (v : Vertex). Contains rank v) (length rank)

    abbrev HasOrder : List Vertex → Tree → Type 0
    HasOrder l p = Is p × (parts_of p ≡ l)

    one_ordered : (l : List Vertex) (p q : Tree) → HasOrder l p → HasOrder l q → p ≡ q
    one_ordered l p q (is_p, e) (is_q, f) = one_preorder g issued p q is_p is_q (e ∙ sym f)

    bounded : Bounded Is
    bounded =
        of_within Is (λ p. (l : List Vertex) × MayOrder l × HasOrder l p)
        (λ p is. (parts_of p, (no_longer (parts_of p) rank (parts_once p is.program) (all_ranked p is), all_ranked p is), (is, refl)))
        (of_each MayOrder HasOrder (lists_bounded (λ (v : Vertex). Contains rank v) (of_list rank) (length rank)) (λ l _. of_alone (HasOrder l) (one_ordered l)))

    pub some_arrangements : ¬ (¬ ((ps : List Tree) × AreArrangements g rank issued ps))
    some_arrangements = in_order (IsEarlier rank) Is (λ p q r _ _ _ h k. through p q r h k) (λ p q is_p is_q n. n (which p q is_p is_q)) bounded
