-- The rows of the places of groups are groups.
use Rattle.std.proofs.Common.{◌≡◌, ℕ, zero, suc, ◌+◌, ◌<◌, ◌≤◌, Some, List, [], ◌∷◌, ◌++◌, Contains, Vec, Global, length, map, take, get_or, slice_get, refl, sym, ap, ap₂, ◌∙◌, subst, arith}
use Rattle.std.specs.List.{AllZip}
use Rattle.std.specs.List.Sorted.{IsStrictlyIncreasing}
use Rattle.std.proofs.lemmas.List.Elements.{Contains-get_or}
use Rattle.std.proofs.lemmas.Option.{get_or_from_slice_get, slice_get-get_or, slice_get_within}
use Rattle.std.proofs.lemmas.List.{take_more}
use Rattle.hpr_search.specs.Rows.{numbers_of}
use Rattle.hpr_search.proofs.RowLists.{push_row}
use Rattle.hpr_terms.proofs.Facts.{contains_at, get_below, in_here, in_later, place_of}
use Rattle.hpr_graph.specs.declared.conflict.ManyConflict.{ManyConflict}
use Rattle.hpr_graph.specs.declared.edge.Edge.{Edge}
use Rattle.hpr_graph.specs.declared.vertex.Vertex.{Vertex}
use Rattle.hpr_conflicts.specs.Groups.{AreNumbers, AreRows}
use Rattle.hpr_interference.specs.Groups.{AreGroups, Group, IsAt, IsGroupOf}
use Rattle.hpr_interference.specs.Private.Rows.{IsRow, group_at}

module _ {X Y : Type 0} (R : X → Y → Type 0) where
  zip_left : (xs : List X) (ys : List Y) → AllZip R xs ys → (i : ℕ) (x : X) → slice_get xs i ≡ Some x → (y : Y) × (slice_get ys i ≡ Some y) × R x y
  zip_left [] [] all i x at = absurd cc
  zip_left [] (z ∷ ys) all i x at = absurd all
  zip_left (w ∷ xs) [] all i x at = absurd all
  zip_left (w ∷ xs) (z ∷ ys) all zero x at = let same : w ≡ x = cc in (z, refl, subst (λ (u : X). R u z) same all.0)
  zip_left (w ∷ xs) (z ∷ ys) all (suc i) x at = zip_left xs ys all.1 i x at

  zip_right : (xs : List X) (ys : List Y) → AllZip R xs ys → (i : ℕ) (y : Y) → slice_get ys i ≡ Some y → (x : X) × (slice_get xs i ≡ Some x) × R x y
  zip_right [] [] all i y at = absurd cc
  zip_right [] (z ∷ ys) all i y at = absurd all
  zip_right (w ∷ xs) [] all i y at = absurd all
  zip_right (w ∷ xs) (z ∷ ys) all zero y at = let same : z ≡ y = cc in (w, refl, subst (λ (u : Y). R w u) same all.0)
  zip_right (w ∷ xs) (z ∷ ys) all (suc i) y at = zip_right xs ys all.1 i y at

  -- one more of each
  pub zip_more : (xs : List X) (ys : List Y) (x : X) (y : Y) → AllZip R xs ys → R x y → AllZip R (xs ++ x ∷ []) (ys ++ y ∷ [])
  zip_more [] [] x y all more = (more, tt)
  zip_more [] (z ∷ ys) x y all more = absurd all
  zip_more (w ∷ xs) [] x y all more = absurd all
  zip_more (w ∷ xs) (z ∷ ys) x y all more = (all.0, zip_more xs ys x y all.1 more)

-- one row more
pub rows_more : (rows : List (Vec ℕ Global)) (i : ℕ) (row : Vec ℕ Global) → i < length rows → row ≡ get_or rows i row
    → numbers_of (take (i + 1) rows) ≡ numbers_of (take i rows) ++ row.items ∷ []
rows_more rows i row l is =
    ap numbers_of (take_more rows i row l) ∙ push_row (take i rows) (get_or rows i row)
    ∙ ap (λ (r : Vec ℕ Global). numbers_of (take i rows) ++ r.items ∷ []) (sym is)

-- the first of ascending numbers is the least
rises : (xs : List ℕ) → IsStrictlyIncreasing xs → (k : ℕ) → k < length xs → get_or xs 0 0 ≤ get_or xs k 0
rises xs up zero l = omega arith
rises xs up (suc k) l =
    let e : k + 1 ≡ suc k = omega arith in
    let before = rises xs up k (omega (arith, l)) in
    let step : get_or xs k 0 < get_or xs (k + 1) 0 = up k (omega (arith, l)) in
    let here : get_or xs (k + 1) 0 ≡ get_or xs (suc k) 0 = ap (λ (i : ℕ). get_or xs i 0) e in
    omega (arith, before, step, here)

least : (xs : List ℕ) → IsStrictlyIncreasing xs → (j : ℕ) → Contains xs j → get_or xs 0 0 ≤ j
least xs up j has =
    let (k, at) = place_of xs j has in
    let is : get_or xs k 0 ≡ j = get_or_from_slice_get xs k j 0 at in
    let before = rises xs up k (slice_get_within xs k j at) in
    omega (arith, is, before)

module _ (cs : List ManyConflict) (ns : List ℕ) (m : ℕ) (rows : List (List ℕ)) (num : AreNumbers cs ns m) (r : AreRows ns m rows) where
  pub row_some : (n : ℕ) (row : List ℕ) → slice_get rows n ≡ Some row → 0 < length row
  row_some n row at =
      let w = slice_get_within rows n row at in
      let (i, at_i) = place_of ns n (num.used n (omega (arith, w, r.count))) in
      let (k, l, is) = (r.places n row at i).1 at_i in
      omega (arith, l)

  pub row_within : (n : ℕ) (row : List ℕ) → slice_get rows n ≡ Some row → (i : ℕ) → Contains row i → i < length cs
  row_within n row at i has = let w = slice_get_within ns i n ((r.places n row at i).0 has) in omega (arith, w, num.count)

  -- what stands at a place of a row
  numbered : (n : ℕ) (row : List ℕ) → slice_get rows n ≡ Some row → (i : ℕ) → Contains row i → slice_get ns i ≡ Some n
  numbered n row at i has = (r.places n row at i).0 has

  module _ (n : ℕ) (row : List ℕ) (at : slice_get rows n ≡ Some row) (c : ManyConflict) (is : c ≡ get_or cs (get_or row 0 0) c) where
    first_in : Contains row (get_or row 0 0)
    first_in = Contains-get_or row 0 0 (row_some n row at)

    at_first : slice_get cs (get_or row 0 0) ≡ Some c
    at_first = slice_get-get_or cs (get_or row 0 0) c (row_within n row at (get_or row 0 0) first_in) ∙ ap Some (sym is)

    n_first : slice_get ns (get_or row 0 0) ≡ Some n
    n_first = numbered n row at (get_or row 0 0) first_in

    at_one : (i : ℕ) → Contains row i → IsAt cs (group_at cs c row) i (get_or cs i c).point
    at_one i has =
        let d = get_or cs i c in
        let at_d : slice_get cs i ≡ Some d = slice_get-get_or cs i c (row_within n row at i has) in
        let (variants, edges) = (num.alike i (get_or row 0 0) n n d c at_d at_first (numbered n row at i has) n_first).0 refl in
        let build : ℕ → Edge → ManyConflict = λ v e. record { variant = v; point = d.point; edge = e } in
        at_d ∙ ap Some (ap₂ build variants edges)

    only : (is : List ℕ) → ((i : ℕ) → Contains is i → Contains row i) → AllZip (IsAt cs (group_at cs c row)) is (map (λ i. (get_or cs i c).point) is)
    only [] within = tt
    only (i ∷ is) within = (at_one i (within i (in_here i is)), only is (λ j h. within j (in_later i j is h)))

    all : (i : ℕ) (v : Vertex) → IsAt cs (group_at cs c row) i v → Contains row i
    all i v at_i =
        let w = slice_get_within cs i (record { variant = c.variant; point = v; edge = c.edge }) at_i in
        let (h, at_h) = get_below ns i (omega (arith, w, num.count)) in
        let d : ManyConflict = record { variant = c.variant; point = v; edge = c.edge } in
        let same : h ≡ n = (num.alike i (get_or row 0 0) h n d c at_i at_first at_h n_first).1 (refl, refl) in
        (r.places n row at i).1 (at_h ∙ ap Some same)

    group_is : IsGroupOf cs (group_at cs c row)
    group_is = record {
      some = λ none. (let long = row_some n row at in let short = ap length none in omega (arith, long, short));
      ascend = r.ascend row (contains_at rows n row at);
      all = all;
      only = only row (λ i h. h);
    }

  module _ (gs : List Group) (made : AllZip (IsRow cs) rows gs) where
    row_of : (n : ℕ) (g : Group) → slice_get gs n ≡ Some g → (row : List ℕ) × (slice_get rows n ≡ Some row) × IsRow cs row g
    row_of = zip_right (IsRow cs) rows gs made

    is_group : (n : ℕ) (g : Group) → slice_get gs n ≡ Some g → IsGroupOf cs g
    is_group n g at =
        let (row, at_row, by) = row_of n g at in
        let (c, is, g_is) = by in
        subst (IsGroupOf cs) (sym g_is) (group_is n row at_row c is)

    has_number : (i n : ℕ) → slice_get ns i ≡ Some n → (g : Group) × (slice_get gs n ≡ Some g) × Contains g.places i
    has_number i n at =
        let less = num.within n (contains_at ns i n at) in
        let (row, at_row) = get_below rows n (omega (arith, less, r.count)) in
        let (g, at_g, by) = zip_left (IsRow cs) rows gs made n row at_row in
        let (c, is, g_is) = by in
        (g, at_g, subst (λ (xs : List ℕ). Contains xs i) (sym (ap (λ (h : Group). h.places) g_is)) ((r.places n row at_row i).1 at))

    in_order : (k n : ℕ) (g h : Group) → k < n → slice_get gs k ≡ Some g → slice_get gs n ≡ Some h → get_or g.places 0 0 < get_or h.places 0 0
    in_order k n g h less at_g at_h =
        let (row, at_row, by_g) = row_of k g at_g in
        let (line, at_line, by_h) = row_of n h at_h in
        let (c, is_c, g_is) = by_g in
        let (d, is_d, h_is) = by_h in
        let top = Contains-get_or line 0 0 (row_some n line at_line) in
        let (j, before, at_j) = num.first (get_or line 0 0) k n (numbered n line at_line (get_or line 0 0) top) less in
        let low = least row (r.ascend row (contains_at rows k row at_row)) j ((r.places k row at_row j).1 at_j) in
        let g_first : get_or g.places 0 0 ≡ get_or row 0 0 = ap (λ (x : Group). get_or x.places 0 0) g_is in
        let h_first : get_or h.places 0 0 ≡ get_or line 0 0 = ap (λ (x : Group). get_or x.places 0 0) h_is in
        omega (arith, before, low, g_first, h_first)

    pub are_groups : AreGroups cs ns gs
    are_groups = record {
      groups = λ g has. (let (n, at) = place_of gs g has in is_group n g at);
      count = num.count;
      numbers = has_number;
      order = in_order;
    }
