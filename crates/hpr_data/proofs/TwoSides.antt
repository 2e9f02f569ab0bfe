-- The conflicts of two variants, told by their numbers and by their sides.
use Rattle.std.proofs.Common.{◌≡◌, ℕ, zero, suc, ◌+◌, ◌<◌, List, [], ◌∷◌, Contains, Some, map, slice_get, refl, sym, ap, ap₂, ◌∙◌, subst, arith}
use Rattle.hpr_terms.proofs.Facts.{contains_at, get_map, in_here, in_later, in_map, map_in}
use Rattle.hpr_graph.specs.declared.conflict.Conflict.{Conflict}
use Rattle.hpr_graph.specs.declared.conflict.ManyConflict.{ManyConflict}
use Rattle.hpr_graph.specs.declared.conflict.Side.{Side}
use Rattle.hpr_graph.specs.declared.conflict.Side.TheVariants.{A, B}
use Rattle.hpr_graph.specs.Conflicts.{AreConflictsBy, ComesFirst, IsConflictOf, number_of, told_as}
use Rattle.hpr_graph.specs.Graphs.{Graph}
use Rattle.hpr_merge.proofs.NoneListed.{number_within}
use Rattle.hpr_decisions.specs.IntegrateMany.{Told, conflict_of}
use Rattle.hpr_data.specs.Printed.{numbered}

abbrev pub side_at : ℕ → Side
side_at zero = A
side_at (suc n) = B

abbrev pub by_side : Told → Conflict
by_side t = record { side = side_at t.0; point = t.1; edge = t.2 }

number_back : (n : ℕ) → n < 2 → number_of (side_at n) ≡ n
number_back zero less = refl
number_back (suc zero) less = refl
number_back (suc (suc n)) less = absurd (omega (arith, less))

side_back : (s : Side) → side_at (number_of s) ≡ s
side_back A = refl
side_back B = refl

told_back : (t : Told) → t.0 < 2 → told_as (by_side t) ≡ t
told_back t less = ap (λ (n : ℕ). let u : Told = (n, t.1, t.2) in u) (number_back t.0 less)

back_told : (c : Conflict) → by_side (told_as c) ≡ c
back_told c = ap (λ (s : Side). let d : Conflict = record { side = s; point = c.point; edge = c.edge } in d) (side_back c.side)

-- a list of conflicts by their numbers is that of their sides
numbered_back : (t : Told) → t.0 < 2 → conflict_of t ≡ numbered (by_side t)
numbered_back t less = ap (λ (n : ℕ). let d : ManyConflict = record { variant = n + 1; point = t.1; edge = t.2 } in d) (sym (number_back t.0 less))

all_numbered : (ts : List Told) → ((t : Told) → Contains ts t → t.0 < 2) → map conflict_of ts ≡ map numbered (map by_side ts)
all_numbered [] below = refl
all_numbered (t ∷ ts) below =
    ap₂ (λ (c : ManyConflict) (cs : List ManyConflict). c ∷ cs) (numbered_back t (below t (in_here t ts))) (all_numbered ts (λ u there. below u (in_later t u ts there)))

module _ (base a b : Graph) (ts : List Told) (are : AreConflictsBy {X = Told} (λ t. t) base (a ∷ b ∷ []) ts) where
  abbrev Is : Told → Type 0
  Is t = IsConflictOf base (a ∷ b ∷ []) t.0 t.1 t.2

  below_two : (t : Told) → Is t → t.0 < 2
  below_two t is = number_within (a ∷ b ∷ []) t.0 t.1 is.0.0.0

  pub listed_below : (t : Told) → Contains ts t → t.0 < 2
  listed_below t there = below_two t ((are.0 t).0 there)

  of_side : (c : Conflict) → Contains (map by_side ts) c → Is (told_as c)
  of_side c there =
      let (t, has, same) = map_in by_side ts c there in
      let e : t ≡ told_as c = sym (told_back t (listed_below t has)) ∙ ap told_as same in
      subst Is e ((are.0 t).0 has)

  side_of : (c : Conflict) → Is (told_as c) → Contains (map by_side ts) c
  side_of c is = subst (Contains (map by_side ts)) (back_told c) (in_map by_side ts (told_as c) ((are.0 (told_as c)).1 is))

  in_order : (i j : ℕ) (x y : Conflict) → i < j → slice_get (map by_side ts) i ≡ Some x → slice_get (map by_side ts) j ≡ Some y
      → ComesFirst (told_as x).0 (told_as x).1 (told_as y).0 (told_as y).1
  in_order i j x y less at_i at_j =
      let (t, t_at, t_is) = get_map by_side ts i x at_i in
      let (u, u_at, u_is) = get_map by_side ts j y at_j in
      let e : t ≡ told_as x = sym (told_back t (listed_below t (contains_at ts i t t_at))) ∙ ap told_as t_is in
      let e' : u ≡ told_as y = sym (told_back u (listed_below u (contains_at ts j u u_at))) ∙ ap told_as u_is in
      subst (λ (w : Told). ComesFirst (told_as x).0 (told_as x).1 w.0 w.1) e'
      (subst (λ (v : Told). ComesFirst v.0 v.1 u.0 u.1) e (are.1 i j t u less t_at u_at))

  pub by_sides : AreConflictsBy told_as base (a ∷ b ∷ []) (map by_side ts)
  by_sides = (λ c. (of_side c, side_of c), in_order)

  pub same_numbers : map conflict_of ts ≡ map numbered (map by_side ts)
  same_numbers = all_numbered ts listed_below
