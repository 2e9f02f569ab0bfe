-- What stands at which number, by recursion on the block.
--
-- SpotIn body first follow nest p s == among the points of a block, s has the number p
-- WholeIn tree p s                == among the points of a program, s has the number p
use Rattle.std.proofs.Common.{◌≡◌, ◌+◌, ℕ, true, ◌⊎◌, inl, inr, Some, List, [], ◌∷◌, ◌++◌, length, length-append, refl, arith}
use Rattle.std.specs.List.{slice_get}
use Rattle.hpr_syntax.specs.declared.rows.Content.TheVariants.{If, While}
use Rattle.hpr_syntax.specs.Rows.{content_by}
use Rattle.hpr_syntax.specs.Body.{Body, done, action, branch, loop, part_count}
use Rattle.hpr_syntax.specs.Tree.{Tree}
use Rattle.hpr_paths.specs.declared.spot.Step.{Step}
use Rattle.hpr_paths.specs.Spots.{enter, part, exit, Spot}
use Rattle.hpr_paths.specs.Successors.{first_step, step_to, spot_of, spots_of, spots}
use Rattle.hpr_paths.proofs.Placed.{HasAt, has_left, has_right, has_split, get_of_has, has_of_get}

pub count_spots : (b : Body) (n : ℕ) (f : Step) (w : List ℕ) → length (spots_of b n f w) ≡ part_count b
count_spots done n f w = refl
count_spots (action t d rest) n f w = omega (arith, count_spots rest (n + 1) f w)
count_spots (branch t e a b rest) n f w =
    let no : ℕ = n + 1 + part_count a in
    let next : ℕ = no + part_count b in
    let after : Step = first_step rest next f in
    let one = count_spots a (n + 1) after w in
    let two = count_spots b no after w in
    let three = count_spots rest next f w in
    omega (arith, one, two, three, length-append (spots_of a (n + 1) after w) (spots_of b no after w ++ spots_of rest next f w), length-append (spots_of b no after w) (spots_of rest next f w))
count_spots (loop t e b rest) n f w =
    let next : ℕ = n + 1 + part_count b in
    let again : Step = record { to = n; back = true } in
    let one = count_spots b (n + 1) again (w ++ n ∷ []) in
    let two = count_spots rest next f w in
    omega (arith, one, two, length-append (spots_of b (n + 1) again (w ++ n ∷ [])) (spots_of rest next f w))

abbrev pub SpotIn : Body → ℕ → Step → List ℕ → ℕ → Spot → Type 0
SpotIn done n f w p s = ⊥
SpotIn (action t d rest) n f w p s =
    ((p ≡ n) × (s ≡ spot_of (first_step rest (n + 1) f ∷ []) w (part t (content_by d)))) ⊎ SpotIn rest (n + 1) f w p s
SpotIn (branch t e a b rest) n f w p s =
    let no = n + 1 + part_count a in
    let next = no + part_count b in
    let after = first_step rest next f in
    ((p ≡ n) × (s ≡ spot_of (first_step a (n + 1) after ∷ first_step b no after ∷ []) w (part t (If e))))
    ⊎ (SpotIn a (n + 1) after w p s ⊎ (SpotIn b no after w p s ⊎ SpotIn rest next f w p s))
SpotIn (loop t e b rest) n f w p s =
    let next = n + 1 + part_count b in
    let again : Step = record { to = n; back = true } in
    let inside = w ++ n ∷ [] in
    ((p ≡ n) × (s ≡ spot_of (first_step b (n + 1) again ∷ first_step rest next f ∷ []) inside (part t (While e))))
    ⊎ (SpotIn b (n + 1) again inside p s ⊎ SpotIn rest next f w p s)

pub in_of_has : (b : Body) (n : ℕ) (f : Step) (w : List ℕ) (p : ℕ) (s : Spot) → HasAt (spots_of b n f w) n p s → SpotIn b n f w p s
in_of_has done n f w p s h = absurd h
in_of_has (action t d rest) n f w p s (inl h) = inl h
in_of_has (action t d rest) n f w p s (inr h) = inr (in_of_has rest (n + 1) f w p s h)
in_of_has (branch t e a b rest) n f w p s (inl h) = inl h
in_of_has (branch t e a b rest) n f w p s (inr h) =
    let no : ℕ = n + 1 + part_count a in
    let next : ℕ = no + part_count b in
    let after : Step = first_step rest next f in
    let one : no ≡ n + 1 + length (spots_of a (n + 1) after w) = omega (arith, count_spots a (n + 1) after w) in
    let two : next ≡ no + length (spots_of b no after w) = omega (arith, count_spots b no after w) in
    elim (has_split (spots_of a (n + 1) after w) (spots_of b no after w ++ spots_of rest next f w) (n + 1) no p s one h) [
      | inl x ↦ inr (inl (in_of_has a (n + 1) after w p s x))
      | inr y ↦ elim (has_split (spots_of b no after w) (spots_of rest next f w) no next p s two y) [
        | inl x ↦ inr (inr (inl (in_of_has b no after w p s x)))
        | inr z ↦ inr (inr (inr (in_of_has rest next f w p s z)))
      ]
    ]
in_of_has (loop t e b rest) n f w p s (inl h) = inl h
in_of_has (loop t e b rest) n f w p s (inr h) =
    let next : ℕ = n + 1 + part_count b in
    let again : Step = record { to = n; back = true } in
    let inside : List ℕ = w ++ n ∷ [] in
    let one : next ≡ n + 1 + length (spots_of b (n + 1) again inside) = omega (arith, count_spots b (n + 1) again inside) in
    elim (has_split (spots_of b (n + 1) again inside) (spots_of rest next f w) (n + 1) next p s one h) [
      | inl x ↦ inr (inl (in_of_has b (n + 1) again inside p s x))
      | inr z ↦ inr (inr (in_of_has rest next f w p s z))
    ]

pub has_of_in : (b : Body) (n : ℕ) (f : Step) (w : List ℕ) (p : ℕ) (s : Spot) → SpotIn b n f w p s → HasAt (spots_of b n f w) n p s
has_of_in done n f w p s h = absurd h
has_of_in (action t d rest) n f w p s (inl h) = inl h
has_of_in (action t d rest) n f w p s (inr h) = inr (has_of_in rest (n + 1) f w p s h)
has_of_in (branch t e a b rest) n f w p s (inl h) = inl h
has_of_in (branch t e a b rest) n f w p s (inr h) =
    let no : ℕ = n + 1 + part_count a in
    let next : ℕ = no + part_count b in
    let after : Step = first_step rest next f in
    let one : no ≡ n + 1 + length (spots_of a (n + 1) after w) = omega (arith, count_spots a (n + 1) after w) in
    let two : next ≡ no + length (spots_of b no after w) = omega (arith, count_spots b no after w) in
    inr (elim h [
      | inl x ↦ has_left (spots_of a (n + 1) after w) (spots_of b no after w ++ spots_of rest next f w) (n + 1) p s (has_of_in a (n + 1) after w p s x)
      | inr y ↦ has_right (spots_of a (n + 1) after w) (spots_of b no after w ++ spots_of rest next f w) (n + 1) no p s one (elim y [
        | inl x ↦ has_left (spots_of b no after w) (spots_of rest next f w) no p s (has_of_in b no after w p s x)
        | inr z ↦ has_right (spots_of b no after w) (spots_of rest next f w) no next p s two (has_of_in rest next f w p s z)
      ])
    ])
has_of_in (loop t e b rest) n f w p s (inl h) = inl h
has_of_in (loop t e b rest) n f w p s (inr h) =
    let next : ℕ = n + 1 + part_count b in
    let again : Step = record { to = n; back = true } in
    let inside : List ℕ = w ++ n ∷ [] in
    let one : next ≡ n + 1 + length (spots_of b (n + 1) again inside) = omega (arith, count_spots b (n + 1) again inside) in
    inr (elim h [
      | inl x ↦ has_left (spots_of b (n + 1) again inside) (spots_of rest next f w) (n + 1) p s (has_of_in b (n + 1) again inside p s x)
      | inr z ↦ has_right (spots_of b (n + 1) again inside) (spots_of rest next f w) (n + 1) next p s one (has_of_in rest next f w p s z)
    ])

-- the step to Exit
abbrev pub end_of : Tree → Step
end_of t = step_to (part_count t.body + 1)

abbrev pub WholeIn : Tree → ℕ → Spot → Type 0
WholeIn t p s =
    ((p ≡ 0) × (s ≡ spot_of (first_step t.body 1 (end_of t) ∷ []) [] enter))
    ⊎ (SpotIn t.body 1 (end_of t) [] p s ⊎ ((p ≡ part_count t.body + 1) × (s ≡ spot_of [] [] (exit t.finals))))

pub get_of_whole : (t : Tree) (p : ℕ) (s : Spot) → WholeIn t p s → slice_get (spots t) p ≡ Some s
get_of_whole t p s h =
    let rows : List Spot = spots_of t.body 1 (end_of t) [] in
    let last : List Spot = spot_of [] [] (exit t.finals) ∷ [] in
    let e : part_count t.body + 1 ≡ 1 + length rows = omega (arith, count_spots t.body 1 (end_of t) []) in
    let has : HasAt (spots t) 0 p s = elim h [
      | inl a ↦ inl a
      | inr y ↦ elim y [
        | inl x ↦ inr (has_left rows last 1 p s (has_of_in t.body 1 (end_of t) [] p s x))
        | inr z ↦ inr (has_right rows last 1 (part_count t.body + 1) p s e (inl z))
      ]
    ] in
    get_of_has (spots t) 0 p p s (omega arith) has

pub whole_of_get : (t : Tree) (p : ℕ) (s : Spot) → slice_get (spots t) p ≡ Some s → WholeIn t p s
whole_of_get t p s h =
    let rows : List Spot = spots_of t.body 1 (end_of t) [] in
    let last : List Spot = spot_of [] [] (exit t.finals) ∷ [] in
    let e : part_count t.body + 1 ≡ 1 + length rows = omega (arith, count_spots t.body 1 (end_of t) []) in
    let has : HasAt (spots t) 0 p s = has_of_get (spots t) 0 p p s (omega arith) h in
    elim has [
      | inl a ↦ inl a
      | inr y ↦ elim (has_split rows last 1 (part_count t.body + 1) p s e y) [
        | inl x ↦ inr (inl (in_of_has t.body 1 (end_of t) [] p s x))
        | inr z ↦ elim z [ inl a ↦ inr (inr a) | inr b ↦ absurd b ]
      ]
    ]

pub count_whole : (t : Tree) → length (spots t) ≡ part_count t.body + 2
count_whole t =
    let rows : List Spot = spots_of t.body 1 (end_of t) [] in
    omega (arith, count_spots t.body 1 (end_of t) [], length-append rows (spot_of [] [] (exit t.finals) ∷ []))
