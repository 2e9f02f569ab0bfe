-- Which part has which number, by recursion on the block.
--
-- PlaceIn body n up others p x  == among the parts of a block, x has the number p
use Rattle.std.proofs.Common.{◌≡◌, ◌<◌, ◌≤◌, ◌+◌, ◌-◌, ℕ, Bool, true, false, ◌⊎◌, inl, inr, Option, Some, None, List, [], ◌∷◌, ◌++◌, length, length-append, refl, arith}
use Rattle.hpr_syntax.specs.declared.rows.Content.TheVariants.{If, While}
use Rattle.hpr_syntax.specs.Rows.{content_by}
use Rattle.hpr_syntax.specs.Body.{Body, done, action, branch, loop, part_count}
use Rattle.hpr_syntax.specs.Tree.{Tree}
use Rattle.hpr_paths.proofs.Placed.{HasAt, has_left, has_right, has_split, has_low, has_high, get_of_has, has_of_get, some_has}
use Rattle.hpr_build.specs.declared.places.Parent.{Parent}
use Rattle.hpr_build.specs.declared.places.Span.{Span}
use Rattle.hpr_build.specs.Places.{Place, place_of, places_of, places, place_at}

abbrev pub under : ℕ → Bool → Option Parent
under n label = Some (record { point = n; label = label })

abbrev pub span : ℕ → ℕ → Span
span from to = record { from = from; to = to }

pub count_places : (b : Body) (n : ℕ) (up : Option Parent) (os : List Span) → length (places_of b n up os) ≡ part_count b
count_places done n up os = refl
count_places (action t d rest) n up os = omega (arith, count_places rest (n + 1) up os)
count_places (branch t e a b rest) n up os =
    let no : ℕ = n + 1 + part_count a in
    let next : ℕ = no + part_count b in
    let A : List Place = places_of a (n + 1) (under n true) (os ++ span no next ∷ []) in
    let B : List Place = places_of b no (under n false) os in
    let C : List Place = places_of rest next up os in
    omega (arith, count_places a (n + 1) (under n true) (os ++ span no next ∷ []), count_places b no (under n false) os, count_places rest next up os, length-append A (B ++ C), length-append B C)
count_places (loop t e b rest) n up os =
    let next : ℕ = n + 1 + part_count b in
    omega (arith, count_places b (n + 1) (under n true) os, count_places rest next up os, length-append (places_of b (n + 1) (under n true) os) (places_of rest next up os))

abbrev pub PlaceIn : Body → ℕ → Option Parent → List Span → ℕ → Place → Type 0
PlaceIn done n up os p x = ⊥
PlaceIn (action t d rest) n up os p x = ((p ≡ n) × (x ≡ place_of t (content_by d) up os)) ⊎ PlaceIn rest (n + 1) up os p x
PlaceIn (branch t e a b rest) n up os p x =
    let no = n + 1 + part_count a in
    let next = no + part_count b in
    ((p ≡ n) × (x ≡ place_of t (If e) up os))
    ⊎ (PlaceIn a (n + 1) (under n true) (os ++ span no next ∷ []) p x ⊎ (PlaceIn b no (under n false) os p x ⊎ PlaceIn rest next up os p x))
PlaceIn (loop t e b rest) n up os p x =
    let next = n + 1 + part_count b in
    ((p ≡ n) × (x ≡ place_of t (While e) up os)) ⊎ (PlaceIn b (n + 1) (under n true) os p x ⊎ PlaceIn rest next up os p x)

in_of_has : (b : Body) (n : ℕ) (up : Option Parent) (os : List Span) (p : ℕ) (x : Place) → HasAt (places_of b n up os) n p x → PlaceIn b n up os p x
in_of_has done n up os p x h = absurd h
in_of_has (action t d rest) n up os p x (inl h) = inl h
in_of_has (action t d rest) n up os p x (inr h) = inr (in_of_has rest (n + 1) up os p x h)
in_of_has (branch t e a b rest) n up os p x (inl h) = inl h
in_of_has (branch t e a b rest) n up os p x (inr h) =
    let no : ℕ = n + 1 + part_count a in
    let next : ℕ = no + part_count b in
    let inside : List Span = os ++ span no next ∷ [] in
    let one : no ≡ n + 1 + length (places_of a (n + 1) (under n true) inside) = omega (arith, count_places a (n + 1) (under n true) inside) in
    let two : next ≡ no + length (places_of b no (under n false) os) = omega (arith, count_places b no (under n false) os) in
    elim (has_split (places_of a (n + 1) (under n true) inside) (places_of b no (under n false) os ++ places_of rest next up os) (n + 1) no p x one h) [
      | inl i ↦ inr (inl (in_of_has a (n + 1) (under n true) inside p x i))
      | inr j ↦ elim (has_split (places_of b no (under n false) os) (places_of rest next up os) no next p x two j) [
        | inl i ↦ inr (inr (inl (in_of_has b no (under n false) os p x i)))
        | inr i ↦ inr (inr (inr (in_of_has rest next up os p x i)))
      ]
    ]
in_of_has (loop t e b rest) n up os p x (inl h) = inl h
in_of_has (loop t e b rest) n up os p x (inr h) =
    let next : ℕ = n + 1 + part_count b in
    let one : next ≡ n + 1 + length (places_of b (n + 1) (under n true) os) = omega (arith, count_places b (n + 1) (under n true) os) in
    elim (has_split (places_of b (n + 1) (under n true) os) (places_of rest next up os) (n + 1) next p x one h) [
      | inl i ↦ inr (inl (in_of_has b (n + 1) (under n true) os p x i))
      | inr i ↦ inr (inr (in_of_has rest next up os p x i))
    ]

has_of_in : (b : Body) (n : ℕ) (up : Option Parent) (os : List Span) (p : ℕ) (x : Place) → PlaceIn b n up os p x → HasAt (places_of b n up os) n p x
has_of_in done n up os p x h = absurd h
has_of_in (action t d rest) n up os p x (inl h) = inl h
has_of_in (action t d rest) n up os p x (inr h) = inr (has_of_in rest (n + 1) up os p x h)
has_of_in (branch t e a b rest) n up os p x (inl h) = inl h
has_of_in (branch t e a b rest) n up os p x (inr h) =
    let no : ℕ = n + 1 + part_count a in
    let next : ℕ = no + part_count b in
    let inside : List Span = os ++ span no next ∷ [] in
    let A : List Place = places_of a (n + 1) (under n true) inside in
    let B : List Place = places_of b no (under n false) os in
    let C : List Place = places_of rest next up os in
    let one : no ≡ n + 1 + length A = omega (arith, count_places a (n + 1) (under n true) inside) in
    let two : next ≡ no + length B = omega (arith, count_places b no (under n false) os) in
    inr (elim h [
      | inl i ↦ has_left A (B ++ C) (n + 1) p x (has_of_in a (n + 1) (under n true) inside p x i)
      | inr j ↦ has_right A (B ++ C) (n + 1) no p x one (elim j [
        | inl i ↦ has_left B C no p x (has_of_in b no (under n false) os p x i)
        | inr i ↦ has_right B C no next p x two (has_of_in rest next up os p x i)
      ])
    ])
has_of_in (loop t e b rest) n up os p x (inl h) = inl h
has_of_in (loop t e b rest) n up os p x (inr h) =
    let next : ℕ = n + 1 + part_count b in
    let B : List Place = places_of b (n + 1) (under n true) os in
    let C : List Place = places_of rest next up os in
    let one : next ≡ n + 1 + length B = omega (arith, count_places b (n + 1) (under n true) os) in
    inr (elim h [
      | inl i ↦ has_left B C (n + 1) p x (has_of_in b (n + 1) (under n true) os p x i)
      | inr i ↦ has_right B C (n + 1) next p x one (has_of_in rest next up os p x i)
    ])

pub place_range : (b : Body) (n : ℕ) (up : Option Parent) (os : List Span) (p : ℕ) (x : Place) → PlaceIn b n up os p x → (n ≤ p) × (p < n + part_count b)
place_range b n up os p x h =
    let has = has_of_in b n up os p x h in
    (has_low (places_of b n up os) n p x has, omega (arith, has_high (places_of b n up os) n p x has, count_places b n up os))

-- each number of the block is a part's
pub some_place : (b : Body) (n : ℕ) (up : Option Parent) (os : List Span) (p : ℕ) → n ≤ p → p < n + part_count b → (x : Place) × PlaceIn b n up os p x
some_place b n up os p low high =
    let k = some_has (places_of b n up os) n p low (omega (arith, high, count_places b n up os)) in
    (k.0, in_of_has b n up os p k.0 k.1)

-- among the parts of a program
abbrev pub PartAt : Tree → ℕ → Place → Type 0
PartAt t p x = PlaceIn t.body 1 None [] p x

pub part_of_place : (t : Tree) (p : ℕ) (x : Place) → 0 < p → place_at (places t) p ≡ Some x → PartAt t p x
part_of_place t p x l h = in_of_has t.body 1 None [] p x (has_of_get (places t) 1 p (p - 1) x (omega arith) h)

pub place_of_part : (t : Tree) (p : ℕ) (x : Place) → PartAt t p x → (0 < p) × (place_at (places t) p ≡ Some x)
place_of_part t p x h =
    let r = place_range t.body 1 None [] p x h in
    (omega (arith, r.0), get_of_has (places t) 1 p (p - 1) x (omega (arith, r.0)) (has_of_in t.body 1 None [] p x h))
