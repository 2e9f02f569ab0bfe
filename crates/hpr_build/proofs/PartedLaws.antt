-- Parts in different branches, by number and by tag.
use Rattle.std.proofs.Common.{◌≡◌, ◌<◌, ◌≤◌, ◌+◌, ℕ, true, false, ◌⊎◌, ◌↔◌, inl, inr, Option, Some, None, List, [], ◌∷◌, ◌++◌, Contains, refl, sym, ap, ◌∙◌, subst, arith}
use Rattle.std.proofs.lemmas.List.Elements.{Contains-append_left, Contains-push, Contains-push_cases}
use Rattle.hpr_terms.specs.declared.tag.Tag.{Tag}
use Rattle.hpr_syntax.specs.Body.{Body, done, action, branch, loop, part_count}
use Rattle.hpr_syntax.specs.Tree.{Tree}
use Rattle.hpr_syntax.specs.Skeleton.{Point, at, skeleton, StandsIn}
use Rattle.hpr_syntax.specs.Places.{StandsLeft, Parted}
use Rattle.hpr_syntax.specs.Shape.{IsProgram}
use Rattle.hpr_paths.specs.Successors.{spots}
use Rattle.hpr_paths.specs.Numbers.{IsNumberOf}
use Rattle.hpr_paths.proofs.Two.{TwoIn, wider}
use Rattle.hpr_paths.proofs.Tags.{number_once}
use Rattle.hpr_paths.proofs.Left.{left_by_number, number_left}
use Rattle.hpr_build.specs.declared.places.Parent.{Parent}
use Rattle.hpr_build.specs.declared.places.Span.{Span}
use Rattle.hpr_build.specs.Places.{Place, place_of, places, others_of, others_at, IsAmong, IsParted}
use Rattle.hpr_build.specs.Orders.{IsBefore}
use Rattle.hpr_build.proofs.PlaceIn.{under, span, PlaceIn, PartAt, place_range, some_place, place_of_part}
use Rattle.hpr_build.proofs.PlaceLaws.{number_of_part, part_of_number}

abbrev Up : Type 0
Up = Option Parent

head_tag : (x : Place) (t : Tag) (c : _) (up : Up) (os : List Span) → x ≡ place_of t c up os → at x.tag ≡ at t
head_tag x t c up os is = ap (λ (y : Place). at y.tag) is

head_others : (x : Place) (t : Tag) (c : _) (up : Up) (os : List Span) (r : Span) → x ≡ place_of t c up os → Contains x.others r → Contains os r
head_others x t c up os r is h = subst (λ (y : Place). Contains y.others r) is h

others_head : (x : Place) (t : Tag) (c : _) (up : Up) (os : List Span) (r : Span) → x ≡ place_of t c up os → Contains os r → Contains x.others r
others_head x t c up os r is h = subst (λ (y : Place). Contains y.others r) (sym is) h

stands_in : (b : Body) (n : ℕ) (up : Up) (os : List Span) (p : ℕ) (x : Place) → PlaceIn b n up os p x → StandsIn (skeleton b) (at x.tag)
stands_in done n up os p x h = absurd h
stands_in (action t d rest) n up os p x (inl h) = inl (head_tag x t _ up os h.1)
stands_in (action t d rest) n up os p x (inr h) = inr (stands_in rest (n + 1) up os p x h)
stands_in (branch t e a b rest) n up os p x (inl h) = inl (head_tag x t _ up os h.1)
stands_in (branch t e a b rest) n up os p x (inr h) =
    let no : ℕ = n + 1 + part_count a in
    let next : ℕ = no + part_count b in
    inr (elim h [
      | inl i ↦ inl (stands_in a (n + 1) (under n true) (os ++ span no next ∷ []) p x i)
      | inr j ↦ inr (elim j [ inl i ↦ inl (stands_in b no (under n false) os p x i) | inr i ↦ inr (stands_in rest next up os p x i) ])
    ])
stands_in (loop t e b rest) n up os p x (inl h) = inl (head_tag x t _ up os h.1)
stands_in (loop t e b rest) n up os p x (inr h) =
    inr (elim h [ inl i ↦ inl (stands_in b (n + 1) (under n true) os p x i) | inr i ↦ inr (stands_in rest (n + 1 + part_count b) up os p x i) ])

-- the second branches around a block are around each of its parts
others_kept : (b : Body) (n : ℕ) (up : Up) (os : List Span) (p : ℕ) (x : Place) (r : Span) → PlaceIn b n up os p x → Contains os r → Contains x.others r
others_kept done n up os p x r h c = absurd h
others_kept (action t d rest) n up os p x r (inl h) c = others_head x t _ up os r h.1 c
others_kept (action t d rest) n up os p x r (inr h) c = others_kept rest (n + 1) up os p x r h c
others_kept (branch t e a b rest) n up os p x r (inl h) c = others_head x t _ up os r h.1 c
others_kept (branch t e a b rest) n up os p x r (inr h) c =
    let no : ℕ = n + 1 + part_count a in
    let next : ℕ = no + part_count b in
    elim h [
      | inl i ↦ others_kept a (n + 1) (under n true) (os ++ span no next ∷ []) p x r i (Contains-append_left os (span no next ∷ []) r c)
      | inr j ↦ elim j [ inl i ↦ others_kept b no (under n false) os p x r i c | inr i ↦ others_kept rest next up os p x r i c ]
    ]
others_kept (loop t e b rest) n up os p x r (inl h) c = others_head x t _ up os r h.1 c
others_kept (loop t e b rest) n up os p x r (inr h) c =
    elim h [ inl i ↦ others_kept b (n + 1) (under n true) os p x r i c | inr i ↦ others_kept rest (n + 1 + part_count b) up os p x r i c ]

place_standing : (b : Body) (n : ℕ) (up : Up) (os : List Span) (d : Point) → StandsIn (skeleton b) d → (p : ℕ) × (x : Place) × PlaceIn b n up os p x × (d ≡ at x.tag)
place_standing done n up os d h = absurd h
place_standing (action t action_ rest) n up os d (inl h) = (n, _, inl (refl, refl), h)
place_standing (action t action_ rest) n up os d (inr h) = let k = place_standing rest (n + 1) up os d h in (k.0, k.1, inr k.2, k.3)
place_standing (branch t e a b rest) n up os d (inl h) = (n, _, inl (refl, refl), h)
place_standing (branch t e a b rest) n up os d (inr h) =
    let no : ℕ = n + 1 + part_count a in
    let next : ℕ = no + part_count b in
    elim h [
      | inl i ↦ (let k = place_standing a (n + 1) (under n true) (os ++ span no next ∷ []) d i in (k.0, k.1, inr (inl k.2), k.3))
      | inr j ↦ elim j [
        | inl i ↦ (let k = place_standing b no (under n false) os d i in (k.0, k.1, inr (inr (inl k.2)), k.3))
        | inr i ↦ (let k = place_standing rest next up os d i in (k.0, k.1, inr (inr (inr k.2)), k.3))
      ]
    ]
place_standing (loop t e b rest) n up os d (inl h) = (n, _, inl (refl, refl), h)
place_standing (loop t e b rest) n up os d (inr h) =
    elim h [
      | inl i ↦ (let k = place_standing b (n + 1) (under n true) os d i in (k.0, k.1, inr (inl k.2), k.3))
      | inr i ↦ (let k = place_standing rest (n + 1 + part_count b) up os d i in (k.0, k.1, inr (inr k.2), k.3))
    ]

-- the number q is that of a part in another branch
abbrev PartsFrom : (ℕ → Place → Type 0) → Body → Place → ℕ → Type 0
PartsFrom Whole b x q = (y : Place) × Whole q y × Parted (skeleton b) (at x.tag) (at y.tag)

parted_of_among : (Whole : ℕ → Place → Type 0) (b : Body) (n : ℕ) (up : Up) (os : List Span) (p : ℕ) (x : Place) (r : Span) (q : ℕ) → ((p : ℕ) (x : Place) → PlaceIn b n up os p x → Whole p x) → PlaceIn b n up os p x → Contains x.others r → r.from ≤ q → q < r.to
    → Contains os r ⊎ PartsFrom Whole b x q
parted_of_among Whole done n up os p x r q whole h c low high = absurd h
parted_of_among Whole (action t d rest) n up os p x r q whole (inl h) c low high = inl (head_others x t _ up os r h.1 c)
parted_of_among Whole (action t d rest) n up os p x r q whole (inr h) c low high = parted_of_among Whole rest (n + 1) up os p x r q (λ p x i. whole p x (inr i)) h c low high
parted_of_among Whole (branch t e a b rest) n up os p x r q whole (inl h) c low high = inl (head_others x t _ up os r h.1 c)
parted_of_among Whole (branch t e a b rest) n up os p x r q whole (inr h) c low high =
    let no : ℕ = n + 1 + part_count a in
    let next : ℕ = no + part_count b in
    let inside : List Span = os ++ span no next ∷ [] in
    elim h [
      | inl i ↦ elim (parted_of_among Whole a (n + 1) (under n true) inside p x r q (λ p x i. whole p x (inr (inl i))) i c low high) [
        | inl j ↦ elim (Contains-push_cases os (span no next) r j) [
          | inl was ↦ inl was
          | inr is ↦ (let k = some_place b no (under n false) os q (subst (λ (s : Span). s.from ≤ q) (sym is) low) (subst (λ (s : Span). q < s.to) (sym is) high) in
              inr (k.0, whole q k.0 (inr (inr (inl k.1))), inl (inl (stands_in a (n + 1) (under n true) inside p x i, stands_in b no (under n false) os q k.0 k.1))))
        ]
        | inr k ↦ inr (k.0, k.1, inr (inl k.2))
      ]
      | inr j ↦ elim j [
        | inl i ↦ elim (parted_of_among Whole b no (under n false) os p x r q (λ p x i. whole p x (inr (inr (inl i)))) i c low high) [ inl was ↦ inl was | inr k ↦ inr (k.0, k.1, inr (inr (inl k.2))) ]
        | inr i ↦ elim (parted_of_among Whole rest next up os p x r q (λ p x i. whole p x (inr (inr (inr i)))) i c low high) [ inl was ↦ inl was | inr k ↦ inr (k.0, k.1, inr (inr (inr k.2))) ]
      ]
    ]
parted_of_among Whole (loop t e b rest) n up os p x r q whole (inl h) c low high = inl (head_others x t _ up os r h.1 c)
parted_of_among Whole (loop t e b rest) n up os p x r q whole (inr h) c low high =
    elim h [
      | inl i ↦ elim (parted_of_among Whole b (n + 1) (under n true) os p x r q (λ p x i. whole p x (inr (inl i))) i c low high) [ inl was ↦ inl was | inr k ↦ inr (k.0, k.1, inl k.2) ]
      | inr i ↦ elim (parted_of_among Whole rest (n + 1 + part_count b) up os p x r q (λ p x i. whole p x (inr (inr i))) i c low high) [ inl was ↦ inl was | inr k ↦ inr (k.0, k.1, inr k.2) ]
    ]

-- two parts of In for these points, of which the second is in another branch, or has the lower number
abbrev at_place : Place → Point
at_place x = at x.tag

abbrev Apart : ℕ → Place → ℕ → Place → Type 0
Apart p x q _ = IsAmong x.others q ⊎ (q < p)

abbrev Parting : (ℕ → Place → Type 0) → Point → Point → Type 0
Parting In d u = TwoIn at_place Apart In d u

-- a conditional with a part in each branch
fork_parting : (t : Tag) (e : _) (a b rest : Body) (n : ℕ) (up : Up) (os : List Span) (d u : Point) → StandsIn (skeleton a) d → StandsIn (skeleton b) u
    → Parting (PlaceIn (branch t e a b rest) n up os) d u × Parting (PlaceIn (branch t e a b rest) n up os) u d
fork_parting t e a b rest n up os d u i j =
    let no : ℕ = n + 1 + part_count a in
    let next : ℕ = no + part_count b in
    let inside : List Span = os ++ span no next ∷ [] in
    let x = place_standing a (n + 1) (under n true) inside d i in
    let y = place_standing b no (under n false) os u j in
    let low = place_range a (n + 1) (under n true) inside x.0 x.1 x.2 in
    let high = place_range b no (under n false) os y.0 y.1 y.2 in (
      record {
        first = x.0;
        one = x.1;
        stands = inr (inl x.2);
        point = x.3;
        second = y.0;
        other = y.1;
        stands_too = inr (inr (inl y.2));
        point_too = y.3;
        related = inl (span no next, others_kept a (n + 1) (under n true) inside x.0 x.1 (span no next) x.2 (Contains-push os (span no next)), high.0, high.1);
      },
      record {
        first = y.0;
        one = y.1;
        stands = inr (inr (inl y.2));
        point = y.3;
        second = x.0;
        other = x.1;
        stands_too = inr (inl x.2);
        point_too = x.3;
        related = inr (omega (arith, low.1, high.0));
      },
    )

parting_of_parted : (b : Body) (n : ℕ) (up : Up) (os : List Span) (d u : Point) → Parted (skeleton b) d u → Parting (PlaceIn b n up os) d u
parting_of_parted done n up os d u h = absurd h
parting_of_parted (action t action_ rest) n up os d u h = wider at_place Apart (PlaceIn rest (n + 1) up os) (PlaceIn (action t action_ rest) n up os) d u (λ p x i. inr i) (parting_of_parted rest (n + 1) up os d u h)
parting_of_parted (branch t e a b rest) n up os d u (inl (inl h)) = (fork_parting t e a b rest n up os d u h.0 h.1).0
parting_of_parted (branch t e a b rest) n up os d u (inl (inr h)) = (fork_parting t e a b rest n up os u d h.1 h.0).1
parting_of_parted (branch t e a b rest) n up os d u (inr h) =
    let no : ℕ = n + 1 + part_count a in
    let next : ℕ = no + part_count b in
    let inside : List Span = os ++ span no next ∷ [] in
    let Out : ℕ → Place → Type 0 = PlaceIn (branch t e a b rest) n up os in
    elim h [
      | inl i ↦ wider at_place Apart (PlaceIn a (n + 1) (under n true) inside) Out d u (λ p x i. inr (inl i)) (parting_of_parted a (n + 1) (under n true) inside d u i)
      | inr j ↦ elim j [
        | inl i ↦ wider at_place Apart (PlaceIn b no (under n false) os) Out d u (λ p x i. inr (inr (inl i))) (parting_of_parted b no (under n false) os d u i)
        | inr i ↦ wider at_place Apart (PlaceIn rest next up os) Out d u (λ p x i. inr (inr (inr i))) (parting_of_parted rest next up os d u i)
      ]
    ]
parting_of_parted (loop t e b rest) n up os d u h =
    let next : ℕ = n + 1 + part_count b in
    let Out : ℕ → Place → Type 0 = PlaceIn (loop t e b rest) n up os in
    elim h [
      | inl i ↦ wider at_place Apart (PlaceIn b (n + 1) (under n true) os) Out d u (λ p x i. inr (inl i)) (parting_of_parted b (n + 1) (under n true) os d u i)
      | inr i ↦ wider at_place Apart (PlaceIn rest next up os) Out d u (λ p x i. inr (inr i)) (parting_of_parted rest next up os d u i)
    ]

module _ (t : Tree) (prog : IsProgram t) (p q : ℕ) (v w : Tag) (nv : IsNumberOf (spots t) p (at v)) (nw : IsNumberOf (spots t) q (at w)) where
  others_is : (x : Place) → PartAt t p x → others_at (places t) p ≡ x.others
  others_is x h = ap others_of (place_of_part t p x h).1

  once : (m : ℕ) (y : Place) → PartAt t m y → (k : ℕ) (u : Tag) → IsNumberOf (spots t) k (at u) → at u ≡ at y.tag → m ≡ k
  once m y h k u number is = number_once t m k (at u) prog (subst (IsNumberOf (spots t) m) (sym is) (number_of_part t m y h)) number

  tag_by : (k : ℕ) (y : Place) (u : Tag) → PartAt t k y → IsNumberOf (spots t) k (at u) → at y.tag ≡ at u
  tag_by k y u h number =
      let z = part_of_number t k u number in
      let r = place_of_part t k y h in
      let s = place_of_part t k z.0 z.1 in
      let same : Some y ≡ Some z.0 = sym r.1 ∙ s.1 in
      let e : y ≡ z.0 = cc in
      ap (λ (x : Place). at x.tag) e ∙ ap at z.2

  pub parted_sound : IsParted (places t) p q → Parted (skeleton t.body) (at v) (at w)
  parted_sound (r, c, low, high) =
      let k = part_of_number t p v nv in
      elim (parted_of_among (PartAt t) t.body 1 None [] p k.0 r q (λ p x i. i) k.1 (subst (λ (os : List Span). Contains os r) (others_is k.0 k.1) c) low high) [
        | inl none ↦ absurd (omega (arith, none.1))
        | inr y ↦ subst (λ (d : Point). Parted (skeleton t.body) d (at w)) (ap at k.2)
            (subst (λ (u : Point). Parted (skeleton t.body) (at k.0.tag) u) (tag_by q y.0 w y.1 nw) y.2)
      ]

  pub parted_complete : p < q → Parted (skeleton t.body) (at v) (at w) → IsParted (places t) p q
  parted_complete l h =
      let k = parting_of_parted t.body 1 None [] (at v) (at w) h in
      let first : k.first ≡ p = once k.first k.one k.stands p v nv k.point in
      let second : k.second ≡ q = once k.second k.other k.stands_too q w nw k.point_too in
      elim k.related [
        | inl among ↦ subst (λ (m : ℕ). IsAmong (others_at (places t) p) m) second
            (subst (λ (os : List Span). IsAmong os k.second) (sym (others_is k.one (subst (λ (m : ℕ). PartAt t m k.one) first k.stands))) among)
        | inr less ↦ absurd (omega (arith, less, first, second, l))
      ]

  pub before_by_tags : IsBefore (places t) p q ↔ (StandsLeft (skeleton t.body) (at v) (at w) × ¬ Parted (skeleton t.body) (at v) (at w))
  before_by_tags = (
    (λ (l, apart). (left_by_number t p q v w nv nw l, λ h. apart (parted_complete l h))),
    (λ (left, apart). (number_left t p q (at v) (at w) prog nv nw left, λ h. apart (parted_sound h))),
  )
