-- Where a part stands, by number and by tag.
use Rattle.std.proofs.Common.{◌≡◌, ◌<◌, ◌≤◌, ◌+◌, ℕ, Bool, true, false, inl, inr, Option, Some, None, List, [], ◌∷◌, ◌++◌, refl, sym, ap, ◌∙◌, subst, arith}
use Rattle.std.specs.Option.{option_and_then}
use Rattle.std.proofs.lemmas.Option.{same_Some}
use Rattle.hpr_terms.specs.declared.tag.Tag.{Tag}
use Rattle.hpr_syntax.specs.declared.rows.Content.{Content}
use Rattle.hpr_syntax.specs.declared.rows.Content.TheVariants.{If, While}
use Rattle.hpr_syntax.specs.Rows.{content_by}
use Rattle.hpr_syntax.specs.Body.{Body, done, action, branch, loop, part_count}
use Rattle.hpr_syntax.specs.Tree.{Tree}
use Rattle.hpr_syntax.specs.Skeleton as points
use Rattle.hpr_syntax.specs.Nests.{Standing, StandsAs, StandsAsIn}
use Rattle.hpr_paths.specs.declared.spot.Step.{Step}
use Rattle.hpr_paths.specs.Spots.{Role, enter, part, exit, Spot, point_of, tag_of, role_at, tag_at}
use Rattle.hpr_paths.specs.Successors.{first_step, spots}
use Rattle.hpr_paths.specs.Numbers.{IsNumberOf}
use Rattle.hpr_paths.proofs.Stands.{SpotIn, WholeIn, end_of, get_of_whole, whole_of_get}
use Rattle.hpr_paths.proofs.Names.{role_of_get, get_of_role}
use Rattle.hpr_paths.proofs.Sound.{number_in}
use Rattle.hpr_build.specs.declared.places.Parent.{Parent}
use Rattle.hpr_build.specs.declared.places.Span.{Span}
use Rattle.hpr_build.specs.Places.{Place, place_of, IsParentOf}
use Rattle.hpr_build.proofs.PlaceIn.{under, span, PlaceIn, PartAt, some_place}

abbrev Up : Type 0
Up = Option Parent

abbrev TagUp : Type 0
TagUp = Option (Tag × Bool)

-- a part's spot has the same number
abbrev SpotSo : Body → ℕ → Step → List ℕ → ℕ → Place → Type 0
SpotSo b n f w p x = (s : Spot) × SpotIn b n f w p s × (s.role ≡ part x.tag x.content)

role_of : (x : Place) (t : Tag) (c : Content) (up : Up) (os : List Span) → x ≡ place_of t c up os → part t c ≡ part x.tag x.content
role_of x t c up os is = ap (λ (y : Place). part y.tag y.content) (sym is)

spot_of_place : (b : Body) (n : ℕ) (f : Step) (w : List ℕ) (up : Up) (os : List Span) (p : ℕ) (x : Place) → PlaceIn b n up os p x → SpotSo b n f w p x
spot_of_place done n f w up os p x h = absurd h
spot_of_place (action t d rest) n f w up os p x (inl h) = (_, inl (h.0, refl), role_of x t (content_by d) up os h.1)
spot_of_place (action t d rest) n f w up os p x (inr h) = let k = spot_of_place rest (n + 1) f w up os p x h in (k.0, inr k.1, k.2)
spot_of_place (branch t e a b rest) n f w up os p x (inl h) = (_, inl (h.0, refl), role_of x t (If e) up os h.1)
spot_of_place (branch t e a b rest) n f w up os p x (inr h) =
    let no : ℕ = n + 1 + part_count a in
    let next : ℕ = no + part_count b in
    let after : Step = first_step rest next f in
    elim h [
      | inl i ↦ (let k = spot_of_place a (n + 1) after w (under n true) (os ++ span no next ∷ []) p x i in (k.0, inr (inl k.1), k.2))
      | inr j ↦ elim j [
        | inl i ↦ (let k = spot_of_place b no after w (under n false) os p x i in (k.0, inr (inr (inl k.1)), k.2))
        | inr i ↦ (let k = spot_of_place rest next f w up os p x i in (k.0, inr (inr (inr k.1)), k.2))
      ]
    ]
spot_of_place (loop t e b rest) n f w up os p x (inl h) = (_, inl (h.0, refl), role_of x t (While e) up os h.1)
spot_of_place (loop t e b rest) n f w up os p x (inr h) =
    let next : ℕ = n + 1 + part_count b in
    elim h [
      | inl i ↦ (let k = spot_of_place b (n + 1) (record { to = n; back = true }) (w ++ n ∷ []) (under n true) os p x i in (k.0, inr (inl k.1), k.2))
      | inr i ↦ (let k = spot_of_place rest next f w up os p x i in (k.0, inr (inr k.1), k.2))
    ]

pub role_of_part : (t : Tree) (p : ℕ) (x : Place) → PartAt t p x → role_at (spots t) p ≡ Some (part x.tag x.content)
role_of_part t p x h =
    let k = spot_of_place t.body 1 (end_of t) [] None [] p x h in
    role_of_get (spots t) p k.0 (get_of_whole t p k.0 (inr (inl k.1))) ∙ ap (λ (r : Role). Some r) k.2

pub tag_of_part : (t : Tree) (p : ℕ) (x : Place) → PartAt t p x → tag_at (spots t) p ≡ Some x.tag
tag_of_part t p x h = ap (option_and_then tag_of) (role_of_part t p x h)

pub number_of_part : (t : Tree) (p : ℕ) (x : Place) → PartAt t p x → IsNumberOf (spots t) p (points.at x.tag)
number_of_part t p x h = (part x.tag x.content, role_of_part t p x h, refl)

range_of_role : (t : Tree) (p : ℕ) (s : Spot) (v : Tag) (c : Content) → WholeIn t p s → s.role ≡ part v c → (1 ≤ p) × (p < 1 + part_count t.body)
range_of_role t p s v c (inl h) is = let r : enter ≡ part v c = sym (ap (λ (q : Spot). q.role) h.1) ∙ is in absurd cc
range_of_role t p s v c (inr (inl h)) is = let k = number_in t p s h in (k.0, omega (arith, k.1))
range_of_role t p s v c (inr (inr h)) is = let r : exit t.finals ≡ part v c = sym (ap (λ (q : Spot). q.role) h.1) ∙ is in absurd cc

-- the part of a role
pub part_of_role : (t : Tree) (p : ℕ) (v : Tag) (c : Content) → role_at (spots t) p ≡ Some (part v c) → (x : Place) × PartAt t p x × (x.tag ≡ v) × (x.content ≡ c)
part_of_role t p v c h =
    let g = get_of_role (spots t) p (part v c) h in
    let r = range_of_role t p g.0 v c (whole_of_get t p g.0 g.1) g.2 in
    let k = some_place t.body 1 None [] p r.0 r.1 in
    let same : part k.0.tag k.0.content ≡ part v c = same_Some (part k.0.tag k.0.content) (part v c) (sym (role_of_part t p k.0 k.1) ∙ h) in
    (k.0, k.1, cc, cc)

part_by_role : (t : Tree) (p : ℕ) (v : Tag) (r : Role) → role_at (spots t) p ≡ Some r → points.at v ≡ point_of r → (x : Place) × PartAt t p x × (x.tag ≡ v)
part_by_role t p v enter is h = absurd cc
part_by_role t p v (part u c) is h = let k = part_of_role t p u c is in (k.0, k.1, cc)
part_by_role t p v (exit finals) is h = absurd cc

-- the part of a number
pub part_of_number : (t : Tree) (p : ℕ) (v : Tag) → IsNumberOf (spots t) p (points.at v) → (x : Place) × PartAt t p x × (x.tag ≡ v)
part_of_number t p v (r, is, h) = part_by_role t p v r is h

module _ (S : List Spot) where
  -- the parts of a block have their tags in S
  abbrev Tagged : Body → ℕ → Up → List Span → Type 0
  Tagged b n up os = (p : ℕ) (x : Place) → PlaceIn b n up os p x → tag_at S p ≡ Some x.tag

  parent_here : (n : ℕ) (t : Tag) (label : Bool) → tag_at S n ≡ Some t → IsParentOf S (under n label) (Some (t, label))
  parent_here n t label is = (t, is, refl)

  -- a part stands so, and what its place says is so
  abbrev StandsSo : List Tag → TagUp → Body → Place → Type 0
  StandsSo nest up b x = (s : Standing) × StandsAs nest up b x.tag s × (s.content ≡ x.content) × IsParentOf S x.parent s.parent

  here : (nest out : List Tag) (tup : TagUp) (b : Body) (t : Tag) (c : Content) (up : Up) (os : List Span) (x : Place) → x ≡ place_of t c up os → IsParentOf S up tup
      → (x.tag ≡ t → StandsAs nest tup b x.tag (record { content = c; nest = out; parent = tup })) → StandsSo nest tup b x
  here nest out tup b t c up os x is parent stands =
      (record { content = c; nest = out; parent = tup }, stands (ap (λ (y : Place). y.tag) is), ap (λ (y : Place). y.content) (sym is), subst (λ (u : Up). IsParentOf S u tup) (ap (λ (y : Place). y.parent) (sym is)) parent)

  stands_of_place : (b : Body) (n : ℕ) (up : Up) (os : List Span) (nest : List Tag) (tup : TagUp) (p : ℕ) (x : Place) → Tagged b n up os → IsParentOf S up tup → PlaceIn b n up os p x → StandsSo nest tup b x
  stands_of_place done n up os nest tup p x tagged parent h = absurd h
  stands_of_place (action t action_ rest) n up os nest tup p x tagged parent (inl h) = here nest nest tup (action t action_ rest) t (content_by action_) up os x h.1 parent (λ is. inl (is, refl))
  stands_of_place (action t d rest) n up os nest tup p x tagged parent (inr h) =
      let k = stands_of_place rest (n + 1) up os nest tup p x (λ p x i. tagged p x (inr i)) parent h in (k.0, inr k.1, k.2, k.3)
  stands_of_place (branch t e a b rest) n up os nest tup p x tagged parent (inl h) = here nest nest tup (branch t e a b rest) t (If e) up os x h.1 parent (λ is. inl (is, refl))
  stands_of_place (branch t e a b rest) n up os nest tup p x tagged parent (inr h) =
      let no : ℕ = n + 1 + part_count a in
      let next : ℕ = no + part_count b in
      let own : tag_at S n ≡ Some t = tagged n _ (inl (refl, refl)) in
      elim h [
        | inl i ↦ (let k = stands_of_place a (n + 1) (under n true) (os ++ span no next ∷ []) nest (Some (t, true)) p x (λ p x i. tagged p x (inr (inl i))) (parent_here n t true own) i in (k.0, inr (inl k.1), k.2, k.3))
        | inr j ↦ elim j [
          | inl i ↦ (let k = stands_of_place b no (under n false) os nest (Some (t, false)) p x (λ p x i. tagged p x (inr (inr (inl i)))) (parent_here n t false own) i in (k.0, inr (inr (inl k.1)), k.2, k.3))
          | inr i ↦ (let k = stands_of_place rest next up os nest tup p x (λ p x i. tagged p x (inr (inr (inr i)))) parent i in (k.0, inr (inr (inr k.1)), k.2, k.3))
        ]
      ]
  stands_of_place (loop t e b rest) n up os nest tup p x tagged parent (inl h) = here nest (nest ++ t ∷ []) tup (loop t e b rest) t (While e) up os x h.1 parent (λ is. inl (is, refl))
  stands_of_place (loop t e b rest) n up os nest tup p x tagged parent (inr h) =
      let next : ℕ = n + 1 + part_count b in
      let own : tag_at S n ≡ Some t = tagged n _ (inl (refl, refl)) in
      elim h [
        | inl i ↦ (let k = stands_of_place b (n + 1) (under n true) os (nest ++ t ∷ []) (Some (t, true)) p x (λ p x i. tagged p x (inr (inl i))) (parent_here n t true own) i in (k.0, inr (inl k.1), k.2, k.3))
        | inr i ↦ (let k = stands_of_place rest next up os nest tup p x (λ p x i. tagged p x (inr (inr i))) parent i in (k.0, inr (inr k.1), k.2, k.3))
      ]

  -- a place of In says what the standing says
  pub record PlaceSo (In : ℕ → Place → Type 0) (v : Tag) (s : Standing) : Type 0 where
    pub number : ℕ
    pub place : Place
    pub stands : In number place
    pub tag : place.tag ≡ v
    pub content : place.content ≡ s.content
    pub parent : IsParentOf S place.parent s.parent

  there : (In : ℕ → Place → Type 0) (n : ℕ) (t v : Tag) (c : Content) (out : List Tag) (up : Up) (tup : TagUp) (os : List Span) (s : Standing) → In n (place_of t c up os) → v ≡ t → s ≡ record { content = c; nest = out; parent = tup } → IsParentOf S up tup → PlaceSo In v s
  there In n t v c out up tup os s stands same is parent = record {
    number = n;
    place = place_of t c up os;
    stands = stands;
    tag = sym same;
    content = ap (λ (q : Standing). q.content) (sym is);
    parent = subst (IsParentOf S up) (ap (λ (q : Standing). q.parent) (sym is)) parent;
  }

  wider : (In Out : ℕ → Place → Type 0) (v : Tag) (s : Standing) → ((p : ℕ) (x : Place) → In p x → Out p x) → PlaceSo In v s → PlaceSo Out v s
  wider In Out v s f h = record { number = h.number; place = h.place; stands = f h.number h.place h.stands; tag = h.tag; content = h.content; parent = h.parent }

  place_of_stands : (b : Body) (n : ℕ) (up : Up) (os : List Span) (nest : List Tag) (tup : TagUp) (v : Tag) (s : Standing) → Tagged b n up os → IsParentOf S up tup → StandsAs nest tup b v s → PlaceSo (PlaceIn b n up os) v s
  place_of_stands done n up os nest tup v s tagged parent h = absurd h
  place_of_stands (action t action_ rest) n up os nest tup v s tagged parent (inl h) = there (PlaceIn (action t action_ rest) n up os) n t v (content_by action_) nest up tup os s (inl (refl, refl)) h.0 h.1 parent
  place_of_stands (action t action_ rest) n up os nest tup v s tagged parent (inr h) =
      wider (PlaceIn rest (n + 1) up os) (PlaceIn (action t action_ rest) n up os) v s (λ p x i. inr i) (place_of_stands rest (n + 1) up os nest tup v s (λ p x i. tagged p x (inr i)) parent h)
  place_of_stands (branch t e a b rest) n up os nest tup v s tagged parent (inl h) = there (PlaceIn (branch t e a b rest) n up os) n t v (If e) nest up tup os s (inl (refl, refl)) h.0 h.1 parent
  place_of_stands (branch t e a b rest) n up os nest tup v s tagged parent (inr h) =
      let no : ℕ = n + 1 + part_count a in
      let next : ℕ = no + part_count b in
      let inside : List Span = os ++ span no next ∷ [] in
      let own : tag_at S n ≡ Some t = tagged n _ (inl (refl, refl)) in
      let Out : ℕ → Place → Type 0 = PlaceIn (branch t e a b rest) n up os in
      elim h [
        | inl i ↦ wider (PlaceIn a (n + 1) (under n true) inside) Out v s (λ p x i. inr (inl i)) (place_of_stands a (n + 1) (under n true) inside nest (Some (t, true)) v s (λ p x i. tagged p x (inr (inl i))) (parent_here n t true own) i)
        | inr j ↦ elim j [
          | inl i ↦ wider (PlaceIn b no (under n false) os) Out v s (λ p x i. inr (inr (inl i))) (place_of_stands b no (under n false) os nest (Some (t, false)) v s (λ p x i. tagged p x (inr (inr (inl i)))) (parent_here n t false own) i)
          | inr i ↦ wider (PlaceIn rest next up os) Out v s (λ p x i. inr (inr (inr i))) (place_of_stands rest next up os nest tup v s (λ p x i. tagged p x (inr (inr (inr i)))) parent i)
        ]
      ]
  place_of_stands (loop t e b rest) n up os nest tup v s tagged parent (inl h) = there (PlaceIn (loop t e b rest) n up os) n t v (While e) (nest ++ t ∷ []) up tup os s (inl (refl, refl)) h.0 h.1 parent
  place_of_stands (loop t e b rest) n up os nest tup v s tagged parent (inr h) =
      let next : ℕ = n + 1 + part_count b in
      let own : tag_at S n ≡ Some t = tagged n _ (inl (refl, refl)) in
      let Out : ℕ → Place → Type 0 = PlaceIn (loop t e b rest) n up os in
      elim h [
        | inl i ↦ wider (PlaceIn b (n + 1) (under n true) os) Out v s (λ p x i. inr (inl i)) (place_of_stands b (n + 1) (under n true) os (nest ++ t ∷ []) (Some (t, true)) v s (λ p x i. tagged p x (inr (inl i))) (parent_here n t true own) i)
        | inr i ↦ wider (PlaceIn rest next up os) Out v s (λ p x i. inr (inr i)) (place_of_stands rest next up os nest tup v s (λ p x i. tagged p x (inr (inr i))) parent i)
      ]

module _ (t : Tree) where
  pub standing_of_part : (p : ℕ) (x : Place) → PartAt t p x → (s : Standing) × StandsAsIn t.body x.tag s × (s.content ≡ x.content) × IsParentOf (spots t) x.parent s.parent
  standing_of_part p x h = stands_of_place (spots t) t.body 1 None [] [] None p x (tag_of_part t) refl h

  pub part_of_standing : (v : Tag) (s : Standing) → StandsAsIn t.body v s
      → (p : ℕ) × (x : Place) × PartAt t p x × (x.tag ≡ v) × (x.content ≡ s.content) × IsParentOf (spots t) x.parent s.parent
  part_of_standing v s h =
      let k = place_of_stands (spots t) t.body 1 None [] [] None v s (tag_of_part t) refl h in
      (k.number, k.place, k.stands, k.tag, k.content, k.parent)
