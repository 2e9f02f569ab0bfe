-- Which of two parts stands to the left, by number and by tag.
use Rattle.std.proofs.Common.{◌≡◌, ◌<◌, ◌≤◌, ◌+◌, ℕ, inl, inr, Some, List, [], ◌∷◌, ◌++◌, refl, sym, ap, ◌∙◌, subst, arith}
use Rattle.std.specs.List.{slice_get}
use Rattle.hpr_terms.specs.declared.tag.Tag.{Tag}
use Rattle.hpr_syntax.specs.Body.{Body, done, action, branch, loop, part_count}
use Rattle.hpr_syntax.specs.Tree.{Tree}
use Rattle.hpr_syntax.specs.Skeleton.{Point, skeleton, enter, exit, at}
use Rattle.hpr_syntax.specs.Places.{StandsLeft}
use Rattle.hpr_syntax.specs.Shape.{IsProgram}
use Rattle.hpr_paths.specs.declared.spot.Step.{Step}
use Rattle.hpr_paths.specs.Spots.{Spot, point_of}
use Rattle.hpr_paths.specs.Successors.{first_step, spots_of, spots}
use Rattle.hpr_paths.specs.Numbers.{IsNumberOf}
use Rattle.hpr_paths.proofs.Two.{TwoIn, at_spot, wider}
use Rattle.hpr_paths.proofs.Stands.{SpotIn, WholeIn, has_of_in, count_spots, end_of, get_of_whole, whole_of_get}
use Rattle.hpr_paths.proofs.Names.{role_of_get, get_of_role}
use Rattle.hpr_paths.proofs.Placed.{has_low, has_high}
use Rattle.hpr_paths.proofs.Tags.{number_once}
use Rattle.hpr_paths.proofs.Encloses.{Again, head_point, stands, spot_standing}

pub spot_range : (b : Body) (n : ℕ) (f : Step) (w : List ℕ) (p : ℕ) (s : Spot) → SpotIn b n f w p s → (n ≤ p) × (p < n + part_count b)
spot_range b n f w p s h =
    let has = has_of_in b n f w p s h in
    (has_low (spots_of b n f w) n p s has, omega (arith, has_high (spots_of b n f w) n p s has, count_spots b n f w))

-- p and q stand in these ranges, one behind the other
behind : {C : Type 0} (p q lo hi lo' hi' : ℕ) → p < q → hi' ≤ lo → (lo ≤ p) × (p < hi) → (lo' ≤ q) × (q < hi') → C
behind p q lo hi lo' hi' l le a b = absurd (omega (arith, a.0, b.1))

pub left_of_numbers : (b : Body) (n : ℕ) (f : Step) (w : List ℕ) (p q : ℕ) (s u : Spot) → SpotIn b n f w p s → SpotIn b n f w q u → p < q → StandsLeft (skeleton b) (point_of s.role) (point_of u.role)
left_of_numbers done n f w p q s u h k l = absurd h
left_of_numbers (action t d rest) n f w p q s u (inl h) (inl k) l = absurd (omega (arith, h.0, k.0))
left_of_numbers (action t d rest) n f w p q s u (inl h) (inr k) l = inl (head_point s _ h.1, stands rest (n + 1) f w q u k)
left_of_numbers (action t d rest) n f w p q s u (inr h) (inl k) l = absurd (omega (arith, (spot_range rest (n + 1) f w p s h).0, k.0))
left_of_numbers (action t d rest) n f w p q s u (inr h) (inr k) l = inr (left_of_numbers rest (n + 1) f w p q s u h k l)
left_of_numbers (branch t e a b rest) n f w p q s u (inl h) (inl k) l = absurd (omega (arith, h.0, k.0))
left_of_numbers (branch t e a b rest) n f w p q s u (inl h) (inr k) l =
    let no : ℕ = n + 1 + part_count a in
    let next : ℕ = no + part_count b in
    let after : Step = first_step rest next f in
    inl (
      head_point s _ h.1,
      elim k [
        | inl y ↦ inl (stands a (n + 1) after w q u y)
        | inr m ↦ inr (elim m [ inl y ↦ inl (stands b no after w q u y) | inr y ↦ inr (stands rest next f w q u y) ])
      ],
    )
left_of_numbers (branch t e a b rest) n f w p q s u (inr h) (inl k) l =
    let no : ℕ = n + 1 + part_count a in
    let next : ℕ = no + part_count b in
    let after : Step = first_step rest next f in
    elim h [
      | inl x ↦ absurd (omega (arith, (spot_range a (n + 1) after w p s x).0, k.0))
      | inr m ↦ elim m [
        | inl x ↦ absurd (omega (arith, (spot_range b no after w p s x).0, k.0))
        | inr x ↦ absurd (omega (arith, (spot_range rest next f w p s x).0, k.0))
      ]
    ]
left_of_numbers (branch t e a b rest) n f w p q s u (inr h) (inr k) l =
    let no : ℕ = n + 1 + part_count a in
    let next : ℕ = no + part_count b in
    let after : Step = first_step rest next f in
    inr (elim h [
      | inl x ↦ elim k [
        | inl y ↦ inr (inr (inl (left_of_numbers a (n + 1) after w p q s u x y l)))
        | inr m ↦ inl (stands a (n + 1) after w p s x, elim m [ inl y ↦ inl (stands b no after w q u y) | inr y ↦ inr (stands rest next f w q u y) ])
      ]
      | inr j ↦ elim j [
        | inl x ↦ elim k [
          | inl y ↦ behind p q no next (n + 1) no l (omega arith) (spot_range b no after w p s x) (spot_range a (n + 1) after w q u y)
          | inr m ↦ elim m [
            | inl y ↦ inr (inr (inr (inl (left_of_numbers b no after w p q s u x y l))))
            | inr y ↦ inr (inl (stands b no after w p s x, stands rest next f w q u y))
          ]
        ]
        | inr x ↦ elim k [
          | inl y ↦ behind p q next (next + part_count rest) (n + 1) no l (omega arith) (spot_range rest next f w p s x) (spot_range a (n + 1) after w q u y)
          | inr m ↦ elim m [
            | inl y ↦ behind p q next (next + part_count rest) no next l (omega arith) (spot_range rest next f w p s x) (spot_range b no after w q u y)
            | inr y ↦ inr (inr (inr (inr (left_of_numbers rest next f w p q s u x y l))))
          ]
        ]
      ]
    ])
left_of_numbers (loop t e b rest) n f w p q s u (inl h) (inl k) l = absurd (omega (arith, h.0, k.0))
left_of_numbers (loop t e b rest) n f w p q s u (inl h) (inr k) l =
    let next : ℕ = n + 1 + part_count b in
    inl (head_point s _ h.1, elim k [ inl y ↦ inl (stands b (n + 1) (Again n) (w ++ n ∷ []) q u y) | inr y ↦ inr (stands rest next f w q u y) ])
left_of_numbers (loop t e b rest) n f w p q s u (inr h) (inl k) l =
    let next : ℕ = n + 1 + part_count b in
    elim h [
      | inl x ↦ absurd (omega (arith, (spot_range b (n + 1) (Again n) (w ++ n ∷ []) p s x).0, k.0))
      | inr x ↦ absurd (omega (arith, (spot_range rest next f w p s x).0, k.0))
    ]
left_of_numbers (loop t e b rest) n f w p q s u (inr h) (inr k) l =
    let next : ℕ = n + 1 + part_count b in
    let inside : List ℕ = w ++ n ∷ [] in
    inr (elim h [
      | inl x ↦ elim k [
        | inl y ↦ inr (inl (left_of_numbers b (n + 1) (Again n) inside p q s u x y l))
        | inr y ↦ inl (stands b (n + 1) (Again n) inside p s x, stands rest next f w q u y)
      ]
      | inr x ↦ elim k [
        | inl y ↦ behind p q next (next + part_count rest) (n + 1) next l (omega arith) (spot_range rest next f w p s x) (spot_range b (n + 1) (Again n) inside q u y)
        | inr y ↦ inr (inr (left_of_numbers rest next f w p q s u x y l))
      ]
    ])

abbrev Before : ℕ → Spot → ℕ → Spot → Type 0
Before p _ q _ = p < q

-- spots of In for these two points, in this order
abbrev InOrder : (ℕ → Spot → Type 0) → Point → Point → Type 0
InOrder In d u = TwoIn at_spot Before In d u

-- a point in a block, by its number
abbrev Found : Body → ℕ → Step → List ℕ → Point → Type 0
Found b n f w a = (p : ℕ) × (s : Spot) × SpotIn b n f w p s × (a ≡ point_of s.role)

ordered : (In : ℕ → Spot → Type 0) (d u : Point) (b c : Body) (n m : ℕ) (f g : Step) (w v : List ℕ) → ((p : ℕ) (s : Spot) → SpotIn b n f w p s → In p s) → ((p : ℕ) (s : Spot) → SpotIn c m g v p s → In p s) → n + part_count b ≤ m → Found b n f w d → Found c m g v u → InOrder In d u
ordered In d u b c n m f g w v one two le x y = record {
  first = x.0;
  one = x.1;
  stands = one x.0 x.1 x.2;
  point = x.3;
  second = y.0;
  other = y.1;
  stands_too = two y.0 y.1 y.2;
  point_too = y.3;
  related = omega (arith, (spot_range b n f w x.0 x.1 x.2).1, (spot_range c m g v y.0 y.1 y.2).0);
}

led : (In : ℕ → Spot → Type 0) (d u : Point) (s : Spot) (c : Body) (n m : ℕ) (g : Step) (v : List ℕ) → In n s → d ≡ point_of s.role → ((p : ℕ) (s : Spot) → SpotIn c m g v p s → In p s) → n + 1 ≤ m → Found c m g v u → InOrder In d u
led In d u s c n m g v first point two le y = record {
  first = n;
  one = s;
  stands = first;
  point = point;
  second = y.0;
  other = y.1;
  stands_too = two y.0 y.1 y.2;
  point_too = y.3;
  related = omega (arith, (spot_range c m g v y.0 y.1 y.2).0);
}

pub numbers_of_left : (b : Body) (n : ℕ) (f : Step) (w : List ℕ) (d u : Point) → StandsLeft (skeleton b) d u → InOrder (SpotIn b n f w) d u
numbers_of_left done n f w d u h = absurd h
numbers_of_left (action t action_ rest) n f w d u (inl h) =
    led (SpotIn (action t action_ rest) n f w) d u _ rest n (n + 1) f w (inl (refl, refl)) h.0 (λ p s i. inr i) (omega arith) (spot_standing rest (n + 1) f w u h.1)
numbers_of_left (action t action_ rest) n f w d u (inr h) = wider at_spot Before (SpotIn rest (n + 1) f w) (SpotIn (action t action_ rest) n f w) d u (λ p s i. inr i) (numbers_of_left rest (n + 1) f w d u h)
numbers_of_left (branch t e a b rest) n f w d u (inl h) =
    let no : ℕ = n + 1 + part_count a in
    let next : ℕ = no + part_count b in
    let after : Step = first_step rest next f in
    let In : ℕ → Spot → Type 0 = SpotIn (branch t e a b rest) n f w in
    elim h.1 [
      | inl y ↦ led In d u _ a n (n + 1) after w (inl (refl, refl)) h.0 (λ p s i. inr (inl i)) (omega arith) (spot_standing a (n + 1) after w u y)
      | inr m ↦ elim m [
        | inl y ↦ led In d u _ b n no after w (inl (refl, refl)) h.0 (λ p s i. inr (inr (inl i))) (omega arith) (spot_standing b no after w u y)
        | inr y ↦ led In d u _ rest n next f w (inl (refl, refl)) h.0 (λ p s i. inr (inr (inr i))) (omega arith) (spot_standing rest next f w u y)
      ]
    ]
numbers_of_left (branch t e a b rest) n f w d u (inr h) =
    let no : ℕ = n + 1 + part_count a in
    let next : ℕ = no + part_count b in
    let after : Step = first_step rest next f in
    let In : ℕ → Spot → Type 0 = SpotIn (branch t e a b rest) n f w in
    elim h [
      | inl x ↦ elim x.1 [
        | inl y ↦ ordered In d u a b (n + 1) no after after w w (λ p s i. inr (inl i)) (λ p s i. inr (inr (inl i))) (omega arith) (spot_standing a (n + 1) after w d x.0) (spot_standing b no after w u y)
        | inr y ↦ ordered In d u a rest (n + 1) next after f w w (λ p s i. inr (inl i)) (λ p s i. inr (inr (inr i))) (omega arith) (spot_standing a (n + 1) after w d x.0) (spot_standing rest next f w u y)
      ]
      | inr j ↦ elim j [
        | inl x ↦ ordered In d u b rest no next after f w w (λ p s i. inr (inr (inl i))) (λ p s i. inr (inr (inr i))) (omega arith) (spot_standing b no after w d x.0) (spot_standing rest next f w u x.1)
        | inr k ↦ elim k [
          | inl x ↦ wider at_spot Before (SpotIn a (n + 1) after w) In d u (λ p s i. inr (inl i)) (numbers_of_left a (n + 1) after w d u x)
          | inr m ↦ elim m [
            | inl x ↦ wider at_spot Before (SpotIn b no after w) In d u (λ p s i. inr (inr (inl i))) (numbers_of_left b no after w d u x)
            | inr x ↦ wider at_spot Before (SpotIn rest next f w) In d u (λ p s i. inr (inr (inr i))) (numbers_of_left rest next f w d u x)
          ]
        ]
      ]
    ]
numbers_of_left (loop t e b rest) n f w d u (inl h) =
    let next : ℕ = n + 1 + part_count b in
    let In : ℕ → Spot → Type 0 = SpotIn (loop t e b rest) n f w in
    elim h.1 [
      | inl y ↦ led In d u _ b n (n + 1) (Again n) (w ++ n ∷ []) (inl (refl, refl)) h.0 (λ p s i. inr (inl i)) (omega arith) (spot_standing b (n + 1) (Again n) (w ++ n ∷ []) u y)
      | inr y ↦ led In d u _ rest n next f w (inl (refl, refl)) h.0 (λ p s i. inr (inr i)) (omega arith) (spot_standing rest next f w u y)
    ]
numbers_of_left (loop t e b rest) n f w d u (inr h) =
    let next : ℕ = n + 1 + part_count b in
    let inside : List ℕ = w ++ n ∷ [] in
    let In : ℕ → Spot → Type 0 = SpotIn (loop t e b rest) n f w in
    elim h [
      | inl x ↦ ordered In d u b rest (n + 1) next (Again n) f inside w (λ p s i. inr (inl i)) (λ p s i. inr (inr i)) (omega arith) (spot_standing b (n + 1) (Again n) inside d x.0) (spot_standing rest next f w u x.1)
      | inr k ↦ elim k [
        | inl x ↦ wider at_spot Before (SpotIn b (n + 1) (Again n) inside) In d u (λ p s i. inr (inl i)) (numbers_of_left b (n + 1) (Again n) inside d u x)
        | inr x ↦ wider at_spot Before (SpotIn rest next f w) In d u (λ p s i. inr (inr i)) (numbers_of_left rest next f w d u x)
      ]
    ]

-- the number of a part
a_part : (t : Tree) (p : ℕ) (s : Spot) (v : Tag) → WholeIn t p s → point_of s.role ≡ at v → SpotIn t.body 1 (end_of t) [] p s
a_part t p s v (inl h) is = let no : enter ≡ at v = sym (head_point s _ h.1) ∙ is in absurd cc
a_part t p s v (inr (inl h)) is = h
a_part t p s v (inr (inr h)) is = let no : exit ≡ at v = sym (head_point s _ h.1) ∙ is in absurd cc

pub left_by_number : (t : Tree) (p q : ℕ) (d u : Tag) → IsNumberOf (spots t) p (at d) → IsNumberOf (spots t) q (at u) → p < q → StandsLeft (skeleton t.body) (at d) (at u)
left_by_number t p q d u np nq l =
    let x = get_of_role (spots t) p np.0 np.1 in
    let y = get_of_role (spots t) q nq.0 nq.1 in
    let px : point_of x.0.role ≡ at d = ap point_of x.2 ∙ sym np.2 in
    let py : point_of y.0.role ≡ at u = ap point_of y.2 ∙ sym nq.2 in
    let A : Point → Type 0 = λ a. StandsLeft (skeleton t.body) a (at u) in
    let B : Point → Type 0 = λ a. StandsLeft (skeleton t.body) (point_of x.0.role) a in
    subst A px (subst B py (left_of_numbers t.body 1 (end_of t) [] p q x.0 y.0 (a_part t p x.0 d (whole_of_get t p x.0 x.1) px) (a_part t q y.0 u (whole_of_get t q y.0 y.1) py) l))

pub number_left : (t : Tree) (p q : ℕ) (d u : Point) → IsProgram t → IsNumberOf (spots t) p d → IsNumberOf (spots t) q u → StandsLeft (skeleton t.body) d u → p < q
number_left t p q d u prog np nq h =
    let k = numbers_of_left t.body 1 (end_of t) [] d u h in
    let gx : slice_get (spots t) k.first ≡ Some k.one = get_of_whole t k.first k.one (inr (inl k.stands)) in
    let gy : slice_get (spots t) k.second ≡ Some k.other = get_of_whole t k.second k.other (inr (inl k.stands_too)) in
    let sx : k.first ≡ p = number_once t k.first p d prog (k.one.role, role_of_get (spots t) k.first k.one gx, k.point) np in
    let sy : k.second ≡ q = number_once t k.second q u prog (k.other.role, role_of_get (spots t) k.second k.other gy, k.point_too) nq in
    omega (arith, k.related, sx, sy)
