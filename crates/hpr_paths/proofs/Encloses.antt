-- The loops that enclose two parts, by number and by tag.
use Rattle.std.proofs.Common.{◌≡◌, ◌<◌, ◌≤◌, ◌+◌, ℕ, true, ◌⊎◌, inl, inr, Some, List, [], ◌∷◌, ◌++◌, refl, sym, ap, ◌∙◌, subst, arith}
use Rattle.std.specs.List.{slice_get, Contains}
use Rattle.std.specs.Option.{option_and_then}
use Rattle.std.proofs.lemmas.Option.{same_Some}
use Rattle.std.proofs.lemmas.List.Elements.{Contains-append_left, Contains-append_right, Contains-append_cases}
use Rattle.hpr_terms.specs.declared.tag.Tag.{Tag}
use Rattle.hpr_terms.specs.declared.expr.Expr.{Expr}
use Rattle.hpr_syntax.specs.Body.{Body, done, action, branch, loop, part_count}
use Rattle.hpr_syntax.specs.Tree.{Tree}
use Rattle.hpr_syntax.specs.Skeleton.{Point, skeleton, at, StandsIn}
use Rattle.hpr_syntax.specs.Places.{EnclosesBoth}
use Rattle.hpr_syntax.specs.Shape.{IsProgram}
use Rattle.hpr_paths.specs.declared.spot.Step.{Step}
use Rattle.hpr_paths.specs.Spots.{Spot, point_of, tag_of, loops_of, tag_at, nest_at}
use Rattle.hpr_paths.specs.Successors.{first_step, spots}
use Rattle.hpr_paths.specs.Numbers.{IsNumberOf}
use Rattle.hpr_paths.proofs.Two.{TwoIn, at_spot, wider}
use Rattle.hpr_terms.proofs.Few.{contains_one, has_one}
use Rattle.hpr_terms.proofs.Facts.{in_none}
use Rattle.hpr_paths.proofs.Stands.{SpotIn, WholeIn, end_of, get_of_whole, whole_of_get}
use Rattle.hpr_paths.proofs.Names.{Holds, role_of_get, get_of_role}
use Rattle.hpr_paths.proofs.Whole.{holds_whole}
use Rattle.hpr_paths.proofs.Tags.{number_once}

abbrev pub Again : ℕ → Step
Again n = record { to = n; back = true }

-- one of the outer loops, or one of those from lo up to hi
abbrev Range : List ℕ → ℕ → ℕ → ℕ → Type 0
Range w l lo hi = Contains w l ⊎ ((lo ≤ l) × (l < hi))

widen : (w : List ℕ) (l lo hi lo' hi' : ℕ) → lo' ≤ lo → hi ≤ hi' → Range w l lo hi → Range w l lo' hi'
widen w l lo hi lo' hi' a b (inl c) = inl c
widen w l lo hi lo' hi' a b (inr c) = inr (omega (arith, c.0), omega (arith, c.1))

in_inside : (w : List ℕ) (n l : ℕ) → Contains (w ++ n ∷ []) l → Contains w l ⊎ (l ≡ n)
in_inside w n l c = elim (Contains-append_cases w (n ∷ []) l c) [ inl a ↦ inl a | inr b ↦ inr (contains_one n l b) ]

pub nest_to : (s q : Spot) (l : ℕ) → s ≡ q → Contains s.nest l → Contains q.nest l
nest_to s q l is c = let P : Spot → Type 0 = λ x. Contains x.nest l in subst P is c

inside_range : (w : List ℕ) (n l hi hi' : ℕ) → n < hi' → hi ≤ hi' → Range (w ++ n ∷ []) l (n + 1) hi → Range w l n hi'
inside_range w n l hi hi' a b (inl c) = elim (in_inside w n l c) [ inl x ↦ inl x | inr e ↦ inr (omega (arith, e), omega (arith, e)) ]
inside_range w n l hi hi' a b (inr c) = inr (omega (arith, c.0), omega (arith, c.1))

nest_range : (b : Body) (n : ℕ) (f : Step) (w : List ℕ) (p : ℕ) (s : Spot) (l : ℕ) → SpotIn b n f w p s → Contains s.nest l → Range w l n (n + part_count b)
nest_range done n f w p s l h c = absurd h
nest_range (action t d rest) n f w p s l (inl h) c = inl (nest_to s _ l h.1 c)
nest_range (action t d rest) n f w p s l (inr h) c = widen w l (n + 1) (n + 1 + part_count rest) n _ (omega arith) (omega arith) (nest_range rest (n + 1) f w p s l h c)
nest_range (branch t e a b rest) n f w p s l (inl h) c = inl (nest_to s _ l h.1 c)
nest_range (branch t e a b rest) n f w p s l (inr h) c =
    let no : ℕ = n + 1 + part_count a in
    let next : ℕ = no + part_count b in
    let after : Step = first_step rest next f in
    elim h [
      | inl x ↦ widen w l (n + 1) (n + 1 + part_count a) n _ (omega arith) (omega arith) (nest_range a (n + 1) after w p s l x c)
      | inr k ↦ elim k [
        | inl x ↦ widen w l no (no + part_count b) n _ (omega arith) (omega arith) (nest_range b no after w p s l x c)
        | inr x ↦ widen w l next (next + part_count rest) n _ (omega arith) (omega arith) (nest_range rest next f w p s l x c)
      ]
    ]
nest_range (loop t e b rest) n f w p s l (inl h) c =
    elim (in_inside w n l (nest_to s _ l h.1 c)) [ inl x ↦ inl x | inr e ↦ inr (omega (arith, e), omega (arith, e)) ]
nest_range (loop t e b rest) n f w p s l (inr h) c =
    let next : ℕ = n + 1 + part_count b in
    elim h [
      | inl x ↦ inside_range w n l (n + 1 + part_count b) _ (omega arith) (omega arith) (nest_range b (n + 1) (Again n) (w ++ n ∷ []) p s l x c)
      | inr x ↦ widen w l next (next + part_count rest) n _ (omega arith) (omega arith) (nest_range rest next f w p s l x c)
    ]

-- a loop doesn't stand in two blocks, one behind the other
apart : {C : Type 0} (w : List ℕ) (l lo hi lo' hi' : ℕ) → (Contains w l → ⊥) → hi ≤ lo' → Range w l lo hi → Range w l lo' hi' → C
apart w l lo hi lo' hi' out le (inl c) r = absurd (out c)
apart w l lo hi lo' hi' out le (inr c) (inl d) = absurd (out d)
apart w l lo hi lo' hi' out le (inr c) (inr d) = absurd (omega (arith, c.1, d.0))

pub stands : (b : Body) (n : ℕ) (f : Step) (w : List ℕ) (p : ℕ) (s : Spot) → SpotIn b n f w p s → StandsIn (skeleton b) (point_of s.role)
stands done n f w p s h = absurd h
stands (action t d rest) n f w p s (inl h) = inl (ap (λ (q : Spot). point_of q.role) h.1)
stands (action t d rest) n f w p s (inr h) = inr (stands rest (n + 1) f w p s h)
stands (branch t e a b rest) n f w p s (inl h) = inl (ap (λ (q : Spot). point_of q.role) h.1)
stands (branch t e a b rest) n f w p s (inr h) =
    let no : ℕ = n + 1 + part_count a in
    let next : ℕ = no + part_count b in
    let after : Step = first_step rest next f in
    inr (elim h [
      | inl x ↦ inl (stands a (n + 1) after w p s x)
      | inr k ↦ inr (elim k [ inl x ↦ inl (stands b no after w p s x) | inr x ↦ inr (stands rest next f w p s x) ])
    ])
stands (loop t e b rest) n f w p s (inl h) = inl (ap (λ (q : Spot). point_of q.role) h.1)
stands (loop t e b rest) n f w p s (inr h) =
    inr (elim h [ inl x ↦ inl (stands b (n + 1) (Again n) (w ++ n ∷ []) p s x) | inr x ↦ inr (stands rest (n + 1 + part_count b) f w p s x) ])

loop_tag : (S : List Spot) (t : Tag) (e : Expr) (b rest : Body) (n : ℕ) (f : Step) (w : List ℕ) (l : ℕ) (v : Tag) → Holds S (loop t e b rest) n f w → l ≡ n → tag_at S l ≡ Some v → v ≡ t
loop_tag S t e b rest n f w l v holds is tag =
    let own : tag_at S n ≡ Some t = ap (option_and_then tag_of) (role_of_get S n _ (holds n _ (inl (refl, refl)))) in
    same_Some v t (sym tag ∙ ap (tag_at S) is ∙ own)

pub head_point : (s q : Spot) → s ≡ q → point_of s.role ≡ point_of q.role
head_point s q is = ap (λ (x : Spot). point_of x.role) is

pub encloses_of_nests : (S : List Spot) (b : Body) (n : ℕ) (f : Step) (w : List ℕ) (p q : ℕ) (s u : Spot) (l : ℕ) (v : Tag) → Holds S b n f w → (Contains w l → ⊥) → SpotIn b n f w p s → SpotIn b n f w q u → Contains s.nest l → Contains u.nest l → tag_at S l ≡ Some v
    → EnclosesBoth (skeleton b) (point_of s.role) (point_of u.role) v
encloses_of_nests S done n f w p q s u l v holds out h k c d tag = absurd h
encloses_of_nests S (action t action_ rest) n f w p q s u l v holds out (inl h) k c d tag = absurd (out (nest_to s _ l h.1 c))
encloses_of_nests S (action t action_ rest) n f w p q s u l v holds out (inr h) (inl k) c d tag = absurd (out (nest_to u _ l k.1 d))
encloses_of_nests S (action t action_ rest) n f w p q s u l v holds out (inr h) (inr k) c d tag =
    encloses_of_nests S rest (n + 1) f w p q s u l v (λ p s i. holds p s (inr i)) out h k c d tag
encloses_of_nests S (branch t e a b rest) n f w p q s u l v holds out (inl h) k c d tag = absurd (out (nest_to s _ l h.1 c))
encloses_of_nests S (branch t e a b rest) n f w p q s u l v holds out (inr h) (inl k) c d tag = absurd (out (nest_to u _ l k.1 d))
encloses_of_nests S (branch t e a b rest) n f w p q s u l v holds out (inr h) (inr k) c d tag =
    let no : ℕ = n + 1 + part_count a in
    let next : ℕ = no + part_count b in
    let after : Step = first_step rest next f in
    let ra = λ (p : ℕ) (s : Spot) (x : SpotIn a (n + 1) after w p s) (c : Contains s.nest l). nest_range a (n + 1) after w p s l x c in
    let rb = λ (p : ℕ) (s : Spot) (x : SpotIn b no after w p s) (c : Contains s.nest l). nest_range b no after w p s l x c in
    let rr = λ (p : ℕ) (s : Spot) (x : SpotIn rest next f w p s) (c : Contains s.nest l). nest_range rest next f w p s l x c in
    elim h [
      | inl x ↦ elim k [
        | inl y ↦ inl (encloses_of_nests S a (n + 1) after w p q s u l v (λ p s i. holds p s (inr (inl i))) out x y c d tag)
        | inr m ↦ elim m [
          | inl y ↦ apart w l (n + 1) no no next out (omega arith) (ra p s x c) (rb q u y d)
          | inr y ↦ apart w l (n + 1) no next (next + part_count rest) out (omega arith) (ra p s x c) (rr q u y d)
        ]
      ]
      | inr j ↦ elim j [
        | inl x ↦ elim k [
          | inl y ↦ apart w l (n + 1) no no next out (omega arith) (ra q u y d) (rb p s x c)
          | inr m ↦ elim m [
            | inl y ↦ inr (inl (encloses_of_nests S b no after w p q s u l v (λ p s i. holds p s (inr (inr (inl i)))) out x y c d tag))
            | inr y ↦ apart w l no next next (next + part_count rest) out (omega arith) (rb p s x c) (rr q u y d)
          ]
        ]
        | inr x ↦ elim k [
          | inl y ↦ apart w l (n + 1) no next (next + part_count rest) out (omega arith) (ra q u y d) (rr p s x c)
          | inr m ↦ elim m [
            | inl y ↦ apart w l no next next (next + part_count rest) out (omega arith) (rb q u y d) (rr p s x c)
            | inr y ↦ inr (inr (encloses_of_nests S rest next f w p q s u l v (λ p s i. holds p s (inr (inr (inr i)))) out x y c d tag))
          ]
        ]
      ]
    ]
encloses_of_nests S (loop t e b rest) n f w p q s u l v holds out (inl h) (inl k) c d tag =
    elim (in_inside w n l (nest_to s _ l h.1 c)) [
      | inl x ↦ absurd (out x)
      | inr is ↦ inl (loop_tag S t e b rest n f w l v holds is tag, inl (head_point s _ h.1), inl (head_point u _ k.1))
    ]
encloses_of_nests S (loop t e b rest) n f w p q s u l v holds out (inl h) (inr k) c d tag =
    let next : ℕ = n + 1 + part_count b in
    elim (in_inside w n l (nest_to s _ l h.1 c)) [
      | inl x ↦ absurd (out x)
      | inr is ↦ elim k [
        | inl y ↦ inl (loop_tag S t e b rest n f w l v holds is tag, inl (head_point s _ h.1), inr (stands b (n + 1) (Again n) (w ++ n ∷ []) q u y))
        | inr y ↦ apart w l n (n + 1) next (next + part_count rest) out (omega arith) (inr (omega (arith, is), omega (arith, is))) (nest_range rest next f w q u l y d)
      ]
    ]
encloses_of_nests S (loop t e b rest) n f w p q s u l v holds out (inr h) (inl k) c d tag =
    let next : ℕ = n + 1 + part_count b in
    elim (in_inside w n l (nest_to u _ l k.1 d)) [
      | inl x ↦ absurd (out x)
      | inr is ↦ elim h [
        | inl y ↦ inl (loop_tag S t e b rest n f w l v holds is tag, inr (stands b (n + 1) (Again n) (w ++ n ∷ []) p s y), inl (head_point u _ k.1))
        | inr y ↦ apart w l n (n + 1) next (next + part_count rest) out (omega arith) (inr (omega (arith, is), omega (arith, is))) (nest_range rest next f w p s l y c)
      ]
    ]
encloses_of_nests S (loop t e b rest) n f w p q s u l v holds out (inr h) (inr k) c d tag =
    let next : ℕ = n + 1 + part_count b in
    let inside : List ℕ = w ++ n ∷ [] in
    elim h [
      | inl x ↦ elim k [
        | inl y ↦ elim (nest_range b (n + 1) (Again n) inside p s l x c) [
          | inl i ↦ elim (in_inside w n l i) [
            | inl o ↦ absurd (out o)
            | inr is ↦ inl (loop_tag S t e b rest n f w l v holds is tag, inr (stands b (n + 1) (Again n) inside p s x), inr (stands b (n + 1) (Again n) inside q u y))
          ]
          | inr r ↦ inr (inl (encloses_of_nests S b (n + 1) (Again n) inside p q s u l v (λ p s i. holds p s (inr (inl i)))
              (λ i. elim (in_inside w n l i) [ inl o ↦ out o | inr is ↦ absurd (omega (arith, is, r.0)) ]) x y c d tag))
        ]
        | inr y ↦ apart w l n next next (next + part_count rest) out (omega arith) (inside_range w n l next next (omega arith) (omega arith) (nest_range b (n + 1) (Again n) inside p s l x c)) (nest_range rest next f w q u l y d)
      ]
      | inr x ↦ elim k [
        | inl y ↦ apart w l n next next (next + part_count rest) out (omega arith) (inside_range w n l next next (omega arith) (omega arith) (nest_range b (n + 1) (Again n) inside q u l y d)) (nest_range rest next f w p s l x c)
        | inr y ↦ inr (inr (encloses_of_nests S rest next f w p q s u l v (λ p s i. holds p s (inr (inr i))) out x y c d tag))
      ]
    ]

-- a loop that encloses both, with this tag
abbrev Share : List Spot → Tag → ℕ → Spot → ℕ → Spot → Type 0
Share S v _ s _ o = (l : ℕ) × Contains s.nest l × Contains o.nest l × (tag_at S l ≡ Some v)

pub outer_in : (b : Body) (n : ℕ) (f : Step) (w : List ℕ) (p : ℕ) (s : Spot) (l : ℕ) → SpotIn b n f w p s → Contains w l → Contains s.nest l
outer_in done n f w p s l h c = absurd h
outer_in (action t d rest) n f w p s l (inl h) c = nest_to _ s l (sym h.1) c
outer_in (action t d rest) n f w p s l (inr h) c = outer_in rest (n + 1) f w p s l h c
outer_in (branch t e a b rest) n f w p s l (inl h) c = nest_to _ s l (sym h.1) c
outer_in (branch t e a b rest) n f w p s l (inr h) c =
    let no : ℕ = n + 1 + part_count a in
    let next : ℕ = no + part_count b in
    let after : Step = first_step rest next f in
    elim h [
      | inl x ↦ outer_in a (n + 1) after w p s l x c
      | inr k ↦ elim k [ inl x ↦ outer_in b no after w p s l x c | inr x ↦ outer_in rest next f w p s l x c ]
    ]
outer_in (loop t e b rest) n f w p s l (inl h) c = nest_to _ s l (sym h.1) (Contains-append_left w (n ∷ []) l c)
outer_in (loop t e b rest) n f w p s l (inr h) c =
    elim h [
      | inl x ↦ outer_in b (n + 1) (Again n) (w ++ n ∷ []) p s l x (Contains-append_left w (n ∷ []) l c)
      | inr x ↦ outer_in rest (n + 1 + part_count b) f w p s l x c
    ]

pub spot_standing : (b : Body) (n : ℕ) (f : Step) (w : List ℕ) (a : Point) → StandsIn (skeleton b) a → (p : ℕ) × (s : Spot) × SpotIn b n f w p s × (a ≡ point_of s.role)
spot_standing done n f w a h = absurd h
spot_standing (action t d rest) n f w a (inl h) = (n, _, inl (refl, refl), h)
spot_standing (action t d rest) n f w a (inr h) = let k = spot_standing rest (n + 1) f w a h in (k.0, k.1, inr k.2, k.3)
spot_standing (branch t e b c rest) n f w a (inl h) = (n, _, inl (refl, refl), h)
spot_standing (branch t e b c rest) n f w a (inr h) =
    let no : ℕ = n + 1 + part_count b in
    let next : ℕ = no + part_count c in
    let after : Step = first_step rest next f in
    elim h [
      | inl x ↦ (let k = spot_standing b (n + 1) after w a x in (k.0, k.1, inr (inl k.2), k.3))
      | inr j ↦ elim j [
        | inl x ↦ (let k = spot_standing c no after w a x in (k.0, k.1, inr (inr (inl k.2)), k.3))
        | inr x ↦ (let k = spot_standing rest next f w a x in (k.0, k.1, inr (inr (inr k.2)), k.3))
      ]
    ]
spot_standing (loop t e b rest) n f w a (inl h) = (n, _, inl (refl, refl), h)
spot_standing (loop t e b rest) n f w a (inr h) =
    elim h [
      | inl x ↦ (let k = spot_standing b (n + 1) (Again n) (w ++ n ∷ []) a x in (k.0, k.1, inr (inl k.2), k.3))
      | inr x ↦ (let k = spot_standing rest (n + 1 + part_count b) f w a x in (k.0, k.1, inr (inr k.2), k.3))
    ]

-- a point of a loop, its predicate or in its body
in_loop : (t : Tag) (e : Expr) (b rest : Body) (n : ℕ) (f : Step) (w : List ℕ) (a : Point) → (a ≡ at t) ⊎ StandsIn (skeleton b) a
    → (p : ℕ) × (s : Spot) × SpotIn (loop t e b rest) n f w p s × (a ≡ point_of s.role) × Contains s.nest n
in_loop t e b rest n f w a (inl h) = (n, _, inl (refl, refl), h, Contains-append_right w (n ∷ []) n (has_one n))
in_loop t e b rest n f w a (inr h) =
    let k = spot_standing b (n + 1) (Again n) (w ++ n ∷ []) a h in
    (k.0, k.1, inr (inl k.2), k.3, outer_in b (n + 1) (Again n) (w ++ n ∷ []) k.0 k.1 n k.2 (Contains-append_right w (n ∷ []) n (has_one n)))

pub nests_of_encloses : (S : List Spot) (b : Body) (n : ℕ) (f : Step) (w : List ℕ) (d u : Point) (v : Tag) → Holds S b n f w → EnclosesBoth (skeleton b) d u v → TwoIn at_spot (Share S v) (SpotIn b n f w) d u
nests_of_encloses S done n f w d u v holds h = absurd h
nests_of_encloses S (action t action_ rest) n f w d u v holds h =
    wider at_spot (Share S v) (SpotIn rest (n + 1) f w) (SpotIn (action t action_ rest) n f w) d u (λ p s i. inr i) (nests_of_encloses S rest (n + 1) f w d u v (λ p s i. holds p s (inr i)) h)
nests_of_encloses S (branch t e a b rest) n f w d u v holds h =
    let no : ℕ = n + 1 + part_count a in
    let next : ℕ = no + part_count b in
    let after : Step = first_step rest next f in
    elim h [
      | inl x ↦ wider at_spot (Share S v) (SpotIn a (n + 1) after w) (SpotIn (branch t e a b rest) n f w) d u (λ p s i. inr (inl i)) (nests_of_encloses S a (n + 1) after w d u v (λ p s i. holds p s (inr (inl i))) x)
      | inr k ↦ elim k [
        | inl x ↦ wider at_spot (Share S v) (SpotIn b no after w) (SpotIn (branch t e a b rest) n f w) d u (λ p s i. inr (inr (inl i))) (nests_of_encloses S b no after w d u v (λ p s i. holds p s (inr (inr (inl i)))) x)
        | inr x ↦ wider at_spot (Share S v) (SpotIn rest next f w) (SpotIn (branch t e a b rest) n f w) d u (λ p s i. inr (inr (inr i))) (nests_of_encloses S rest next f w d u v (λ p s i. holds p s (inr (inr (inr i)))) x)
      ]
    ]
nests_of_encloses S (loop t e b rest) n f w d u v holds (inl h) =
    let x = in_loop t e b rest n f w d h.1 in
    let y = in_loop t e b rest n f w u h.2 in
    let own : tag_at S n ≡ Some t = ap (option_and_then tag_of) (role_of_get S n _ (holds n _ (inl (refl, refl)))) in
    record {
      first = x.0;
      one = x.1;
      stands = x.2;
      point = x.3;
      second = y.0;
      other = y.1;
      stands_too = y.2;
      point_too = y.3;
      related = (n, x.4, y.4, own ∙ ap (λ (z : Tag). Some z) (sym h.0));
    }
nests_of_encloses S (loop t e b rest) n f w d u v holds (inr h) =
    let next : ℕ = n + 1 + part_count b in
    elim h [
      | inl x ↦ wider at_spot (Share S v) (SpotIn b (n + 1) (Again n) (w ++ n ∷ [])) (SpotIn (loop t e b rest) n f w) d u (λ p s i. inr (inl i)) (nests_of_encloses S b (n + 1) (Again n) (w ++ n ∷ []) d u v (λ p s i. holds p s (inr (inl i))) x)
      | inr x ↦ wider at_spot (Share S v) (SpotIn rest next f w) (SpotIn (loop t e b rest) n f w) d u (λ p s i. inr (inr i)) (nests_of_encloses S rest next f w d u v (λ p s i. holds p s (inr (inr i))) x)
    ]

-- a point in a loop is a part
nested_part : (t : Tree) (p : ℕ) (s : Spot) (l : ℕ) → WholeIn t p s → Contains s.nest l → SpotIn t.body 1 (end_of t) [] p s
nested_part t p s l (inl h) c = absurd (in_none l (nest_to s _ l h.1 c))
nested_part t p s l (inr (inl h)) c = h
nested_part t p s l (inr (inr h)) c = absurd (in_none l (nest_to s _ l h.1 c))

pub encloses_by_number : (t : Tree) (p q l : ℕ) (d u : Point) (v : Tag) → IsNumberOf (spots t) p d → IsNumberOf (spots t) q u → Contains (nest_at (spots t) p) l → Contains (nest_at (spots t) q) l → tag_at (spots t) l ≡ Some v → EnclosesBoth (skeleton t.body) d u v
encloses_by_number t p q l d u v np nq c e tag =
    let x = get_of_role (spots t) p np.0 np.1 in
    let y = get_of_role (spots t) q nq.0 nq.1 in
    let P : List ℕ → Type 0 = λ w. Contains w l in
    let cx : Contains x.0.nest l = subst P (ap loops_of x.1) c in
    let cy : Contains y.0.nest l = subst P (ap loops_of y.1) e in
    let px : point_of x.0.role ≡ d = ap point_of x.2 ∙ sym np.2 in
    let py : point_of y.0.role ≡ u = ap point_of y.2 ∙ sym nq.2 in
    let A : Point → Type 0 = λ a. EnclosesBoth (skeleton t.body) a u v in
    let B : Point → Type 0 = λ a. EnclosesBoth (skeleton t.body) (point_of x.0.role) a v in
    subst A px (subst B py (encloses_of_nests (spots t) t.body 1 (end_of t) [] p q x.0 y.0 l v (holds_whole t) (in_none l)
    (nested_part t p x.0 l (whole_of_get t p x.0 x.1) cx) (nested_part t q y.0 l (whole_of_get t q y.0 y.1) cy) cx cy tag))

pub number_encloses : (t : Tree) (p q : ℕ) (d u : Point) (v : Tag) → IsProgram t → IsNumberOf (spots t) p d → IsNumberOf (spots t) q u → EnclosesBoth (skeleton t.body) d u v
    → (l : ℕ) × Contains (nest_at (spots t) p) l × Contains (nest_at (spots t) q) l × (tag_at (spots t) l ≡ Some v)
number_encloses t p q d u v prog np nq h =
    let k = nests_of_encloses (spots t) t.body 1 (end_of t) [] d u v (holds_whole t) h in
    let gx : slice_get (spots t) k.first ≡ Some k.one = get_of_whole t k.first k.one (inr (inl k.stands)) in
    let gy : slice_get (spots t) k.second ≡ Some k.other = get_of_whole t k.second k.other (inr (inl k.stands_too)) in
    let sx : k.first ≡ p = number_once t k.first p d prog (k.one.role, role_of_get (spots t) k.first k.one gx, k.point) np in
    let sy : k.second ≡ q = number_once t k.second q u prog (k.other.role, role_of_get (spots t) k.second k.other gy, k.point_too) nq in
    let r = k.related in
    let P : List ℕ → Type 0 = λ w. Contains w r.0 in
    let Q : ℕ → Type 0 = λ n. Contains (nest_at (spots t) n) r.0 in
    (r.0, subst Q sx (subst P (sym (ap loops_of gx)) r.1), subst Q sy (subst P (sym (ap loops_of gy)) r.2), r.3)
