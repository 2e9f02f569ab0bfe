-- A path by number that takes no back edge to a loop around both ends leads to a higher number.
use Rattle.std.proofs.Common.{◌≡◌, ℕ, ◌+◌, ◌<◌, ◌≤◌, Bool, true, false, ◌⊎◌, inl, inr, Option, Some, None, List, [], ◌∷◌, ◌++◌, take, Contains, length-take, refl, sym, ap, ◌∙◌, subst, arith}
use Rattle.std.specs.List.{slice_get}
use Rattle.std.proofs.lemmas.Bool.{cases_lt}
use Rattle.std.proofs.lemmas.List.{get_or-take}
use Rattle.std.proofs.lemmas.List.Elements.{Contains-append_left, Contains-push, Contains-push_cases}
use Rattle.std.proofs.lemmas.Option.{slice_get-get_or}
use Rattle.hpr_syntax.specs.Body.{Body, done, action, branch, loop, part_count}
use Rattle.hpr_syntax.specs.Paths.{Path, one, step}
use Rattle.hpr_syntax.specs.Tree.{Tree}
use Rattle.hpr_paths.specs.declared.spot.Step.{Step}
use Rattle.hpr_paths.specs.Spots.{Spot, loops_of, steps_of, next_at, nest_at}
use Rattle.hpr_paths.specs.Successors.{step_to, first_step, spots}
use Rattle.hpr_paths.specs.Numbers.{Leads}
use Rattle.hpr_terms.proofs.Few.{contains_one, contains_two}
use Rattle.hpr_terms.proofs.Facts.{in_none, in_here, in_later}
use Rattle.hpr_paths.proofs.Stands.{SpotIn, WholeIn, count_whole, end_of, whole_of_get}
use Rattle.hpr_paths.proofs.Sound.{get_below, are_spots}
use Rattle.hpr_paths.proofs.Left.{spot_range}
use Rattle.hpr_paths.proofs.Encloses.{nest_to, outer_in}
use Rattle.hpr_reach.specs.Reaches.{back_to}
use Rattle.hpr_reach.proofs.Chains.{contains_taken}
use Rattle.hpr_reach.proofs.Flows.{step_within}
use Rattle.hpr_build.specs.declared.flows.FlowKind.TheVariants.{Independent}
use Rattle.hpr_build.specs.Flows.{IsFlowAt}

-- a step that leads to m or beyond, or back to one of the loops
abbrev Follows : ℕ → List ℕ → Step → Type 0
Follows m w st = (st.back ≡ false → m ≤ st.to) × (st.back ≡ true → Contains w st.to)

wider : (m k : ℕ) (w v : List ℕ) (st : Step) → k ≤ m → ((l : ℕ) → Contains w l → Contains v l) → Follows m w st → Follows k v st
wider m k w v st le more h = ((λ e. omega (arith, le, h.0 e)), (λ e. more st.to (h.1 e)))

earlier : (m k : ℕ) (w : List ℕ) (st : Step) → k ≤ m → Follows m w st → Follows k w st
earlier m k w st le h = wider m k w w st le (λ l c. c) h

step_follows : (m n : ℕ) (w : List ℕ) → m ≤ n → Follows m w (step_to n)
step_follows m n w le = ((λ e. le), (λ e. absurd cc))

first_follows : (b : Body) (n m : ℕ) (w : List ℕ) (f : Step) → m ≤ n → Follows (n + part_count b) w f → Follows m w (first_step b n f)
first_follows done n m w f le h = earlier (n + 0) m w f (omega (arith, le)) h
first_follows (action t d rest) n m w f le h = step_follows m n w le
first_follows (branch t e a b rest) n m w f le h = step_follows m n w le
first_follows (loop t e b rest) n m w f le h = step_follows m n w le

again_follows : (m n : ℕ) (w : List ℕ) → Follows m (w ++ n ∷ []) (back_to n)
again_follows m n w = ((λ e. absurd cc), (λ e. Contains-push w n))

more_inside : (w : List ℕ) (n l : ℕ) → Contains w l → Contains (w ++ n ∷ []) l
more_inside w n l h = Contains-append_left w (n ∷ []) l h

abbrev AllFollow : ℕ → Spot → Type 0
AllFollow p s = (st : Step) → Contains s.next st → Follows (p + 1) s.nest st

at_head : (s q : Spot) (p n : ℕ) → p ≡ n → s ≡ q → AllFollow n q → AllFollow p s
at_head s q p n e is all = subst (λ (k : ℕ). AllFollow k s) (sym e) (subst (AllFollow n) (sym is) all)

one_follows : (m : ℕ) (w : List ℕ) (a st : Step) → Follows m w a → Contains (a ∷ []) st → Follows m w st
one_follows m w a st h c = subst (Follows m w) (sym (contains_one a st c)) h

two_follow : (m : ℕ) (w : List ℕ) (a b st : Step) → Follows m w a → Follows m w b → Contains (a ∷ b ∷ []) st → Follows m w st
two_follow m w a b st h k c = elim (contains_two a b st c) [ inl e ↦ subst (Follows m w) (sym e) h | inr e ↦ subst (Follows m w) (sym e) k ]

-- each step leads ahead, or back to a loop around its source
steps_follow : (b : Body) (n : ℕ) (f : Step) (w : List ℕ) (p : ℕ) (s : Spot) → Follows (n + part_count b) w f → SpotIn b n f w p s → AllFollow p s
steps_follow done n f w p s hf h = absurd h
steps_follow (action t action_ rest) n f w p s hf (inl h) =
    let after : Follows (n + 1 + part_count rest) w f = earlier (n + part_count (action t action_ rest)) (n + 1 + part_count rest) w f (omega arith) hf in
    at_head s _ p n h.0 h.1 (λ st c. one_follows (n + 1) w _ st (first_follows rest (n + 1) (n + 1) w f (omega arith) after) c)
steps_follow (action t action_ rest) n f w p s hf (inr h) =
    steps_follow rest (n + 1) f w p s (earlier (n + part_count (action t action_ rest)) (n + 1 + part_count rest) w f (omega arith) hf) h
steps_follow (branch t e a b rest) n f w p s hf h =
    let no : ℕ = n + 1 + part_count a in
    let next : ℕ = no + part_count b in
    let after : Step = first_step rest next f in
    let behind : Follows (next + part_count rest) w f = earlier (n + part_count (branch t e a b rest)) (next + part_count rest) w f (omega arith) hf in
    let right : Follows (no + part_count b) w after = first_follows rest next next w f (omega arith) behind in
    let left : Follows (n + 1 + part_count a) w after = earlier (no + part_count b) (n + 1 + part_count a) w after (omega arith) right in
    elim h [
      | inl i ↦ at_head s _ p n i.0 i.1 (λ st c. two_follow (n + 1) w _ _ st (first_follows a (n + 1) (n + 1) w after (omega arith) left) (first_follows b no (n + 1) w after (omega arith) right) c)
      | inr (inl i) ↦ steps_follow a (n + 1) after w p s left i
      | inr (inr (inl i)) ↦ steps_follow b no after w p s right i
      | inr (inr (inr i)) ↦ steps_follow rest next f w p s behind i
    ]
steps_follow (loop t e b rest) n f w p s hf h =
    let next : ℕ = n + 1 + part_count b in
    let inside : List ℕ = w ++ n ∷ [] in
    let behind : Follows (next + part_count rest) w f = earlier (n + part_count (loop t e b rest)) (next + part_count rest) w f (omega arith) hf in
    let out : Follows (n + 1) inside (first_step rest next f) = wider next (n + 1) w inside (first_step rest next f) (omega arith) (more_inside w n) (first_follows rest next next w f (omega arith) behind) in
    let again : Follows (n + 1 + part_count b) inside (back_to n) = again_follows (n + 1 + part_count b) n w in
    elim h [
      | inl i ↦ at_head s _ p n i.0 i.1 (λ st c. two_follow (n + 1) inside _ _ st (first_follows b (n + 1) (n + 1) inside (back_to n) (omega arith) again) out c)
      | inr (inl i) ↦ steps_follow b (n + 1) (back_to n) inside p s again i
      | inr (inr i) ↦ steps_follow rest next f w p s behind i
    ]

-- and the others are in the block, and not behind the part
abbrev Low : List ℕ → ℕ → ℕ → ℕ → Type 0
Low w n p l = Contains w l ⊎ ((n ≤ l) × (l ≤ p))

lower : (w : List ℕ) (m n p l : ℕ) → n ≤ m → Low w m p l → Low w n p l
lower w m n p l le (inl c) = inl c
lower w m n p l le (inr c) = inr (omega (arith, le, c.0), c.1)

low_inside : (w : List ℕ) (n p l : ℕ) → n ≤ p → Low (w ++ n ∷ []) (n + 1) p l → Low w n p l
low_inside w n p l le (inl c) = elim (Contains-push_cases w n l c) [ inl was ↦ inl was | inr is ↦ inr (omega (arith, is), omega (arith, is, le)) ]
low_inside w n p l le (inr c) = inr (omega (arith, c.0), c.1)

nest_low : (b : Body) (n : ℕ) (f : Step) (w : List ℕ) (p : ℕ) (s : Spot) (l : ℕ) → SpotIn b n f w p s → Contains s.nest l → Low w n p l
nest_low done n f w p s l h c = absurd h
nest_low (action t d rest) n f w p s l (inl h) c = inl (nest_to s _ l h.1 c)
nest_low (action t d rest) n f w p s l (inr h) c = lower w (n + 1) n p l (omega arith) (nest_low rest (n + 1) f w p s l h c)
nest_low (branch t e a b rest) n f w p s l h c =
    let no : ℕ = n + 1 + part_count a in
    let next : ℕ = no + part_count b in
    let after : Step = first_step rest next f in
    elim h [
      | inl i ↦ inl (nest_to s _ l i.1 c)
      | inr (inl i) ↦ lower w (n + 1) n p l (omega arith) (nest_low a (n + 1) after w p s l i c)
      | inr (inr (inl i)) ↦ lower w no n p l (omega arith) (nest_low b no after w p s l i c)
      | inr (inr (inr i)) ↦ lower w next n p l (omega arith) (nest_low rest next f w p s l i c)
    ]
nest_low (loop t e b rest) n f w p s l h c =
    let next : ℕ = n + 1 + part_count b in
    elim h [
      | inl i ↦ low_inside w n p l (omega (arith, i.0)) (inl (nest_to s _ l i.1 c))
      | inr (inl i) ↦ low_inside w n p l (omega (arith, (spot_range b (n + 1) (back_to n) (w ++ n ∷ []) p s i).0)) (nest_low b (n + 1) (back_to n) (w ++ n ∷ []) p s l i c)
      | inr (inr i) ↦ lower w next n p l (omega arith) (nest_low rest next f w p s l i c)
    ]

-- a loop that begins before a block and has a part of it is around the block
across : (b : Body) (n : ℕ) (f : Step) (w : List ℕ) (q : ℕ) (u : Spot) (l : ℕ) → SpotIn b n f w q u → Contains u.nest l → l < n → Contains w l
across b n f w q u l h c less = elim (nest_low b n f w q u l h c) [ inl x ↦ x | inr x ↦ absurd (omega (arith, x.0, less)) ]

-- a loop with a part has each that stands between its predicate and that part
nest_between : (b : Body) (n : ℕ) (f : Step) (w : List ℕ) (p q : ℕ) (s u : Spot) (l : ℕ) → SpotIn b n f w p s → SpotIn b n f w q u → Contains u.nest l → l ≤ p → p ≤ q → Contains s.nest l
nest_between done n f w p q s u l h k c le le' = absurd h
nest_between (action t action_ rest) n f w p q s u l h (inl k) c le le' = outer_in (action t action_ rest) n f w p s l h (nest_to u _ l k.1 c)
nest_between (action t action_ rest) n f w p q s u l (inl h) (inr k) c le le' =
    outer_in (action t action_ rest) n f w p s l (inl h) (across rest (n + 1) f w q u l k c (omega (arith, le, h.0)))
nest_between (action t d rest) n f w p q s u l (inr h) (inr k) c le le' = nest_between rest (n + 1) f w p q s u l h k c le le'
nest_between (branch t e a b rest) n f w p q s u l h k c le le' =
    let no : ℕ = n + 1 + part_count a in
    let next : ℕ = no + part_count b in
    let after : Step = first_step rest next f in
    let keep : Contains w l → Contains s.nest l = λ x. outer_in (branch t e a b rest) n f w p s l h x in
    elim k [
      | inl y ↦ keep (nest_to u _ l y.1 c)
      | inr (inl y) ↦ elim h [
        | inl x ↦ keep (across a (n + 1) after w q u l y c (omega (arith, le, x.0)))
        | inr (inl x) ↦ nest_between a (n + 1) after w p q s u l x y c le le'
        | inr (inr (inl x)) ↦ absurd (omega (arith, le', (spot_range b no after w p s x).0, (spot_range a (n + 1) after w q u y).1))
        | inr (inr (inr x)) ↦ absurd (omega (arith, le', (spot_range rest next f w p s x).0, (spot_range a (n + 1) after w q u y).1))
      ]
      | inr (inr (inl y)) ↦ elim h [
        | inl x ↦ keep (across b no after w q u l y c (omega (arith, le, x.0)))
        | inr (inl x) ↦ keep (across b no after w q u l y c (omega (arith, le, (spot_range a (n + 1) after w p s x).1)))
        | inr (inr (inl x)) ↦ nest_between b no after w p q s u l x y c le le'
        | inr (inr (inr x)) ↦ absurd (omega (arith, le', (spot_range rest next f w p s x).0, (spot_range b no after w q u y).1))
      ]
      | inr (inr (inr y)) ↦ elim h [
        | inl x ↦ keep (across rest next f w q u l y c (omega (arith, le, x.0)))
        | inr (inl x) ↦ keep (across rest next f w q u l y c (omega (arith, le, (spot_range a (n + 1) after w p s x).1)))
        | inr (inr (inl x)) ↦ keep (across rest next f w q u l y c (omega (arith, le, (spot_range b no after w p s x).1)))
        | inr (inr (inr x)) ↦ nest_between rest next f w p q s u l x y c le le'
      ]
    ]
nest_between (loop t e b rest) n f w p q s u l h k c le le' =
    let next : ℕ = n + 1 + part_count b in
    let inside : List ℕ = w ++ n ∷ [] in
    let keep : Contains w l → Contains s.nest l = λ x. outer_in (loop t e b rest) n f w p s l h x in
    elim k [
      | inl y ↦ elim h [
        | inl x ↦ nest_to _ s l (sym x.1) (nest_to u _ l y.1 c)
        | inr (inl x) ↦ absurd (omega (arith, le', y.0, (spot_range b (n + 1) (back_to n) inside p s x).0))
        | inr (inr x) ↦ absurd (omega (arith, le', y.0, (spot_range rest next f w p s x).0))
      ]
      | inr (inl y) ↦ elim h [
        | inl x ↦ nest_to _ s l (sym x.1) (across b (n + 1) (back_to n) inside q u l y c (omega (arith, le, x.0)))
        | inr (inl x) ↦ nest_between b (n + 1) (back_to n) inside p q s u l x y c le le'
        | inr (inr x) ↦ absurd (omega (arith, le', (spot_range rest next f w p s x).0, (spot_range b (n + 1) (back_to n) inside q u y).1))
      ]
      | inr (inr y) ↦ elim h [
        | inl x ↦ keep (across rest next f w q u l y c (omega (arith, le, x.0)))
        | inr (inl x) ↦ keep (across rest next f w q u l y c (omega (arith, le, (spot_range b (n + 1) (back_to n) inside p s x).1)))
        | inr (inr x) ↦ nest_between rest next f w p q s u l x y c le le'
      ]
    ]

module _ (t : Tree) where
  abbrev Nest : ℕ → List ℕ
  Nest p = nest_at (spots t) p

  whole_follow : (p : ℕ) (s : Spot) → WholeIn t p s → AllFollow p s
  whole_follow p s (inl h) =
      at_head s _ p 0 h.0 h.1 (λ st c. one_follows 1 [] _ st (first_follows t.body 1 1 [] (end_of t) (omega arith) (step_follows (1 + part_count t.body) (part_count t.body + 1) [] (omega arith))) c)
  whole_follow p s (inr (inl h)) = steps_follow t.body 1 (end_of t) [] p s (step_follows (1 + part_count t.body) (part_count t.body + 1) [] (omega arith)) h
  whole_follow p s (inr (inr h)) = at_head s _ p (part_count t.body + 1) h.0 h.1 (λ st c. absurd (in_none st c))

  follows_at : (p : ℕ) (st : Step) → Contains (next_at (spots t) p) st → Follows (p + 1) (Nest p) st
  follows_at p st c =
      let (s, get) = get_below (spots t) p (step_within (spots t) p st c) in
      subst (λ (w : List ℕ). Follows (p + 1) w st) (sym (ap loops_of get))
      (whole_follow p s (whole_of_get t p s get) st (subst (λ (xs : List Step). Contains xs st) (ap steps_of get) c))

  -- a point inside a loop is a part
  abbrev Inside : ℕ → ℕ → Type 0
  Inside p l = (s : Spot) × SpotIn t.body 1 (end_of t) [] p s × Contains s.nest l

  inside_by : (p l : ℕ) (s : Spot) → WholeIn t p s → Contains s.nest l → Inside p l
  inside_by p l s (inl h) c = absurd (in_none l (nest_to s _ l h.1 c))
  inside_by p l s (inr (inl h)) c = (s, h, c)
  inside_by p l s (inr (inr h)) c = absurd (in_none l (nest_to s _ l h.1 c))

  inside_of : (p l : ℕ) → Contains (Nest p) l → Inside p l
  inside_of p l c = elim (slice_get (spots t) p) as (λ o. slice_get (spots t) p ≡ o → Inside p l) [
    | None ↦ λ is. absurd (in_none l (subst (λ (o : Option Spot). Contains (loops_of o) l) is c))
    | Some s ↦ λ is. inside_by p l s (whole_of_get t p s is) (subst (λ (o : Option Spot). Contains (loops_of o) l) is c)
  ] refl

  inside_low : (p l : ℕ) → Contains (Nest p) l → (1 ≤ l) × (l ≤ p) × (p < 1 + part_count t.body)
  inside_low p l c =
      let (s, h, d) = inside_of p l c in
      elim (nest_low t.body 1 (end_of t) [] p s l h d) [
        | inl none ↦ absurd (in_none l none)
        | inr r ↦ (r.0, r.1, (spot_range t.body 1 (end_of t) [] p s h).1)
      ]

  between_by : (p l : ℕ) (s : Spot) → WholeIn t p s → 1 ≤ p → p < 1 + part_count t.body → SpotIn t.body 1 (end_of t) [] p s
  between_by p l s (inl h) low high = absurd (omega (arith, h.0, low))
  between_by p l s (inr (inl h)) low high = h
  between_by p l s (inr (inr h)) low high = absurd (omega (arith, h.0, high))

  between : (p q l : ℕ) → Contains (Nest q) l → l ≤ p → p ≤ q → Contains (Nest p) l
  between p q l c le le' =
      let (u, k, d) = inside_of q l c in
      let r = inside_low q l c in
      let (s, get) = get_below (spots t) p (omega (arith, le', r.2, count_whole t)) in
      let h = between_by p l s (whole_of_get t p s get) (omega (arith, le, r.0)) (omega (arith, le', r.2)) in
      subst (λ (w : List ℕ). Contains w l) (sym (ap loops_of get)) (nest_between t.body 1 (end_of t) [] p q s u l h k d le le')

  -- the loops around a loop are around what is in it, and it is around itself
  chain_at : (p l : ℕ) (c : Contains (Nest p) l) → Nest l ≡ take (c.0 + 1) (Nest p)
  chain_at p l (i, li, e) = (are_spots t).chain p i l (slice_get-get_or (Nest p) i l li ∙ ap (λ (v : ℕ). Some v) e)

  around_itself : (p l : ℕ) → Contains (Nest p) l → Contains (Nest l) l
  around_itself p l (i, li, e) =
      subst (λ (w : List ℕ). Contains w l) (sym (chain_at p l (i, li, e)))
      (i, omega (arith, li, length-take (i + 1) (Nest p)), get_or-take (i + 1) (Nest p) i l (omega arith) ∙ e)

  around_more : (p l v : ℕ) → Contains (Nest p) l → Contains (Nest l) v → Contains (Nest p) v
  around_more p l v c d = contains_taken (c.0 + 1) (Nest p) v (subst (λ (w : List ℕ). Contains w v) (chain_at p l c) d)

  abbrev AheadOr : ℕ → ℕ → List Step → Type 0
  AheadOr p q steps = (p < q) ⊎ ((w : ℕ) × Contains (Nest p) w × Contains (Nest q) w × Contains steps (back_to w))

  is_back : (q : ℕ) (s : Step) → q ≡ s.to → s.back ≡ true → s ≡ back_to q
  is_back q s e is = λ i. record { to = sym e i; back = is i }

  one_ahead : (p q : ℕ) (s : Step) (back : Bool) → s.back ≡ back → Leads (spots t) p q s → AheadOr p q (s ∷ [])
  one_ahead p q s false is lead = inl (omega (arith, lead.1, (follows_at p s lead.0).0 is))
  one_ahead p q s true is lead =
      let there : Contains (Nest p) q = subst (Contains (Nest p)) (sym lead.1) ((follows_at p s lead.0).1 is) in
      inr (q, there, around_itself p q there, subst (Contains (s ∷ [])) (is_back q s lead.1 is) (in_here s []))

  more_ahead : (p b q : ℕ) (s : Step) (steps : List Step) (back : Bool) → s.back ≡ back → Leads (spots t) p b s → AheadOr b q steps → AheadOr p q (s ∷ steps)
  more_ahead p b q s steps false is lead (inl l) = inl (omega (arith, l, lead.1, (follows_at p s lead.0).0 is))
  more_ahead p b q s steps false is lead (inr (w, x, y, there)) = elim (cases_lt p w) [
    | inl l ↦ inl (omega (arith, l, (inside_low q w y).1))
    | inr le ↦ inr (w, between p b w x le (omega (arith, lead.1, (follows_at p s lead.0).0 is)), y, in_later s (back_to w) steps there)
  ]
  more_ahead p b q s steps true is lead (inl l) =
      let there : Contains (Nest p) b = subst (Contains (Nest p)) (sym lead.1) ((follows_at p s lead.0).1 is) in
      elim (cases_lt p q) [
        | inl ahead ↦ inl ahead
        | inr le ↦ inr (b, there, between q p b there (omega (arith, l)) le, subst (Contains (s ∷ steps)) (is_back b s lead.1 is) (in_here s steps))
      ]
  more_ahead p b q s steps true is lead (inr (w, x, y, there)) =
      let inside : Contains (Nest p) b = subst (Contains (Nest p)) (sym lead.1) ((follows_at p s lead.0).1 is) in
      inr (w, around_more p b w inside x, y, in_later s (back_to w) steps there)

  -- a path leads ahead, or takes the back edge of a loop around both ends
  pub goes_ahead : {Stops : ℕ → Type 0} {p q : ℕ} {steps : List Step} → Path (Leads (spots t)) Stops p q steps → AheadOr p q steps
  goes_ahead (one {a = p} {z = q} {m = s} lead) = one_ahead p q s s.back refl lead
  goes_ahead (step {a = p} {b = b} {z = q} {m = s} {ms = steps} lead on path) = more_ahead p b q s steps s.back refl lead (goes_ahead path)

  pub independent_ahead : (x : List ℕ) (p q : ℕ) → IsFlowAt (spots t) x p q Independent → p < q
  independent_ahead x p q (steps, path, avoids) = elim (goes_ahead path) [
    | inl ahead ↦ ahead
    | inr (w, a, b, there) ↦ absurd (avoids w a b there)
  ]
