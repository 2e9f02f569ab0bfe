-- The items of a run by their numbers, and the log before each: which value and which definition it has for a name, and the paths
-- between the steps.
use Rattle.hpr_meaning.specs.Any.Meaning.{Meaning, HasLaws}
use Rattle.std.proofs.Common.{◌≡◌, ℕ, zero, suc, ◌<◌, ◌≤◌, Bool, true, false, List, [], ◌∷◌, ◌++◌, ◌⊎◌, Option, Some, None, length, refl, ap, subst, ◌∙◌, inl, inr, arith}
use native.Mathlib.Decide.{ℕ_discrete}
use Rattle.hpr_terms.specs.declared.tag.Tag.{Tag}
use Rattle.hpr_syntax.specs.declared.rows.Content.{Content}
use Rattle.hpr_syntax.proofs.StateLaws.{same_itself, same_not}
use Rattle.hpr_syntax.specs.Skeleton.{Point, at}
use Rattle.hpr_syntax.specs.Paths.{Path, one, step}
use Rattle.hpr_paths.specs.Times.{Place}
use Rattle.hpr_meaning.specs.Any.Instances.{Did, Instance, state_after, definer, with_definer}
use Rattle.hpr_syntax.specs.Rows.{assigned}
use mathlib.Core.List.{reverse_aux}
use Rattle.hpr_paths.proofs.Among.{Among, here, there}
use Rattle.std.specs.List.{AllByRecursion}
use Rattle.hpr_paths.specs.Runs.{Ascending}
use Rattle.hpr_paths.proofs.Walks.{WalksAlong}
use Rattle.hpr_paths.proofs.Logs.{places_of, stop_if, IsLawful}
use Rattle.hpr_meaning.proofs.NextState.{next_gives, next_keeps}

-- a place with what the part there says
abbrev pub Spot : Type 0
Spot = Place × Content

module _ (M : Meaning) (LW : HasLaws M) where
  abbrev pub spot_of : Instance M → Spot
  spot_of i = (i.0, i.1.content)

  abbrev pub item_at : List (Instance M) → Instance M → ℕ → Instance M
  item_at [] d k = d
  item_at (i ∷ is) d zero = i
  item_at (i ∷ is) d (suc k) = item_at is d k

  abbrev pub first_items : ℕ → List (Instance M) → List (Instance M)
  first_items zero is = []
  first_items (suc k) [] = []
  first_items (suc k) (i ∷ is) = i ∷ first_items k is

  -- the log before the item k, over an older one
  abbrev pub log_before : List (Instance M) → List (Instance M) → ℕ → List (Instance M)
  log_before is g k = reverse_aux (first_items k is) g

-- the content assigns the name
abbrev pub Assigns : Content → List ℕ → Type 0
Assigns c x = assigned c ≡ Some x

-- lists are the same or not, where their elements are
pub lists_discrete : {A : Type 0} → ((a b : A) → Dec (a ≡ b)) → (x y : List A) → Dec (x ≡ y)
lists_discrete each [] [] = yes refl
lists_discrete each [] (b ∷ y) = no (λ e. absurd cc)
lists_discrete each (a ∷ x) [] = no (λ e. absurd cc)
lists_discrete each (a ∷ x) (b ∷ y) = go (each a b) (lists_discrete each x y)
  where
    go : Dec (a ≡ b) → Dec (x ≡ y) → Dec (a ∷ x ≡ b ∷ y)
    go (yes p) (yes q) = yes (λ i. p i ∷ q i)
    go (no n) d = no (λ e. let f : a ≡ b = cc in n f)
    go (yes p) (no n) = no (λ e. let f : x ≡ y = cc in n f)

pub names_discrete : (x y : List ℕ) → Dec (x ≡ y)
names_discrete x y = lists_discrete ℕ_discrete x y

pub assigns? : (c : Content) (x : List ℕ) → Dec (Assigns c x)
assigns? c x = go (assigned c)
  where
    go : (o : Option (List ℕ)) → Dec (o ≡ Some x)
    go None = no (λ e. absurd cc)
    go (Some y) = down (names_discrete y x)
      where
        down : Dec (y ≡ x) → Dec (Some y ≡ Some x)
        down (yes e) = yes (ap Some e)
        down (no n) = no (λ e. let f : y ≡ x = cc in n f)

-- the last definition after one more step
other_origin : (o : Option (List ℕ)) (a : Spot) (x : List ℕ) (old : Option Spot) → ¬ (o ≡ Some x) → with_definer o a x old ≡ old
other_origin None a x old n = refl
other_origin (Some y) a x old n = let f = same_not x y n in rw f refl

its_origin : (o : Option (List ℕ)) (a : Spot) (x : List ℕ) (old : Option Spot) → o ≡ Some x → with_definer o a x old ≡ Some a
its_origin o a x old e = let f = same_itself x in rw (e, f) refl

module _ (M : Meaning) (LW : HasLaws M) where
  module _ (s : M.State) (d : Instance M) (x : List ℕ) where
    pub value_none : (k : ℕ) (is g : List (Instance M)) → ((j : ℕ) → j < k → ¬ Assigns (item_at M LW is d j).1.content x) → M.get (state_after M s (log_before M LW is g k)) x ≡ M.get (state_after M s g) x
    value_none zero is g n = refl
    value_none (suc k) [] g n = refl
    value_none (suc k) (i ∷ is) g n = value_none k is (i ∷ g) (λ j l. n (suc j) (omega (arith, l))) ∙ next_keeps M LW i.1.content i.1.gave (state_after M s g) x (n 0 (omega arith))

    pub value_last : (j k : ℕ) (is g : List (Instance M)) → k ≤ length is → j < k → Assigns (item_at M LW is d j).1.content x → ((i : ℕ) → j < i → i < k → ¬ Assigns (item_at M LW is d i).1.content x)
        → M.get (state_after M s (log_before M LW is g k)) x ≡ (item_at M LW is d j).1.gave
    value_last j zero is g l a e n = absurd (omega (arith, a))
    value_last j (suc k) [] g l a e n = absurd (omega (arith, l))
    value_last zero (suc k) (i ∷ is) g l a e n = value_none k is (i ∷ g) (λ m b. n (suc m) (omega arith) (omega (arith, b))) ∙ next_gives M LW i.1.content i.1.gave (state_after M s g) x e
    value_last (suc j) (suc k) (i ∷ is) g l a e n = value_last j k is (i ∷ g) (omega (arith, l)) (omega (arith, a)) e (λ m b c. n (suc m) (omega (arith, b)) (omega (arith, c)))

    pub origin_none : (k : ℕ) (is g : List (Instance M)) → ((j : ℕ) → j < k → ¬ Assigns (item_at M LW is d j).1.content x) → definer M x (log_before M LW is g k) ≡ definer M x g
    origin_none zero is g n = refl
    origin_none (suc k) [] g n = refl
    origin_none (suc k) (i ∷ is) g n = origin_none k is (i ∷ g) (λ j l. n (suc j) (omega (arith, l))) ∙ other_origin (assigned i.1.content) (spot_of M LW i) x (definer M x g) (n 0 (omega arith))

    pub origin_last : (j k : ℕ) (is g : List (Instance M)) → k ≤ length is → j < k → Assigns (item_at M LW is d j).1.content x → ((i : ℕ) → j < i → i < k → ¬ Assigns (item_at M LW is d i).1.content x)
        → definer M x (log_before M LW is g k) ≡ Some (spot_of M LW (item_at M LW is d j))
    origin_last j zero is g l a e n = absurd (omega (arith, a))
    origin_last j (suc k) [] g l a e n = absurd (omega (arith, l))
    origin_last zero (suc k) (i ∷ is) g l a e n = origin_none k is (i ∷ g) (λ m b. n (suc m) (omega arith) (omega (arith, b))) ∙ its_origin (assigned i.1.content) (spot_of M LW i) x (definer M x g) e
    origin_last (suc j) (suc k) (i ∷ is) g l a e n = origin_last j k is (i ∷ g) (omega (arith, l)) (omega (arith, a)) e (λ m b c. n (suc m) (omega (arith, b)) (omega (arith, c)))

  -- the whole log is the log after the last item
  pub log_before_end : (is g : List (Instance M)) → log_before M LW is g (length is) ≡ reverse_aux is g
  log_before_end [] g = refl
  log_before_end (i ∷ is) g = log_before_end is (i ∷ g)

  -- each item was given after the log before it
  module _ (truth : Did M → Bool) (gives : Tag → List (Instance M) → Did M → Type 0) where
    lawful_rest : (is g : List (Instance M)) → IsLawful (Did M) truth gives (reverse_aux is g) → IsLawful (Did M) truth gives g
    lawful_rest [] g l = l
    lawful_rest (i ∷ is) g l = (lawful_rest is (i ∷ g) l).1

    pub item_given : (d : Instance M) (k : ℕ) (is g : List (Instance M)) → IsLawful (Did M) truth gives (reverse_aux is g) → k < length is → gives (item_at M LW is d k).0.0 (log_before M LW is g k) (item_at M LW is d k).1
    item_given d k [] g l a = absurd (omega (arith, a))
    item_given d zero (i ∷ is) g l a = (lawful_rest is (i ∷ g) l).0
    item_given d (suc k) (i ∷ is) g l a = item_given d k is (i ∷ g) l (omega (arith, a))

  pub item_of_among : (d i : Instance M) (is : List (Instance M)) → Among i is → (j : ℕ) × (j < length is) × (item_at M LW is d j ≡ i)
  item_of_among d i _ (here {ms = ms}) = (zero, omega arith, refl)
  item_of_among d i _ (there {n = n} {ms = ms} h) = let g = item_of_among d i ms h in (suc g.0, omega (arith, g.1), g.2)

  pub among_of_item : (d : Instance M) (k : ℕ) (is : List (Instance M)) → k < length is → Among (item_at M LW is d k) is
  among_of_item d k [] a = absurd (omega (arith, a))
  among_of_item d zero (i ∷ is) a = here
  among_of_item d (suc k) (i ∷ is) a = there (among_of_item d k is (omega (arith, a)))

  -- steps by number: the items, and the place where the run stopped
  abbrev pub IsStepIn : List (Instance M) → Bool → ℕ → Type 0
  IsStepIn is e k = (k < length is) ⊎ ((k ≡ length is) × (e ≡ false))

  step_in_rest : (i : Instance M) (is : List (Instance M)) (e : Bool) (k : ℕ) → IsStepIn (i ∷ is) e (suc k) → IsStepIn is e k
  step_in_rest i is e k (inl a) = inl (omega (arith, a))
  step_in_rest i is e k (inr a) = inr (omega (arith, a.0), a.1)

  pub each_step : (P : Place → Type 0) (d : Instance M) (e : Bool) (k : ℕ) (is : List (Instance M)) → AllByRecursion P (places_of is ++ stop_if e d.0) → IsStepIn is e k → P (item_at M LW is d k).0
  each_step P d e k [] h (inl a) = absurd (omega (arith, a))
  each_step P d e k [] h (inr a) = (subst (λ y. AllByRecursion P (stop_if y d.0)) a.1 h).0
  each_step P d e zero (i ∷ is) h a = h.0
  each_step P d e (suc k) (i ∷ is) h a = each_step P d e k is h.1 (step_in_rest i is e k a)

  pub steps_ascend_at : (R : Place → Place → Type 0) (d : Instance M) (e : Bool) (j k : ℕ) (is : List (Instance M)) → Ascending R (places_of is ++ stop_if e d.0) → j < k → IsStepIn is e k → R (item_at M LW is d j).0 (item_at M LW is d k).0
  steps_ascend_at R d e j zero is h a b = absurd (omega (arith, a))
  steps_ascend_at R d e j (suc k) [] h a (inl b) = absurd (omega (arith, b))
  steps_ascend_at R d e j (suc k) [] h a (inr b) = let c : suc k ≡ 0 = b.0 in absurd (omega (arith, c))
  steps_ascend_at R d e zero (suc k) (i ∷ is) h a b = each_step (R i.0) d e k is h.0 (step_in_rest i is e k b)
  steps_ascend_at R d e (suc j) (suc k) (i ∷ is) h a b = steps_ascend_at R d e j k is h.1 (omega (arith, a)) (step_in_rest i is e k b)

  -- paths along the steps
  module _ (R : Point → Point → Option Tag → Type 0) (Stops : Point → Type 0) (d : Instance M) (e : Bool) (z : Point) where
    abbrev pub PathTo : Point → Point → Type 0
    PathTo a b = (ms : List (Option Tag)) × Path R Stops a b ms

    abbrev NextStep : Instance M → List (Instance M) → Type 0
    NextStep i is = (q : Point) × (m : Option Tag) × R (at i.0.0) q m × WalksAlong R q (places_of is ++ stop_if e d.0) e z

    not_nil : (is : List (Instance M)) → (places_of is ++ stop_if e d.0) ≡ [] → e ≡ false → ⊥
    not_nil [] h f = let g : stop_if false d.0 ≡ [] = subst (λ y. stop_if y d.0 ≡ []) f h in absurd cc
    not_nil (i ∷ is) h f = absurd cc

    next_of : (i : Instance M) (is : List (Instance M)) (p : Point) → WalksAlong R p (places_of (i ∷ is) ++ stop_if e d.0) e z → (p ≡ at i.0.0) × NextStep i is
    next_of i is p w = (w.0, go w.1)
      where
        go : (((places_of is ++ stop_if e d.0) ≡ []) × (e ≡ false)) ⊎ NextStep i is → NextStep i is
        go (inl h) = absurd (not_nil is h.0 h.1)
        go (inr h) = h

    stop_widen : (p : Point) → e ≡ false → WalksAlong R p (stop_if e d.0) e z → p ≡ at d.0.0
    stop_widen p f w = (subst (λ y. WalksAlong R p (stop_if y d.0) e z) f w).0

    reach : (k : ℕ) (is : List (Instance M)) (p a : Point) (m : Option Tag) → R a p m → WalksAlong R p (places_of is ++ stop_if e d.0) e z → IsStepIn is e k
        → ((i : ℕ) → i < k → ¬ Stops (at (item_at M LW is d i).0.0)) → PathTo a (at (item_at M LW is d k).0.0)
    reach k [] p a m r w (inl l) n = absurd (omega (arith, l))
    reach zero [] p a m r w (inr l) n = (m ∷ [], one (subst (λ y. R a y m) (stop_widen p l.1 w) r))
    reach (suc k) [] p a m r w (inr l) n = let c : suc k ≡ 0 = l.0 in absurd (omega (arith, c))
    reach zero (i ∷ is) p a m r w l n = (m ∷ [], one (subst (λ y. R a y m) w.0 r))
    reach (suc k) (i ∷ is) p a m r w l n =
        let x = next_of i is p w in
        let g = reach k is x.1.0 (at i.0.0) x.1.1 x.1.2 x.1.3 (step_in_rest i is e k l) (λ j b. n (suc j) (omega (arith, b))) in
        (m ∷ g.0, step (subst (λ y. R a y m) x.0 r) (n 0 (omega arith)) g.1)

    pub path_between_steps : (j k : ℕ) (is : List (Instance M)) (p : Point) → WalksAlong R p (places_of is ++ stop_if e d.0) e z → IsStepIn is e k → j < k
        → ((i : ℕ) → j < i → i < k → ¬ Stops (at (item_at M LW is d i).0.0)) → PathTo (at (item_at M LW is d j).0.0) (at (item_at M LW is d k).0.0)
    path_between_steps j zero is p w l a n = absurd (omega (arith, a))
    path_between_steps j (suc k) [] p w (inl l) a n = absurd (omega (arith, l))
    path_between_steps j (suc k) [] p w (inr l) a n = let c : suc k ≡ 0 = l.0 in absurd (omega (arith, c))
    path_between_steps zero (suc k) (i ∷ is) p w l a n =
        let x = next_of i is p w in reach k is x.1.0 (at i.0.0) x.1.1 x.1.2 x.1.3 (step_in_rest i is e k l) (λ j b. n (suc j) (omega arith) (omega (arith, b)))
    path_between_steps (suc j) (suc k) (i ∷ is) p w l a n =
        let x = next_of i is p w in path_between_steps j k is x.1.0 x.1.3 (step_in_rest i is e k l) (omega (arith, a)) (λ m b c. n (suc m) (omega (arith, b)) (omega (arith, c)))

    reach_end : e ≡ true → (is : List (Instance M)) (p a : Point) (m : Option Tag) → R a p m → WalksAlong R p (places_of is ++ stop_if e d.0) e z
        → ((i : ℕ) → i < length is → ¬ Stops (at (item_at M LW is d i).0.0)) → PathTo a z
    reach_end f [] p a m r w n = (m ∷ [], one (subst (λ y. R a y m) (subst (λ y. WalksAlong R p (stop_if y d.0) e z) f w).0 r))
    reach_end f (i ∷ is) p a m r w n =
        let x = next_of i is p w in
        let g = reach_end f is x.1.0 (at i.0.0) x.1.1 x.1.2 x.1.3 (λ j b. n (suc j) (omega (arith, b))) in
        (m ∷ g.0, step (subst (λ y. R a y m) x.0 r) (n 0 (omega arith)) g.1)

    pub path_to_end : e ≡ true → (j : ℕ) (is : List (Instance M)) (p : Point) → WalksAlong R p (places_of is ++ stop_if e d.0) e z → j < length is
        → ((i : ℕ) → j < i → i < length is → ¬ Stops (at (item_at M LW is d i).0.0)) → PathTo (at (item_at M LW is d j).0.0) z
    path_to_end f j [] p w a n = absurd (omega (arith, a))
    path_to_end f zero (i ∷ is) p w a n = let x = next_of i is p w in reach_end f is x.1.0 (at i.0.0) x.1.1 x.1.2 x.1.3 (λ j b. n (suc j) (omega arith) (omega (arith, b)))
    path_to_end f (suc j) (i ∷ is) p w a n = let x = next_of i is p w in path_to_end f j is x.1.0 x.1.3 (omega (arith, a)) (λ m b c. n (suc m) (omega (arith, b)) (omega (arith, c)))
