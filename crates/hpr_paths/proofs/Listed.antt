-- What has its cause among the items is an item, or doesn't come before the place where the run stopped.
use Rattle.hpr_terms.specs.declared.tag.Tag.{Tag}
use Rattle.std.proofs.Common.{◌≡◌, ℕ, suc, ◌<◌, Bool, true, false, List, [], ◌∷◌, ◌++◌, ◌⊎◌, refl, sym, ap, subst, ◌∙◌, inl, inr, arith, append_assoc, append-nil, length}
use Rattle.hpr_syntax.specs.Skeleton.{Skeleton, nil, act, fork, round, at, StandsIn, Distinct}
use Rattle.hpr_paths.proofs.Among.{Among, here, there, among_left, among_right, among_cons, among_append, no_both, among_none}
use Rattle.hpr_paths.specs.Times.{Place, turn_at, InLoop, ComesBefore}
use Rattle.hpr_paths.proofs.Steps.{turn_after, count_after, StandsUnder, under_in, steps_stand}
use Rattle.std.specs.List.{AllByRecursion}
use Rattle.hpr_paths.specs.Runs.{Execution, ended, act_stops, act_goes, fork_stops, yes_stops, no_stops, yes_goes, no_goes, round_stops, round_leaves, body_stops, body_goes}
use Rattle.hpr_paths.proofs.Causes.{IsFirstOnTop, IsCalledBy, items}

inside_in : (t : Tag) (b k : Skeleton) (p : Place) → InLoop t b p → StandsIn (round t b k) (at p.0)
inside_in t b k p (inl e) = inl e
inside_in t b k p (inr x) = inr (inl x)

pub before_in : (B : Skeleton) (d : ℕ) (i j : Place) → ComesBefore B d i j → StandsIn B (at i.0) × StandsIn B (at j.0)
before_in nil d i j h = absurd h
before_in (act t k) d i j (inl h) = (inl h.0, inr h.1)
before_in (act t k) d i j (inr h) = let g = before_in k d i j h in (inr g.0, inr g.1)
before_in (fork t b c k) d i j (inl h) = (inl h.0, inr h.1)
before_in (fork t b c k) d i j (inr (inl h)) = (side h.0, inr (inr (inr h.1)))
  where
    side : StandsIn b (at i.0) ⊎ StandsIn c (at i.0) → StandsIn (fork t b c k) (at i.0)
    side (inl x) = inr (inl x)
    side (inr x) = inr (inr (inl x))
before_in (fork t b c k) d i j (inr (inr (inl h))) = let g = before_in b d i j h in (inr (inl g.0), inr (inl g.1))
before_in (fork t b c k) d i j (inr (inr (inr (inl h)))) = let g = before_in c d i j h in (inr (inr (inl g.0)), inr (inr (inl g.1)))
before_in (fork t b c k) d i j (inr (inr (inr (inr h)))) = let g = before_in k d i j h in (inr (inr (inr g.0)), inr (inr (inr g.1)))
before_in (round t b k) d i j (inl h) = (inside_in t b k i h.0, inr (inr h.1))
before_in (round t b k) d i j (inr (inl h)) = let g = before_in k d i j h in (inr (inr g.0), inr (inr g.1))
before_in (round t b k) d i j (inr (inr h)) = (inside_in t b k i h.0, inside_in t b k j h.1)

-- a place in a block under the turns T
abbrev pub StandsUnderTurns : Skeleton → List ℕ → Place → Type 0
StandsUnderTurns B T σ = StandsIn B (at σ.0) × ((r : List ℕ) × (σ.1 ≡ T ++ r))

at_turns : (t : Tag) (T : List ℕ) (σ : Place) → σ ≡ (t, T) → (at σ.0 ≡ at t) × ((r : List ℕ) × (σ.1 ≡ T ++ r))
at_turns t T σ e = (ap (λ y. at y.0) e, ([], ap (λ y. y.1) e ∙ sym (append-nil T)))

at_turn : (t : Tag) (j : ℕ) (T : List ℕ) (σ : Place) → σ ≡ (t, T ++ (j ∷ [])) → (at σ.0 ≡ at t) × ((r : List ℕ) × (σ.1 ≡ T ++ r))
at_turn t j T σ e = (ap (λ y. at y.0) e, (j ∷ [], ap (λ y. y.1) e))

pub top_stands : (B : Skeleton) (j : ℕ) (T : List ℕ) (σ : Place) → IsFirstOnTop B j T σ → StandsUnderTurns B T σ
top_stands nil j T σ h = absurd h
top_stands (act t k) j T σ (inl e) = let g = at_turns t T σ e in (inl g.0, g.1)
top_stands (act t k) j T σ (inr h) = let g = top_stands k 0 T σ h in (inr g.0, g.1)
top_stands (fork t b c k) j T σ (inl e) = let g = at_turns t T σ e in (inl g.0, g.1)
top_stands (fork t b c k) j T σ (inr h) = let g = top_stands k 0 T σ h in (inr (inr (inr g.0)), g.1)
top_stands (round t b k) j T σ (inl e) = let g = at_turn t j T σ e in (inl g.0, g.1)
top_stands (round t b k) j T σ (inr h) = let g = top_stands k 0 T σ h in (inr (inr g.0), g.1)

pub turn_shorter : (T : List ℕ) (j : ℕ) (σ : Place) → (r : List ℕ) × (σ.1 ≡ (T ++ (j ∷ [])) ++ r) → (r : List ℕ) × (σ.1 ≡ T ++ (j ∷ r))
turn_shorter T j σ h = (h.0, h.1 ∙ append_assoc T (j ∷ []) h.0)

pub turn_of : (T : List ℕ) (j : ℕ) (σ : Place) → (r : List ℕ) × (σ.1 ≡ (T ++ (j ∷ [])) ++ r) → turn_at (length T) σ.1 ≡ j
turn_of T j σ h = let g = turn_shorter T j σ h in ap (turn_at (length T)) g.1 ∙ turn_after T j g.0

pub called_stands : (B : Skeleton) (T : List ℕ) (σ π : Place) (v : Bool) → IsCalledBy B T σ π v → StandsUnderTurns B T σ × StandsUnderTurns B T π
called_stands nil T σ π v h = absurd h
called_stands (act t k) T σ π v h = let g = called_stands k T σ π v h in ((inr g.0.0, g.0.1), (inr g.1.0, g.1.1))
called_stands (fork t b c k) T σ π v (inl h) = (side h.1, let g = at_turns t T π h.0 in (inl g.0, g.1))
  where
    side : ((v ≡ true) × IsFirstOnTop b 0 T σ) ⊎ ((v ≡ false) × IsFirstOnTop c 0 T σ) → StandsUnderTurns (fork t b c k) T σ
    side (inl x) = let g = top_stands b 0 T σ x.1 in (inr (inl g.0), g.1)
    side (inr x) = let g = top_stands c 0 T σ x.1 in (inr (inr (inl g.0)), g.1)
called_stands (fork t b c k) T σ π v (inr (inl h)) = let g = called_stands b T σ π v h in ((inr (inl g.0.0), g.0.1), (inr (inl g.1.0), g.1.1))
called_stands (fork t b c k) T σ π v (inr (inr (inl h))) = let g = called_stands c T σ π v h in ((inr (inr (inl g.0.0)), g.0.1), (inr (inr (inl g.1.0)), g.1.1))
called_stands (fork t b c k) T σ π v (inr (inr (inr h))) = let g = called_stands k T σ π v h in ((inr (inr (inr g.0.0)), g.0.1), (inr (inr (inr g.1.0)), g.1.1))
called_stands (round t b k) T σ π v (inl h) = (side h.3, let g = at_turn t h.0 T π h.1 in (inl g.0, g.1))
  where
    side : IsFirstOnTop b 0 (T ++ (h.0 ∷ [])) σ ⊎ (σ ≡ (t, T ++ (suc h.0 ∷ []))) → StandsUnderTurns (round t b k) T σ
    side (inl x) = let g = top_stands b 0 (T ++ (h.0 ∷ [])) σ x in let s = turn_shorter T h.0 σ g.1 in (inr (inl g.0), (h.0 ∷ s.0, s.1))
    side (inr e) = let g = at_turn t (suc h.0) T σ e in (inl g.0, g.1)
called_stands (round t b k) T σ π v (inr (inl h)) =
    let g = called_stands b (T ++ (h.0 ∷ [])) σ π v h.1 in
    let s = turn_shorter T h.0 σ g.0.1 in
    let p = turn_shorter T h.0 π g.1.1 in
    ((inr (inl g.0.0), (h.0 ∷ s.0, s.1)), (inr (inl g.1.0), (h.0 ∷ p.0, p.1)))
called_stands (round t b k) T σ π v (inr (inr h)) = let g = called_stands k T σ π v h in ((inr (inr g.0.0), g.0.1), (inr (inr g.1.0), g.1.1))

each_at : (P : Place → Type 0) (xs : List Place) (σ : Place) → AllByRecursion P xs → Among σ xs → P σ
each_at P [] σ h m = absurd (among_none _ m)
each_at P (x ∷ xs) σ h m = go (λ g. each_at P xs σ h.1 g) (among_cons m)
  where
    go : (Among σ xs → P σ) → (x ≡ σ) ⊎ Among σ xs → P σ
    go f (inl e) = subst P e h.0
    go f (inr g) = f g

module _ (Value : Type 0) (truth : Value → Bool) (gives : Tag → List (Place × Value) → Value → Type 0) where
  -- the place where the run stopped
  unfoldable pub where_stopped : (B : Skeleton) (j : ℕ) (T : List ℕ) (g : List (Place × Value)) (ss : List Place) (e : Bool) (h : List (Place × Value)) → Execution Value truth gives B j T g ss e h → Place
  where_stopped _ j T g _ _ _ ended = (record { author = 0; serial = 0 }, [])
  where_stopped _ j T g _ _ _ (act_stops {t = t}) = (t, T)
  where_stopped _ j T g _ _ _ (act_goes {t = t} {k = k} {h = h} {ss = ss} {e = e} v w x) = where_stopped k 0 T (((t, T), v) ∷ g) ss e h x
  where_stopped _ j T g _ _ _ (fork_stops {t = t}) = (t, T)
  where_stopped _ j T g _ _ _ (yes_stops {t = t} {b = b} {h = h} {ss = ss} v w y x) = where_stopped b 0 T (((t, T), v) ∷ g) ss false h x
  where_stopped _ j T g _ _ _ (no_stops {t = t} {c = c} {h = h} {ss = ss} v w y x) = where_stopped c 0 T (((t, T), v) ∷ g) ss false h x
  where_stopped _ j T g _ _ _ (yes_goes {k = k} {h = h} {i = i} {rr = rr} {e = e} v w y x z) = where_stopped k 0 T h rr e i z
  where_stopped _ j T g _ _ _ (no_goes {k = k} {h = h} {i = i} {rr = rr} {e = e} v w y x z) = where_stopped k 0 T h rr e i z
  where_stopped _ j T g _ _ _ (round_stops {t = t}) = (t, T ++ (j ∷ []))
  where_stopped _ j T g _ _ _ (round_leaves {t = t} {k = k} {h = h} {ss = ss} {e = e} v w y x) = where_stopped k 0 T (((t, T ++ (j ∷ [])), v) ∷ g) ss e h x
  where_stopped _ j T g _ _ _ (body_stops {t = t} {b = b} {h = h} {ss = ss} v w y x) = where_stopped b 0 (T ++ (j ∷ [])) (((t, T ++ (j ∷ [])), v) ∷ g) ss false h x
  where_stopped _ j T g _ _ _ (body_goes {t = t} {b = b} {k = k} {h = h} {i = i} {rr = rr} {e = e} v w y x z) = where_stopped (round t b k) (suc j) T h rr e i z

  -- the stop is a step, and so is each item
  stop_is_step : (B : Skeleton) (j : ℕ) (T : List ℕ) (g : List (Place × Value)) (ss : List Place) (e : Bool) (h : List (Place × Value))
      → (d : Execution Value truth gives B j T g ss e h) → e ≡ false → Among (where_stopped B j T g ss e h d) ss
  unfolding where_stopped
  stop_is_step _ j T g _ _ _ ended f = no_both refl f
  stop_is_step _ j T g _ _ _ act_stops f = here
  stop_is_step _ j T g _ _ _ (act_goes {t = t} {k = k} {h = h} {ss = ss} {e = e} v w x) f = there (stop_is_step k 0 T (((t, T), v) ∷ g) ss e h x f)
  stop_is_step _ j T g _ _ _ fork_stops f = here
  stop_is_step _ j T g _ _ _ (yes_stops {t = t} {b = b} {h = h} {ss = ss} v w y x) f = there (stop_is_step b 0 T (((t, T), v) ∷ g) ss false h x f)
  stop_is_step _ j T g _ _ _ (no_stops {t = t} {c = c} {h = h} {ss = ss} v w y x) f = there (stop_is_step c 0 T (((t, T), v) ∷ g) ss false h x f)
  stop_is_step _ j T g _ _ _ (yes_goes {k = k} {h = h} {i = i} {ss = ss} {rr = rr} {e = e} v w y x z) f = there (among_right ss (stop_is_step k 0 T h rr e i z f))
  stop_is_step _ j T g _ _ _ (no_goes {k = k} {h = h} {i = i} {ss = ss} {rr = rr} {e = e} v w y x z) f = there (among_right ss (stop_is_step k 0 T h rr e i z f))
  stop_is_step _ j T g _ _ _ round_stops f = here
  stop_is_step _ j T g _ _ _ (round_leaves {t = t} {k = k} {h = h} {ss = ss} {e = e} v w y x) f = there (stop_is_step k 0 T (((t, T ++ (j ∷ [])), v) ∷ g) ss e h x f)
  stop_is_step _ j T g _ _ _ (body_stops {t = t} {b = b} {h = h} {ss = ss} v w y x) f = there (stop_is_step b 0 (T ++ (j ∷ [])) (((t, T ++ (j ∷ [])), v) ∷ g) ss false h x f)
  stop_is_step _ j T g _ _ _ (body_goes {t = t} {b = b} {k = k} {h = h} {i = i} {ss = ss} {rr = rr} {e = e} v w y x z) f =
      there (among_right ss (stop_is_step (round t b k) (suc j) T h rr e i z f))

  stop_stands : (B : Skeleton) (j : ℕ) (T : List ℕ) (g : List (Place × Value)) (ss : List Place) (e : Bool) (h : List (Place × Value)) → Distinct B
      → (d : Execution Value truth gives B j T g ss e h) → e ≡ false → StandsUnderTurns B T (where_stopped B j T g ss e h d)
  stop_stands B j T g ss e h di d f =
      let τ = where_stopped B j T g ss e h d in
      under_in B j T τ (each_at (StandsUnder B j T) ss τ (steps_stand Value truth gives B j T g ss e h di d) (stop_is_step B j T g ss e h d f))

  abbrev pub IsMet : Skeleton → List ℕ → List (Place × Value) → Bool → Place → Place → Type 0
  IsMet B T is e τ σ = ((v : Value) × Among (σ, v) is) ⊎ ((e ≡ false) × (¬ ComesBefore B (length T) σ τ))

  listed_at : (π σ : Place) (v : Value) (is : List (Place × Value)) → σ ≡ π → (w : Value) × Among (σ, w) ((π, v) ∷ is)
  listed_at π σ v is e = (v, subst (λ y. Among (y, v) ((π, v) ∷ is)) (sym e) here)

  -- from the rest, from a block inside in which the run stopped, and past one that it did
  met_after_act : (t : Tag) (k : Skeleton) (T : List ℕ) → Distinct (act t k) → (x : Place × Value) (is : List (Place × Value)) (e : Bool) (τ σ : Place) → StandsIn k (at σ.0)
      → IsMet k T is e τ σ → IsMet (act t k) T (x ∷ is) e τ σ
  met_after_act t k T di x is e τ σ i (inl m) = inl (m.0, there m.1)
  met_after_act t k T di x is e τ σ i (inr l) = inr (l.0, go)
    where
      go : ComesBefore (act t k) (length T) σ τ → ⊥
      go (inl b) = di.0 (subst (StandsIn k) b.0 i)
      go (inr b) = l.1 b

  met_after_fork : (t : Tag) (b c k : Skeleton) (T : List ℕ) → Distinct (fork t b c k) → (full is : List (Place × Value)) → ((y : Place × Value) → Among y is → Among y full)
      → (e : Bool) (τ σ : Place) → StandsIn k (at σ.0) → IsMet k T is e τ σ → IsMet (fork t b c k) T full e τ σ
  met_after_fork t b c k T di full is inc e τ σ i (inl m) = inl (m.0, inc (σ, m.0) m.1)
  met_after_fork t b c k T di full is inc e τ σ i (inr l) = inr (l.0, go)
    where
      go : ComesBefore (fork t b c k) (length T) σ τ → ⊥
      go (inl b') = di.2 (subst (StandsIn k) b'.0 i)
      go (inr (inl (inl x, y))) = di.4 (at σ.0) x i
      go (inr (inl (inr x, y))) = di.5 (at σ.0) x i
      go (inr (inr (inl h))) = di.4 (at σ.0) (before_in b (length T) σ τ h).0 i
      go (inr (inr (inr (inl h)))) = di.5 (at σ.0) (before_in c (length T) σ τ h).0 i
      go (inr (inr (inr (inr h)))) = l.1 h

  met_in_yes : (t : Tag) (b c k : Skeleton) (T : List ℕ) → Distinct (fork t b c k) → (full is : List (Place × Value)) → ((y : Place × Value) → Among y is → Among y full)
      → (e : Bool) (τ σ : Place) → StandsIn b (at σ.0) → (e ≡ false → StandsIn b (at τ.0)) → IsMet b T is e τ σ → IsMet (fork t b c k) T full e τ σ
  met_in_yes t b c k T di full is inc e τ σ i it (inl m) = inl (m.0, inc (σ, m.0) m.1)
  met_in_yes t b c k T di full is inc e τ σ i it (inr l) = inr (l.0, go)
    where
      go : ComesBefore (fork t b c k) (length T) σ τ → ⊥
      go (inl b') = di.0 (subst (StandsIn b) b'.0 i)
      go (inr (inl (x, y))) = di.4 (at τ.0) (it l.0) y
      go (inr (inr (inl h))) = l.1 h
      go (inr (inr (inr (inl h)))) = di.3 (at σ.0) i (before_in c (length T) σ τ h).0
      go (inr (inr (inr (inr h)))) = di.4 (at σ.0) i (before_in k (length T) σ τ h).0

  met_in_no : (t : Tag) (b c k : Skeleton) (T : List ℕ) → Distinct (fork t b c k) → (full is : List (Place × Value)) → ((y : Place × Value) → Among y is → Among y full)
      → (e : Bool) (τ σ : Place) → StandsIn c (at σ.0) → (e ≡ false → StandsIn c (at τ.0)) → IsMet c T is e τ σ → IsMet (fork t b c k) T full e τ σ
  met_in_no t b c k T di full is inc e τ σ i it (inl m) = inl (m.0, inc (σ, m.0) m.1)
  met_in_no t b c k T di full is inc e τ σ i it (inr l) = inr (l.0, go)
    where
      go : ComesBefore (fork t b c k) (length T) σ τ → ⊥
      go (inl b') = di.1 (subst (StandsIn c) b'.0 i)
      go (inr (inl (x, y))) = di.5 (at τ.0) (it l.0) y
      go (inr (inr (inl h))) = di.3 (at σ.0) (before_in b (length T) σ τ h).0 i
      go (inr (inr (inr (inl h)))) = l.1 h
      go (inr (inr (inr (inr h)))) = di.5 (at σ.0) i (before_in k (length T) σ τ h).0

  met_after_round : (t : Tag) (b k : Skeleton) (T : List ℕ) → Distinct (round t b k) → (full is : List (Place × Value)) → ((y : Place × Value) → Among y is → Among y full)
      → (e : Bool) (τ σ : Place) → StandsIn k (at σ.0) → IsMet k T is e τ σ → IsMet (round t b k) T full e τ σ
  met_after_round t b k T di full is inc e τ σ i (inl m) = inl (m.0, inc (σ, m.0) m.1)
  met_after_round t b k T di full is inc e τ σ i (inr l) = inr (l.0, go)
    where
      out : InLoop t b σ → ⊥
      out (inl e) = di.1 (subst (StandsIn k) e i)
      out (inr x) = di.2 (at σ.0) x i

      go : ComesBefore (round t b k) (length T) σ τ → ⊥
      go (inl h) = out h.0
      go (inr (inl h)) = l.1 h
      go (inr (inr h)) = out h.0

  met_in_body : (t : Tag) (b k : Skeleton) (j : ℕ) (T : List ℕ) → Distinct (round t b k) → (full is : List (Place × Value)) → ((y : Place × Value) → Among y is → Among y full)
      → (e : Bool) (τ σ : Place) → StandsUnderTurns b (T ++ (j ∷ [])) σ → (e ≡ false → StandsUnderTurns b (T ++ (j ∷ [])) τ)
      → IsMet b (T ++ (j ∷ [])) is e τ σ → IsMet (round t b k) T full e τ σ
  met_in_body t b k j T di full is inc e τ σ i it (inl m) = inl (m.0, inc (σ, m.0) m.1)
  met_in_body t b k j T di full is inc e τ σ i it (inr l) = inr (l.0, go)
    where
      same : turn_at (length T) σ.1 ≡ turn_at (length T) τ.1
      same = turn_of T j σ i.1 ∙ sym (turn_of T j τ (it l.0).1)

      go : ComesBefore (round t b k) (length T) σ τ → ⊥
      go (inl h) = di.2 (at τ.0) (it l.0).0 h.1
      go (inr (inl h)) = di.2 (at σ.0) i.0 (before_in k (length T) σ τ h).0
      go (inr (inr (x, y, inl h))) = absurd (omega (arith, same, h))
      go (inr (inr (x, y, inr (h, inl g)))) = di.0 (subst (StandsIn b) g.0 i.0)
      go (inr (inr (x, y, inr (h, inr g)))) = l.1 (subst (λ d. ComesBefore b d σ τ) (sym (count_after T j)) g)

  -- the place of a stop at the head; a place of the rest where the run stopped in a block inside
  no_act : (t : Tag) (k : Skeleton) (d : ℕ) (T : List ℕ) → Distinct (act t k) → (σ : Place) → ¬ ComesBefore (act t k) d σ (t, T)
  no_act t k d T di σ (inl h) = di.0 h.1
  no_act t k d T di σ (inr h) = di.0 (before_in k d σ (t, T) h).1

  no_fork : (t : Tag) (b c k : Skeleton) (d : ℕ) (T : List ℕ) → Distinct (fork t b c k) → (σ : Place) → ¬ ComesBefore (fork t b c k) d σ (t, T)
  no_fork t b c k d T di σ (inl (e, inl x)) = di.0 x
  no_fork t b c k d T di σ (inl (e, inr (inl x))) = di.1 x
  no_fork t b c k d T di σ (inl (e, inr (inr x))) = di.2 x
  no_fork t b c k d T di σ (inr (inl h)) = di.2 h.1
  no_fork t b c k d T di σ (inr (inr (inl h))) = di.0 (before_in b d σ (t, T) h).1
  no_fork t b c k d T di σ (inr (inr (inr (inl h)))) = di.1 (before_in c d σ (t, T) h).1
  no_fork t b c k d T di σ (inr (inr (inr (inr h)))) = di.2 (before_in k d σ (t, T) h).1

  no_round : (t : Tag) (j : ℕ) (b k : Skeleton) (T : List ℕ) → Distinct (round t b k) → (σ : Place) → (σ ≡ (t, T ++ (j ∷ []))) ⊎ StandsIn k (at σ.0)
      → ¬ ComesBefore (round t b k) (length T) σ (t, T ++ (j ∷ []))
  no_round t j b k T di σ s (inl h) = di.1 h.1
  no_round t j b k T di σ s (inr (inl h)) = di.1 (before_in k (length T) σ (t, T ++ (j ∷ [])) h).1
  no_round t j b k T di σ s (inr (inr (x, y, inr (h, inl g)))) = di.0 g.1
  no_round t j b k T di σ s (inr (inr (x, y, inr (h, inr g)))) = di.0 (before_in b (suc (length T)) σ (t, T ++ (j ∷ [])) g).1
  no_round t j b k T di σ (inl e) (inr (inr (x, y, inl h))) =
      absurd (omega (arith, subst (λ (z : Place). turn_at (length T) z.1 < turn_at (length T) (T ++ (j ∷ []))) e h))
  no_round t j b k T di σ (inr i) (inr (inr (inl e, y, inl h))) = di.1 (subst (StandsIn k) e i)
  no_round t j b k T di σ (inr i) (inr (inr (inr x, y, inl h))) = di.2 (at σ.0) x i

  late_fork : (t : Tag) (b c k : Skeleton) (d : ℕ) → Distinct (fork t b c k) → (σ τ : Place) → StandsIn k (at σ.0) → StandsIn b (at τ.0) ⊎ StandsIn c (at τ.0)
      → ¬ ComesBefore (fork t b c k) d σ τ
  late_fork t b c k d di σ τ i o (inl h) = di.2 (subst (StandsIn k) h.0 i)
  late_fork t b c k d di σ τ i o (inr (inl (inl x, y))) = di.4 (at σ.0) x i
  late_fork t b c k d di σ τ i o (inr (inl (inr x, y))) = di.5 (at σ.0) x i
  late_fork t b c k d di σ τ i o (inr (inr (inl h))) = di.4 (at σ.0) (before_in b d σ τ h).0 i
  late_fork t b c k d di σ τ i o (inr (inr (inr (inl h)))) = di.5 (at σ.0) (before_in c d σ τ h).0 i
  late_fork t b c k d di σ τ i (inl o) (inr (inr (inr (inr h)))) = di.4 (at τ.0) o (before_in k d σ τ h).1
  late_fork t b c k d di σ τ i (inr o) (inr (inr (inr (inr h)))) = di.5 (at τ.0) o (before_in k d σ τ h).1

  late_round : (t : Tag) (b k : Skeleton) (d : ℕ) → Distinct (round t b k) → (σ τ : Place) → StandsIn k (at σ.0) → StandsIn b (at τ.0) → ¬ ComesBefore (round t b k) d σ τ
  late_round t b k d di σ τ i o (inl (inl e, y)) = di.1 (subst (StandsIn k) e i)
  late_round t b k d di σ τ i o (inl (inr x, y)) = di.2 (at σ.0) x i
  late_round t b k d di σ τ i o (inr (inl h)) = di.2 (at τ.0) o (before_in k d σ τ h).1
  late_round t b k d di σ τ i o (inr (inr (inl e, y, z))) = di.1 (subst (StandsIn k) e i)
  late_round t b k d di σ τ i o (inr (inr (inr x, y, z))) = di.2 (at σ.0) x i

  -- the first places of the parts of the block itself
  pub top_met : (B : Skeleton) (j : ℕ) (T : List ℕ) (g : List (Place × Value)) (ss : List Place) (e : Bool) (h : List (Place × Value)) → Distinct B
      → (d : Execution Value truth gives B j T g ss e h) → (σ : Place) → IsFirstOnTop B j T σ
      → IsMet B T (items Value truth gives B j T g ss e h d) e (where_stopped B j T g ss e h d) σ
  unfolding items where_stopped
  top_met _ j T g _ _ _ di ended σ t = absurd t
  top_met _ j T g _ _ _ di (act_stops {t = t} {k = k}) σ p = inr (refl, no_act t k (length T) T di σ)
  top_met _ j T g _ _ _ di (act_goes {t = t} {k = k} {h = h} {ss = ss} {e = e} v w x) σ (inl p) =
      inl (listed_at (t, T) σ v (items Value truth gives k 0 T (((t, T), v) ∷ g) ss e h x) p)
  top_met _ j T g _ _ _ di (act_goes {t = t} {k = k} {h = h} {ss = ss} {e = e} v w x) σ (inr p) =
      met_after_act t k T di ((t, T), v) (items Value truth gives k 0 T (((t, T), v) ∷ g) ss e h x) e (where_stopped k 0 T (((t, T), v) ∷ g) ss e h x) σ
      (top_stands k 0 T σ p).0 (top_met k 0 T (((t, T), v) ∷ g) ss e h di.1 x σ p)
  top_met _ j T g _ _ _ di (fork_stops {t = t} {b = b} {c = c} {k = k}) σ p = inr (refl, no_fork t b c k (length T) T di σ)
  top_met _ j T g _ _ _ di (yes_stops {t = t} {b = b} {c = c} {k = k} {h = h} {ss = ss} v w y x) σ (inl p) =
      inl (listed_at (t, T) σ v (items Value truth gives b 0 T (((t, T), v) ∷ g) ss false h x) p)
  top_met _ j T g _ _ _ di (yes_stops {t = t} {b = b} {c = c} {k = k} {h = h} {ss = ss} v w y x) σ (inr p) =
      inr (
        refl,
        late_fork t b c k (length T) di σ (where_stopped b 0 T (((t, T), v) ∷ g) ss false h x) (top_stands k 0 T σ p).0
            (inl (stop_stands b 0 T (((t, T), v) ∷ g) ss false h di.6 x refl).0),
      )
  top_met _ j T g _ _ _ di (no_stops {t = t} {b = b} {c = c} {k = k} {h = h} {ss = ss} v w y x) σ (inl p) =
      inl (listed_at (t, T) σ v (items Value truth gives c 0 T (((t, T), v) ∷ g) ss false h x) p)
  top_met _ j T g _ _ _ di (no_stops {t = t} {b = b} {c = c} {k = k} {h = h} {ss = ss} v w y x) σ (inr p) =
      inr (
        refl,
        late_fork t b c k (length T) di σ (where_stopped c 0 T (((t, T), v) ∷ g) ss false h x) (top_stands k 0 T σ p).0
            (inr (stop_stands c 0 T (((t, T), v) ∷ g) ss false h di.7 x refl).0),
      )
  top_met _ j T g _ _ _ di (yes_goes {t = t} {b = b} {c = c} {k = k} {h = h} {i = i} {ss = ss} {rr = rr} {e = e} v w y x z) σ (inl p) =
      inl (listed_at (t, T) σ v (items Value truth gives b 0 T (((t, T), v) ∷ g) ss true h x ++ items Value truth gives k 0 T h rr e i z) p)
  top_met _ j T g _ _ _ di (yes_goes {t = t} {b = b} {c = c} {k = k} {h = h} {i = i} {ss = ss} {rr = rr} {e = e} v w y x z) σ (inr p) =
      let is = items Value truth gives b 0 T (((t, T), v) ∷ g) ss true h x in
      let js = items Value truth gives k 0 T h rr e i z in
      met_after_fork t b c k T di (((t, T), v) ∷ (is ++ js)) js (λ q m. there (among_right is m)) e (where_stopped k 0 T h rr e i z) σ (top_stands k 0 T σ p).0 (top_met k 0 T h rr e i di.8 z σ p)
  top_met _ j T g _ _ _ di (no_goes {t = t} {b = b} {c = c} {k = k} {h = h} {i = i} {ss = ss} {rr = rr} {e = e} v w y x z) σ (inl p) =
      inl (listed_at (t, T) σ v (items Value truth gives c 0 T (((t, T), v) ∷ g) ss true h x ++ items Value truth gives k 0 T h rr e i z) p)
  top_met _ j T g _ _ _ di (no_goes {t = t} {b = b} {c = c} {k = k} {h = h} {i = i} {ss = ss} {rr = rr} {e = e} v w y x z) σ (inr p) =
      let is = items Value truth gives c 0 T (((t, T), v) ∷ g) ss true h x in
      let js = items Value truth gives k 0 T h rr e i z in
      met_after_fork t b c k T di (((t, T), v) ∷ (is ++ js)) js (λ q m. there (among_right is m)) e (where_stopped k 0 T h rr e i z) σ (top_stands k 0 T σ p).0 (top_met k 0 T h rr e i di.8 z σ p)
  top_met _ j T g _ _ _ di (round_stops {t = t} {b = b} {k = k}) σ (inl p) = inr (refl, no_round t j b k T di σ (inl p))
  top_met _ j T g _ _ _ di (round_stops {t = t} {b = b} {k = k}) σ (inr p) = inr (refl, no_round t j b k T di σ (inr (top_stands k 0 T σ p).0))
  top_met _ j T g _ _ _ di (round_leaves {t = t} {b = b} {k = k} {h = h} {ss = ss} {e = e} v w y x) σ (inl p) =
      inl (listed_at (t, T ++ (j ∷ [])) σ v (items Value truth gives k 0 T (((t, T ++ (j ∷ [])), v) ∷ g) ss e h x) p)
  top_met _ j T g _ _ _ di (round_leaves {t = t} {b = b} {k = k} {h = h} {ss = ss} {e = e} v w y x) σ (inr p) =
      let is = items Value truth gives k 0 T (((t, T ++ (j ∷ [])), v) ∷ g) ss e h x in
      met_after_round t b k T di (((t, T ++ (j ∷ [])), v) ∷ is) is (λ q m. there m) e (where_stopped k 0 T (((t, T ++ (j ∷ [])), v) ∷ g) ss e h x) σ
      (top_stands k 0 T σ p).0 (top_met k 0 T (((t, T ++ (j ∷ [])), v) ∷ g) ss e h di.4 x σ p)
  top_met _ j T g _ _ _ di (body_stops {t = t} {b = b} {k = k} {h = h} {ss = ss} v w y x) σ (inl p) =
      inl (listed_at (t, T ++ (j ∷ [])) σ v (items Value truth gives b 0 (T ++ (j ∷ [])) (((t, T ++ (j ∷ [])), v) ∷ g) ss false h x) p)
  top_met _ j T g _ _ _ di (body_stops {t = t} {b = b} {k = k} {h = h} {ss = ss} v w y x) σ (inr p) =
      inr (
        refl,
        late_round t b k (length T) di σ (where_stopped b 0 (T ++ (j ∷ [])) (((t, T ++ (j ∷ [])), v) ∷ g) ss false h x) (top_stands k 0 T σ p).0
            (stop_stands b 0 (T ++ (j ∷ [])) (((t, T ++ (j ∷ [])), v) ∷ g) ss false h di.3 x refl).0,
      )
  top_met _ j T g _ _ _ di (body_goes {t = t} {b = b} {k = k} {h = h} {i = i} {ss = ss} {rr = rr} {e = e} v w y x z) σ (inl p) =
      inl (listed_at (t, T ++ (j ∷ [])) σ v (items Value truth gives b 0 (T ++ (j ∷ [])) (((t, T ++ (j ∷ [])), v) ∷ g) ss true h x ++ items Value truth gives (round t b k) (suc j) T h rr e i z) p)
  top_met _ j T g _ _ _ di (body_goes {t = t} {b = b} {k = k} {h = h} {i = i} {ss = ss} {rr = rr} {e = e} v w y x z) σ (inr p) =
      later (top_met (round t b k) (suc j) T h rr e i di z σ (inr p))
    where
      later : IsMet (round t b k) T (items Value truth gives (round t b k) (suc j) T h rr e i z) e (where_stopped (round t b k) (suc j) T h rr e i z) σ
          → IsMet (round t b k) T (((t, T ++ (j ∷ [])), v) ∷ (items Value truth gives b 0 (T ++ (j ∷ [])) (((t, T ++ (j ∷ [])), v) ∷ g) ss true h x
          ++ items Value truth gives (round t b k) (suc j) T h rr e i z)) e (where_stopped (round t b k) (suc j) T h rr e i z) σ
      later (inl m) = inl (m.0, there (among_right (items Value truth gives b 0 (T ++ (j ∷ [])) (((t, T ++ (j ∷ [])), v) ∷ g) ss true h x) m.1))
      later (inr l) = inr l

  one_step : (ρ : Place) (w : Value) (π : Place) (v : Value) (ss : List Place) (is : List (Place × Value)) → (Among (π, v) is → Among π ss)
      → (◌≡◌ {A = Place × Value} (ρ, w) (π, v)) ⊎ Among (π, v) is → Among π (ρ ∷ ss)
  one_step ρ w π v ss is f (inl e) = subst (λ (y : Place). Among y (ρ ∷ ss)) (ap (λ (y : Place × Value). y.0) e) here
  one_step ρ w π v ss is f (inr m) = there (f m)

  two_step : (π : Place) (v : Value) (ss rr : List Place) (is js : List (Place × Value)) → (Among (π, v) is → Among π ss) → (Among (π, v) js → Among π rr)
      → Among (π, v) is ⊎ Among (π, v) js → Among π (ss ++ rr)
  two_step π v ss rr is js f g (inl m) = among_left rr (f m)
  two_step π v ss rr is js f g (inr m) = among_right ss (g m)

  item_is_step : (B : Skeleton) (j : ℕ) (T : List ℕ) (g : List (Place × Value)) (ss : List Place) (e : Bool) (h : List (Place × Value))
      → (d : Execution Value truth gives B j T g ss e h) → (π : Place) (v : Value) → Among (π, v) (items Value truth gives B j T g ss e h d) → Among π ss
  unfolding items
  item_is_step _ j T g _ _ _ ended π v m = absurd (among_none _ m)
  item_is_step _ j T g _ _ _ act_stops π v m = absurd (among_none _ m)
  item_is_step _ j T g _ _ _ (act_goes {t = t} {k = k} {h = h} {ss = ss} {e = e} w a x) π v m =
      one_step (t, T) w π v ss (items Value truth gives k 0 T (((t, T), w) ∷ g) ss e h x) (λ q. item_is_step k 0 T (((t, T), w) ∷ g) ss e h x π v q) (among_cons m)
  item_is_step _ j T g _ _ _ fork_stops π v m = absurd (among_none _ m)
  item_is_step _ j T g _ _ _ (yes_stops {t = t} {b = b} {h = h} {ss = ss} w a y x) π v m =
      one_step (t, T) w π v ss (items Value truth gives b 0 T (((t, T), w) ∷ g) ss false h x) (λ q. item_is_step b 0 T (((t, T), w) ∷ g) ss false h x π v q) (among_cons m)
  item_is_step _ j T g _ _ _ (no_stops {t = t} {c = c} {h = h} {ss = ss} w a y x) π v m =
      one_step (t, T) w π v ss (items Value truth gives c 0 T (((t, T), w) ∷ g) ss false h x) (λ q. item_is_step c 0 T (((t, T), w) ∷ g) ss false h x π v q) (among_cons m)
  item_is_step _ j T g _ _ _ (yes_goes {t = t} {b = b} {k = k} {h = h} {i = i} {ss = ss} {rr = rr} {e = e} w a y x z) π v m =
      let is = items Value truth gives b 0 T (((t, T), w) ∷ g) ss true h x in
      let js = items Value truth gives k 0 T h rr e i z in
      one_step (t, T) w π v (ss ++ rr) (is ++ js)
      (λ q. two_step π v ss rr is js (λ p. item_is_step b 0 T (((t, T), w) ∷ g) ss true h x π v p) (λ p. item_is_step k 0 T h rr e i z π v p) (among_append is js q)) (among_cons m)
  item_is_step _ j T g _ _ _ (no_goes {t = t} {c = c} {k = k} {h = h} {i = i} {ss = ss} {rr = rr} {e = e} w a y x z) π v m =
      let is = items Value truth gives c 0 T (((t, T), w) ∷ g) ss true h x in
      let js = items Value truth gives k 0 T h rr e i z in
      one_step (t, T) w π v (ss ++ rr) (is ++ js)
      (λ q. two_step π v ss rr is js (λ p. item_is_step c 0 T (((t, T), w) ∷ g) ss true h x π v p) (λ p. item_is_step k 0 T h rr e i z π v p) (among_append is js q)) (among_cons m)
  item_is_step _ j T g _ _ _ round_stops π v m = absurd (among_none _ m)
  item_is_step _ j T g _ _ _ (round_leaves {t = t} {k = k} {h = h} {ss = ss} {e = e} w a y x) π v m =
      one_step (t, T ++ (j ∷ [])) w π v ss (items Value truth gives k 0 T (((t, T ++ (j ∷ [])), w) ∷ g) ss e h x) (λ q. item_is_step k 0 T (((t, T ++ (j ∷ [])), w) ∷ g) ss e h x π v q) (among_cons m)
  item_is_step _ j T g _ _ _ (body_stops {t = t} {b = b} {h = h} {ss = ss} w a y x) π v m =
      one_step (t, T ++ (j ∷ [])) w π v ss (items Value truth gives b 0 (T ++ (j ∷ [])) (((t, T ++ (j ∷ [])), w) ∷ g) ss false h x)
      (λ q. item_is_step b 0 (T ++ (j ∷ [])) (((t, T ++ (j ∷ [])), w) ∷ g) ss false h x π v q) (among_cons m)
  item_is_step _ j T g _ _ _ (body_goes {t = t} {b = b} {k = k} {h = h} {i = i} {ss = ss} {rr = rr} {e = e} w a y x z) π v m =
      let is = items Value truth gives b 0 (T ++ (j ∷ [])) (((t, T ++ (j ∷ [])), w) ∷ g) ss true h x in
      let js = items Value truth gives (round t b k) (suc j) T h rr e i z in
      one_step (t, T ++ (j ∷ [])) w π v (ss ++ rr) (is ++ js)
      (λ q. two_step π v ss rr is js (λ p. item_is_step b 0 (T ++ (j ∷ [])) (((t, T ++ (j ∷ [])), w) ∷ g) ss true h x π v p)
      (λ p. item_is_step (round t b k) (suc j) T h rr e i z π v p) (among_append is js q)) (among_cons m)

  item_stands : (B : Skeleton) (j : ℕ) (T : List ℕ) (g : List (Place × Value)) (ss : List Place) (e : Bool) (h : List (Place × Value)) → Distinct B
      → (d : Execution Value truth gives B j T g ss e h) → (π : Place) (v : Value) → Among (π, v) (items Value truth gives B j T g ss e h d) → StandsUnderTurns B T π
  item_stands B j T g ss e h di d π v m =
      under_in B j T π (each_at (StandsUnder B j T) ss π (steps_stand Value truth gives B j T g ss e h di d) (item_is_step B j T g ss e h d π v m))

  met_done : (B : Skeleton) (T : List ℕ) (is : List (Place × Value)) (τ σ : Place) → IsMet B T is true τ σ → (w : Value) × Among (σ, w) is
  met_done B T is τ σ (inl m) = m
  met_done B T is τ σ (inr l) = no_both refl l.0

  -- what the item of a conditional at the head calls for
  own_of_fork : (t : Tag) (b c k : Skeleton) (T : List ℕ) → Distinct (fork t b c k) → (w : Value) (π σ : Place) (v : Value) → ◌≡◌ {A = Place × Value} ((t, T), w) (π, v)
      → IsCalledBy (fork t b c k) T σ π (truth v) → ((truth w ≡ true) × IsFirstOnTop b 0 T σ) ⊎ ((truth w ≡ false) × IsFirstOnTop c 0 T σ)
  own_of_fork t b c k T di w π σ v e (inl (pe, inl (f, p))) = inl (ap (λ (y : Place × Value). truth y.1) e ∙ f, p)
  own_of_fork t b c k T di w π σ v e (inl (pe, inr (f, p))) = inr (ap (λ (y : Place × Value). truth y.1) e ∙ f, p)
  own_of_fork t b c k T di w π σ v e (inr (inl h)) = absurd (di.0 (subst (λ (y : Place × Value). StandsIn b (at y.0.0)) (sym e) (called_stands b T σ π (truth v) h).1.0))
  own_of_fork t b c k T di w π σ v e (inr (inr (inl h))) = absurd (di.1 (subst (λ (y : Place × Value). StandsIn c (at y.0.0)) (sym e) (called_stands c T σ π (truth v) h).1.0))
  own_of_fork t b c k T di w π σ v e (inr (inr (inr h))) = absurd (di.2 (subst (λ (y : Place × Value). StandsIn k (at y.0.0)) (sym e) (called_stands k T σ π (truth v) h).1.0))

  -- what an item of a block inside calls for
  called_in_yes : (t : Tag) (b c k : Skeleton) (T : List ℕ) → Distinct (fork t b c k) → (σ π : Place) (v : Bool) → StandsIn b (at π.0) → IsCalledBy (fork t b c k) T σ π v → IsCalledBy b T σ π v
  called_in_yes t b c k T di σ π v i (inl h) = absurd (di.0 (subst (λ (y : Place). StandsIn b (at y.0)) h.0 i))
  called_in_yes t b c k T di σ π v i (inr (inl h)) = h
  called_in_yes t b c k T di σ π v i (inr (inr (inl h))) = absurd (di.3 (at π.0) i (called_stands c T σ π v h).1.0)
  called_in_yes t b c k T di σ π v i (inr (inr (inr h))) = absurd (di.4 (at π.0) i (called_stands k T σ π v h).1.0)

  called_in_no : (t : Tag) (b c k : Skeleton) (T : List ℕ) → Distinct (fork t b c k) → (σ π : Place) (v : Bool) → StandsIn c (at π.0) → IsCalledBy (fork t b c k) T σ π v → IsCalledBy c T σ π v
  called_in_no t b c k T di σ π v i (inl h) = absurd (di.1 (subst (λ (y : Place). StandsIn c (at y.0)) h.0 i))
  called_in_no t b c k T di σ π v i (inr (inl h)) = absurd (di.3 (at π.0) (called_stands b T σ π v h).1.0 i)
  called_in_no t b c k T di σ π v i (inr (inr (inl h))) = h
  called_in_no t b c k T di σ π v i (inr (inr (inr h))) = absurd (di.5 (at π.0) i (called_stands k T σ π v h).1.0)

  called_after_fork : (t : Tag) (b c k : Skeleton) (T : List ℕ) → Distinct (fork t b c k) → (σ π : Place) (v : Bool) → StandsIn k (at π.0) → IsCalledBy (fork t b c k) T σ π v → IsCalledBy k T σ π v
  called_after_fork t b c k T di σ π v i (inl h) = absurd (di.2 (subst (λ (y : Place). StandsIn k (at y.0)) h.0 i))
  called_after_fork t b c k T di σ π v i (inr (inl h)) = absurd (di.4 (at π.0) (called_stands b T σ π v h).1.0 i)
  called_after_fork t b c k T di σ π v i (inr (inr (inl h))) = absurd (di.5 (at π.0) (called_stands c T σ π v h).1.0 i)
  called_after_fork t b c k T di σ π v i (inr (inr (inr h))) = h

  -- what the item of a loop at the head calls for at its turn j
  own_of_round : (t : Tag) (j : ℕ) (b k : Skeleton) (T : List ℕ) → Distinct (round t b k) → (w : Value) (π σ : Place) (v : Value) → ◌≡◌ {A = Place × Value} ((t, T ++ (j ∷ [])), w) (π, v)
      → IsCalledBy (round t b k) T σ π (truth v) → (truth w ≡ true) × (IsFirstOnTop b 0 (T ++ (j ∷ [])) σ ⊎ (σ ≡ (t, T ++ (suc j ∷ []))))
  own_of_round t j b k T di w π σ v e (inl (i, pe, f, p)) =
      let same : i ≡ j = sym (turn_after T i []) ∙ (ap (λ (y : Place). turn_at (length T) y.1) (sym (ap (λ (y : Place × Value). y.0) e ∙ pe)) ∙ turn_after T j []) in
      (ap (λ (y : Place × Value). truth y.1) e ∙ f, subst (λ (y : ℕ). IsFirstOnTop b 0 (T ++ (y ∷ [])) σ ⊎ (σ ≡ (t, T ++ (suc y ∷ [])))) same p)
  own_of_round t j b k T di w π σ v e (inr (inl h)) =
      absurd (di.0 (subst (λ (y : Place × Value). StandsIn b (at y.0.0)) (sym e) (called_stands b (T ++ (h.0 ∷ [])) σ π (truth v) h.1).1.0))
  own_of_round t j b k T di w π σ v e (inr (inr h)) = absurd (di.1 (subst (λ (y : Place × Value). StandsIn k (at y.0.0)) (sym e) (called_stands k T σ π (truth v) h).1.0))

  called_in_body : (t : Tag) (j : ℕ) (b k : Skeleton) (T : List ℕ) → Distinct (round t b k) → (σ π : Place) (v : Bool) → StandsUnderTurns b (T ++ (j ∷ [])) π
      → IsCalledBy (round t b k) T σ π v → IsCalledBy b (T ++ (j ∷ [])) σ π v
  called_in_body t j b k T di σ π v s (inl h) = absurd (di.0 (subst (λ (y : Place). StandsIn b (at y.0)) h.1 s.0))
  called_in_body t j b k T di σ π v s (inr (inl h)) =
      let same : h.0 ≡ j = sym (turn_of T h.0 π (called_stands b (T ++ (h.0 ∷ [])) σ π v h.1).1.1) ∙ turn_of T j π s.1 in
      subst (λ (y : ℕ). IsCalledBy b (T ++ (y ∷ [])) σ π v) same h.1
  called_in_body t j b k T di σ π v s (inr (inr h)) = absurd (di.2 (at π.0) s.0 (called_stands k T σ π v h).1.0)

  called_after_round : (t : Tag) (b k : Skeleton) (T : List ℕ) → Distinct (round t b k) → (σ π : Place) (v : Bool) → StandsIn k (at π.0) → IsCalledBy (round t b k) T σ π v → IsCalledBy k T σ π v
  called_after_round t b k T di σ π v i (inl h) = absurd (di.1 (subst (λ (y : Place). StandsIn k (at y.0)) h.1 i))
  called_after_round t b k T di σ π v i (inr (inl h)) = absurd (di.2 (at π.0) (called_stands b (T ++ (h.0 ∷ [])) σ π v h.1).1.0 i)
  called_after_round t b k T di σ π v i (inr (inr h)) = h

  -- the next turn, where the run stopped in the body
  next_late : (t : Tag) (j : ℕ) (b k : Skeleton) (T : List ℕ) → Distinct (round t b k) → (σ τ : Place) → σ ≡ (t, T ++ (suc j ∷ [])) → StandsUnderTurns b (T ++ (j ∷ [])) τ
      → ¬ ComesBefore (round t b k) (length T) σ τ
  next_late t j b k T di σ τ e s (inl h) = di.2 (at τ.0) s.0 h.1
  next_late t j b k T di σ τ e s (inr (inl h)) = di.1 (subst (λ (y : Place). StandsIn k (at y.0)) e (before_in k (length T) σ τ h).0)
  next_late t j b k T di σ τ e s (inr (inr (x, y, z))) = go z
    where
      a : turn_at (length T) σ.1 ≡ suc j
      a = ap (λ (y : Place). turn_at (length T) y.1) e ∙ turn_after T (suc j) []

      c : turn_at (length T) τ.1 ≡ j
      c = turn_of T j τ s.1

      go : (turn_at (length T) σ.1 < turn_at (length T) τ.1) ⊎ ((turn_at (length T) σ.1 ≡ turn_at (length T) τ.1) × (((at σ.0 ≡ at t) × StandsIn b (at τ.0)) ⊎ ComesBefore b (suc (length T)) σ τ)) → ⊥
      go (inl h) = absurd (omega (arith, a, c, h))
      go (inr h) = let q = h.0 in absurd (omega (arith, a, c, q))

  later_round : (t : Tag) (j : ℕ) (b k : Skeleton) (T : List ℕ) (x : Place × Value) (is js : List (Place × Value)) (e : Bool) (τ σ : Place)
      → IsMet (round t b k) T js e τ σ → IsMet (round t b k) T (x ∷ (is ++ js)) e τ σ
  later_round t j b k T x is js e τ σ (inl m) = inl (m.0, there (among_right is m.1))
  later_round t j b k T x is js e τ σ (inr l) = inr l

  -- what the items call for
  pub called_met : (B : Skeleton) (j : ℕ) (T : List ℕ) (g : List (Place × Value)) (ss : List Place) (e : Bool) (h : List (Place × Value)) → Distinct B
      → (d : Execution Value truth gives B j T g ss e h) → (σ π : Place) (v : Value) → Among (π, v) (items Value truth gives B j T g ss e h d) → IsCalledBy B T σ π (truth v)
      → IsMet B T (items Value truth gives B j T g ss e h d) e (where_stopped B j T g ss e h d) σ
  unfolding items where_stopped
  called_met _ j T g _ _ _ di ended σ π v m q = absurd (among_none _ m)
  called_met _ j T g _ _ _ di act_stops σ π v m q = absurd (among_none _ m)
  called_met _ j T g _ _ _ di (act_goes {t = t} {k = k} {h = h} {ss = ss} {e = e} w a x) σ π v m q =
      go (λ p. called_met k 0 T (((t, T), w) ∷ g) ss e h di.1 x σ π v p q) (among_cons m)
    where
      go : (Among (π, v) (items Value truth gives k 0 T (((t, T), w) ∷ g) ss e h x) → IsMet k T (items Value truth gives k 0 T (((t, T), w) ∷ g) ss e h x) e (where_stopped k 0 T (((t, T), w) ∷ g) ss e h x) σ)
          → (◌≡◌ {A = Place × Value} ((t, T), w) (π, v)) ⊎ Among (π, v) (items Value truth gives k 0 T (((t, T), w) ∷ g) ss e h x)
          → IsMet (act t k) T (((t, T), w) ∷ items Value truth gives k 0 T (((t, T), w) ∷ g) ss e h x) e (where_stopped k 0 T (((t, T), w) ∷ g) ss e h x) σ
      go f (inl p) = absurd (di.0 (subst (λ (y : Place × Value). StandsIn k (at y.0.0)) (sym p) (called_stands k T σ π (truth v) q).1.0))
      go f (inr p) = met_after_act t k T di ((t, T), w) (items Value truth gives k 0 T (((t, T), w) ∷ g) ss e h x) e (where_stopped k 0 T (((t, T), w) ∷ g) ss e h x) σ
          (called_stands k T σ π (truth v) q).0.0 (f p)
  called_met _ j T g _ _ _ di fork_stops σ π v m q = absurd (among_none _ m)
  called_met _ j T g _ _ _ di (yes_stops {t = t} {b = b} {c = c} {k = k} {h = h} {ss = ss} w a y x) σ π v m q =
      go (λ p r. called_met b 0 T (((t, T), w) ∷ g) ss false h di.6 x σ π v p r) (among_cons m)
    where
      is : List (Place × Value)
      is = items Value truth gives b 0 T (((t, T), w) ∷ g) ss false h x

      τ : Place
      τ = where_stopped b 0 T (((t, T), w) ∷ g) ss false h x

      outwards : StandsIn b (at σ.0) → IsMet b T is false τ σ → IsMet (fork t b c k) T (((t, T), w) ∷ is) false τ σ
      outwards i = met_in_yes t b c k T di (((t, T), w) ∷ is) is (λ q m. there m) false τ σ i (λ z. (stop_stands b 0 T (((t, T), w) ∷ g) ss false h di.6 x refl).0)

      own : ((truth w ≡ true) × IsFirstOnTop b 0 T σ) ⊎ ((truth w ≡ false) × IsFirstOnTop c 0 T σ) → IsMet (fork t b c k) T (((t, T), w) ∷ is) false τ σ
      own (inl o) = outwards (top_stands b 0 T σ o.1).0 (top_met b 0 T (((t, T), w) ∷ g) ss false h di.6 x σ o.1)
      own (inr o) = no_both y o.0

      go : (Among (π, v) is → IsCalledBy b T σ π (truth v) → IsMet b T is false τ σ) → (◌≡◌ {A = Place × Value} ((t, T), w) (π, v)) ⊎ Among (π, v) is
          → IsMet (fork t b c k) T (((t, T), w) ∷ is) false τ σ
      go f (inl p) = own (own_of_fork t b c k T di w π σ v p q)
      go f (inr p) =
          let r = called_in_yes t b c k T di σ π (truth v) (item_stands b 0 T (((t, T), w) ∷ g) ss false h di.6 x π v p).0 q in
          outwards (called_stands b T σ π (truth v) r).0.0 (f p r)
  called_met _ j T g _ _ _ di (no_stops {t = t} {b = b} {c = c} {k = k} {h = h} {ss = ss} w a y x) σ π v m q =
      go (λ p r. called_met c 0 T (((t, T), w) ∷ g) ss false h di.7 x σ π v p r) (among_cons m)
    where
      is : List (Place × Value)
      is = items Value truth gives c 0 T (((t, T), w) ∷ g) ss false h x

      τ : Place
      τ = where_stopped c 0 T (((t, T), w) ∷ g) ss false h x

      outwards : StandsIn c (at σ.0) → IsMet c T is false τ σ → IsMet (fork t b c k) T (((t, T), w) ∷ is) false τ σ
      outwards i = met_in_no t b c k T di (((t, T), w) ∷ is) is (λ q m. there m) false τ σ i (λ z. (stop_stands c 0 T (((t, T), w) ∷ g) ss false h di.7 x refl).0)

      own : ((truth w ≡ true) × IsFirstOnTop b 0 T σ) ⊎ ((truth w ≡ false) × IsFirstOnTop c 0 T σ) → IsMet (fork t b c k) T (((t, T), w) ∷ is) false τ σ
      own (inl o) = no_both o.0 y
      own (inr o) = outwards (top_stands c 0 T σ o.1).0 (top_met c 0 T (((t, T), w) ∷ g) ss false h di.7 x σ o.1)

      go : (Among (π, v) is → IsCalledBy c T σ π (truth v) → IsMet c T is false τ σ) → (◌≡◌ {A = Place × Value} ((t, T), w) (π, v)) ⊎ Among (π, v) is
          → IsMet (fork t b c k) T (((t, T), w) ∷ is) false τ σ
      go f (inl p) = own (own_of_fork t b c k T di w π σ v p q)
      go f (inr p) =
          let r = called_in_no t b c k T di σ π (truth v) (item_stands c 0 T (((t, T), w) ∷ g) ss false h di.7 x π v p).0 q in
          outwards (called_stands c T σ π (truth v) r).0.0 (f p r)
  called_met _ j T g _ _ _ di (yes_goes {t = t} {b = b} {c = c} {k = k} {h = h} {i = i} {ss = ss} {rr = rr} {e = e} w a y x z) σ π v m q =
      go (λ p r. called_met b 0 T (((t, T), w) ∷ g) ss true h di.6 x σ π v p r) (λ p r. called_met k 0 T h rr e i di.8 z σ π v p r) (among_cons m)
    where
      is : List (Place × Value)
      is = items Value truth gives b 0 T (((t, T), w) ∷ g) ss true h x

      js : List (Place × Value)
      js = items Value truth gives k 0 T h rr e i z

      τ : Place
      τ = where_stopped k 0 T h rr e i z

      outwards : IsMet b T is true (where_stopped b 0 T (((t, T), w) ∷ g) ss true h x) σ → IsMet (fork t b c k) T (((t, T), w) ∷ (is ++ js)) e τ σ
      outwards n = let r = met_done b T is (where_stopped b 0 T (((t, T), w) ∷ g) ss true h x) σ n in inl (r.0, there (among_left js r.1))

      own : ((truth w ≡ true) × IsFirstOnTop b 0 T σ) ⊎ ((truth w ≡ false) × IsFirstOnTop c 0 T σ) → IsMet (fork t b c k) T (((t, T), w) ∷ (is ++ js)) e τ σ
      own (inl o) = outwards (top_met b 0 T (((t, T), w) ∷ g) ss true h di.6 x σ o.1)
      own (inr o) = no_both y o.0

      two : (Among (π, v) is → IsCalledBy b T σ π (truth v) → IsMet b T is true (where_stopped b 0 T (((t, T), w) ∷ g) ss true h x) σ) → (Among (π, v) js → IsCalledBy k T σ π (truth v) → IsMet k T js e τ σ)
          → Among (π, v) is ⊎ Among (π, v) js → IsMet (fork t b c k) T (((t, T), w) ∷ (is ++ js)) e τ σ
      two f n (inl p) = outwards (f p (called_in_yes t b c k T di σ π (truth v) (item_stands b 0 T (((t, T), w) ∷ g) ss true h di.6 x π v p).0 q))
      two f n (inr p) =
          let r = called_after_fork t b c k T di σ π (truth v) (item_stands k 0 T h rr e i di.8 z π v p).0 q in
          met_after_fork t b c k T di (((t, T), w) ∷ (is ++ js)) js (λ u m. there (among_right is m)) e τ σ (called_stands k T σ π (truth v) r).0.0 (n p r)

      go : (Among (π, v) is → IsCalledBy b T σ π (truth v) → IsMet b T is true (where_stopped b 0 T (((t, T), w) ∷ g) ss true h x) σ) → (Among (π, v) js → IsCalledBy k T σ π (truth v) → IsMet k T js e τ σ)
          → (◌≡◌ {A = Place × Value} ((t, T), w) (π, v)) ⊎ Among (π, v) (is ++ js) → IsMet (fork t b c k) T (((t, T), w) ∷ (is ++ js)) e τ σ
      go f n (inl p) = own (own_of_fork t b c k T di w π σ v p q)
      go f n (inr p) = two f n (among_append is js p)
  called_met _ j T g _ _ _ di (no_goes {t = t} {b = b} {c = c} {k = k} {h = h} {i = i} {ss = ss} {rr = rr} {e = e} w a y x z) σ π v m q =
      go (λ p r. called_met c 0 T (((t, T), w) ∷ g) ss true h di.7 x σ π v p r) (λ p r. called_met k 0 T h rr e i di.8 z σ π v p r) (among_cons m)
    where
      is : List (Place × Value)
      is = items Value truth gives c 0 T (((t, T), w) ∷ g) ss true h x

      js : List (Place × Value)
      js = items Value truth gives k 0 T h rr e i z

      τ : Place
      τ = where_stopped k 0 T h rr e i z

      outwards : IsMet c T is true (where_stopped c 0 T (((t, T), w) ∷ g) ss true h x) σ → IsMet (fork t b c k) T (((t, T), w) ∷ (is ++ js)) e τ σ
      outwards n = let r = met_done c T is (where_stopped c 0 T (((t, T), w) ∷ g) ss true h x) σ n in inl (r.0, there (among_left js r.1))

      own : ((truth w ≡ true) × IsFirstOnTop b 0 T σ) ⊎ ((truth w ≡ false) × IsFirstOnTop c 0 T σ) → IsMet (fork t b c k) T (((t, T), w) ∷ (is ++ js)) e τ σ
      own (inl o) = no_both o.0 y
      own (inr o) = outwards (top_met c 0 T (((t, T), w) ∷ g) ss true h di.7 x σ o.1)

      two : (Among (π, v) is → IsCalledBy c T σ π (truth v) → IsMet c T is true (where_stopped c 0 T (((t, T), w) ∷ g) ss true h x) σ) → (Among (π, v) js → IsCalledBy k T σ π (truth v) → IsMet k T js e τ σ)
          → Among (π, v) is ⊎ Among (π, v) js → IsMet (fork t b c k) T (((t, T), w) ∷ (is ++ js)) e τ σ
      two f n (inl p) = outwards (f p (called_in_no t b c k T di σ π (truth v) (item_stands c 0 T (((t, T), w) ∷ g) ss true h di.7 x π v p).0 q))
      two f n (inr p) =
          let r = called_after_fork t b c k T di σ π (truth v) (item_stands k 0 T h rr e i di.8 z π v p).0 q in
          met_after_fork t b c k T di (((t, T), w) ∷ (is ++ js)) js (λ u m. there (among_right is m)) e τ σ (called_stands k T σ π (truth v) r).0.0 (n p r)

      go : (Among (π, v) is → IsCalledBy c T σ π (truth v) → IsMet c T is true (where_stopped c 0 T (((t, T), w) ∷ g) ss true h x) σ) → (Among (π, v) js → IsCalledBy k T σ π (truth v) → IsMet k T js e τ σ)
          → (◌≡◌ {A = Place × Value} ((t, T), w) (π, v)) ⊎ Among (π, v) (is ++ js) → IsMet (fork t b c k) T (((t, T), w) ∷ (is ++ js)) e τ σ
      go f n (inl p) = own (own_of_fork t b c k T di w π σ v p q)
      go f n (inr p) = two f n (among_append is js p)
  called_met _ j T g _ _ _ di round_stops σ π v m q = absurd (among_none _ m)
  called_met _ j T g _ _ _ di (round_leaves {t = t} {b = b} {k = k} {h = h} {ss = ss} {e = e} w a y x) σ π v m q =
      go (λ p r. called_met k 0 T (((t, T ++ (j ∷ [])), w) ∷ g) ss e h di.4 x σ π v p r) (among_cons m)
    where
      is : List (Place × Value)
      is = items Value truth gives k 0 T (((t, T ++ (j ∷ [])), w) ∷ g) ss e h x

      τ : Place
      τ = where_stopped k 0 T (((t, T ++ (j ∷ [])), w) ∷ g) ss e h x

      go : (Among (π, v) is → IsCalledBy k T σ π (truth v) → IsMet k T is e τ σ) → (◌≡◌ {A = Place × Value} ((t, T ++ (j ∷ [])), w) (π, v)) ⊎ Among (π, v) is
          → IsMet (round t b k) T (((t, T ++ (j ∷ [])), w) ∷ is) e τ σ
      go f (inl p) = no_both (own_of_round t j b k T di w π σ v p q).0 y
      go f (inr p) =
          let r = called_after_round t b k T di σ π (truth v) (item_stands k 0 T (((t, T ++ (j ∷ [])), w) ∷ g) ss e h di.4 x π v p).0 q in
          met_after_round t b k T di (((t, T ++ (j ∷ [])), w) ∷ is) is (λ u m. there m) e τ σ (called_stands k T σ π (truth v) r).0.0 (f p r)
  called_met _ j T g _ _ _ di (body_stops {t = t} {b = b} {k = k} {h = h} {ss = ss} w a y x) σ π v m q =
      go (λ p r. called_met b 0 (T ++ (j ∷ [])) (((t, T ++ (j ∷ [])), w) ∷ g) ss false h di.3 x σ π v p r) (among_cons m)
    where
      is : List (Place × Value)
      is = items Value truth gives b 0 (T ++ (j ∷ [])) (((t, T ++ (j ∷ [])), w) ∷ g) ss false h x

      τ : Place
      τ = where_stopped b 0 (T ++ (j ∷ [])) (((t, T ++ (j ∷ [])), w) ∷ g) ss false h x

      st : StandsUnderTurns b (T ++ (j ∷ [])) τ
      st = stop_stands b 0 (T ++ (j ∷ [])) (((t, T ++ (j ∷ [])), w) ∷ g) ss false h di.3 x refl

      outwards : StandsUnderTurns b (T ++ (j ∷ [])) σ → IsMet b (T ++ (j ∷ [])) is false τ σ → IsMet (round t b k) T (((t, T ++ (j ∷ [])), w) ∷ is) false τ σ
      outwards s = met_in_body t b k j T di (((t, T ++ (j ∷ [])), w) ∷ is) is (λ q m. there m) false τ σ s (λ z. st)

      own : IsFirstOnTop b 0 (T ++ (j ∷ [])) σ ⊎ (σ ≡ (t, T ++ (suc j ∷ []))) → IsMet (round t b k) T (((t, T ++ (j ∷ [])), w) ∷ is) false τ σ
      own (inl o) = outwards (top_stands b 0 (T ++ (j ∷ [])) σ o) (top_met b 0 (T ++ (j ∷ [])) (((t, T ++ (j ∷ [])), w) ∷ g) ss false h di.3 x σ o)
      own (inr o) = inr (refl, next_late t j b k T di σ τ o st)

      go : (Among (π, v) is → IsCalledBy b (T ++ (j ∷ [])) σ π (truth v) → IsMet b (T ++ (j ∷ [])) is false τ σ) → (◌≡◌ {A = Place × Value} ((t, T ++ (j ∷ [])), w) (π, v)) ⊎ Among (π, v) is
          → IsMet (round t b k) T (((t, T ++ (j ∷ [])), w) ∷ is) false τ σ
      go f (inl p) = own (own_of_round t j b k T di w π σ v p q).1
      go f (inr p) =
          let r = called_in_body t j b k T di σ π (truth v) (item_stands b 0 (T ++ (j ∷ [])) (((t, T ++ (j ∷ [])), w) ∷ g) ss false h di.3 x π v p) q in
          outwards (called_stands b (T ++ (j ∷ [])) σ π (truth v) r).0 (f p r)
  called_met _ j T g _ _ _ di (body_goes {t = t} {b = b} {k = k} {h = h} {i = i} {ss = ss} {rr = rr} {e = e} w a y x z) σ π v m q =
      go (λ p r. called_met b 0 (T ++ (j ∷ [])) (((t, T ++ (j ∷ [])), w) ∷ g) ss true h di.3 x σ π v p r)
      (λ p. called_met (round t b k) (suc j) T h rr e i di z σ π v p q) (among_cons m)
    where
      is : List (Place × Value)
      is = items Value truth gives b 0 (T ++ (j ∷ [])) (((t, T ++ (j ∷ [])), w) ∷ g) ss true h x

      js : List (Place × Value)
      js = items Value truth gives (round t b k) (suc j) T h rr e i z

      τ : Place
      τ = where_stopped (round t b k) (suc j) T h rr e i z

      outwards : IsMet b (T ++ (j ∷ [])) is true (where_stopped b 0 (T ++ (j ∷ [])) (((t, T ++ (j ∷ [])), w) ∷ g) ss true h x) σ
          → IsMet (round t b k) T (((t, T ++ (j ∷ [])), w) ∷ (is ++ js)) e τ σ
      outwards n = let r = met_done b (T ++ (j ∷ [])) is (where_stopped b 0 (T ++ (j ∷ [])) (((t, T ++ (j ∷ [])), w) ∷ g) ss true h x) σ n in inl (r.0, there (among_left js r.1))

      own : IsFirstOnTop b 0 (T ++ (j ∷ [])) σ ⊎ (σ ≡ (t, T ++ (suc j ∷ []))) → IsMet (round t b k) T (((t, T ++ (j ∷ [])), w) ∷ (is ++ js)) e τ σ
      own (inl o) = outwards (top_met b 0 (T ++ (j ∷ [])) (((t, T ++ (j ∷ [])), w) ∷ g) ss true h di.3 x σ o)
      own (inr o) = later_round t j b k T ((t, T ++ (j ∷ [])), w) is js e τ σ (top_met (round t b k) (suc j) T h rr e i di z σ (inl o))

      two : (Among (π, v) is → IsCalledBy b (T ++ (j ∷ [])) σ π (truth v) → IsMet b (T ++ (j ∷ [])) is true (where_stopped b 0 (T ++ (j ∷ [])) (((t, T ++ (j ∷ [])), w) ∷ g) ss true h x) σ)
          → (Among (π, v) js → IsMet (round t b k) T js e τ σ) → Among (π, v) is ⊎ Among (π, v) js → IsMet (round t b k) T (((t, T ++ (j ∷ [])), w) ∷ (is ++ js)) e τ σ
      two f n (inl p) = outwards (f p (called_in_body t j b k T di σ π (truth v) (item_stands b 0 (T ++ (j ∷ [])) (((t, T ++ (j ∷ [])), w) ∷ g) ss true h di.3 x π v p) q))
      two f n (inr p) = later_round t j b k T ((t, T ++ (j ∷ [])), w) is js e τ σ (n p)

      go : (Among (π, v) is → IsCalledBy b (T ++ (j ∷ [])) σ π (truth v) → IsMet b (T ++ (j ∷ [])) is true (where_stopped b 0 (T ++ (j ∷ [])) (((t, T ++ (j ∷ [])), w) ∷ g) ss true h x) σ)
          → (Among (π, v) js → IsMet (round t b k) T js e τ σ) → (◌≡◌ {A = Place × Value} ((t, T ++ (j ∷ [])), w) (π, v)) ⊎ Among (π, v) (is ++ js)
          → IsMet (round t b k) T (((t, T ++ (j ∷ [])), w) ∷ (is ++ js)) e τ σ
      go f n (inl p) = own (own_of_round t j b k T di w π σ v p q).1
      go f n (inr p) = two f n (among_append is js p)
