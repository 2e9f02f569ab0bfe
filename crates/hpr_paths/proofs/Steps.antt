-- The steps of a run stand where their turns say, and come in time order.
use Rattle.std.specs.List.{AllByRecursion}
use Rattle.hpr_paths.specs.Runs.{Ascending, Execution, ended, act_stops, act_goes, fork_stops, yes_stops, no_stops, yes_goes, no_goes, round_stops, round_leaves, body_stops, body_goes}
use Rattle.hpr_terms.specs.declared.tag.Tag.{Tag}
use Rattle.std.proofs.Common.{◌≡◌, ℕ, suc, ◌<◌, ◌≤◌, Bool, true, false, List, [], ◌∷◌, ◌++◌, length, refl, sym, ap, subst, ◌∙◌, inl, inr, append_assoc, append-nil, arith}
use Rattle.hpr_paths.specs.Times.{Place, turn_at, InLoop, ComesBefore}
use Rattle.hpr_syntax.specs.Skeleton.{Skeleton, nil, act, fork, round, at, StandsIn, Distinct}

pub each_by : {P Q : Place → Type 0} → ((σ : Place) → P σ → Q σ) → (xs : List Place) → AllByRecursion P xs → AllByRecursion Q xs
each_by f [] h = tt
each_by f (x ∷ xs) h = (f x h.0, each_by f xs h.1)

pub each_append : (P : Place → Type 0) (xs ys : List Place) → AllByRecursion P xs → AllByRecursion P ys → AllByRecursion P (xs ++ ys)
each_append P [] ys h g = g
each_append P (x ∷ xs) ys h g = (h.0, each_append P xs ys h.1 g)

ascending_by : {R S : Place → Place → Type 0} → ((σ τ : Place) → R σ τ → S σ τ) → (xs : List Place) → Ascending R xs → Ascending S xs
ascending_by f [] h = tt
ascending_by f (x ∷ xs) h = (each_by (f x) xs h.0, ascending_by f xs h.1)

-- two lists in order, where what the one has comes before what the other has
ascending_append : (R : Place → Place → Type 0) (A B : Place → Type 0) → ((σ τ : Place) → A σ → B τ → R σ τ)
    → (xs ys : List Place) → AllByRecursion A xs → AllByRecursion B ys → Ascending R xs → Ascending R ys → Ascending R (xs ++ ys)
ascending_append R A B f [] ys a b h g = g
ascending_append R A B f (x ∷ xs) ys a b h g = (each_append (R x) xs ys h.0 (each_by (λ τ y. f x τ a.0 y) ys b), ascending_append R A B f xs ys a.1 b h.1 g)

ascending_within : {R S : Place → Place → Type 0} (P : Place → Type 0) → ((σ τ : Place) → P σ → P τ → R σ τ → S σ τ) → (xs : List Place) → AllByRecursion P xs → Ascending R xs → Ascending S xs
ascending_within P f [] p h = tt
ascending_within {R = R} {S = S} P f (x ∷ xs) p h = (go xs p.1 h.0, ascending_within P f xs p.1 h.1)
  where
    go : (ys : List Place) → AllByRecursion P ys → AllByRecursion (R x) ys → AllByRecursion (S x) ys
    go [] a b = tt
    go (y ∷ ys) a b = (f x y p.0 a.0 b.0, go ys a.1 b.1)

-- where the steps of a block stand, and their turns; a loop at its head begins with the turn j
abbrev pub StandsUnder : Skeleton → ℕ → List ℕ → Place → Type 0
StandsUnder (round t b k) j T σ = StandsIn (round t b k) (at σ.0) × ((r : List ℕ) × (σ.1 ≡ T ++ r))
    × (InLoop t b σ → (i : ℕ) × (r : List ℕ) × (j ≤ i) × (σ.1 ≡ T ++ (i ∷ r)))
StandsUnder B j T σ = StandsIn B (at σ.0) × ((r : List ℕ) × (σ.1 ≡ T ++ r))

pub under_in : (B : Skeleton) (j : ℕ) (T : List ℕ) (σ : Place) → StandsUnder B j T σ → StandsIn B (at σ.0) × ((r : List ℕ) × (σ.1 ≡ T ++ r))
under_in nil j T σ h = h
under_in (act t k) j T σ h = h
under_in (fork t b c k) j T σ h = h
under_in (round t b k) j T σ h = (h.0, h.1)

-- the turn after others
pub turn_after : (T : List ℕ) (j : ℕ) (r : List ℕ) → turn_at (length T) (T ++ (j ∷ r)) ≡ j
turn_after [] j r = refl
turn_after (x ∷ T) j r = turn_after T j r

pub count_after : (T : List ℕ) (j : ℕ) → length (T ++ (j ∷ [])) ≡ suc (length T)
count_after [] j = refl
count_after (x ∷ T) j = ap suc (count_after T j)

-- a place in the body of a loop at its turn j
abbrev InTurn : Skeleton → ℕ → List ℕ → Place → Type 0
InTurn b j T σ = StandsIn b (at σ.0) × ((r : List ℕ) × (σ.1 ≡ T ++ (j ∷ r)))

in_turn : (b : Skeleton) (j : ℕ) (T : List ℕ) (σ : Place) → StandsUnder b 0 (T ++ (j ∷ [])) σ → InTurn b j T σ
in_turn b j T σ h =
    let g = under_in b 0 (T ++ (j ∷ [])) σ h in
    (g.0, (g.1.0, g.1.1 ∙ append_assoc T (j ∷ []) g.1.0))

turn_in : (b : Skeleton) (j : ℕ) (T : List ℕ) (σ : Place) → InTurn b j T σ → turn_at (length T) σ.1 ≡ j
turn_in b j T σ h = ap (turn_at (length T)) h.1.1 ∙ turn_after T j h.1.0

module _ (Value : Type 0) (truth : Value → Bool) (gives : Tag → List (Place × Value) → Value → Type 0) where
  here_act : (t : Tag) (k : Skeleton) (j : ℕ) (T : List ℕ) → StandsUnder (act t k) j T (t, T)
  here_act t k j T = (inl refl, ([], sym (append-nil T)))

  here_fork : (t : Tag) (b c k : Skeleton) (j : ℕ) (T : List ℕ) → StandsUnder (fork t b c k) j T (t, T)
  here_fork t b c k j T = (inl refl, ([], sym (append-nil T)))

  here_round : (t : Tag) (b k : Skeleton) (j : ℕ) (T : List ℕ) → StandsUnder (round t b k) j T (t, T ++ (j ∷ []))
  here_round t b k j T = (inl refl, (j ∷ [], refl), λ i. (j, [], omega arith, refl))

  from_rest : (t : Tag) (b k : Skeleton) (j : ℕ) (T : List ℕ) → Distinct (round t b k) → (σ : Place) → StandsUnder k 0 T σ → StandsUnder (round t b k) j T σ
  from_rest t b k j T di σ h = let g = under_in k 0 T σ h in (inr (inr g.0), g.1, λ i. absurd (no i g.0))
    where
      no : InLoop t b σ → StandsIn k (at σ.0) → ⊥
      no (inl e) i = di.1 (subst (StandsIn k) e i)
      no (inr x) i = di.2 (at σ.0) x i

  from_body : (t : Tag) (b k : Skeleton) (j : ℕ) (T : List ℕ) → (σ : Place) → InTurn b j T σ → StandsUnder (round t b k) j T σ
  from_body t b k j T σ h = (inr (inl h.0), (j ∷ h.1.0, h.1.1), λ i. (j, h.1.0, omega arith, h.1.1))

  from_next : (t : Tag) (b k : Skeleton) (j : ℕ) (T : List ℕ) → (σ : Place) → StandsUnder (round t b k) (suc j) T σ → StandsUnder (round t b k) j T σ
  from_next t b k j T σ h = (h.0, h.1, λ i. let g = h.2 i in (g.0, g.1, omega (arith, g.2), g.3))

  -- each step stands under the turns of its block
  pub steps_stand : (B : Skeleton) (j : ℕ) (T : List ℕ) (g : List (Place × Value)) (ss : List Place) (e : Bool) (h : List (Place × Value))
      → Distinct B → Execution Value truth gives B j T g ss e h → AllByRecursion (StandsUnder B j T) ss
  steps_stand _ j T g _ _ _ di ended = tt
  steps_stand _ j T g _ _ _ di (act_stops {t = t} {k = k}) = (here_act t k j T, tt)
  steps_stand _ j T g _ _ _ di (act_goes {t = t} {k = k} {h = h} {ss = ss} {e = e} v w x) =
      (here_act t k j T, each_by (λ σ u. let g = under_in k 0 T σ u in (inr g.0, g.1)) ss (steps_stand k 0 T (((t, T), v) ∷ g) ss e h di.1 x))
  steps_stand _ j T g _ _ _ di (fork_stops {t = t} {b = b} {c = c} {k = k}) = (here_fork t b c k j T, tt)
  steps_stand _ j T g _ _ _ di (yes_stops {t = t} {b = b} {c = c} {k = k} {h = h} {ss = ss} v w y x) =
      (here_fork t b c k j T, each_by (λ σ u. let g = under_in b 0 T σ u in (inr (inl g.0), g.1)) ss (steps_stand b 0 T (((t, T), v) ∷ g) ss false h di.6 x))
  steps_stand _ j T g _ _ _ di (no_stops {t = t} {b = b} {c = c} {k = k} {h = h} {ss = ss} v w y x) =
      (here_fork t b c k j T, each_by (λ σ u. let g = under_in c 0 T σ u in (inr (inr (inl g.0)), g.1)) ss (steps_stand c 0 T (((t, T), v) ∷ g) ss false h di.7 x))
  steps_stand _ j T g _ _ _ di (yes_goes {t = t} {b = b} {c = c} {k = k} {h = h} {i = i} {ss = ss} {rr = rr} {e = e} v w y x z) = (
    here_fork t b c k j T,
    each_append (StandsUnder (fork t b c k) j T) ss rr
        (each_by (λ σ u. let g = under_in b 0 T σ u in (inr (inl g.0), g.1)) ss (steps_stand b 0 T (((t, T), v) ∷ g) ss true h di.6 x))
        (each_by (λ σ u. let g = under_in k 0 T σ u in (inr (inr (inr g.0)), g.1)) rr (steps_stand k 0 T h rr e i di.8 z)),
  )
  steps_stand _ j T g _ _ _ di (no_goes {t = t} {b = b} {c = c} {k = k} {h = h} {i = i} {ss = ss} {rr = rr} {e = e} v w y x z) = (
    here_fork t b c k j T,
    each_append (StandsUnder (fork t b c k) j T) ss rr
        (each_by (λ σ u. let g = under_in c 0 T σ u in (inr (inr (inl g.0)), g.1)) ss (steps_stand c 0 T (((t, T), v) ∷ g) ss true h di.7 x))
        (each_by (λ σ u. let g = under_in k 0 T σ u in (inr (inr (inr g.0)), g.1)) rr (steps_stand k 0 T h rr e i di.8 z)),
  )
  steps_stand _ j T g _ _ _ di (round_stops {t = t} {b = b} {k = k}) = (here_round t b k j T, tt)
  steps_stand _ j T g _ _ _ di (round_leaves {t = t} {b = b} {k = k} {h = h} {ss = ss} {e = e} v w y x) =
      (here_round t b k j T, each_by (from_rest t b k j T di) ss (steps_stand k 0 T (((t, T ++ (j ∷ [])), v) ∷ g) ss e h di.4 x))
  steps_stand _ j T g _ _ _ di (body_stops {t = t} {b = b} {k = k} {h = h} {ss = ss} v w y x) = (
    here_round t b k j T,
    each_by (λ σ u. from_body t b k j T σ (in_turn b j T σ u)) ss
        (steps_stand b 0 (T ++ (j ∷ [])) (((t, T ++ (j ∷ [])), v) ∷ g) ss false h di.3 x),
  )
  steps_stand _ j T g _ _ _ di (body_goes {t = t} {b = b} {k = k} {h = h} {i = i} {ss = ss} {rr = rr} {e = e} v w y x z) = (
    here_round t b k j T,
    each_append (StandsUnder (round t b k) j T) ss rr
        (each_by (λ σ u. from_body t b k j T σ (in_turn b j T σ u)) ss (steps_stand b 0 (T ++ (j ∷ [])) (((t, T ++ (j ∷ [])), v) ∷ g) ss true h di.3 x))
        (each_by (from_next t b k j T) rr (steps_stand (round t b k) (suc j) T h rr e i di z)),
  )

  -- the steps come in time order
  round_then_body : (t : Tag) (b k : Skeleton) (j : ℕ) (T : List ℕ) (σ : Place) → InTurn b j T σ → ComesBefore (round t b k) (length T) (t, T ++ (j ∷ [])) σ
  round_then_body t b k j T σ h = inr (inr (inl refl, inr h.0, inr (turn_after T j [] ∙ sym (turn_in b j T σ h), inl (refl, h.0))))

  round_early : (t : Tag) (b k : Skeleton) (j : ℕ) (T : List ℕ) (σ τ : Place) → InLoop t b σ → turn_at (length T) σ.1 ≡ j → StandsUnder (round t b k) (suc j) T τ
      → ComesBefore (round t b k) (length T) σ τ
  round_early t b k j T σ τ is e h = go h.0
    where
      later : InLoop t b τ → ComesBefore (round t b k) (length T) σ τ
      later it =
          let g = h.2 it in
          let n = ap (turn_at (length T)) g.3 ∙ turn_after T g.0 g.1 in
          inr (inr (is, it, inl (subst (λ y. y < turn_at (length T) τ.1) (sym e) (subst (λ y. j < y) (sym n) g.2))))

      go : StandsIn (round t b k) (at τ.0) → ComesBefore (round t b k) (length T) σ τ
      go (inl x) = later (inl x)
      go (inr (inl x)) = later (inr x)
      go (inr (inr x)) = inl (is, x)

  body_ascends : (t : Tag) (b k : Skeleton) (j : ℕ) (T : List ℕ) (ss : List Place) → AllByRecursion (InTurn b j T) ss → Ascending (ComesBefore b (length (T ++ (j ∷ [])))) ss
      → Ascending (ComesBefore (round t b k) (length T)) ss
  body_ascends t b k j T ss es so = ascending_within (InTurn b j T)
      (λ σ τ p q r. inr (inr (inr p.0, inr q.0, inr (turn_in b j T σ p ∙ sym (turn_in b j T τ q), inr r)))) ss es
      (subst (λ d. Ascending (ComesBefore b d) ss) (count_after T j) so)

  pub steps_ascend : (B : Skeleton) (j : ℕ) (T : List ℕ) (g : List (Place × Value)) (ss : List Place) (e : Bool) (h : List (Place × Value))
      → Distinct B → Execution Value truth gives B j T g ss e h → Ascending (ComesBefore B (length T)) ss
  steps_ascend _ j T g _ _ _ di ended = tt
  steps_ascend _ j T g _ _ _ di act_stops = (tt, tt)
  steps_ascend _ j T g _ _ _ di (act_goes {t = t} {k = k} {h = h} {ss = ss} {e = e} v w x) = (
    each_by (λ σ u. inl (refl, (under_in k 0 T σ u).0)) ss (steps_stand k 0 T (((t, T), v) ∷ g) ss e h di.1 x),
    ascending_by (λ σ τ r. inr r) ss (steps_ascend k 0 T (((t, T), v) ∷ g) ss e h di.1 x),
  )
  steps_ascend _ j T g _ _ _ di fork_stops = (tt, tt)
  steps_ascend _ j T g _ _ _ di (yes_stops {t = t} {b = b} {c = c} {k = k} {h = h} {ss = ss} v w y x) = (
    each_by (λ σ u. inl (refl, inl (under_in b 0 T σ u).0)) ss (steps_stand b 0 T (((t, T), v) ∷ g) ss false h di.6 x),
    ascending_by (λ σ τ r. inr (inr (inl r))) ss (steps_ascend b 0 T (((t, T), v) ∷ g) ss false h di.6 x),
  )
  steps_ascend _ j T g _ _ _ di (no_stops {t = t} {b = b} {c = c} {k = k} {h = h} {ss = ss} v w y x) = (
    each_by (λ σ u. inl (refl, inr (inl (under_in c 0 T σ u).0))) ss (steps_stand c 0 T (((t, T), v) ∷ g) ss false h di.7 x),
    ascending_by (λ σ τ r. inr (inr (inr (inl r)))) ss (steps_ascend c 0 T (((t, T), v) ∷ g) ss false h di.7 x),
  )
  steps_ascend _ j T g _ _ _ di (yes_goes {t = t} {b = b} {c = c} {k = k} {h = h} {i = i} {ss = ss} {rr = rr} {e = e} v w y x z) =
      let us = each_by (λ σ u. (under_in b 0 T σ u).0) ss (steps_stand b 0 T (((t, T), v) ∷ g) ss true h di.6 x) in
      let ur = each_by (λ σ u. (under_in k 0 T σ u).0) rr (steps_stand k 0 T h rr e i di.8 z) in (
        each_append (ComesBefore (fork t b c k) (length T) (t, T)) ss rr (each_by (λ σ u. inl (refl, inl u)) ss us) (each_by (λ σ u. inl (refl, inr (inr u))) rr ur),
        ascending_append (ComesBefore (fork t b c k) (length T)) (λ σ. StandsIn b (at σ.0)) (λ σ. StandsIn k (at σ.0)) (λ σ τ p q. inr (inl (inl p, q))) ss rr us ur
            (ascending_by (λ σ τ r. inr (inr (inl r))) ss (steps_ascend b 0 T (((t, T), v) ∷ g) ss true h di.6 x))
            (ascending_by (λ σ τ r. inr (inr (inr (inr r)))) rr (steps_ascend k 0 T h rr e i di.8 z)),
      )
  steps_ascend _ j T g _ _ _ di (no_goes {t = t} {b = b} {c = c} {k = k} {h = h} {i = i} {ss = ss} {rr = rr} {e = e} v w y x z) =
      let us = each_by (λ σ u. (under_in c 0 T σ u).0) ss (steps_stand c 0 T (((t, T), v) ∷ g) ss true h di.7 x) in
      let ur = each_by (λ σ u. (under_in k 0 T σ u).0) rr (steps_stand k 0 T h rr e i di.8 z) in (
        each_append (ComesBefore (fork t b c k) (length T) (t, T)) ss rr (each_by (λ σ u. inl (refl, inr (inl u))) ss us) (each_by (λ σ u. inl (refl, inr (inr u))) rr ur),
        ascending_append (ComesBefore (fork t b c k) (length T)) (λ σ. StandsIn c (at σ.0)) (λ σ. StandsIn k (at σ.0)) (λ σ τ p q. inr (inl (inr p, q))) ss rr us ur
            (ascending_by (λ σ τ r. inr (inr (inr (inl r)))) ss (steps_ascend c 0 T (((t, T), v) ∷ g) ss true h di.7 x))
            (ascending_by (λ σ τ r. inr (inr (inr (inr r)))) rr (steps_ascend k 0 T h rr e i di.8 z)),
      )
  steps_ascend _ j T g _ _ _ di round_stops = (tt, tt)
  steps_ascend _ j T g _ _ _ di (round_leaves {t = t} {b = b} {k = k} {h = h} {ss = ss} {e = e} v w y x) = (
    each_by (λ σ u. inl (inl refl, (under_in k 0 T σ u).0)) ss (steps_stand k 0 T (((t, T ++ (j ∷ [])), v) ∷ g) ss e h di.4 x),
    ascending_by (λ σ τ r. inr (inl r)) ss (steps_ascend k 0 T (((t, T ++ (j ∷ [])), v) ∷ g) ss e h di.4 x),
  )
  steps_ascend _ j T g _ _ _ di (body_stops {t = t} {b = b} {k = k} {h = h} {ss = ss} v w y x) =
      let us = each_by (in_turn b j T) ss (steps_stand b 0 (T ++ (j ∷ [])) (((t, T ++ (j ∷ [])), v) ∷ g) ss false h di.3 x) in (
        each_by (round_then_body t b k j T) ss us,
        body_ascends t b k j T ss us (steps_ascend b 0 (T ++ (j ∷ [])) (((t, T ++ (j ∷ [])), v) ∷ g) ss false h di.3 x),
      )
  steps_ascend _ j T g _ _ _ di (body_goes {t = t} {b = b} {k = k} {h = h} {i = i} {ss = ss} {rr = rr} {e = e} v w y x z) =
      let us = each_by (in_turn b j T) ss (steps_stand b 0 (T ++ (j ∷ [])) (((t, T ++ (j ∷ [])), v) ∷ g) ss true h di.3 x) in
      let ur = steps_stand (round t b k) (suc j) T h rr e i di z in (
        each_append (ComesBefore (round t b k) (length T) (t, T ++ (j ∷ []))) ss rr (each_by (round_then_body t b k j T) ss us)
            (each_by (λ τ u. round_early t b k j T (t, T ++ (j ∷ [])) τ (inl refl) (turn_after T j []) u) rr ur),
        ascending_append (ComesBefore (round t b k) (length T)) (InTurn b j T) (StandsUnder (round t b k) (suc j) T)
            (λ σ τ p q. round_early t b k j T σ τ (inr p.0) (turn_in b j T σ p) q) ss rr us ur
            (body_ascends t b k j T ss us (steps_ascend b 0 (T ++ (j ∷ [])) (((t, T ++ (j ∷ [])), v) ∷ g) ss true h di.3 x))
            (steps_ascend (round t b k) (suc j) T h rr e i di z),
      )
