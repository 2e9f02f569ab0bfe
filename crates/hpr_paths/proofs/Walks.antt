-- A run walks along the pairs of the program, so an undisturbed path leads from the last definition to its reader.
use Rattle.hpr_terms.specs.declared.tag.Tag.{Tag}
use Rattle.std.proofs.Common.{◌≡◌, ℕ, suc, Bool, true, false, List, [], ◌∷◌, ◌++◌, ◌⊎◌, Option, Some, refl, sym, subst, inl, inr}
use Rattle.hpr_syntax.specs.Skeleton.{Skeleton, act, fork, round, Point, at}
use Rattle.hpr_syntax.specs.Pairs.{Next, first_of, FollowsIn}
use Rattle.hpr_paths.specs.Times.{Place}
use Rattle.hpr_paths.specs.Runs.{Execution, ended, act_stops, act_goes, fork_stops, yes_stops, no_stops, yes_goes, no_goes, round_stops, round_leaves, body_stops, body_goes}
use Rattle.hpr_paths.proofs.Among.{no_both}

-- from p over the steps to z, or, where the run stopped, to its last step
abbrev pub WalksAlong : (Point → Point → Option Tag → Type 0) → Point → List Place → Bool → Point → Type 0
WalksAlong R p [] e z = (p ≡ z) × (e ≡ true)
WalksAlong R p (σ ∷ ss) e z = (p ≡ at σ.0) × (((ss ≡ []) × (e ≡ false)) ⊎ ((q : Point) × (m : Option Tag) × R (at σ.0) q m × WalksAlong R q ss e z))

walks_widen : (R S : Point → Point → Option Tag → Type 0) → ((a z : Point) (m : Option Tag) → R a z m → S a z m)
    → (ss : List Place) (p : Point) (e : Bool) (z : Point) → WalksAlong R p ss e z → WalksAlong S p ss e z
walks_widen R S f [] p e z h = h
walks_widen R S f (σ ∷ ss) p e z h = (h.0, go (λ q w. walks_widen R S f ss q e z w) h.1)
  where
    go : ((q : Point) → WalksAlong R q ss e z → WalksAlong S q ss e z) → ((ss ≡ []) × (e ≡ false)) ⊎ ((q : Point) × (m : Option Tag) × R (at σ.0) q m × WalksAlong R q ss e z)
        → ((ss ≡ []) × (e ≡ false)) ⊎ ((q : Point) × (m : Option Tag) × S (at σ.0) q m × WalksAlong S q ss e z)
    go rec (inl x) = inl x
    go rec (inr x) = inr (x.0, x.1, f (at σ.0) x.0 x.1 x.2, rec x.0 x.3)

walks_append : (R : Point → Point → Option Tag → Type 0) (xs ys : List Place) (p q : Point) (e : Bool) (z : Point)
    → WalksAlong R p xs true q → WalksAlong R q ys e z → WalksAlong R p (xs ++ ys) e z
walks_append R [] ys p q e z h g = subst (λ y. WalksAlong R y ys e z) (sym h.0) g
walks_append R (σ ∷ xs) ys p q e z h g = (h.0, go (λ y w. walks_append R xs ys y q e z w g) h.1)
  where
    go : ((y : Point) → WalksAlong R y xs true q → WalksAlong R y (xs ++ ys) e z) → ((xs ≡ []) × (true ≡ false)) ⊎ ((y : Point) × (m : Option Tag) × R (at σ.0) y m × WalksAlong R y xs true q)
        → (((xs ++ ys) ≡ []) × (e ≡ false)) ⊎ ((y : Point) × (m : Option Tag) × R (at σ.0) y m × WalksAlong R y (xs ++ ys) e z)
    go rec (inl x) = no_both refl x.1
    go rec (inr x) = inr (x.0, x.1, x.2, rec x.0 x.3)

stop_widen : (R S : Point → Point → Option Tag → Type 0) → ((a z : Point) (m : Option Tag) → R a z m → S a z m)
    → (ss : List Place) (p z y : Point) → WalksAlong R p ss false z → WalksAlong S p ss false y
stop_widen R S f [] p z y h = no_both h.1 refl
stop_widen R S f (σ ∷ ss) p z y h = (h.0, go (λ q w. stop_widen R S f ss q z y w) h.1)
  where
    go : ((q : Point) → WalksAlong R q ss false z → WalksAlong S q ss false y) → ((ss ≡ []) × (false ≡ false)) ⊎ ((q : Point) × (m : Option Tag) × R (at σ.0) q m × WalksAlong R q ss false z)
        → ((ss ≡ []) × (false ≡ false)) ⊎ ((q : Point) × (m : Option Tag) × S (at σ.0) q m × WalksAlong S q ss false y)
    go rec (inl x) = inl x
    go rec (inr x) = inr (x.0, x.1, f (at σ.0) x.0 x.1 x.2, rec x.0 x.3)

module _ (Value : Type 0) (truth : Value → Bool) (gives : Tag → List (Place × Value) → Value → Type 0) where
  -- a run walks along the pairs
  pub walks : (B : Skeleton) (j : ℕ) (T : List ℕ) (g : List (Place × Value)) (ss : List Place) (e : Bool) (h : List (Place × Value))
      → Execution Value truth gives B j T g ss e h → (n : Next) → WalksAlong (FollowsIn B n) (first_of B n).0 ss e n.0
  walks _ j T g _ _ _ ended n = (refl, refl)
  walks _ j T g _ _ _ act_stops n = (refl, inl (refl, refl))
  walks _ j T g _ _ _ (act_goes {t = t} {k = k} {h = h} {ss = ss} {e = e} v w x) n =
      (refl, inr ((first_of k n).0, (first_of k n).1, inl (refl, refl), walks_widen (FollowsIn k n) (FollowsIn (act t k) n) (λ a z m r. inr r) ss (first_of k n).0 e n.0 (walks k 0 T (((t, T), v) ∷ g) ss e h x n)))
  walks _ j T g _ _ _ fork_stops n = (refl, inl (refl, refl))
  walks _ j T g _ _ _ (yes_stops {t = t} {b = b} {c = c} {k = k} {h = h} {ss = ss} v w y x) n = (
    refl,
    inr (
      (first_of b (first_of k n)).0,
      (first_of b (first_of k n)).1,
      inl (refl, inl refl),
      stop_widen (FollowsIn b (first_of k n)) (FollowsIn (fork t b c k) n) (λ a z m r. inr (inl r)) ss (first_of b (first_of k n)).0 (first_of k n).0 n.0 (walks b 0 T (((t, T), v) ∷ g) ss false h x (first_of k n)),
    ),
  )
  walks _ j T g _ _ _ (no_stops {t = t} {b = b} {c = c} {k = k} {h = h} {ss = ss} v w y x) n = (
    refl,
    inr (
      (first_of c (first_of k n)).0,
      (first_of c (first_of k n)).1,
      inl (refl, inr refl),
      stop_widen (FollowsIn c (first_of k n)) (FollowsIn (fork t b c k) n) (λ a z m r. inr (inr (inl r))) ss (first_of c (first_of k n)).0 (first_of k n).0 n.0 (walks c 0 T (((t, T), v) ∷ g) ss false h x (first_of k n)),
    ),
  )
  walks _ j T g _ _ _ (yes_goes {t = t} {b = b} {c = c} {k = k} {h = h} {i = i} {ss = ss} {rr = rr} {e = e} v w y x z) n = (
    refl,
    inr (
      (first_of b (first_of k n)).0,
      (first_of b (first_of k n)).1,
      inl (refl, inl refl),
      walks_append (FollowsIn (fork t b c k) n) ss rr (first_of b (first_of k n)).0 (first_of k n).0 e n.0
          (walks_widen (FollowsIn b (first_of k n)) (FollowsIn (fork t b c k) n) (λ a z m r. inr (inl r)) ss (first_of b (first_of k n)).0 true (first_of k n).0 (walks b 0 T (((t, T), v) ∷ g) ss true h x (first_of k n)))
          (walks_widen (FollowsIn k n) (FollowsIn (fork t b c k) n) (λ a z m r. inr (inr (inr r))) rr (first_of k n).0 e n.0 (walks k 0 T h rr e i z n)),
    ),
  )
  walks _ j T g _ _ _ (no_goes {t = t} {b = b} {c = c} {k = k} {h = h} {i = i} {ss = ss} {rr = rr} {e = e} v w y x z) n = (
    refl,
    inr (
      (first_of c (first_of k n)).0,
      (first_of c (first_of k n)).1,
      inl (refl, inr refl),
      walks_append (FollowsIn (fork t b c k) n) ss rr (first_of c (first_of k n)).0 (first_of k n).0 e n.0
          (walks_widen (FollowsIn c (first_of k n)) (FollowsIn (fork t b c k) n) (λ a z m r. inr (inr (inl r))) ss (first_of c (first_of k n)).0 true (first_of k n).0 (walks c 0 T (((t, T), v) ∷ g) ss true h x (first_of k n)))
          (walks_widen (FollowsIn k n) (FollowsIn (fork t b c k) n) (λ a z m r. inr (inr (inr r))) rr (first_of k n).0 e n.0 (walks k 0 T h rr e i z n)),
    ),
  )
  walks _ j T g _ _ _ round_stops n = (refl, inl (refl, refl))
  walks _ j T g _ _ _ (round_leaves {t = t} {b = b} {k = k} {h = h} {ss = ss} {e = e} v w y x) n = (
    refl,
    inr (
      (first_of k n).0,
      (first_of k n).1,
      inl (refl, inr refl),
      walks_widen (FollowsIn k n) (FollowsIn (round t b k) n) (λ a z m r. inr (inr r)) ss (first_of k n).0 e n.0 (walks k 0 T (((t, T ++ (j ∷ [])), v) ∷ g) ss e h x n),
    ),
  )
  walks _ j T g _ _ _ (body_stops {t = t} {b = b} {k = k} {h = h} {ss = ss} v w y x) n = (
    refl,
    inr (
      (first_of b (at t, Some t)).0,
      (first_of b (at t, Some t)).1,
      inl (refl, inl refl),
      stop_widen (FollowsIn b (at t, Some t)) (FollowsIn (round t b k) n) (λ a z m r. inr (inl r)) ss (first_of b (at t, Some t)).0 (at t) n.0
          (walks b 0 (T ++ (j ∷ [])) (((t, T ++ (j ∷ [])), v) ∷ g) ss false h x (at t, Some t)),
    ),
  )
  walks _ j T g _ _ _ (body_goes {t = t} {b = b} {k = k} {h = h} {i = i} {ss = ss} {rr = rr} {e = e} v w y x z) n = (
    refl,
    inr (
      (first_of b (at t, Some t)).0,
      (first_of b (at t, Some t)).1,
      inl (refl, inl refl),
      walks_append (FollowsIn (round t b k) n) ss rr (first_of b (at t, Some t)).0 (at t) e n.0
          (walks_widen (FollowsIn b (at t, Some t)) (FollowsIn (round t b k) n) (λ a z m r. inr (inl r)) ss (first_of b (at t, Some t)).0 true (at t)
          (walks b 0 (T ++ (j ∷ [])) (((t, T ++ (j ∷ [])), v) ∷ g) ss true h x (at t, Some t)))
          (walks (round t b k) (suc j) T h rr e i z n),
    ),
  )
