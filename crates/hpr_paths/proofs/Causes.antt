-- Each step of a run has its cause among the items, which are the steps that are finished: it is the first place of a part at the top,
-- or an item calls for it.
use Rattle.hpr_paths.proofs.Steps.{each_by, each_append}
use Rattle.hpr_terms.specs.declared.tag.Tag.{Tag}
use Rattle.std.proofs.Common.{◌≡◌, ℕ, suc, Bool, true, false, List, [], ◌∷◌, ◌++◌, ◌⊎◌, refl, inl, inr}
use Rattle.hpr_syntax.specs.Skeleton.{Skeleton, nil, act, fork, round}
use Rattle.hpr_paths.proofs.Among.{Among, here, there, among_left, among_right}
use Rattle.hpr_paths.specs.Times.{Place}
use Rattle.std.specs.List.{AllByRecursion}
use Rattle.hpr_paths.specs.Runs.{Execution, ended, act_stops, act_goes, fork_stops, yes_stops, no_stops, yes_goes, no_goes, round_stops, round_leaves, body_stops, body_goes}

-- σ is the first place of a part of the block itself, under the turns T; a loop at the head begins with the turn j
abbrev pub IsFirstOnTop : Skeleton → ℕ → List ℕ → Place → Type 0
IsFirstOnTop nil j T σ = ⊥
IsFirstOnTop (act t k) j T σ = (σ ≡ (t, T)) ⊎ IsFirstOnTop k 0 T σ
IsFirstOnTop (fork t b c k) j T σ = (σ ≡ (t, T)) ⊎ IsFirstOnTop k 0 T σ
IsFirstOnTop (round t b k) j T σ = (σ ≡ (t, T ++ (j ∷ []))) ⊎ IsFirstOnTop k 0 T σ

-- where π chose v it calls for σ: π is the predicate that has σ right in its branch v, or σ is the next turn of the loop π
abbrev pub IsCalledBy : Skeleton → List ℕ → Place → Place → Bool → Type 0
IsCalledBy nil T σ π v = ⊥
IsCalledBy (act t k) T σ π v = IsCalledBy k T σ π v
IsCalledBy (fork t b c k) T σ π v =
    ((π ≡ (t, T)) × (((v ≡ true) × IsFirstOnTop b 0 T σ) ⊎ ((v ≡ false) × IsFirstOnTop c 0 T σ)))
    ⊎ (IsCalledBy b T σ π v ⊎ (IsCalledBy c T σ π v ⊎ IsCalledBy k T σ π v))
IsCalledBy (round t b k) T σ π v =
    ((j : ℕ) × (π ≡ (t, T ++ (j ∷ []))) × (v ≡ true) × (IsFirstOnTop b 0 (T ++ (j ∷ [])) σ ⊎ (σ ≡ (t, T ++ (suc j ∷ [])))))
    ⊎ (((j : ℕ) × IsCalledBy b (T ++ (j ∷ [])) σ π v) ⊎ IsCalledBy k T σ π v)

module _ (Value : Type 0) (truth : Value → Bool) (gives : Tag → List (Place × Value) → Value → Type 0) where
  -- the items of a run
  unfoldable pub items : (B : Skeleton) (j : ℕ) (T : List ℕ) (g : List (Place × Value)) (ss : List Place) (e : Bool) (h : List (Place × Value))
      → Execution Value truth gives B j T g ss e h → List (Place × Value)
  items _ j T g _ _ _ ended = []
  items _ j T g _ _ _ act_stops = []
  items _ j T g _ _ _ (act_goes {t = t} {k = k} {h = h} {ss = ss} {e = e} v w x) = ((t, T), v) ∷ items k 0 T (((t, T), v) ∷ g) ss e h x
  items _ j T g _ _ _ fork_stops = []
  items _ j T g _ _ _ (yes_stops {t = t} {b = b} {h = h} {ss = ss} v w y x) = ((t, T), v) ∷ items b 0 T (((t, T), v) ∷ g) ss false h x
  items _ j T g _ _ _ (no_stops {t = t} {c = c} {h = h} {ss = ss} v w y x) = ((t, T), v) ∷ items c 0 T (((t, T), v) ∷ g) ss false h x
  items _ j T g _ _ _ (yes_goes {t = t} {b = b} {k = k} {h = h} {i = i} {ss = ss} {rr = rr} {e = e} v w y x z) =
      ((t, T), v) ∷ (items b 0 T (((t, T), v) ∷ g) ss true h x ++ items k 0 T h rr e i z)
  items _ j T g _ _ _ (no_goes {t = t} {c = c} {k = k} {h = h} {i = i} {ss = ss} {rr = rr} {e = e} v w y x z) =
      ((t, T), v) ∷ (items c 0 T (((t, T), v) ∷ g) ss true h x ++ items k 0 T h rr e i z)
  items _ j T g _ _ _ round_stops = []
  items _ j T g _ _ _ (round_leaves {t = t} {k = k} {h = h} {ss = ss} {e = e} v w y x) =
      ((t, T ++ (j ∷ [])), v) ∷ items k 0 T (((t, T ++ (j ∷ [])), v) ∷ g) ss e h x
  items _ j T g _ _ _ (body_stops {t = t} {b = b} {h = h} {ss = ss} v w y x) =
      ((t, T ++ (j ∷ [])), v) ∷ items b 0 (T ++ (j ∷ [])) (((t, T ++ (j ∷ [])), v) ∷ g) ss false h x
  items _ j T g _ _ _ (body_goes {t = t} {b = b} {k = k} {h = h} {i = i} {ss = ss} {rr = rr} {e = e} v w y x z) =
      ((t, T ++ (j ∷ [])), v) ∷ (items b 0 (T ++ (j ∷ [])) (((t, T ++ (j ∷ [])), v) ∷ g) ss true h x ++ items (round t b k) (suc j) T h rr e i z)

  -- the cause of a step
  abbrev pub HasCause : Skeleton → ℕ → List ℕ → List (Place × Value) → Place → Type 0
  HasCause B j T is σ = IsFirstOnTop B j T σ ⊎ ((π : Place) × (v : Value) × Among (π, v) is × IsCalledBy B T σ π (truth v))

  AllAmong : List (Place × Value) → List (Place × Value) → Type 0
  AllAmong xs ys = (π : Place) (v : Value) → Among (π, v) xs → Among (π, v) ys

  cause_after_act : (t : Tag) (k : Skeleton) (j : ℕ) (T : List ℕ) (is full : List (Place × Value)) → AllAmong is full → (σ : Place) → HasCause k 0 T is σ → HasCause (act t k) j T full σ
  unfolding AllAmong
  cause_after_act t k j T is full inc σ (inl h) = inl (inr h)
  cause_after_act t k j T is full inc σ (inr h) = inr (h.0, h.1, inc h.0 h.1 h.2, h.3)

  cause_in_yes : (t : Tag) (b c k : Skeleton) (j : ℕ) (T : List ℕ) (v : Value) → truth v ≡ true → (is full : List (Place × Value)) → Among ((t, T), v) full → AllAmong is full
      → (σ : Place) → HasCause b 0 T is σ → HasCause (fork t b c k) j T full σ
  unfolding AllAmong
  cause_in_yes t b c k j T v y is full m inc σ (inl h) = inr ((t, T), v, m, inl (refl, inl (y, h)))
  cause_in_yes t b c k j T v y is full m inc σ (inr h) = inr (h.0, h.1, inc h.0 h.1 h.2, inr (inl h.3))

  cause_in_no : (t : Tag) (b c k : Skeleton) (j : ℕ) (T : List ℕ) (v : Value) → truth v ≡ false → (is full : List (Place × Value)) → Among ((t, T), v) full → AllAmong is full
      → (σ : Place) → HasCause c 0 T is σ → HasCause (fork t b c k) j T full σ
  unfolding AllAmong
  cause_in_no t b c k j T v y is full m inc σ (inl h) = inr ((t, T), v, m, inl (refl, inr (y, h)))
  cause_in_no t b c k j T v y is full m inc σ (inr h) = inr (h.0, h.1, inc h.0 h.1 h.2, inr (inr (inl h.3)))

  cause_after_fork : (t : Tag) (b c k : Skeleton) (j : ℕ) (T : List ℕ) (is full : List (Place × Value)) → AllAmong is full → (σ : Place) → HasCause k 0 T is σ → HasCause (fork t b c k) j T full σ
  unfolding AllAmong
  cause_after_fork t b c k j T is full inc σ (inl h) = inl (inr h)
  cause_after_fork t b c k j T is full inc σ (inr h) = inr (h.0, h.1, inc h.0 h.1 h.2, inr (inr (inr h.3)))

  cause_after_round : (t : Tag) (b k : Skeleton) (j : ℕ) (T : List ℕ) (is full : List (Place × Value)) → AllAmong is full → (σ : Place) → HasCause k 0 T is σ → HasCause (round t b k) j T full σ
  unfolding AllAmong
  cause_after_round t b k j T is full inc σ (inl h) = inl (inr h)
  cause_after_round t b k j T is full inc σ (inr h) = inr (h.0, h.1, inc h.0 h.1 h.2, inr (inr h.3))

  cause_in_body : (t : Tag) (b k : Skeleton) (j : ℕ) (T : List ℕ) (v : Value) → truth v ≡ true → (is full : List (Place × Value)) → Among ((t, T ++ (j ∷ [])), v) full → AllAmong is full
      → (σ : Place) → HasCause b 0 (T ++ (j ∷ [])) is σ → HasCause (round t b k) j T full σ
  unfolding AllAmong
  cause_in_body t b k j T v y is full m inc σ (inl h) = inr ((t, T ++ (j ∷ [])), v, m, inl (j, refl, y, inl h))
  cause_in_body t b k j T v y is full m inc σ (inr h) = inr (h.0, h.1, inc h.0 h.1 h.2, inr (inl (j, h.3)))

  cause_next_turn : (t : Tag) (b k : Skeleton) (j : ℕ) (T : List ℕ) (v : Value) → truth v ≡ true → (is full : List (Place × Value)) → Among ((t, T ++ (j ∷ [])), v) full → AllAmong is full
      → (σ : Place) → HasCause (round t b k) (suc j) T is σ → HasCause (round t b k) j T full σ
  unfolding AllAmong
  cause_next_turn t b k j T v y is full m inc σ (inl (inl e)) = inr ((t, T ++ (j ∷ [])), v, m, inl (j, refl, y, inr e))
  cause_next_turn t b k j T v y is full m inc σ (inl (inr h)) = inl (inr h)
  cause_next_turn t b k j T v y is full m inc σ (inr h) = inr (h.0, h.1, inc h.0 h.1 h.2, h.3)

  all_later : (x : Place × Value) (is : List (Place × Value)) → AllAmong is (x ∷ is)
  unfolding AllAmong
  all_later x is π v m = there m

  all_left : (x : Place × Value) (is js : List (Place × Value)) → AllAmong is (x ∷ (is ++ js))
  unfolding AllAmong
  all_left x is js π v m = there (among_left js m)

  all_right : (x : Place × Value) (is js : List (Place × Value)) → AllAmong js (x ∷ (is ++ js))
  unfolding AllAmong
  all_right x is js π v m = there (among_right is m)

  pub has_cause : (B : Skeleton) (j : ℕ) (T : List ℕ) (g : List (Place × Value)) (ss : List Place) (e : Bool) (h : List (Place × Value))
      → (d : Execution Value truth gives B j T g ss e h) → AllByRecursion (HasCause B j T (items B j T g ss e h d)) ss
  unfolding items
  has_cause _ j T g _ _ _ ended = tt
  has_cause _ j T g _ _ _ act_stops = (inl (inl refl), tt)
  has_cause _ j T g _ _ _ (act_goes {t = t} {k = k} {h = h} {ss = ss} {e = e} v w x) =
      let is = items k 0 T (((t, T), v) ∷ g) ss e h x in
      (inl (inl refl), each_by (cause_after_act t k j T is (((t, T), v) ∷ is) (all_later ((t, T), v) is)) ss (has_cause k 0 T (((t, T), v) ∷ g) ss e h x))
  has_cause _ j T g _ _ _ fork_stops = (inl (inl refl), tt)
  has_cause _ j T g _ _ _ (yes_stops {t = t} {b = b} {c = c} {k = k} {h = h} {ss = ss} v w y x) =
      let is = items b 0 T (((t, T), v) ∷ g) ss false h x in
      (inl (inl refl), each_by (cause_in_yes t b c k j T v y is (((t, T), v) ∷ is) here (all_later ((t, T), v) is)) ss (has_cause b 0 T (((t, T), v) ∷ g) ss false h x))
  has_cause _ j T g _ _ _ (no_stops {t = t} {b = b} {c = c} {k = k} {h = h} {ss = ss} v w y x) =
      let is = items c 0 T (((t, T), v) ∷ g) ss false h x in
      (inl (inl refl), each_by (cause_in_no t b c k j T v y is (((t, T), v) ∷ is) here (all_later ((t, T), v) is)) ss (has_cause c 0 T (((t, T), v) ∷ g) ss false h x))
  has_cause _ j T g _ _ _ (yes_goes {t = t} {b = b} {c = c} {k = k} {h = h} {i = i} {ss = ss} {rr = rr} {e = e} v w y x z) =
      let is = items b 0 T (((t, T), v) ∷ g) ss true h x in
      let js = items k 0 T h rr e i z in (
        inl (inl refl),
        each_append (HasCause (fork t b c k) j T (((t, T), v) ∷ (is ++ js))) ss rr
            (each_by (cause_in_yes t b c k j T v y is (((t, T), v) ∷ (is ++ js)) here (all_left ((t, T), v) is js)) ss (has_cause b 0 T (((t, T), v) ∷ g) ss true h x))
            (each_by (cause_after_fork t b c k j T js (((t, T), v) ∷ (is ++ js)) (all_right ((t, T), v) is js)) rr (has_cause k 0 T h rr e i z)),
      )
  has_cause _ j T g _ _ _ (no_goes {t = t} {b = b} {c = c} {k = k} {h = h} {i = i} {ss = ss} {rr = rr} {e = e} v w y x z) =
      let is = items c 0 T (((t, T), v) ∷ g) ss true h x in
      let js = items k 0 T h rr e i z in (
        inl (inl refl),
        each_append (HasCause (fork t b c k) j T (((t, T), v) ∷ (is ++ js))) ss rr
            (each_by (cause_in_no t b c k j T v y is (((t, T), v) ∷ (is ++ js)) here (all_left ((t, T), v) is js)) ss (has_cause c 0 T (((t, T), v) ∷ g) ss true h x))
            (each_by (cause_after_fork t b c k j T js (((t, T), v) ∷ (is ++ js)) (all_right ((t, T), v) is js)) rr (has_cause k 0 T h rr e i z)),
      )
  has_cause _ j T g _ _ _ round_stops = (inl (inl refl), tt)
  has_cause _ j T g _ _ _ (round_leaves {t = t} {b = b} {k = k} {h = h} {ss = ss} {e = e} v w y x) =
      let is = items k 0 T (((t, T ++ (j ∷ [])), v) ∷ g) ss e h x in
      (inl (inl refl), each_by (cause_after_round t b k j T is (((t, T ++ (j ∷ [])), v) ∷ is) (all_later ((t, T ++ (j ∷ [])), v) is)) ss (has_cause k 0 T (((t, T ++ (j ∷ [])), v) ∷ g) ss e h x))
  has_cause _ j T g _ _ _ (body_stops {t = t} {b = b} {k = k} {h = h} {ss = ss} v w y x) =
      let is = items b 0 (T ++ (j ∷ [])) (((t, T ++ (j ∷ [])), v) ∷ g) ss false h x in (
        inl (inl refl),
        each_by (cause_in_body t b k j T v y is (((t, T ++ (j ∷ [])), v) ∷ is) here (all_later ((t, T ++ (j ∷ [])), v) is)) ss
            (has_cause b 0 (T ++ (j ∷ [])) (((t, T ++ (j ∷ [])), v) ∷ g) ss false h x),
      )
  has_cause _ j T g _ _ _ (body_goes {t = t} {b = b} {k = k} {h = h} {i = i} {ss = ss} {rr = rr} {e = e} v w y x z) =
      let is = items b 0 (T ++ (j ∷ [])) (((t, T ++ (j ∷ [])), v) ∷ g) ss true h x in
      let js = items (round t b k) (suc j) T h rr e i z in (
        inl (inl refl),
        each_append (HasCause (round t b k) j T (((t, T ++ (j ∷ [])), v) ∷ (is ++ js))) ss rr
            (each_by (cause_in_body t b k j T v y is (((t, T ++ (j ∷ [])), v) ∷ (is ++ js)) here (all_left ((t, T ++ (j ∷ [])), v) is js)) ss
            (has_cause b 0 (T ++ (j ∷ [])) (((t, T ++ (j ∷ [])), v) ∷ g) ss true h x))
            (each_by (cause_next_turn t b k j T v y js (((t, T ++ (j ∷ [])), v) ∷ (is ++ js)) here (all_right ((t, T ++ (j ∷ [])), v) is js)) rr
            (has_cause (round t b k) (suc j) T h rr e i z)),
      )
