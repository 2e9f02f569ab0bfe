-- The log of a run is its items, the newest first; its steps are their places, and the place where it stopped.
use Rattle.std.proofs.Common.{◌≡◌, ℕ, suc, Bool, true, false, List, [], ◌∷◌, ◌++◌, refl, sym, ap, ◌∙◌, append-nil}
use Rattle.hpr_terms.specs.declared.tag.Tag.{Tag}
use Rattle.hpr_syntax.specs.Skeleton.{Skeleton, round}
use mathlib.Core.List.{reverse_aux}
use Rattle.hpr_paths.specs.Times.{Place}
use Rattle.hpr_paths.specs.Runs.{Execution, ended, act_stops, act_goes, fork_stops, yes_stops, no_stops, yes_goes, no_goes, round_stops, round_leaves, body_stops, body_goes}
use Rattle.hpr_paths.proofs.Causes.{items}
use Rattle.hpr_paths.proofs.Listed.{where_stopped}

pub reversed_append : {A : Type 0} (xs ys g : List A) → reverse_aux (xs ++ ys) g ≡ reverse_aux ys (reverse_aux xs g)
reversed_append [] ys g = refl
reversed_append (x ∷ xs) ys g = reversed_append xs ys (x ∷ g)

pub reversed_twice : {A : Type 0} (xs g after : List A) → reverse_aux (reverse_aux xs g) after ≡ reverse_aux g (xs ++ after)
reversed_twice [] g after = refl
reversed_twice (x ∷ xs) g after = reversed_twice xs (x ∷ g) after

abbrev pub places_of : {Value : Type 0} → List (Place × Value) → List Place
places_of [] = []
places_of (i ∷ is) = i.0 ∷ places_of is

abbrev pub stop_if : Bool → Place → List Place
stop_if true σ = []
stop_if false σ = σ ∷ []

module _ (Value : Type 0) (truth : Value → Bool) (gives : Tag → List (Place × Value) → Value → Type 0) where
  pub log_of_items : (B : Skeleton) (j : ℕ) (T : List ℕ) (g : List (Place × Value)) (ss : List Place) (e : Bool) (h : List (Place × Value))
      → (d : Execution Value truth gives B j T g ss e h) → h ≡ reverse_aux (items Value truth gives B j T g ss e h d) g
  unfolding items
  log_of_items _ j T g _ _ _ ended = refl
  log_of_items _ j T g _ _ _ act_stops = refl
  log_of_items _ j T g _ _ _ (act_goes {t = t} {k = k} {h = h} {ss = ss} {e = e} v w x) = log_of_items k 0 T (((t, T), v) ∷ g) ss e h x
  log_of_items _ j T g _ _ _ fork_stops = refl
  log_of_items _ j T g _ _ _ (yes_stops {t = t} {b = b} {h = h} {ss = ss} v w y x) = log_of_items b 0 T (((t, T), v) ∷ g) ss false h x
  log_of_items _ j T g _ _ _ (no_stops {t = t} {c = c} {h = h} {ss = ss} v w y x) = log_of_items c 0 T (((t, T), v) ∷ g) ss false h x
  log_of_items _ j T g _ _ _ (yes_goes {t = t} {b = b} {k = k} {h = h} {i = i} {ss = ss} {rr = rr} {e = e} v w y x z) =
      let is = items Value truth gives b 0 T (((t, T), v) ∷ g) ss true h x in
      let js = items Value truth gives k 0 T h rr e i z in
      log_of_items k 0 T h rr e i z ∙ (ap (reverse_aux js) (log_of_items b 0 T (((t, T), v) ∷ g) ss true h x) ∙ sym (reversed_append is js (((t, T), v) ∷ g)))
  log_of_items _ j T g _ _ _ (no_goes {t = t} {c = c} {k = k} {h = h} {i = i} {ss = ss} {rr = rr} {e = e} v w y x z) =
      let is = items Value truth gives c 0 T (((t, T), v) ∷ g) ss true h x in
      let js = items Value truth gives k 0 T h rr e i z in
      log_of_items k 0 T h rr e i z ∙ (ap (reverse_aux js) (log_of_items c 0 T (((t, T), v) ∷ g) ss true h x) ∙ sym (reversed_append is js (((t, T), v) ∷ g)))
  log_of_items _ j T g _ _ _ round_stops = refl
  log_of_items _ j T g _ _ _ (round_leaves {t = t} {k = k} {h = h} {ss = ss} {e = e} v w y x) = log_of_items k 0 T (((t, T ++ (j ∷ [])), v) ∷ g) ss e h x
  log_of_items _ j T g _ _ _ (body_stops {t = t} {b = b} {h = h} {ss = ss} v w y x) = log_of_items b 0 (T ++ (j ∷ [])) (((t, T ++ (j ∷ [])), v) ∷ g) ss false h x
  log_of_items _ j T g _ _ _ (body_goes {t = t} {b = b} {k = k} {h = h} {i = i} {ss = ss} {rr = rr} {e = e} v w y x z) =
      let is = items Value truth gives b 0 (T ++ (j ∷ [])) (((t, T ++ (j ∷ [])), v) ∷ g) ss true h x in
      let js = items Value truth gives (round t b k) (suc j) T h rr e i z in
      log_of_items (round t b k) (suc j) T h rr e i z ∙ (ap (reverse_aux js) (log_of_items b 0 (T ++ (j ∷ [])) (((t, T ++ (j ∷ [])), v) ∷ g) ss true h x) ∙ sym (reversed_append is js (((t, T ++ (j ∷ [])), v) ∷ g)))

  -- each item was given after the log before it
  abbrev pub IsLawful : List (Place × Value) → Type 0
  IsLawful [] = Unit {0}
  IsLawful (i ∷ g) = gives i.0.0 g i.1 × IsLawful g

  pub log_lawful : (B : Skeleton) (j : ℕ) (T : List ℕ) (g : List (Place × Value)) (ss : List Place) (e : Bool) (h : List (Place × Value))
      → Execution Value truth gives B j T g ss e h → IsLawful g → IsLawful h
  log_lawful _ j T g _ _ _ ended l = l
  log_lawful _ j T g _ _ _ act_stops l = l
  log_lawful _ j T g _ _ _ (act_goes {t = t} {k = k} {h = h} {ss = ss} {e = e} v w x) l = log_lawful k 0 T (((t, T), v) ∷ g) ss e h x (w, l)
  log_lawful _ j T g _ _ _ fork_stops l = l
  log_lawful _ j T g _ _ _ (yes_stops {t = t} {b = b} {h = h} {ss = ss} v w y x) l = log_lawful b 0 T (((t, T), v) ∷ g) ss false h x (w, l)
  log_lawful _ j T g _ _ _ (no_stops {t = t} {c = c} {h = h} {ss = ss} v w y x) l = log_lawful c 0 T (((t, T), v) ∷ g) ss false h x (w, l)
  log_lawful _ j T g _ _ _ (yes_goes {t = t} {b = b} {k = k} {h = h} {i = i} {ss = ss} {rr = rr} {e = e} v w y x z) l =
      log_lawful k 0 T h rr e i z (log_lawful b 0 T (((t, T), v) ∷ g) ss true h x (w, l))
  log_lawful _ j T g _ _ _ (no_goes {t = t} {c = c} {k = k} {h = h} {i = i} {ss = ss} {rr = rr} {e = e} v w y x z) l =
      log_lawful k 0 T h rr e i z (log_lawful c 0 T (((t, T), v) ∷ g) ss true h x (w, l))
  log_lawful _ j T g _ _ _ round_stops l = l
  log_lawful _ j T g _ _ _ (round_leaves {t = t} {k = k} {h = h} {ss = ss} {e = e} v w y x) l = log_lawful k 0 T (((t, T ++ (j ∷ [])), v) ∷ g) ss e h x (w, l)
  log_lawful _ j T g _ _ _ (body_stops {t = t} {b = b} {h = h} {ss = ss} v w y x) l = log_lawful b 0 (T ++ (j ∷ [])) (((t, T ++ (j ∷ [])), v) ∷ g) ss false h x (w, l)
  log_lawful _ j T g _ _ _ (body_goes {t = t} {b = b} {k = k} {h = h} {i = i} {ss = ss} {rr = rr} {e = e} v w y x z) l =
      log_lawful (round t b k) (suc j) T h rr e i z (log_lawful b 0 (T ++ (j ∷ [])) (((t, T ++ (j ∷ [])), v) ∷ g) ss true h x (w, l))

  -- the steps are the items' places, and the place where the run stopped
  places_append : (xs ys : List (Place × Value)) (zs : List Place) → places_of xs ++ (places_of ys ++ zs) ≡ places_of (xs ++ ys) ++ zs
  places_append [] ys zs = refl
  places_append (x ∷ xs) ys zs = ap (λ l. x.0 ∷ l) (places_append xs ys zs)

  steps_of_both : (σ : Place) (ss rr : List Place) (xs ys : List (Place × Value)) (zs : List Place) → ss ≡ places_of xs ++ [] → rr ≡ places_of ys ++ zs → σ ∷ (ss ++ rr) ≡ σ ∷ (places_of (xs ++ ys) ++ zs)
  steps_of_both σ ss rr xs ys zs p q = ap (λ l. σ ∷ l) (ap (λ l. l ++ rr) (p ∙ append-nil (places_of xs)) ∙ (ap (λ l. places_of xs ++ l) q ∙ places_append xs ys zs))

  pub steps_of_items : (B : Skeleton) (j : ℕ) (T : List ℕ) (g : List (Place × Value)) (ss : List Place) (e : Bool) (h : List (Place × Value))
      → (d : Execution Value truth gives B j T g ss e h) → ss ≡ places_of (items Value truth gives B j T g ss e h d) ++ stop_if e (where_stopped Value truth gives B j T g ss e h d)
  unfolding items where_stopped
  steps_of_items _ j T g _ _ _ ended = refl
  steps_of_items _ j T g _ _ _ act_stops = refl
  steps_of_items _ j T g _ _ _ (act_goes {t = t} {k = k} {h = h} {ss = ss} {e = e} v w x) = ap (λ l. (t, T) ∷ l) (steps_of_items k 0 T (((t, T), v) ∷ g) ss e h x)
  steps_of_items _ j T g _ _ _ fork_stops = refl
  steps_of_items _ j T g _ _ _ (yes_stops {t = t} {b = b} {h = h} {ss = ss} v w y x) = ap (λ l. (t, T) ∷ l) (steps_of_items b 0 T (((t, T), v) ∷ g) ss false h x)
  steps_of_items _ j T g _ _ _ (no_stops {t = t} {c = c} {h = h} {ss = ss} v w y x) = ap (λ l. (t, T) ∷ l) (steps_of_items c 0 T (((t, T), v) ∷ g) ss false h x)
  steps_of_items _ j T g _ _ _ (yes_goes {t = t} {b = b} {k = k} {h = h} {i = i} {ss = ss} {rr = rr} {e = e} v w y x z) =
      steps_of_both (t, T) ss rr _ _ _ (steps_of_items b 0 T (((t, T), v) ∷ g) ss true h x) (steps_of_items k 0 T h rr e i z)
  steps_of_items _ j T g _ _ _ (no_goes {t = t} {c = c} {k = k} {h = h} {i = i} {ss = ss} {rr = rr} {e = e} v w y x z) =
      steps_of_both (t, T) ss rr _ _ _ (steps_of_items c 0 T (((t, T), v) ∷ g) ss true h x) (steps_of_items k 0 T h rr e i z)
  steps_of_items _ j T g _ _ _ round_stops = refl
  steps_of_items _ j T g _ _ _ (round_leaves {t = t} {k = k} {h = h} {ss = ss} {e = e} v w y x) =
      ap (λ l. (t, T ++ (j ∷ [])) ∷ l) (steps_of_items k 0 T (((t, T ++ (j ∷ [])), v) ∷ g) ss e h x)
  steps_of_items _ j T g _ _ _ (body_stops {t = t} {b = b} {h = h} {ss = ss} v w y x) =
      ap (λ l. (t, T ++ (j ∷ [])) ∷ l) (steps_of_items b 0 (T ++ (j ∷ [])) (((t, T ++ (j ∷ [])), v) ∷ g) ss false h x)
  steps_of_items _ j T g _ _ _ (body_goes {t = t} {b = b} {k = k} {h = h} {i = i} {ss = ss} {rr = rr} {e = e} v w y x z) =
      steps_of_both (t, T ++ (j ∷ [])) ss rr _ _ _ (steps_of_items b 0 (T ++ (j ∷ [])) (((t, T ++ (j ∷ [])), v) ∷ g) ss true h x) (steps_of_items (round t b k) (suc j) T h rr e i z)
