-- A path that takes a back edge is a path to its source, and one from its loop.
use Rattle.std.proofs.Common.{◌≡◌, ℕ, ◌<◌, length, Some, None, List, [], ◌∷◌, ◌++◌, Contains, inl, inr, Option, refl, sym, ap, ◌∙◌, subst}
use Rattle.std.specs.Option.{option_and_then}
use Rattle.std.proofs.lemmas.Bool.{cases_lt}
use Rattle.std.proofs.lemmas.Option.{slice_get_past}
use Rattle.std.proofs.lemmas.List.Elements.{Contains-append_right}
use Rattle.hpr_terms.proofs.Facts.{in_none, in_here, in_cons}
use Rattle.hpr_syntax.specs.Paths.{one, step}
use Rattle.hpr_paths.specs.declared.spot.Step.{Step}
use Rattle.hpr_paths.specs.Spots.{Spot, defined, steps_of, next_at, defined_at, IsLoopAt}
use Rattle.hpr_paths.specs.Numbers.{Leads, NumberUndisturbed}
use Rattle.hpr_reach.specs.Reaches.{back_to}
use Rattle.hpr_reach.specs.Flows.{Leaves, ComesRound, GoesOn}
use Rattle.hpr_reach.proofs.Avoids.{avoids_nothing}

-- a loop's predicate defines nothing
pub loop_calm : (spots : List Spot) (w : ℕ) (x : List ℕ) → IsLoopAt spots w → ¬ (defined_at spots w ≡ Some x)
loop_calm spots w x (t, e, is) h = let none : None ≡ Some x = sym (ap (option_and_then defined) is) ∙ h in cc

-- a number from which a step leads is that of a point
pub step_within : (spots : List Spot) (p : ℕ) (s : Step) → Contains (next_at spots p) s → p < length spots
step_within spots p s h = elim (cases_lt p (length spots)) [
  | inl l ↦ l
  | inr past ↦ absurd (in_none s (subst (λ (o : Option Spot). Contains (steps_of o) s) (slice_get_past spots p past) h))
]

module _ (spots : List Spot) (x : List ℕ) where
  abbrev Stop : ℕ → Type 0
  Stop b = defined_at spots b ≡ Some x

  -- two paths, where the point between doesn't define the name
  pub path_join : {d p u : ℕ} {first last : List Step} → NumberUndisturbed spots x d p first → ¬ Stop p → NumberUndisturbed spots x p u last → NumberUndisturbed spots x d u (first ++ last)
  path_join (one lead) on q = step lead on q
  path_join (step lead calm path) on q = step lead calm (path_join path on q)

  first_round : (w d b : ℕ) (s : Step) → Leads spots d b s → s ≡ back_to w → ComesRound spots x w d × (b ≡ w)
  first_round w d b s lead is = ((d, subst (Contains (next_at spots d)) is lead.0, inl refl), lead.1 ∙ ap (λ (t : Step). t.to) is)

  later_leaves : (d b p : ℕ) (s : Step) → Leads spots d b s → ¬ Stop b → Leaves spots x b p → Leaves spots x d p
  later_leaves d b p s lead on (inl e) =
      inr ((s ∷ [], one (lead.0, e ∙ lead.1), avoids_nothing (s ∷ [])), (λ h. on (subst Stop e h)))
  later_leaves d b p s lead on (inr ((steps, path, avoids), calm)) =
      inr ((s ∷ steps, step lead on path, avoids_nothing (s ∷ steps)), calm)

  pub carried_parts : (w : ℕ) {d u : ℕ} {steps : List Step} → NumberUndisturbed spots x d u steps → Contains steps (back_to w) → ComesRound spots x w d × GoesOn spots x w u
  carried_parts w (one {a = d} {z = u} {m = s} lead) h = elim (in_cons s (back_to w) [] h) [
    | inl e ↦ (let f = first_round w d u s lead e in (f.0, inl f.1))
    | inr later ↦ absurd (in_none (back_to w) later)
  ]
  carried_parts w (step {a = d} {b = b} {z = u} {m = s} {ms = steps} lead on path) h = elim (in_cons s (back_to w) steps h) [
    | inl e ↦ (let f = first_round w d b s lead e in
        (f.0, inr (steps, subst (λ (c : ℕ). NumberUndisturbed spots x c u steps) f.1 path, avoids_nothing steps)))
    | inr later ↦ (let r = carried_parts w path later in
        ((r.0.0, r.0.1, later_leaves d b r.0.0 s lead on r.0.2), r.1))
  ]

  -- from the end of the loop's body through its predicate
  through : (w p u : ℕ) → ¬ Stop w → Contains (next_at spots p) (back_to w) → GoesOn spots x w u → (steps : List Step) × NumberUndisturbed spots x p u steps × Contains steps (back_to w)
  through w p u calm there (inl e) = (back_to w ∷ [], one (there, e), in_here (back_to w) [])
  through w p u calm there (inr (steps, path, avoids)) = (back_to w ∷ steps, step (there, refl) calm path, in_here (back_to w) steps)

  pub carried_from_parts : (w d u : ℕ) → ¬ Stop w → ComesRound spots x w d → GoesOn spots x w u → (steps : List Step) × NumberUndisturbed spots x d u steps × Contains steps (back_to w)
  carried_from_parts w d u calm (p, there, inl e) on = through w d u calm (subst (λ (q : ℕ). Contains (next_at spots q) (back_to w)) e there) on
  carried_from_parts w d u calm (p, there, inr ((steps, path, avoids), here)) on =
      let r = through w p u calm there on in
      (steps ++ r.0, path_join path here r.1, Contains-append_right steps r.0 (back_to w) r.2)
