-- Walks over open steps are undisturbed paths, and the other way round.
use Rattle.std.proofs.Common.{◌≡◌, ℕ, Bool, true, false, cond, Option, Some, None, List, [], ◌∷◌, Contains, ◌↔◌, refl, sym, ap, ◌∙◌, subst}
use Rattle.std.proofs.lemmas.Slice.Eq.{bytes_eq-Decides}
use Rattle.std.proofs.lemmas.Bool.{false_from_ne_true}
use Rattle.hpr_terms.proofs.Facts.{in_none}
use Rattle.hpr_search.specs.Walks.{Walk, IsReached}
use Rattle.hpr_syntax.specs.Paths.{Path, one, step}
use Rattle.hpr_paths.specs.declared.spot.Step.{Step}
use Rattle.hpr_paths.specs.Spots.{Spot, next_at, defined_at}
use Rattle.hpr_paths.specs.Numbers.{Leads}
use Rattle.hpr_reach.specs.Reaches.{AvoidsLoops}
use Rattle.hpr_reach.specs.OpenSteps.{is_at, is_back_to, targets, open_steps, Stops, ReachesPast}
use Rattle.hpr_reach.proofs.Avoids.{avoids_none, avoids_first, avoids_rest, avoids_more}
use Rattle.hpr_reach.proofs.Targets.{Free, from_target, to_target}

-- the test says whether the point stops a path
stops_at : (spots : List Spot) (name : Option (List ℕ)) (p : ℕ) (d : Option (List ℕ)) → defined_at spots p ≡ d → (is_at name d ≡ true) ↔ Stops spots name p
stops_at spots None p d is = (λ h. cc, λ h. absurd h)
stops_at spots (Some x) p None is = (λ h. cc, λ h. cc)
stops_at spots (Some x) p (Some y) is = (
  (λ h. is ∙ ap Some (sym ((bytes_eq-Decides x y).0 h))),
  (λ h. let e : x ≡ y = cc in (bytes_eq-Decides x y).1 e),
)

module _ (spots : List Spot) (name : Option (List ℕ)) (loops : List ℕ) where
  abbrev Steps : ℕ → List ℕ
  Steps = open_steps spots name loops

  test_at : (p : ℕ) → (is_at name (defined_at spots p) ≡ true) ↔ Stops spots name p
  test_at p = stops_at spots name p (defined_at spots p) refl

  from_open_by : (p q : ℕ) (b : Bool) → is_at name (defined_at spots p) ≡ b → Contains (cond b [] (targets loops (next_at spots p))) q → ¬ Stops spots name p × Free loops (next_at spots p) q
  from_open_by p q true is h = absurd (in_none q h)
  from_open_by p q false is h = ((λ stops. (let t = (test_at p).1 stops in cc)), from_target loops (next_at spots p) q h)

  -- an open step leaves from a point that doesn't stop a path
  from_open : (p q : ℕ) → Contains (Steps p) q → ¬ Stops spots name p × Free loops (next_at spots p) q
  from_open p q h = from_open_by p q (is_at name (defined_at spots p)) refl h

  to_open : (p : ℕ) (s : Step) → ¬ Stops spots name p → Contains (next_at spots p) s → is_back_to loops s ≡ false → Contains (Steps p) s.to
  to_open p s on there free =
      let calm : is_at name (defined_at spots p) ≡ false = false_from_ne_true (is_at name (defined_at spots p)) (λ t. on ((test_at p).0 t)) in
      rw calm (to_target loops (next_at spots p) s there free)

  -- one step, and then a walk
  path_of_walk : (p a q : ℕ) (s : Step) (via : List ℕ) → Contains (next_at spots p) s → is_back_to loops s ≡ false → s.to ≡ a → Walk Steps a via q → ReachesPast spots (Stops spots name) loops p q
  path_of_walk p a q s [] there free to w =
      (s ∷ [], one (there, sym w ∙ sym to), avoids_more loops s [] free (avoids_none loops))
  path_of_walk p a q s (c ∷ via) there free to w =
      let o = from_open a c w.0 in
      let t = o.1 in
      let r = path_of_walk a c q t.0 via t.1 t.2 t.3 w.1 in
      (s ∷ r.0, step (there, sym to) o.0 r.1, avoids_more loops s r.0 free r.2)

  walk_of_path : {p q : ℕ} {steps : List Step} → Path (Leads spots) (Stops spots name) p q steps → AvoidsLoops loops steps
      → (a : ℕ) × (via : List ℕ) × Contains (targets loops (next_at spots p)) a × Walk Steps a via q
  walk_of_path (one {a = p} {z = q} {m = s} lead) avoids =
      (s.to, [], to_target loops (next_at spots p) s lead.0 (avoids_first loops s [] avoids), sym lead.1)
  walk_of_path (step {a = p} {b = b} {z = q} {m = s} {ms = steps} lead on path) avoids =
      let r = walk_of_path path (avoids_rest loops s steps avoids) in
      let t = from_target loops (next_at spots b) r.0 r.2 in (
        s.to,
        r.0 ∷ r.1,
        to_target loops (next_at spots p) s lead.0 (avoids_first loops s steps avoids),
        (subst (λ (x : ℕ). Contains (Steps x) r.0) lead.1 (subst (Contains (Steps b)) t.3 (to_open b t.0 on t.1 t.2)), r.3),
      )

  pub reach_sound : (starts : List ℕ) (p q : ℕ) → starts ≡ targets loops (next_at spots p) → IsReached Steps starts q → ReachesPast spots (Stops spots name) loops p q
  reach_sound starts p q is (a, via, start, w) =
      let t = from_target loops (next_at spots p) a (subst (λ (xs : List ℕ). Contains xs a) is start) in
      path_of_walk p a q t.0 via t.1 t.2 t.3 w

  pub reach_complete : (starts : List ℕ) (p q : ℕ) → starts ≡ targets loops (next_at spots p) → ReachesPast spots (Stops spots name) loops p q → IsReached Steps starts q
  reach_complete starts p q is (steps, path, avoids) =
      let r = walk_of_path path avoids in
      (r.0, r.1, subst (λ (xs : List ℕ). Contains xs r.0) (sym is) r.2, r.3)
