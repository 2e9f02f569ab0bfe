-- Names that are live at Enter.
use Rattle.std.proofs.Common.{◌≡◌, ℕ, ◌<◌, Bool, ◌==◌, Option, Some, None, List, [], length, Contains, ◌↔◌, ◌⊎◌, inl, inr, sym, ap}
use Rattle.std.specs.List.{list_any, slice_get}
use Rattle.std.specs.Option.{option_map, option_and_then}
use Rattle.std.specs.Cmp.Lexicographic.{pointwise, same_text}
use Rattle.std.proofs.lemmas.Bool.{cases_lt, cases_Bool, both_ways}
use Rattle.std.proofs.lemmas.Option.{slice_get_past}
use Rattle.std.proofs.lemmas.Cmp.{nat_list_eq_equiv}
use Rattle.std.proofs.lemmas.Map.Views.{Contains-from_any, list_any-from_Contains}
use Rattle.hpr_syntax.specs.Paths.{Path, one, step}
use Rattle.hpr_paths.specs.declared.spot.Step.{Step}
use Rattle.hpr_paths.specs.Spots.{Role, Spot, defined, role_at, defined_at, UsesAt}
use Rattle.hpr_paths.specs.Numbers.{Leads}
use Rattle.hpr_search.specs.Marks.{IsMarked}
use Rattle.hpr_reach.specs.Reaches.{Reaches}
use Rattle.hpr_reach.specs.OpenSteps.{Stops, ReachesPast}
use Rattle.hpr_reach.specs.Live.{IsDefined, IsLive, IsUsedAfterAll}
use Rattle.hpr_reach.proofs.Avoids.{avoids_nothing}

no_spot : (spots : List Spot) (p : ℕ) (r : Option Spot) → r ≡ None → option_map (λ s. s.role) r ≡ None
no_spot spots p r e = ap (option_map (λ s. s.role)) e

pub role_within : (spots : List Spot) (p : ℕ) (r : Role) → role_at spots p ≡ Some r → p < length spots
role_within spots p r is = elim (cases_lt p (length spots)) [
  | inl l ↦ l
  | inr past ↦ absurd (let e = no_spot spots p (slice_get spots p) (slice_get_past spots p past) in cc)
]

defined_has_role : (r : Option Role) (x : List ℕ) → option_and_then defined r ≡ Some x → (s : Role) × (r ≡ Some s)
defined_has_role None x h = absurd cc
defined_has_role (Some s) x h = (s, cc)

pub defined_within : (spots : List Spot) (p : ℕ) (x : List ℕ) → defined_at spots p ≡ Some x → p < length spots
defined_within spots p x h = let r = defined_has_role (role_at spots p) x h in role_within spots p r.0 r.1

pub uses_within : (spots : List Spot) (p : ℕ) (x : List ℕ) → UsesAt spots p x → p < length spots
uses_within spots p x (r, is, uses) = role_within spots p r is

-- a path that these points don't stop isn't stopped by fewer
pub path_calmer : (spots : List Spot) (S T : ℕ → Type 0) → ((b : ℕ) → ¬ S b → ¬ T b) → {p q : ℕ} {steps : List Step} → Path (Leads spots) S p q steps → Path (Leads spots) T p q steps
path_calmer spots S T calm (one lead) = one lead
path_calmer spots S T calm (step {b = b} lead on path) = step lead (calm b on) (path_calmer spots S T calm path)

pub cases_among : (xs : List (List ℕ)) (x : List ℕ) → Contains xs x ⊎ (¬ Contains xs x)
cases_among xs x = elim (cases_Bool (list_any (pointwise ◌==◌ x) xs)) [
  | inl t ↦ inl (Contains-from_any (λ a b e. same_text a b (sym e)) x xs t)
  | inr f ↦ inr (λ h. both_ways (list_any (pointwise ◌==◌ x) xs) f (list_any-from_Contains nat_list_eq_equiv x xs h))
]

module _ (spots : List Spot) (x : List ℕ) where
  -- what a row of the name's own marks are
  pub live_of_mark : (u : ℕ) → Reaches spots x [] 0 u → UsesAt spots u x → IsLive spots x
  live_of_mark u (steps, path, avoids) uses = (u, steps, path, uses)

  pub mark_of_live : (row : List Bool) → ((q : ℕ) → IsMarked row q ↔ Reaches spots x [] 0 q) → IsLive spots x → (u : ℕ) × (u < length spots) × IsMarked row u × UsesAt spots u x
  mark_of_live row marks (u, steps, path, uses) = (u, uses_within spots u x uses, (marks u).1 (steps, path, avoids_nothing steps), uses)

  -- where nothing defines the name, any path is undisturbed
  pub live_of_undefined : ¬ IsDefined spots x → IsUsedAfterAll spots x → IsLive spots x
  live_of_undefined free (u, steps, path, uses) = (u, steps, path_calmer spots (λ _. ⊥) (λ b. defined_at spots b ≡ Some x) (λ b _ e. free (b, e)) path, uses)

  pub undefined_of_live : IsLive spots x → IsUsedAfterAll spots x
  undefined_of_live (u, steps, path, uses) = (u, steps, path_calmer spots (λ b. defined_at spots b ≡ Some x) (λ _. ⊥) (λ b _ e. e) path, uses)

  pub used_of_mark : (u : ℕ) → ReachesPast spots (Stops spots None) [] 0 u → UsesAt spots u x → IsUsedAfterAll spots x
  used_of_mark u (steps, path, avoids) uses = (u, steps, path_calmer spots (Stops spots None) (λ _. ⊥) (λ b _ e. e) path, uses)

  pub mark_of_used : (row : List Bool) → ((q : ℕ) → IsMarked row q ↔ ReachesPast spots (Stops spots None) [] 0 q) → IsUsedAfterAll spots x → (u : ℕ) × (u < length spots) × IsMarked row u × UsesAt spots u x
  mark_of_used row marks (u, steps, path, uses) =
      (u, uses_within spots u x uses, (marks u).1 (steps, path_calmer spots (λ _. ⊥) (Stops spots None) (λ b _ e. e) path, avoids_nothing steps), uses)

  -- the names of both kinds
  pub both_kinds : (defined first both : List (List ℕ)) → Contains defined x ↔ IsDefined spots x → Contains first x ↔ (IsUsedAfterAll spots x × ¬ Contains defined x) → Contains both x ↔ (Contains first x ⊎ (Contains defined x × IsLive spots x)) → Contains both x ↔ IsLive spots x
  both_kinds defined first both exact firsts boths = (
    (λ h. elim (boths.0 h) [
      | inl f ↦ (let k = firsts.0 f in live_of_undefined (λ d. k.1 (exact.1 d)) k.0)
      | inr k ↦ k.1
    ]),
    (λ live. elim (cases_among defined x) [
      | inl d ↦ boths.1 (inr (d, live))
      | inr n ↦ boths.1 (inl (firsts.1 (undefined_of_live live, n)))
    ]),
  )
