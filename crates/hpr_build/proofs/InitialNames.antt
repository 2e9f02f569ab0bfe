-- Names that are live at Enter, by the points that define and use them.
use Rattle.std.proofs.Common.{◌≡◌, ◌↔◌, ◌⊎◌, inl, inr, ℕ, Bool, IsTrue, Some, List, [], Contains, subst}
use Rattle.hpr_terms.proofs.Facts.{in_none}
use Rattle.hpr_search.specs.Marks.{IsMarked}
use Rattle.hpr_paths.specs.Spots.{Spot, UsesAt, defined_at}
use Rattle.hpr_reach.specs.Live.{IsDefined, IsLive}
use Rattle.hpr_reach.specs.Reaches.{Reaches}
use Rattle.hpr_reach.proofs.Lives.{live_of_mark, mark_of_live, path_calmer}
use Rattle.hpr_build.specs.Variables.{IsFreeRow}

module _ (spots : List Spot) (x : List ℕ) where
  -- a row of what the name reaches marks a use exactly where the name is live
  pub live_by_row : (row : List Bool) (users : List ℕ) (live : Bool) → ((q : ℕ) → IsMarked row q ↔ Reaches spots x [] 0 q) → ((p : ℕ) → Contains users p ↔ UsesAt spots p x)
      → IsTrue live ↔ ((u : ℕ) × Contains users u × IsMarked row u) → IsTrue live ↔ IsLive spots x
  live_by_row row users live marks uses is = (
    (λ t. (let (u, has, m) = is.0 t in live_of_mark spots x u ((marks u).0 m) ((uses u).0 has))),
    (λ l. (let (u, within, m, used) = mark_of_live spots x row marks l in is.1 (u, (uses u).1 used, m))),
  )

  -- where nothing defines the name, it reaches what each such name does
  pub free_by_row : (row : List Bool) → ¬ IsDefined spots x → ((q : ℕ) → IsMarked row q ↔ Reaches spots x [] 0 q) → IsFreeRow spots row
  free_by_row row free marks y free_y q = (
    (λ m. (let (steps, path, avoids) = (marks q).0 m in (steps, path_calmer spots (λ b. defined_at spots b ≡ Some x) (λ b. defined_at spots b ≡ Some y) (λ b _ e. free_y (b, e)) path, avoids))),
    (λ (steps, path, avoids). (marks q).1 (steps, path_calmer spots (λ b. defined_at spots b ≡ Some y) (λ b. defined_at spots b ≡ Some x) (λ b _ e. free (b, e)) path, avoids)),
  )

  -- without definitions, nothing defines the name
  pub undefined : (definitions : List ℕ) → ((p : ℕ) → Contains definitions p ↔ (defined_at spots p ≡ Some x)) → definitions ≡ [] → ¬ IsDefined spots x
  undefined definitions exact none (p, is) = in_none p (subst (λ (ds : List ℕ). Contains ds p) none ((exact p).1 is))

-- what is put behind an empty list
pub from_none : (x : List ℕ) (old : List (List ℕ)) (V L B : Type 0) → old ≡ [] → L ↔ (Contains old x ⊎ B) → V ↔ L → V ↔ B
from_none x old V L B none more same = (
  (λ v. elim (more.0 (same.0 v)) [ inl was ↦ absurd (in_none x (subst (λ (xs : List (List ℕ)). Contains xs x) none was)) | inr b ↦ b ]),
  (λ b. same.1 (more.1 (inr b))),
)
