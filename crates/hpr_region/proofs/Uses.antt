-- The numbers of the names that a part uses.
use Rattle.std.proofs.Common.{◌≡◌, ℕ, List, Contains, sym, subst}
use Rattle.hpr_syntax.specs.declared.rows.Content.{Content}
use Rattle.hpr_syntax.specs.Contents.{used_names}
use Rattle.hpr_syntax.proofs.ActByUses.{uses_in}
use Rattle.hpr_region.specs.Tables.{AreUsed}
use Rattle.hpr_region.proofs.Made.{AreAmong}

pub are_used : (names : List (List ℕ)) (row : List ℕ) (c : Content) (used : List (List ℕ)) → used ≡ used_names c → AreAmong names used row → AreUsed names row c
are_used names row c used is all r = (
  (λ h. let (x, at, i) = (all r).0 h in (x, at, (uses_in c x).0 (subst (λ z. Contains z x) is i))),
  (λ (x, at, u). (all r).1 (x, at, subst (λ z. Contains z x) (sym is) ((uses_in c x).1 u))),
)
