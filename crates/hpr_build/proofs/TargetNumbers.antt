-- The numbers of the vertices that use a name.
use Rattle.std.proofs.Common.{◌≡◌, ℕ, ◌<◌, ◌≤◌, List, Some, All, Contains, length, inl, inr, sym, ap, ◌∙◌, subst, arith}
use Rattle.std.proofs.lemmas.Bool.{cases_lt}
use Rattle.std.proofs.lemmas.List.Elements.{All-weaker, All-contains_itself}
use Rattle.std.proofs.lemmas.Bool.Decides.{nat_tests}
use Rattle.hpr_terms.proofs.Facts.{contains_at, place_of}
use Rattle.hpr_syntax.specs.Tree.{Tree}
use Rattle.hpr_paths.specs.Spots.{Spot, Role, exit, RoleUses, UsesAt}
use Rattle.hpr_paths.specs.Successors.{spots}
use Rattle.hpr_paths.proofs.Stands.{count_whole}
use Rattle.hpr_paths.proofs.Whole.{last_role}
use Rattle.hpr_reach.proofs.Lives.{uses_within}
use Rattle.hpr_build.specs.declared.tables.Variable.{Variable}
use Rattle.hpr_build.specs.Links.{exit_of, IsTargetAt}
use Rattle.hpr_build.specs.NewLinks.{target_of}
use Rattle.hpr_build.specs.Stages.{IsVariable}

pub target_low : (end at u : ℕ) → u < end → target_of end at u ≡ u
target_low end at u l = grind (arith, nat_tests)

pub target_high : (end at u : ℕ) → end ≤ u → target_of end at u ≡ at
target_high end at u l = grind (arith, nat_tests)

-- Exit uses the names of `end`
pub exit_uses : (t : Tree) (x : List ℕ) → Contains t.finals x → UsesAt (spots t) (exit_of t) x
exit_uses t x h = (exit t.finals, last_role t, h)

pub uses_exit : (t : Tree) (x : List ℕ) → UsesAt (spots t) (exit_of t) x → Contains t.finals x
uses_exit t x (r, is, uses) =
    let e : Some r ≡ Some (exit t.finals) = sym is ∙ last_role t in
    let same : r ≡ exit t.finals = cc in
    subst (λ (s : Role). RoleUses s x) same uses

pub target_uses : (t : Tree) (x : List ℕ) (u v : ℕ) → IsTargetAt t x u v → UsesAt (spots t) u x
target_uses t x u v (inl (is, low, uses)) = uses
target_uses t x u v (inr (is, (k, get, at))) = subst (λ (n : ℕ). UsesAt (spots t) n x) (sym is) (exit_uses t x (contains_at t.finals k x get))

module _ (t : Tree) (v : Variable) (var : IsVariable t v) (u w : ℕ) where
  pub number_of_target : IsTargetAt t v.name.now u w → w ≡ target_of (exit_of t) v.final_number u
  number_of_target (inl (is, low, uses)) = is ∙ sym (target_low (exit_of t) v.final_number u low)
  number_of_target (inr (is, (k, get, at))) = at ∙ sym (var.final k get) ∙ sym (target_high (exit_of t) v.final_number u (omega (arith, is)))

  pub target_of_number : UsesAt (spots t) u v.name.now → w ≡ target_of (exit_of t) v.final_number u → IsTargetAt t v.name.now u w
  target_of_number uses is = elim (cases_lt u (exit_of t)) [
    | inl low ↦ inl (is ∙ target_low (exit_of t) v.final_number u low, low, uses)
    | inr high ↦ (let at : u ≡ exit_of t = omega (arith, high, uses_within (spots t) u v.name.now uses, count_whole t) in
        let k = place_of t.finals v.name.now (uses_exit t v.name.now (subst (λ (n : ℕ). UsesAt (spots t) n v.name.now) at uses)) in
        inr (at, (k.0, k.1, is ∙ target_high (exit_of t) v.final_number u high ∙ var.final k.0 k.1)))
  ]

-- the users of a name are points
pub users_within : (t : Tree) (v : Variable) → IsVariable t v → (s : List Spot) → s ≡ spots t → All (λ u. u < length s) v.users.now
users_within t v var s whole =
    let size : length s ≡ length (spots t) = ap (λ (xs : List Spot). length xs) whole in
    All-weaker (Contains v.users.now) (λ u. u < length s) (λ u h. omega (arith, uses_within (spots t) u v.name.now ((var.users u).0 h), size)) v.users.now (All-contains_itself v.users.now)
