-- Numbers that tell points apart.
--
-- role_parts == a role taken apart; role_back puts it together again
-- step_coded == steps, with their codes
-- role_coded == roles, with their codes
-- spot_coded == points, with their codes
use Rattle.std.specs.Prelude.{◌≡◌, ℕ, Bool, ◌⊎◌, List, refl}
use Rattle.std.proofs.Common.{inl, inr}
use Rattle.std.specs.Coded.{Coded, code_by, coded×, coded⊎, coded_ℕ, coded_bool, coded_list}
use Rattle.hpr_syntax.specs.declared.rows.Content.{Content}
use Rattle.hpr_syntax.specs.Private.ContentCode.{content_coded}
use Rattle.hpr_paths.specs.declared.spot.Step.{Step}
use Rattle.hpr_paths.specs.Spots.{Role, enter, part, exit, Spot}

abbrev pub role_parts : Role → List (List ℕ) ⊎ (((ℕ × ℕ) × Content) ⊎ ℕ)
role_parts enter = inr (inr 0)
role_parts (part t c) = inr (inl ((t.author, t.serial), c))
role_parts (exit finals) = inl finals

abbrev pub role_back : List (List ℕ) ⊎ (((ℕ × ℕ) × Content) ⊎ ℕ) → Role
role_back (inl finals) = exit finals
role_back (inr (inl p)) = part (record { author = p.0.0; serial = p.0.1 }) p.1
role_back (inr (inr n)) = enter

pub role_same : (r : Role) → role_back (role_parts r) ≡ r
role_same enter = refl
role_same (part t c) = refl
role_same (exit finals) = refl

abbrev pub role_coded : Coded Role
role_coded =
    code_by (List (List ℕ) ⊎ (((ℕ × ℕ) × Content) ⊎ ℕ))
    (coded⊎ (coded_list (coded_list coded_ℕ)) (coded⊎ (coded× (coded× coded_ℕ coded_ℕ) content_coded) coded_ℕ))
    role_parts role_back role_same

abbrev pub step_coded : Coded Step
step_coded = code_by (ℕ × Bool) (coded× coded_ℕ coded_bool) (λ s. (s.to, s.back)) (λ p. record { to = p.0; back = p.1 }) (λ _. refl)

abbrev pub spot_coded : Coded Spot
spot_coded =
    code_by (List Step × (List ℕ × Role)) (coded× (coded_list step_coded) (coded× (coded_list coded_ℕ) role_coded))
    (λ s. (s.next, (s.nest, s.role))) (λ p. record { next = p.0; nest = p.1.0; role = p.1.1 }) (λ _. refl)
