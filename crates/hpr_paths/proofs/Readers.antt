-- What a point that was read says of the list of points.
use Rattle.std.proofs.Common.{◌≡◌, ◌<◌, ◌+◌, ◌⊎◌, ℕ, Bool, IsTrue, Some, None, List, length, get_or, ◌↔◌, All, Result, Ok, Err, IfOk, refl, sym, ap, ◌∙◌, subst}
use Rattle.std.specs.List.{Contains}
use Rattle.std.specs.Option.{option_map, option_and_then}
use Rattle.std.proofs.lemmas.Option.{slice_get_read, slice_get_within, same_Some}
use Rattle.std.proofs.lemmas.List.Elements.{All-weaker}
use Rattle.hpr_syntax.proofs.ActByUses.{uses_in}
use Rattle.hpr_terms.proofs.Facts.{in_none}
use Rattle.hpr_paths.specs.declared.spot.Step.{Step}
use Rattle.hpr_paths.specs.Spots.{Role, enter, part, exit, Spot, tag_of, tag_at, names_of, uses_of, used_at, RoleUses, steps_of, loops_of, nest_at, role_at, UsesAt, IsLoopAt}
use Rattle.hpr_paths.specs.Successors.{AreSpots}
use Rattle.hpr_syntax.specs.declared.rows.Content.TheVariants.{While}
use Rattle.hpr_paths.proofs.Names.{get_of_role}

pub role_read : (xs : List Spot) (p : ℕ) (s : Spot) → p < length xs → s ≡ get_or xs p s → role_at xs p ≡ Some s.role
role_read xs p s l is = ap (option_map (λ (t : Spot). t.role)) (slice_get_read xs (length xs) p s refl l is)

pub tag_by_role : (xs : List Spot) (p : ℕ) (s : Spot) (r : Role) → p < length xs → s ≡ get_or xs p s → s.role ≡ r → tag_of r ≡ tag_at xs p
tag_by_role xs p s r l is role = sym (ap (option_and_then tag_of) (role_read xs p s l is ∙ ap (λ (q : Role). Some q) role))

pub none_by_role : (xs : List Spot) (p : ℕ) (s : Spot) (r : Role) → AreSpots xs → p < length xs → s ≡ get_or xs p s → s.role ≡ r → (tag_of r ≡ None) ↔ ((p ≡ 0) ⊎ (p + 1 ≡ length xs))
none_by_role xs p s r sound l is role = rw (tag_by_role xs p s r l is role) (sound.ends p l)

pub uses_by_role : (xs : List Spot) (p : ℕ) (s : Spot) (r : Role) (b : Bool) (x : List ℕ) → p < length xs → s ≡ get_or xs p s → s.role ≡ r → (IsTrue b ↔ RoleUses r x) → (IsTrue b ↔ UsesAt xs p x)
uses_by_role xs p s r b x l is role h =
    let at : role_at xs p ≡ Some r = role_read xs p s l is ∙ ap (λ (q : Role). Some q) role in
    let P : Role → Type 0 = λ q. RoleUses q x in
    (λ t. (r, at, h.0 t), λ u. h.1 (subst P (same_Some u.0 r (sym u.1 ∙ at)) u.2))

pub next_within : (xs : List Spot) (p : ℕ) (s : Spot) → AreSpots xs → p < length xs → s ≡ get_or xs p s → All (λ t. t.to < length xs) s.next
next_within xs p s sound l is =
    let P : List Step → Type 0 = λ ts. All (λ t. t.to < length xs) ts in
    subst P (ap steps_of (slice_get_read xs (length xs) p s refl l is)) (sound.within p)

pub loop_within : (xs : List Spot) (w : ℕ) → IsLoopAt xs w → w < length xs
loop_within xs w h = let g = get_of_role xs w (part h.0 (While h.1)) h.2 in slice_get_within xs w g.0 g.1

pub nest_within : (xs : List Spot) (p : ℕ) (s : Spot) → AreSpots xs → p < length xs → s ≡ get_or xs p s → All (λ w. w < length xs) s.nest
nest_within xs p s sound l is =
    let P : List ℕ → Type 0 = λ ws. All (λ w. w < length xs) ws in
    subst P (ap loops_of (slice_get_read xs (length xs) p s refl l is)) (All-weaker (λ w. IsLoopAt xs w) (λ w. w < length xs) (λ w h. loop_within xs w h) (nest_at xs p) (sound.loops p))

pub role_used : (r : Role) (x : List ℕ) → Contains (names_of r) x ↔ RoleUses r x
role_used enter x = (in_none x, λ h. absurd h)
role_used (part t c) x = uses_in c x
role_used (exit finals) x = (λ h. h, λ h. h)

-- what was read of a point are the names that it uses
pub names_read : (xs : List Spot) (p : ℕ) (s : Spot) (names : List (List ℕ)) → p < length xs → s ≡ get_or xs p s → names ≡ names_of s.role → names ≡ used_at xs p
names_read xs p s names l is given = given ∙ sym (ap uses_of (role_read xs p s l is))

pub used_by_role : (xs : List Spot) (p : ℕ) (s : Spot) (names : List (List ℕ)) → p < length xs → s ≡ get_or xs p s → names ≡ names_of s.role → (x : List ℕ) → Contains names x ↔ UsesAt xs p x
used_by_role xs p s names l is given x =
    let at : role_at xs p ≡ Some s.role = role_read xs p s l is in
    let P : Role → Type 0 = λ q. RoleUses q x in
    let Q : List (List ℕ) → Type 0 = λ ns. Contains ns x in (
      λ h. (s.role, at, (role_used s.role x).0 (subst Q given h)),
      λ u. subst Q (sym given) ((role_used s.role x).1 (subst P (same_Some u.0 s.role (sym u.1 ∙ at)) u.2)),
    )

pub ok_then : {X E : Type 0} (r : Result X E) (P Q : X → Type 0) → IfOk r P → ((x : X) → P x → Q x) → IfOk r Q
ok_then (Ok x) P Q h f = f x h
ok_then (Err e) P Q h f = tt
