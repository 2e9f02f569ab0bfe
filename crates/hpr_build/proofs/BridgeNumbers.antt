-- Which point and which name the number of a source or a target stands for.
use Rattle.std.proofs.Common.{◌≡◌, ℕ, ◌<◌, ◌≤◌, inl, inr, Option, Some, None, List, [], refl, sym, ap, ◌∙◌, arith}
use Rattle.std.specs.List.{slice_get}
use Rattle.std.specs.Option.{option_and_then}
use Rattle.hpr_terms.specs.declared.tag.Tag.{Tag}
use Rattle.hpr_syntax.specs.declared.rows.Content.{Content}
use Rattle.hpr_syntax.specs.Rows.{assigned}
use Rattle.hpr_syntax.specs.Tree.{Tree}
use Rattle.hpr_paths.specs.Spots.{Role, enter, part, exit, defined, role_at, defined_at}
use Rattle.hpr_paths.specs.Successors.{spots}
use Rattle.hpr_build.specs.Places.{Place}
use Rattle.hpr_build.specs.Links.{exit_of, IsSourceAt, IsTargetAt}
use Rattle.hpr_build.proofs.PlaceIn.{PartAt, place_range}
use Rattle.hpr_build.proofs.PlaceLaws.{part_of_role}

some_same : {X : Type 0} (o : Option X) (x y : X) → o ≡ Some x → o ≡ Some y → x ≡ y
some_same {X} o x y a b = let e : Some x ≡ Some y = sym a ∙ b in cc

-- the parts have the numbers from 1 to below that of Exit
pub part_within : (t : Tree) (p : ℕ) (x : Place) → PartAt t p x → (1 ≤ p) × (p < exit_of t)
part_within t p x h = let r = place_range t.body 1 None [] p x h in (r.0, omega (arith, r.1))

pub role_within : (t : Tree) (p : ℕ) (v : Tag) (c : Content) → role_at (spots t) p ≡ Some (part v c) → (1 ≤ p) × (p < exit_of t)
role_within t p v c is = let k = part_of_role t p v c is in part_within t p k.0 k.1

assigned_by : (t : Tree) (d : ℕ) (x : List ℕ) (o : Option Role) → role_at (spots t) d ≡ o → option_and_then defined o ≡ Some x → (p : Place) × PartAt t d p × (assigned p.content ≡ Some x)
assigned_by t d x None is h = absurd cc
assigned_by t d x (Some enter) is h = absurd cc
assigned_by t d x (Some (part v c)) is h = let k = part_of_role t d v c is in (k.0, k.1, ap assigned k.3 ∙ h)
assigned_by t d x (Some (exit finals)) is h = absurd cc

-- what defines a name is a part that says so
pub part_of_defined : (t : Tree) (d : ℕ) (x : List ℕ) → defined_at (spots t) d ≡ Some x → (p : Place) × PartAt t d p × (assigned p.content ≡ Some x)
part_of_defined t d x h = assigned_by t d x (role_at (spots t) d) refl h

pub defined_within : (t : Tree) (d : ℕ) (x : List ℕ) → defined_at (spots t) d ≡ Some x → (1 ≤ d) × (d < exit_of t)
defined_within t d x h = let k = part_of_defined t d x h in part_within t d k.0 k.1

module _ (t : Tree) (inits : List (List ℕ)) where
  -- the number of a source tells its name and its point
  pub source_once : (x y : List ℕ) (d e v : ℕ) → IsSourceAt t inits x d v → IsSourceAt t inits y e v → (x ≡ y) × (d ≡ e)
  source_once x y d e v (inl (a, h)) (inl (b, i)) =
      let same : d ≡ e = sym a ∙ b in
      (some_same (defined_at (spots t) e) x y (ap (defined_at (spots t)) (sym same) ∙ h) i, same)
  source_once x y d e v (inl (a, h)) (inr (b, (k, i, is))) = absurd (omega (arith, a, is, (defined_within t d x h).1))
  source_once x y d e v (inr (a, (k, h, is))) (inl (b, i)) = absurd (omega (arith, b, is, (defined_within t e y i).1))
  source_once x y d e v (inr (a, (k, h, is))) (inr (b, (j, i, js))) =
      let same : k ≡ j = omega (arith, is, js) in
      (some_same (slice_get inits j) x y (ap (slice_get inits) (sym same) ∙ h) i, a ∙ sym b)

-- the number of a target tells its point
pub target_once : (t : Tree) (x y : List ℕ) (u w v : ℕ) → IsTargetAt t x u v → IsTargetAt t y w v → u ≡ w
target_once t x y u w v (inl (a, l, h)) (inl (b, m, i)) = sym a ∙ b
target_once t x y u w v (inl (a, l, h)) (inr (b, (k, i, is))) = absurd (omega (arith, a, l, is))
target_once t x y u w v (inr (a, (k, h, is))) (inl (b, m, i)) = absurd (omega (arith, b, m, is))
target_once t x y u w v (inr (a, (k, h, is))) (inr (b, (j, i, js))) = a ∙ sym b
