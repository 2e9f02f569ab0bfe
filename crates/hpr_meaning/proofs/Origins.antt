-- The origin of a read is the instance that last defined the name.
use Rattle.std.proofs.Common.{◌≡◌, ℕ, Bool, true, false, List, [], ◌∷◌, ◌++◌, length, reverse, Option, Some, None, refl, sym, ap, subst, ◌∙◌, if◌then◌else◌, slice_get}
use mathlib.Core.List.{reverse-cons}
use Rattle.std.proofs.lemmas.List.{length-reverse}
use Rattle.std.specs.Ordering.{is_eq}
use Rattle.hpr_syntax.specs.declared.rows.Content.{Content}
use Rattle.hpr_syntax.specs.Rows.{assigned}
use Rattle.hpr_graph.specs.Order.{name_cmp}
use Rattle.hpr_graph.proofs.Lists.{get_longer, at_end}
use Rattle.hpr_paths.specs.Times.{Place}
use Rattle.hpr_meaning.specs.declared.traced.Origin.{Origin}
use Rattle.hpr_meaning.specs.declared.traced.Origin.TheVariants as origin
use Rattle.hpr_meaning.specs.Instances.{Instance, definer, with_definer}
use Rattle.hpr_meaning.specs.Items.{with_number, origin_in, IsOriginOf}

abbrev Step : Type 0
Step = Place × Content

-- with more instances behind, the origin is the same
longer : (is more : List Instance) (o : Origin) (d : Option Step) → IsOriginOf is o d → IsOriginOf (is ++ more) o d
longer is more origin.Initial d h = h
longer is more (origin.Instance n) d (i, at, same) = (i, get_longer is more n i at, same)

newest : (is : List Instance) (i : Instance) (n : ℕ) → n ≡ length is → (b : Bool) (o : Origin) (d : Option Step) → IsOriginOf is o d
    → IsOriginOf (is ++ i ∷ []) (if b then origin.Instance n else o) (if b then Some (i.0, i.1.content) else d)
newest is i n at true o d h = (i, ap (slice_get (is ++ i ∷ [])) at ∙ at_end is i, refl)
newest is i n at false o d h = longer is (i ∷ []) o d h

one_more : (is : List Instance) (i : Instance) (n : ℕ) → n ≡ length is → (name : Option (List ℕ)) (x : List ℕ) (o : Origin) (d : Option Step) → IsOriginOf is o d
    → IsOriginOf (is ++ i ∷ []) (with_number name n x o) (with_definer name (i.0, i.1.content) x d)
one_more is i n at None x o d h = longer is (i ∷ []) o d h
one_more is i n at (Some y) x o d h = newest is i n at (is_eq (name_cmp x y)) o d h

pub origin_of : (log : List Instance) (x : List ℕ) → IsOriginOf (reverse log) (origin_in x log) (definer x log)
origin_of [] x = refl
origin_of (i ∷ log) x =
    subst (λ (is : List Instance). IsOriginOf is (origin_in x (i ∷ log)) (definer x (i ∷ log))) (sym (reverse-cons i log))
    (one_more (reverse log) i (length log) (sym (length-reverse log)) (assigned i.1.content) x (origin_in x log) (definer x log) (origin_of log x))
