-- What a part defines, by number and by tag.
use Rattle.std.proofs.Common.{◌≡◌, ℕ, Some, List, refl, sym, ap, ◌∙◌, subst}
use Rattle.std.specs.Option.{option_and_then}
use Rattle.hpr_terms.specs.declared.tag.Tag.{Tag}
use Rattle.hpr_syntax.specs.declared.rows.Content.{Content}
use Rattle.hpr_syntax.specs.Rows.{assigned}
use Rattle.hpr_syntax.specs.Tree.{Tree}
use Rattle.hpr_syntax.specs.Skeleton.{Point}
use Rattle.hpr_syntax.specs.Paths.{DefinesAt}
use Rattle.hpr_syntax.specs.Shape.{IsProgram}
use Rattle.hpr_paths.specs.Spots.{Role, enter, part, exit, point_of, defined, role_at, defined_at}
use Rattle.hpr_paths.specs.Successors.{spots}
use Rattle.hpr_paths.specs.Numbers.{IsNumberOf}
use Rattle.hpr_paths.proofs.Nested.{says_of_number, number_of_says}
use Rattle.hpr_paths.proofs.Tags.{number_once}

assigned_by : (r : Role) (x : List ℕ) → defined r ≡ Some x → (v : Tag) × (c : Content) × (r ≡ part v c) × (assigned c ≡ Some x)
assigned_by enter x h = absurd cc
assigned_by (part v c) x h = (v, c, refl, h)
assigned_by (exit names) x h = absurd cc

pub defines_of_number : (t : Tree) (p : ℕ) (a : Point) (x : List ℕ) → IsNumberOf (spots t) p a → defined_at (spots t) p ≡ Some x → DefinesAt t.body x a
defines_of_number t p a x na h =
    let k = assigned_by na.0 x (sym (ap (option_and_then defined) na.1) ∙ h) in
    let r : role_at (spots t) p ≡ Some (part k.0 k.1) = na.1 ∙ ap (λ (q : Role). Some q) k.2 in
    (k.0, k.1, na.2 ∙ ap point_of k.2, says_of_number t p k.0 k.1 r, k.3)

pub number_of_defines : (t : Tree) (p : ℕ) (a : Point) (x : List ℕ) → IsProgram t → IsNumberOf (spots t) p a → DefinesAt t.body x a → defined_at (spots t) p ≡ Some x
number_of_defines t p a x prog na h =
    let g = number_of_says t h.0 h.1 h.3 in
    let same : g.0 ≡ p = number_once t g.0 p a prog (part h.0 h.1, g.1, h.2) na in
    let P : ℕ → Type 0 = λ n. defined_at (spots t) n ≡ Some x in
    subst P same (ap (option_and_then defined) g.1 ∙ h.4)
