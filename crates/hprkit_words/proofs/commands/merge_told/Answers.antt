use Rattle.std.proofs.Common.{◌≡◌, ◌≤◌, List, [], ◌∷◌, length, map, Some, Bor, ℕ, ap, arith}
use Rattle.std.proofs.lemmas.Grind.{common_steps}
use Rattle.std.proofs.lemmas.List.{length-map}
use Rattle.hpr_terms.specs.declared.limits.TheConstants.{MAX_VARIANTS}
use Rattle.hpr_words.specs.Request.{Text}
use Rattle.hprkit_words.specs.Ask.{merge}
use Rattle.hprkit_words.specs.Commands.{merge_of}
use Rattle.hprkit_words.proofs.commands.merge_told.Goals as goal

-- two variants or more, up to their limit
asked : (base : Text) (variants : List Text) (n : ℕ) → 2 ≤ length variants → length variants ≤ MAX_VARIANTS → merge_of (base ∷ []) variants (n ∷ []) [] ≡ Some (merge base variants n)
asked base [] n two most = absurd (omega arith)
asked base (a ∷ []) n two most = absurd (omega arith)
asked base (a ∷ b ∷ more) n two most = grind (arith, common_steps)

pub returns-in-len2-up : goal.returns-in-len2-up
returns-in-len2-up c =
    let variants = map (λ (s : Bor (List ℕ)). s.now) c.args.variants.items in
    let same = length-map c.args.variants.items (λ (s : Bor (List ℕ)). s.now) in
    let whole = ap length c.as_slice.ensures.value in
    asked c.args.base.now variants c.args.tries (omega (arith, same, whole)) (omega (arith, same, whole))
