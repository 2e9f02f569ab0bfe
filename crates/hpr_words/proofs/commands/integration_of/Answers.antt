use Rattle.std.proofs.Common.{◌≡◌, ◌≤◌, ℕ, List, [], ◌∷◌, length, map, Some, Bor, ap, arith}
use Rattle.std.proofs.lemmas.Grind.{common_steps}
use Rattle.std.proofs.lemmas.List.{length-map}
use Rattle.hpr_terms.specs.declared.limits.TheConstants.{MAX_VARIANTS}
use Rattle.hpr_words.specs.Commands.{integrate_of}
use Rattle.hpr_words.specs.Request.{Text, integrate_many}
use Rattle.hpr_words.proofs.commands.integration_of.Goals as goal

-- three variants or more, up to their limit
many_asked : (base : Text) (variants : List Text) (n : ℕ) → 3 ≤ length variants → length variants ≤ MAX_VARIANTS → integrate_of (base ∷ []) variants (n ∷ []) [] ≡ Some (integrate_many base variants n)
many_asked base [] n three most = absurd (omega arith)
many_asked base (a ∷ []) n three most = absurd (omega arith)
many_asked base (a ∷ b ∷ []) n three most = absurd (omega arith)
many_asked base (a ∷ b ∷ c ∷ more) n three most = grind (arith, common_steps)

pub returns-in-len3-up : goal.returns-in-len3-up
returns-in-len3-up c =
    let variants = map (λ (s : Bor (List ℕ)). s.now) c.args.variants.items in
    let same = length-map c.args.variants.items (λ (s : Bor (List ℕ)). s.now) in
    let whole = ap length c.as_slice.ensures.value in
    many_asked c.args.base.now variants c.args.tries (omega (arith, same, whole)) (omega (arith, same, whole))
