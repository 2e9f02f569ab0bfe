-- A program's blocks stand less than 2 ^ 32 deep in one another.
use Rattle.std.proofs.Common.{◌≡◌, ℕ, zero, suc, ◌+◌, ◌<◌, ◌≤◌, arith, None}
use Rattle.std.specs.Option.{option_or}
use Rattle.hpr_terms.specs.declared.limits.TheConstants.{MAX_LEVELS}
use Rattle.hpr_syntax.specs.Body.{Body, done, action, branch, loop, depth}
use Rattle.hpr_syntax.specs.Tree.{Tree}
use Rattle.hpr_syntax.specs.Shape.{IsProgram, first_deep}
use Rattle.hpr_syntax.proofs.NoRefusal.{or_none, no_refusal}

-- a block without a part below so many levels
pub not_deep : (n : ℕ) (body : Body) → first_deep n body ≡ None → depth body ≤ n + 1
not_deep n done h = omega arith
not_deep zero (action t d rest) h = absurd cc
not_deep zero (branch t e a b rest) h = absurd cc
not_deep zero (loop t e b rest) h = absurd cc
not_deep (suc n) (action t d rest) h = not_deep (suc n) rest h
not_deep (suc n) (branch t e a b rest) h =
    let h1 : (first_deep n a ≡ None) × (option_or (first_deep n b) (first_deep (suc n) rest) ≡ None) = or_none _ _ h in
    let h2 : (first_deep n b ≡ None) × (first_deep (suc n) rest ≡ None) = or_none _ _ h1.1 in
    let d1 : depth a ≤ n + 1 = not_deep n a h1.0 in
    let d2 : depth b ≤ n + 1 = not_deep n b h2.0 in
    let d3 : depth rest ≤ suc n + 1 = not_deep (suc n) rest h2.1 in
    omega arith
not_deep (suc n) (loop t e b rest) h =
    let h1 : (first_deep n b ≡ None) × (first_deep (suc n) rest ≡ None) = or_none _ _ h in
    let d1 : depth b ≤ n + 1 = not_deep n b h1.0 in
    let d2 : depth rest ≤ suc n + 1 = not_deep (suc n) rest h1.1 in
    omega arith

pub shallow : (t : Tree) → IsProgram t → depth t.body < 4294967296
shallow t h =
    let d : depth t.body ≤ MAX_LEVELS + 1 = not_deep MAX_LEVELS t.body (no_refusal t h.shape).levels in
    omega (arith, d)
