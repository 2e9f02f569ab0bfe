-- A statement of a block is no deeper than the block.
use Rattle.std.proofs.Common.{◌≡◌, ℕ, zero, suc, ◌≤◌, ◌<◌, arith, List, [], ◌∷◌, get_or, length, subst, sym}
use Rattle.hpr_syntax.specs.declared.tree.Stmt.{Stmt}
use Rattle.hpr_syntax.specs.declared.tree.Stmt.TheVariants.{If}
use Rattle.hpr_syntax.specs.declared.tree.Block.TheDeep.{deep-Stmt}
use Rattle.hpr_syntax.specs.declared.tree.Block.TheView.{size}
use Rattle.hpr_syntax.specs.Body.{Body, depth}
use Rattle.hpr_syntax.specs.BodyOf.{body_of}

deep_at : (xs : List Stmt) (i : ℕ) (d : Stmt) → i < length xs → deep-Stmt (get_or xs i d) ≤ depth (body_of xs)
deep_at [] i d h = absurd (omega (arith, h))
deep_at (If t e a b ∷ xs) zero d h = omega arith
deep_at (s ∷ xs) zero d h = omega arith
deep_at (If t e a b ∷ xs) (suc i) d h = omega (arith, deep_at xs i d (omega (arith, h)))
deep_at (s ∷ xs) (suc i) d h = omega (arith, deep_at xs i d (omega (arith, h)))

pub falls_at : (xs : List Stmt) (i : ℕ) (s : Stmt) (b : Body) → body_of xs ≡ b → i < length xs → s ≡ get_or xs i s → deep-Stmt s ≤ size b
falls_at xs i s b e h v =
    let w : deep-Stmt (get_or xs i s) ≤ depth (body_of xs) = deep_at xs i s h in
    subst (λ z. deep-Stmt z ≤ size b) (sym v) (subst (λ y. deep-Stmt (get_or xs i s) ≤ depth y) e w)
