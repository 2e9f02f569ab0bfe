-- The graphs of two programs.
use Rattle.std.proofs.Common.{◌≡◌, ℕ, List, [], ◌∷◌, arith, get_or, length, subst, sym}
use Rattle.hpr_syntax.specs.Tree.{Tree}
use Rattle.hpr_engine.specs.Made.{AreGraphsOf, IsGraphOf}
use Rattle.hpr_graph.specs.Numbered.{Numbered}

pub two_graphs : (ps : List Tree) (p q : Tree) (g h : Numbered) → length ps ≡ 2 → p ≡ get_or ps 0 p → q ≡ get_or ps 1 q → IsGraphOf p g → IsGraphOf q h
    → AreGraphsOf ps (g ∷ h ∷ [])
two_graphs [] p q g h two first second is_first is_second = absurd (omega (arith, two))
two_graphs (x ∷ []) p q g h two first second is_first is_second = absurd (omega (arith, two))
two_graphs (x ∷ y ∷ []) p q g h two first second is_first is_second =
    (subst (λ (t : Tree). IsGraphOf t g) first is_first, (subst (λ (t : Tree). IsGraphOf t h) second is_second, tt))
two_graphs (x ∷ y ∷ z ∷ ps) p q g h two first second is_first is_second = absurd (omega (arith, two))
