-- Issued numbers are at least 1, and are raised program by program.
use Rattle.std.proofs.Common.{◌≡◌, ℕ, zero, suc, ◌+◌, ◌<◌, ◌≤◌, List, [], ◌∷◌, map, drop, length, get_or, arith}
use Rattle.hpr_syntax.specs.Issued.{Issued, AscendsFrom, IsIssued}
use Rattle.hpr_syntax.specs.Tree.{Tree}
use Rattle.hpr_graph.specs.Answer.{issued_all, issued_of_all}

ascends_number : (low : ℕ) (ps : List (ℕ × ℕ)) (i : ℕ) (d : ℕ × ℕ) → AscendsFrom low ps → i < length ps → 1 ≤ (get_or ps i d).1
ascends_number low [] i d h l = absurd (omega arith)
ascends_number low (p ∷ ps) zero d h l = h.1
ascends_number low (p ∷ ps) (suc i) d h l = ascends_number (p.0 + 1) ps i d h.2 (omega arith)

pub issued_number : (ps : List (ℕ × ℕ)) (i : ℕ) (d : ℕ × ℕ) → IsIssued ps → i < length ps → 1 ≤ (get_or ps i d).1
issued_number ps i d h l = ascends_number 0 ps i d h l

-- the numbers so far, which those of the variants to come raise to those of all
abbrev pub AreRaised : Tree → List Tree → ℕ → Issued → Type 0
AreRaised base vs i now = issued_all now (map (λ v. v.issued) (drop i vs)) ≡ issued_of_all base vs
