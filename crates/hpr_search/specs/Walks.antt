-- Walks in a directed graph, whose edges are given by the steps from each point.
--
-- Walk steps a via b         == from a through the points via, in order, to the last of them, which is b, or
--                               to a itself; each is a step of the one before
-- IsReached steps starts p   == a walk leads from one of the starts to p
use Rattle.std.specs.Prelude.{◌≡◌, ℕ, List, [], ◌∷◌, Contains}

abbrev pub Walk : (ℕ → List ℕ) → ℕ → List ℕ → ℕ → Type 0
Walk steps a [] b = a ≡ b
Walk steps a (c ∷ via) b = Contains (steps a) c × Walk steps c via b

abbrev pub IsReached : (ℕ → List ℕ) → List ℕ → ℕ → Type 0
IsReached steps starts p = (s : ℕ) × (via : List ℕ) × Contains starts s × Walk steps s via p
