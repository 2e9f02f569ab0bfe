-- Where the list of the conflicts is empty, nothing is a conflict.
--
-- TellsEach at n == something tells each point and edge of each variant with a number below n
use Rattle.std.proofs.Common.{◌≡◌, ℕ, zero, suc, ◌<◌, List, [], ◌∷◌, length, refl, sym, subst, arith}
use Rattle.hpr_graph.specs.declared.conflict.Side.TheVariants.{A, B}
use Rattle.hpr_graph.specs.declared.edge.Edge.{Edge}
use Rattle.hpr_graph.specs.declared.vertex.Vertex.{Vertex}
use Rattle.hpr_graph.specs.Conflicts.{graph_at, told_as, IsConflictOf, HasNoConflict, AreConflictsBy}
use Rattle.hpr_graph.specs.Graphs.{Graph}
use Rattle.hpr_graph.proofs.Lists.{in_none}

abbrev pub TellsEach : {X : Type 0} → (X → ℕ × Vertex × Edge) → ℕ → Type 0
TellsEach {X} at n = (i : ℕ) (v : Vertex) (e : Edge) → i < n → (x : X) × (at x ≡ (i, v, e))

pub number_within : (gs : List Graph) (i : ℕ) (v : Vertex) → (graph_at gs i).vertex v → i < length gs
number_within [] i v h = absurd h
number_within (g ∷ gs) zero v h = omega arith
number_within (g ∷ gs) (suc i) v h = let less = number_within gs i v h in omega (arith, less)

pub none_told : {X : Type 0} (at : X → ℕ × Vertex × Edge) (base : Graph) (gs : List Graph) → TellsEach at (length gs) → AreConflictsBy at base gs [] → HasNoConflict base gs
none_told at base gs tells (exact, order) i v e h =
    let (x, is) = tells i v e (number_within gs i v h.0.0.0) in
    in_none x ((exact x).1 (subst (λ (t : ℕ × Vertex × Edge). IsConflictOf base gs t.0 t.1 t.2) (sym is) h))

pub triples_tell : (n : ℕ) → TellsEach (λ t. t) n
triples_tell n i v e less = ((i, v, e), refl)

pub sides_tell : TellsEach told_as 2
sides_tell zero v e less = (record { side = A; point = v; edge = e }, refl)
sides_tell (suc zero) v e less = (record { side = B; point = v; edge = e }, refl)
sides_tell (suc (suc i)) v e less = absurd (omega (arith, less))
