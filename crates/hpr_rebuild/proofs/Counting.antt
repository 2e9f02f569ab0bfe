-- Tries that suffice, where fewer do.
use Rattle.std.proofs.Common.{◌≡◌, ℕ, zero, suc, ◌≤◌, List, [], ◌∷◌, take, Contains, inl, inr, subst, arith}
use Rattle.hpr_syntax.specs.Issued.{Issued}
use Rattle.hpr_syntax.specs.Tree.{Tree}
use Rattle.hpr_graph.specs.declared.vertex.Vertex.{Vertex}
use Rattle.hpr_graph.specs.Graphs.{Graph}
use Rattle.hpr_graph.specs.Rank.{parts_of}
use Rattle.hpr_forest.proofs.Unique.{in_cons, in_first, in_later, in_none}
use Rattle.hpr_rebuild.specs.declared.search.Rebuilt.{Rebuilt}
use Rattle.hpr_rebuild.specs.declared.search.Rebuilt.TheVariants.{Found, NoProgram}
use Rattle.hpr_rebuild.specs.Rebuilding.{IfFound, IfNoProgram}
use Rattle.hpr_rebuild.specs.Tries.{AreAllWithin, AreSoMany, IsFoundWithin}

pub found_told : (r : Rebuilt) (p : Tree) (n : ℕ) (P : Tree → ℕ → Type 0) → r ≡ Found p n → IfFound r P → P p n
found_told r p n P is h = subst (λ (x : Rebuilt). IfFound x P) is h

pub none_told : (r : Rebuilt) (n : ℕ) (P : ℕ → Type 0) → r ≡ NoProgram n → IfNoProgram r P → P n
none_told r n P is h = subst (λ (x : Rebuilt). IfNoProgram x P) is h

more_taken : {X : Type 0} (k m : ℕ) (xs : List X) (x : X) → k ≤ m → Contains (take k xs) x → Contains (take m xs) x
more_taken {X} zero m xs x less h = absurd (in_none x h)
more_taken {X} (suc k) zero xs x less h = absurd (omega arith)
more_taken {X} (suc k) (suc m) [] x less h = h
more_taken {X} (suc k) (suc m) (y ∷ xs) x less h = elim (in_cons y x (take k xs) h) [
  | inl is ↦ subst (λ (z : X). Contains (y ∷ take m xs) z) is (in_first y (take m xs))
  | inr later ↦ in_later y x (take m xs) (more_taken k m xs x (omega arith) later)
]

module _ (g : Graph) (rank : List Vertex) (issued : Issued) (n tries : ℕ) (few : n ≤ tries) where
  pub still_within : (p : Tree) → IsFoundWithin g rank issued n p → IsFoundWithin g rank issued tries p
  still_within p (ps, xs, are, these, has) = (ps, xs, are, these, more_taken n tries xs (parts_of p) few has)

  pub all_are_within : AreSoMany g rank issued n → AreAllWithin g rank issued tries
  all_are_within (ps, xs, are, these, count) = (ps, xs, are, these, omega (arith, count, few))
