-- The graphs of files.
--
-- too_many_edges file        == the message on a file whose program has such a graph
-- OnGraph file p next r      == the graph of the program p of a file has too many edges, and r refuses the
--                               file; or it hasn't, and r is what next says
-- OnAllGraphs names ps next r == for the programs ps of files: a graph with too many edges refuses its file,
--                                in this order; else r is what next says
-- OnGraphs base p a q b s next r == that of the programs p, q and s of three files
use Rattle.std.specs.Prelude.{◌≡◌, ◌⊎◌, ℕ, List, [], ◌∷◌, ◌++◌, codes}
use Rattle.std.specs.Fmt.{decimal}
use Rattle.hpr_terms.specs.declared.limits.TheConstants.{MAX_EDGES}
use Rattle.hpr_syntax.specs.Tree.{Tree}
use Rattle.hpr_engine.specs.Limit.{HasTooManyEdges}
use Rattle.hpr_inputs.specs.Decision.{Decision, refuses}
use Rattle.hpr_refusals.specs.Reasons.{about}

abbrev pub too_many_edges : List ℕ → List ℕ
too_many_edges file = about file (codes "graph has more than " ++ decimal MAX_EDGES ++ codes " edges")

abbrev pub OnGraph : List ℕ → Tree → Type 0 → Decision → Type 0
OnGraph file p next r = (HasTooManyEdges p × (r ≡ refuses (too_many_edges file))) ⊎ ((HasTooManyEdges p → ⊥) × next)

abbrev pub OnAllGraphs : List (List ℕ) → List Tree → Type 0 → Decision → Type 0
OnAllGraphs (name ∷ names) (p ∷ ps) next r = OnGraph name p (OnAllGraphs names ps next r) r
OnAllGraphs [] ps next r = next
OnAllGraphs (name ∷ names) [] next r = next

abbrev pub OnGraphs : List ℕ → Tree → List ℕ → Tree → List ℕ → Tree → Type 0 → Decision → Type 0
OnGraphs base p a q b s next r = OnAllGraphs (base ∷ a ∷ b ∷ []) (p ∷ q ∷ s ∷ []) next r
