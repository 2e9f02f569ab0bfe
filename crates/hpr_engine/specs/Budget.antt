-- The budget of tries: where answers may differ, and which arrangements are tried. The 1989 paper has no
-- budget.
--
-- AreTriedOf rs base vs ps == the list has the arrangements of what is searched where these parts are split
--                             off, each once, in the order of the rank
-- AreTried rs base a b ps  == the same of two variants
-- HasSearched r            == the answer is a program, or that no program has the graph that is searched
-- Agree r s                == the answers are the same; or one is that the budget is spent, and the other
--                             comes of a search that went on
use Rattle.std.specs.Prelude.{◌≡◌, ◌⊎◌, List, [], ◌∷◌}
use Rattle.hpr_terms.specs.declared.tag.Tag.{Tag}
use Rattle.hpr_syntax.specs.Tree.{Tree}
use Rattle.hpr_graph.specs.declared.vertex.Vertex.{Vertex}
use Rattle.hpr_graph.specs.Answer.{AnswerBy, interference, printed, no_program, spent, searched_graph_of, IsSearchedRankOf, searched_issued_of}
use Rattle.hpr_graph.specs.Arrangements.{AreArrangements}

abbrev pub AreTriedOf : List (Vertex × Tag) → Tree → List Tree → List Tree → Type 0
AreTriedOf rs base vs ps =
    (rank : List Vertex) × IsSearchedRankOf rs base vs rank
    × AreArrangements (searched_graph_of rs base vs) rank (searched_issued_of rs base vs) ps

abbrev pub AreTried : List (Vertex × Tag) → Tree → Tree → Tree → List Tree → Type 0
AreTried rs base a b ps = AreTriedOf rs base (a ∷ b ∷ []) ps

abbrev pub HasSearched : {X : Type 0} → AnswerBy X → Type 0
HasSearched (interference cs) = ⊥
HasSearched (printed m) = Unit {0}
HasSearched (no_program n) = Unit {0}
HasSearched spent = ⊥

abbrev pub Agree : {X : Type 0} → AnswerBy X → AnswerBy X → Type 0
Agree r s = (r ≡ s) ⊎ (((r ≡ spent) × HasSearched s) ⊎ (HasSearched r × (s ≡ spent)))
