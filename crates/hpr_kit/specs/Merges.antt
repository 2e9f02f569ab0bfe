-- What is told of an integration.
--
-- ComesOfBase base vs tries o == an integration of the variants vs with their base comes to o, within so many
--                            tries: its answer is o's, which has the graph that was searched for, and tells
--                            how the search ended
-- ComesOf ps tries o         == the same of programs, of which the first is base
-- variants_first ss          == the files of the variants, and behind them base's, which is the first of ss
-- files_for o ss             == the files in the order in which places are looked for: as they are where o is
--                            that the variants interfere; else the variants' first
-- IsToldOf o ss a            == a tells o, where ss are the files, base's first
-- IsMergeTold ps tries ss a  == a tells what an integration of these programs comes to
use Rattle.std.specs.Prelude.{◌≡◌, ℕ, ◌≤◌, List, [], ◌∷◌, ◌++◌, Contains, drop, map, take}
use Rattle.serde_json.specs.Data.{Data}
use Rattle.hpr_syntax.specs.Tree.{Tree}
use Rattle.hpr_graph.specs.declared.conflict.ManyConflict.{ManyConflict}
use Rattle.hpr_graph.specs.declared.edge.Edge.{Edge}
use Rattle.hpr_graph.specs.declared.vertex.Vertex.{Vertex}
use Rattle.hpr_graph.specs.Answer.{HasParts, IsAnswerBy, interference, no_program, printed, spent}
use Rattle.hpr_graph.specs.Conflicts.{told_many}
use Rattle.hpr_graph.specs.Numbered.{graph_in}
use Rattle.hpr_json.specs.Answers.{json_line}
use Rattle.hpr_located.specs.Sources.{Standing}
use Rattle.hpr_outcome.specs.Outcomes.{IsMergedBy, IsNoneBy, IsSoughtFor, IsSpentBy}
use Rattle.hpr_outcome.specs.declared.outcome.Outcome.{Outcome}
use Rattle.hpr_outcome.specs.declared.outcome.Outcome.TheVariants as outcome
use Rattle.hpr_told.specs.Outcomes.{IsOutcomeTold}
use Rattle.hpr_kit.specs.Answer.{Answer, prints}

abbrev pub ComesOfBase : Tree → List Tree → ℕ → Outcome → Type 0
ComesOfBase base vs tries (outcome.Interference cs) =
    IsAnswerBy (λ t. t) base vs tries (interference (map told_many cs.items))
    × ((c : ManyConflict) → Contains cs.items c → 1 ≤ c.variant)
ComesOfBase base vs tries (outcome.Merged p s) =
    IsAnswerBy {X = ℕ × Vertex × Edge} (λ t. t) base vs tries (printed p)
    × IsSoughtFor base vs s (λ rank issued. IsMergedBy rank issued tries p s)
ComesOfBase base vs tries (outcome.NoProgram s o) =
    ((n : ℕ) → HasParts (graph_in s.graph) n
    → IsAnswerBy {X = ℕ × Vertex × Edge} (λ t. t) base vs tries (no_program n))
    × IsSoughtFor base vs s (λ rank issued. IsNoneBy rank issued tries s o)
ComesOfBase base vs tries (outcome.Spent s o) =
    IsAnswerBy {X = ℕ × Vertex × Edge} (λ t. t) base vs tries spent
    × IsSoughtFor base vs s (λ rank issued. IsSpentBy rank issued tries s o)

abbrev pub ComesOf : List Tree → ℕ → Outcome → Type 0
ComesOf [] tries o = ⊥
ComesOf (base ∷ vs) tries o = ComesOfBase base vs tries o

abbrev pub variants_first : {X : Type 0} → List X → List X
variants_first ss = drop 1 ss ++ take 1 ss

abbrev pub files_for : {X : Type 0} → Outcome → List X → List X
files_for (outcome.Interference cs) ss = ss
files_for (outcome.Merged p s) ss = variants_first ss
files_for (outcome.NoProgram s o) ss = variants_first ss
files_for (outcome.Spent s o) ss = variants_first ss

abbrev pub IsToldOf : Outcome → List Standing → Answer → Type 0
IsToldOf o ss a = (d : Data) × IsOutcomeTold (files_for o ss) o d × (a ≡ prints (json_line d))

abbrev pub IsMergeTold : List Tree → ℕ → List Standing → Answer → Type 0
IsMergeTold ps tries ss a = (o : Outcome) × ComesOf ps tries o × IsToldOf o ss a
