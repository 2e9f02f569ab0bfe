-- The control and flow edges of a graph as pairs of numbers.
--
-- steps_into to links    == the pairs of the source and `to` of those of the links that a slice follows, in
--                           their order
-- AreSteps g steps       == exactly the pairs of vertices with a control or flow edge from the first to the
--                           second
-- AreStepsInto g done steps == those of these into the marked vertices
-- AreStepsWithin n steps == both numbers of each pair are less than n
-- Chain steps x via y    == the steps lead from x through the points via, in order, to the last of them,
--                           which is y, or to x itself
use Rattle.std.specs.Prelude.{◌≡◌, ℕ, ◌<◌, ◌↔◌, if◌then◌else◌, Bool, List, [], ◌∷◌, Contains}
use Rattle.hpr_search.specs.Marks.{IsMarked}
use Rattle.hpr_graph.specs.declared.link.Link.{Link}
use Rattle.hpr_graph.specs.Numbered.{Numbered, row_of}
use Rattle.hpr_slice.specs.Neighbours.{follows, HasSource}

abbrev pub steps_into : ℕ → List Link → List (ℕ × ℕ)
steps_into to [] = []
steps_into to (l ∷ links) = if follows l.kind then (l.from, to) ∷ steps_into to links else steps_into to links

abbrev pub AreSteps : Numbered → List (ℕ × ℕ) → Type 0
AreSteps g steps = (from to : ℕ) → Contains steps (from, to) ↔ HasSource (row_of g to) from

abbrev pub AreStepsInto : Numbered → List Bool → List (ℕ × ℕ) → Type 0
AreStepsInto g done steps =
    (from to : ℕ) → Contains steps (from, to) ↔ (IsMarked done to × HasSource (row_of g to) from)

abbrev pub AreStepsWithin : ℕ → List (ℕ × ℕ) → Type 0
AreStepsWithin n steps = (step : ℕ × ℕ) → Contains steps step → (step.0 < n) × (step.1 < n)

abbrev pub Chain : List (ℕ × ℕ) → ℕ → List ℕ → ℕ → Type 0
Chain steps x [] y = x ≡ y
Chain steps x (c ∷ via) y = Contains steps (x, c) × Chain steps c via y
