-- How two graphs differ, one that is offered and one that was merged. Horwitz, Prins and Reps 1989 have no
-- such thing.
--
-- IsHeldBy h P Q x         == this holder alone has x, where the offered one has what has P, and the merged
--                             one what has Q
-- IsLeastHeld cmp P Q x h  == the same, and nothing that one of the two alone has comes before x
-- IsLeastApart cmp P Q o   == o is the least that one of the two alone has, with its holder; none where both
--                             have the same
-- IsDifference g m v       == v tells how g, which is offered, differs from m: the least vertex that one of
--                             them alone has; where they have the same vertices, the least edge; or that they
--                             are the same
use Rattle.std.specs.Prelude.{◌≡◌, ◌↔◌, Option, Some, None}
use Rattle.std.specs.declared.cmp.Ordering.{Ordering}
use Rattle.std.specs.declared.cmp.Ordering.TheVariants.{Less}
use Rattle.hpr_graph.specs.declared.vertex.Vertex.{Vertex}
use Rattle.hpr_graph.specs.Graphs.{Graph, Same}
use Rattle.hpr_graph.specs.Order.{vertex_cmp, edge_cmp}
use Rattle.hpr_verify.specs.declared.verdict.Holder.{Holder}
use Rattle.hpr_verify.specs.declared.verdict.Holder.TheVariants.{Offered, Merged}
use Rattle.hpr_verify.specs.declared.verdict.Verdict.{Verdict}
use Rattle.hpr_verify.specs.declared.verdict.Verdict.TheVariants as verdict

abbrev pub IsHeldBy : {X : Type 0} → Holder → (X → Type 0) → (X → Type 0) → X → Type 0
IsHeldBy Offered P Q x = P x × ¬ Q x
IsHeldBy Merged P Q x = Q x × ¬ P x

abbrev pub IsLeastHeld : {X : Type 0} → (X → X → Ordering) → (X → Type 0) → (X → Type 0) → X → Holder → Type 0
IsLeastHeld {X} cmp P Q x h = IsHeldBy h P Q x × ((k : Holder) (y : X) → IsHeldBy k P Q y → ¬ (cmp y x ≡ Less))

abbrev pub IsLeastApart : {X : Type 0} → (X → X → Ordering) → (X → Type 0) → (X → Type 0) → Option (X × Holder) → Type 0
IsLeastApart {X} cmp P Q None = (x : X) → P x ↔ Q x
IsLeastApart {X} cmp P Q (Some (x, h)) = IsLeastHeld cmp P Q x h

abbrev pub IsDifference : Graph → Graph → Verdict → Type 0
IsDifference g m verdict.Same = Same g m
IsDifference g m (verdict.Conflict c) = ⊥
IsDifference g m (verdict.Vertex v h) = IsLeastHeld vertex_cmp g.vertex m.vertex v h
IsDifference g m (verdict.Edge e h) = ((v : Vertex) → g.vertex v ↔ m.vertex v) × IsLeastHeld edge_cmp g.edge m.edge e h
