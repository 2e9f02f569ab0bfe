-- The graphs of programs, one after another.
use Rattle.std.proofs.Common.{List, [], ◌∷◌, ◌++◌}
use Rattle.hpr_graph.specs.Numbered.{Numbered, graph_in, graphs_in}
use Rattle.hpr_graph.specs.Whole.{AreAll, IsWhole}

-- one whole graph more
pub whole_push : (gs : List Numbered) (g : Numbered) → AreAll IsWhole (graphs_in gs) → IsWhole (graph_in g)
    → AreAll IsWhole (graphs_in (gs ++ g ∷ []))
whole_push [] g all whole = (whole, tt)
whole_push (h ∷ gs) g all whole = (all.0, whole_push gs g all.1 whole)
