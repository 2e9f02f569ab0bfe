-- The conflicts of many variants.
--
-- conflict_of n p == the conflict of the variant with the number n, from 1, at the pair's point, with its
--                    edge
use Rattle.std.specs.Prelude.{ℕ}
use Rattle.hpr_graph.specs.declared.edge.Edge.{Edge}
use Rattle.hpr_graph.specs.declared.vertex.Vertex.{Vertex}
use Rattle.hpr_graph.specs.declared.conflict.ManyConflict.{ManyConflict}

abbrev pub conflict_of : ℕ → Vertex × Edge → ManyConflict
conflict_of n p = record { variant = n; point = p.0; edge = p.1 }
