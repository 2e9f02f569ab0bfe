-- Where an edge counts: at which vertex a change of it is direct.
--
-- counts_at k to == the vertex at which a link of this kind into the vertex `to` counts: the shared use of an
--                   order link, else `to`
-- Counts k to v  == an edge of this kind into `to` counts at v: at its shared use if it is an order edge,
--                   else at its target
use Rattle.std.specs.Prelude.{◌≡◌, ℕ}
use Rattle.hpr_graph.specs.declared.vertex.Vertex.{Vertex}
use Rattle.hpr_graph.specs.declared.edge.Kind.{Kind}
use Rattle.hpr_graph.specs.declared.edge.Kind.TheVariants as kind
use Rattle.hpr_graph.specs.declared.link.LinkKind.{LinkKind}
use Rattle.hpr_graph.specs.declared.link.LinkKind.TheVariants.{Control, Independent, Carried, Order}

abbrev pub counts_at : LinkKind → ℕ → ℕ
counts_at (Control label) to = to
counts_at Independent to = to
counts_at (Carried w) to = to
counts_at (Order u) to = u

abbrev pub Counts : Kind → Vertex → Vertex → Type 0
Counts (kind.Control label) to v = to ≡ v
Counts (kind.Independent x) to v = to ≡ v
Counts (kind.Carried x w) to v = to ≡ v
Counts (kind.Order u) to v = u ≡ v
