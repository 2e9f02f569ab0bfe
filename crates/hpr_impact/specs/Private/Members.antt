-- The members of a reason, as they are put.
--
-- by_members ss by == the edge by which a point is reached, and that it isn't affected directly; or that it
--                     is
use Rattle.std.specs.Prelude.{Option, Some, None, List, true, false, codes}
use Rattle.serde_json.specs.Data.{Members, boolean, member, no_members}
use Rattle.hpr_graph.specs.declared.edge.Edge.{Edge}
use Rattle.hpr_located.specs.Shown.{located_edge}
use Rattle.hpr_located.specs.Sources.{Standing}

abbrev pub by_members : List Standing → Option Edge → Members
by_members ss None = member (codes "direct") (boolean true) no_members
by_members ss (Some e) = member (codes "by") (located_edge ss e) (member (codes "direct") (boolean false) no_members)
