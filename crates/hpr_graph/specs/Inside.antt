-- Links all of whose vertices are marked.
--
-- ThirdMarked marks k == the loop of a carried link is marked, and so is the shared use of an order link
-- IsInside marks l    == the source of the link is marked, and so is its loop or shared use
use Rattle.std.specs.Prelude.{Bool, List}
use Rattle.hpr_search.specs.Marks.{IsMarked}
use Rattle.hpr_graph.specs.declared.link.LinkKind.{LinkKind}
use Rattle.hpr_graph.specs.declared.link.LinkKind.TheVariants.{Control, Independent, Carried, Order}
use Rattle.hpr_graph.specs.declared.link.Link.{Link}

abbrev pub ThirdMarked : List Bool → LinkKind → Type 0
ThirdMarked marks (Control label) = Unit {0}
ThirdMarked marks Independent = Unit {0}
ThirdMarked marks (Carried w) = IsMarked marks w
ThirdMarked marks (Order u) = IsMarked marks u

abbrev pub IsInside : List Bool → Link → Type 0
IsInside marks l = IsMarked marks l.from × ThirdMarked marks l.kind
