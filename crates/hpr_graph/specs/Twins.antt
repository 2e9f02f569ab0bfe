-- The same edge in two graphs.
--
-- IsSomeKind vs k       == the kind, by numbers, is that of some edge
-- IsSomeLink vs l       == the link is some edge
-- SameKind vs k us m    == the kind k by the numbers of vs is the kind m by those of us
-- SameLink vs l us m    == the same of links, by their sources and kinds
-- HasTwin vs l us row   == one link of the row is the same
-- HasTwins vs ls us row == for each of the links one link of the row is the same
use Rattle.std.specs.Prelude.{◌≡◌, ℕ, List, Contains, slice_get}
use Rattle.hpr_graph.specs.declared.vertex.Vertex.{Vertex}
use Rattle.hpr_graph.specs.declared.edge.Kind.{Kind}
use Rattle.hpr_graph.specs.declared.edge.Edge.{Edge}
use Rattle.hpr_graph.specs.declared.link.LinkKind.{LinkKind}
use Rattle.hpr_graph.specs.declared.link.LinkKind.TheVariants.{Control, Independent, Carried, Order}
use Rattle.hpr_graph.specs.declared.link.Link.{Link}
use Rattle.hpr_graph.specs.Numbered.{IsKindAt, IsEdgeAt}

abbrev pub IsSomeKind : List Vertex → LinkKind → Type 0
IsSomeKind vs k = (from : Vertex) × (e : Kind) × IsKindAt vs k from e

abbrev pub IsSomeLink : List Vertex → Link → Type 0
IsSomeLink vs l = (to : ℕ) × (e : Edge) × IsEdgeAt vs to l e

abbrev pub SameKind : List Vertex → LinkKind → List Vertex → LinkKind → Type 0
SameKind vs (Control label) us (Control other) = label ≡ other
SameKind vs Independent us Independent = Unit {0}
SameKind vs (Carried w) us (Carried x) = slice_get us x ≡ slice_get vs w
SameKind vs (Order u) us (Order v) = slice_get us v ≡ slice_get vs u
SameKind vs _ us _ = ⊥

abbrev pub SameLink : List Vertex → Link → List Vertex → Link → Type 0
SameLink vs l us m = (slice_get us m.from ≡ slice_get vs l.from) × SameKind vs l.kind us m.kind

abbrev pub HasTwin : List Vertex → Link → List Vertex → List Link → Type 0
HasTwin vs l us row = (m : Link) × Contains row m × SameLink vs l us m

abbrev pub HasTwins : List Vertex → List Link → List Vertex → List Link → Type 0
HasTwins vs ls us row = (l : Link) → Contains ls l → HasTwin vs l us row
