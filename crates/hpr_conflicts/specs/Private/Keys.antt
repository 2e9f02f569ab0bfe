-- What the conflicts of one group have in common.
--
-- sort_of k  == the kind of an edge
-- key_of c   == the number of a conflict's variant, and its edge
use Rattle.hpr_graph.specs.declared.conflict.ManyConflict.{ManyConflict}
use Rattle.hpr_graph.specs.declared.edge.Kind.{Kind}
use Rattle.hpr_graph.specs.declared.edge.Kind.TheVariants as kind
use Rattle.hpr_conflicts.specs.declared.key.Key.{Key}
use Rattle.hpr_conflicts.specs.declared.key.Sort.{Sort}
use Rattle.hpr_conflicts.specs.declared.key.Sort.TheVariants.{Control, Independent, Carried, Order}

abbrev pub sort_of : Kind → Sort
sort_of (kind.Control label) = Control label
sort_of (kind.Independent x) = Independent x
sort_of (kind.Carried x w) = Carried x w
sort_of (kind.Order u) = Order u

abbrev pub key_of : ManyConflict → Key
key_of c = record { variant = c.variant; to = c.edge.to; from = c.edge.from; sort = sort_of c.edge.kind }
