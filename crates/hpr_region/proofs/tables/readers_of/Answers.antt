use Rattle.std.proofs.Common.{length, ap, arith}
use Rattle.hpr_order.proofs.Marked.{part_within}
use Rattle.hpr_region.proofs.tables.readers_of.Goals as goal

pub places_of-requires-clause-within : goal.places_of-requires-clause-within
places_of-requires-clause-within c = λ k d l. omega (arith, part_within c.args.graph.now c.args.numbers.now c.requires.numbers k d l, ap length c.vertices.ensures.vertices)
