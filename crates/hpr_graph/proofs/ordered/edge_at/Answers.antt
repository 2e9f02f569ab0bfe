use Rattle.std.proofs.lemmas.Option.{slice_get_within}
use Rattle.hpr_graph.proofs.ordered.edge_at.Goals as goal

pub copy_at-requires : goal.copy_at-requires
copy_at-requires c = slice_get_within _ _ _ c.requires.1.1

pub copy_at-requires-2 : goal.copy_at-requires-2
copy_at-requires-2 c = slice_get_within _ _ _ c.requires.1.0
