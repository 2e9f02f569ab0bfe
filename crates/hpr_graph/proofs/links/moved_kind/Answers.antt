use Rattle.std.proofs.Common.{rules}
use Rattle.hpr_graph.proofs.links.moved_kind.Goals as goal

pub returns-in_ok-number_at-in-Carried : goal.returns-in_ok-number_at-in-Carried
returns-in_ok-number_at-in-Carried c = search rules
