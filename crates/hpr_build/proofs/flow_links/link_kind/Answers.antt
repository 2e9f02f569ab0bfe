use Rattle.std.proofs.Common.{rules}
use Rattle.hpr_build.proofs.flow_links.link_kind.Goals as goal

pub returns-in-Carried : goal.returns-in-Carried
returns-in-Carried c = search rules
