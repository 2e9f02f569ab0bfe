use Rattle.std.proofs.Common.{sym, arith}
use Rattle.hpr_region.proofs.search.Search.may_follow.Goals as goal

pub returns-in-None : goal.returns-in-None
returns-in-None c = sym (c.in-None.ensures.none c.args.item (omega arith) c.requires)
