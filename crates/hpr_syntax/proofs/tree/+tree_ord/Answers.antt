use Rattle.hpr_syntax.proofs.OrderBlocks.{stmts_order}
use Rattle.hpr_syntax.proofs.tree.+tree_ord.Goals as goal

pub BlockOrd::cmp-returns : goal.BlockOrd::cmp-returns
BlockOrd::cmp-returns t c = rw (← c.self.view_is, ← c.other.view_is, ← stmts_order c.self.inside.stmts.items c.other.inside.stmts.items) c.cmp.ensures
