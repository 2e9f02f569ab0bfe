use Rattle.hpr_syntax.proofs.CompareBlocks.{blocks_eq}
use Rattle.hpr_syntax.proofs.tree.+tree_eq.Goals as goal

pub BlockPartialEq::eq-returns : goal.BlockPartialEq::eq-returns
BlockPartialEq::eq-returns t c =
    rw (← c.self.view_is, ← c.other.view_is, ← blocks_eq c.self.inside.stmts.items c.other.inside.stmts.items) c.eq.ensures
