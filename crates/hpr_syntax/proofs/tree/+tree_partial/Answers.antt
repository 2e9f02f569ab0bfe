use Rattle.std.proofs.Common.{◌≡◌, Some}
use Rattle.std.specs.Ordering.{partial_ordering_then}
use Rattle.hpr_terms.specs.contracts.expr.ExprPartialOrd.TheImpl as partials
use Rattle.hpr_terms.specs.contracts.tag.TagPartialOrd.TheImpl as tag_partials
use Rattle.hpr_terms.proofs.Compare.{order}
use Rattle.hpr_syntax.proofs.OrderBlocks.{store_partial, stmts_partial}
use Rattle.hpr_syntax.proofs.tree.+tree_partial.Goals as goal

pub BlockPartialOrd::partial_cmp-returns : goal.BlockPartialOrd::partial_cmp-returns
BlockPartialOrd::partial_cmp-returns t c = rw (← c.self.view_is, ← c.other.view_is, ← stmts_partial c.self.inside.stmts.items c.other.inside.stmts.items) c.partial_cmp.ensures

pub StmtPartialOrd::partial_cmp-returns-in-Store-other : goal.StmtPartialOrd::partial_cmp-returns-in-Store-other
StmtPartialOrd::partial_cmp-returns-in-Store-other t c =
    let first : c.partial_cmp-in-Store-other.result ≡ (tag_partials.ghosts).partial_cmp c.in-Store.field-0 c.in-Store-other.field-0 = cc (c.partial_cmp-in-Store-other.ensures) in
    let second : c.or_partial_cmp-in-Store-other.result ≡ partial_ordering_then c.partial_cmp-in-Store-other.result (Some (order c.in-Store.field-1 c.in-Store-other.field-1)) = cc (c.or_partial_cmp-in-Store-other.ensures) in
    let third : c.or_partial_cmp-in-Store-other-2.result ≡ partial_ordering_then c.or_partial_cmp-in-Store-other.result ((partials.ghosts).partial_cmp c.in-Store.field-2 c.in-Store-other.field-2) = cc (c.or_partial_cmp-in-Store-other-2.ensures) in
    let last : c.or_partial_cmp-in-Store-other-3.result ≡ partial_ordering_then c.or_partial_cmp-in-Store-other-2.result ((partials.ghosts).partial_cmp c.in-Store.field-3 c.in-Store-other.field-3) = cc (c.or_partial_cmp-in-Store-other-3.ensures) in
    store_partial _ _ _ _ _ _ _ _ _ _ _ _ _ _ c.in-Store.is c.in-Store-other.is first second third last
