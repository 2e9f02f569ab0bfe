use Rattle.std.proofs.Common.{◌≡◌, ◌<◌, false, true, List, Bool, length, get_or, sym, ◌∙◌, subst}
use Rattle.std.proofs.lemmas.List.{get_or_default}
use Rattle.hpr_forest.proofs.Running.{runs_clear, some_marked}
use Rattle.hpr_forest.proofs.sparse.SparseRow.clear.Goals as goal

pub overflow_sub-index_mut : goal.overflow_sub-index_mut
overflow_sub-index_mut c =
    let s = c.self.inside in
    let lt : c.args.at < length s.marks.items = subst (λ (xs : List Bool). c.args.at < length xs) (sym c.self.view_is) c.requires in
    let marked : get_or s.marks.items c.args.at false ≡ true = get_or_default s.marks.items c.args.at false c.index.result.now lt ∙ sym c.index.ensures ∙ c.if-not-index.false in
    some_marked s.marks.items s.counts.items c.self.invariant c.args.at c.index_mut-2.result.now lt c.index_mut-2.ensures.value marked

pub invariant_of-self : goal.invariant_of-self
invariant_of-self c =
    let s = c.self.inside in
    let lt : c.args.at < length s.marks.items = subst (λ (xs : List Bool). c.args.at < length xs) (sym c.self.view_is) c.requires in
    let marked : get_or s.marks.items c.args.at false ≡ true = get_or_default s.marks.items c.args.at false c.index.result.now lt ∙ sym c.index.ensures ∙ c.if-not-index.false in
    runs_clear s.marks.items s.counts.items c.self.invariant c.args.at c.index_mut-2.result.now lt c.index_mut-2.ensures.value marked
