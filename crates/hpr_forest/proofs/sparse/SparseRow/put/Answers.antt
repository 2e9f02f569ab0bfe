use Rattle.std.proofs.Common.{◌≡◌, ◌<◌, ◌≤◌, false, List, Bool, length, vec_len, get_or, sym, ◌∙◌, subst, arith, rules}
use Rattle.std.proofs.lemmas.List.{get_or_default}
use Rattle.hpr_forest.proofs.Running.{most_marked, runs_put}
use Rattle.hpr_forest.proofs.sparse.SparseRow.put.Goals as goal

pub overflow_add-index_mut : goal.overflow_add-index_mut
overflow_add-index_mut c =
    let s = c.self.inside in
    let lt : c.args.at < length s.marks.items = subst (λ (xs : List Bool). c.args.at < length xs) (sym c.self.view_is) c.requires in
    let most : c.index_mut-2.result.now ≤ length s.marks.items = most_marked s.marks.items s.counts.items c.self.invariant c.args.at c.index_mut-2.result.now lt c.index_mut-2.ensures.value in
    let l : length s.marks.items ≡ vec_len s.marks = search rules in
    omega (arith, most, l, s.marks.ok, s.marks.small)

pub invariant_of-self : goal.invariant_of-self
invariant_of-self c =
    let s = c.self.inside in
    let lt : c.args.at < length s.marks.items = subst (λ (xs : List Bool). c.args.at < length xs) (sym c.self.view_is) c.requires in
    let unmarked : get_or s.marks.items c.args.at false ≡ false = get_or_default s.marks.items c.args.at false c.index.result.now lt ∙ sym c.index.ensures ∙ c.if-index.false in
    runs_put s.marks.items s.counts.items c.self.invariant c.args.at c.index_mut-2.result.now lt c.index_mut-2.ensures.value unmarked
