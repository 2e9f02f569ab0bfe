use Rattle.std.proofs.Common.{◌≡◌, ◌<◌, inl, inr, false, List, Bool, length, vec_len, get_or, subst, arith, rules}
use Rattle.std.proofs.lemmas.Bool.{cases_lt}
use Rattle.hpr_forest.proofs.Running.{run_unmarked}
use Rattle.hpr_forest.proofs.sparse.SparseRow.next.Goals as goal

pub seek-preserved-then-index-eq0 : goal.seek-preserved-then-index-eq0
seek-preserved-then-index-eq0 c =
    let s = c.self.inside in
    let l : length s.marks.items ≡ vec_len s.marks = search rules in
    let lt : c.seek.at < length s.marks.items = omega (arith, l, c.seek-test.true, c.len.ensures) in
    record {
      from = (let i = c.seek.invariant.from in omega (arith, i));
      unmarked = λ d le less. elim (cases_lt d c.seek.at) [
        | inl before ↦ c.seek.invariant.unmarked d le before
        | inr behind ↦ subst (λ (xs : List Bool). get_or xs d false ≡ false) c.self.view_is
            (run_unmarked s.marks.items s.counts.items c.self.invariant c.seek.at c.index.result.now lt c.index.ensures c.if-index-eq0.true d behind less)
      ];
    }
