use Rattle.std.proofs.Common.{◌≡◌, ◌+◌, ◌<◌, ◌≤◌, ℕ, List, All, get_or, length, refl, sym, ◌∙◌, subst, arith}
use Rattle.hpr_forest.specs.Counting.{occurrences, row_of}
use Rattle.hpr_forest.proofs.Counted.{counts_place, enough, row_read, rows_within}
use Rattle.hpr_forest.proofs.counts.Counts.place.Goals as goal

pub take_one_each-requires-clause-within : goal.take_one_each-requires-clause-within
take_one_each-requires-clause-within c =
    let s = c.args.self.now in
    let row : c.deref.result.now ≡ row_of s.rows_with.items c.args.number =
    c.deref.ensures.value ∙ sym (row_read s.rows_with.items c.args.number c.index.result.now (omega (arith, c.requires.number, c.requires.counts.turned_count)) c.index.ensures) in
    subst (λ (xs : List ℕ). All (λ k. k < length s.left.items) xs) (sym row)
    (subst (λ (n : ℕ). All (λ k. k < n) (row_of s.rows_with.items c.args.number)) (sym c.requires.counts.count) (rows_within c.args.rows.now s.rows_with.items c.requires.counts.turned c.args.number))

pub take_one_each-requires-clause-enough : goal.take_one_each-requires-clause-enough
take_one_each-requires-clause-enough c = λ k.
    let s = c.args.self.now in
    let row : c.deref.result.now ≡ row_of s.rows_with.items c.args.number =
    c.deref.ensures.value ∙ sym (row_read s.rows_with.items c.args.number c.index.result.now (omega (arith, c.requires.number, c.requires.counts.turned_count)) c.index.ensures) in
    subst (λ (xs : List ℕ). occurrences xs k ≤ get_or s.left.items k 0) (sym row) (enough c.args.rows.now c.args.placed.now c.args.number c.requires.fresh s c.requires.counts k)

pub returns : goal.returns
returns c =
    let s = c.args.self.now in
    let row : c.deref.result.now ≡ row_of s.rows_with.items c.args.number =
    c.deref.ensures.value ∙ sym (row_read s.rows_with.items c.args.number c.index.result.now (omega (arith, c.requires.number, c.requires.counts.turned_count)) c.index.ensures) in
    counts_place c.args.rows.now c.args.placed.now c.args.number c.requires.fresh s _ c.requires.counts refl c.take_one_each.ensures.count
    (λ k. subst (λ (xs : List ℕ). get_or c.take_one_each.new.left.items k 0 + occurrences xs k ≡ get_or s.left.items k 0) row (c.take_one_each.ensures.each k))
