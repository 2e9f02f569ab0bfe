use Rattle.std.proofs.Common.{◌≡◌, ◌<◌, ℕ, true, false, List, Bool, All, [], ◌∷◌, ◌++◌, Contains, get_or, length, sym, ap, ◌∙◌, subst, arith}
use Rattle.std.proofs.lemmas.List.{length-set}
use Rattle.hpr_forest.specs.Counting.{AreCounts, Table, row_of}
use Rattle.hpr_forest.proofs.Counted.{open_place, row_read, rows_within}
use Rattle.hpr_forest.proofs.Starts.{blocks_open}
use Rattle.hpr_forest.proofs.pending.Pending.place.Goals as goal

pub open_each-requires-clause-within : goal.open_each-requires-clause-within
open_each-requires-clause-within c =
    let b = c.args.blocks.now in
    let s = c.place.new.self in
    let now = subst (λ (rows : Table). AreCounts rows (c.args.placed.now ++ c.args.item ∷ []) s) c.deref.ensures.value c.place.ensures in
    let small : c.args.item < length b.before.items = (let lt = (blocks_open b).within c.args.placed.now c.args.item c.requires.may in omega (arith, lt, b.befores, b.before.ok.0)) in
    let row : c.deref-4.result.now ≡ row_of s.rows_with.items c.args.item = c.deref-4.ensures.value ∙ sym (row_read s.rows_with.items c.args.item c.index.result.now (omega (arith, small, now.turned_count)) c.index.ensures) in
    let count : length b.before.items ≡ length c.clear.new.self = sym (ap length c.clear.ensures ∙ length-set c.args.self.now.ready c.args.item false ∙ c.requires.pending.ready_count) in
    subst (λ (xs : List ℕ). All (λ k. k < length c.clear.new.self) xs) (sym row)
    (subst (λ (n : ℕ). All (λ k. k < n) (row_of s.rows_with.items c.args.item)) count (rows_within b.before.items s.rows_with.items now.turned c.args.item))

pub returns : goal.returns
returns c =
    let b = c.args.blocks.now in
    let q = c.args.placed.now in
    let item = c.args.item in
    let s = c.place.new.self in
    let old = c.args.self.now in
    let now = subst (λ (rows : Table). AreCounts rows (q ++ item ∷ []) s) c.deref.ensures.value c.place.ensures in
    let small : item < length b.before.items = (let lt = (blocks_open b).within q item c.requires.may in omega (arith, lt, b.befores, b.before.ok.0)) in
    let row : c.deref-4.result.now ≡ row_of s.rows_with.items item = c.deref-4.ensures.value ∙ sym (row_read s.rows_with.items item c.index.result.now (omega (arith, small, now.turned_count)) c.index.ensures) in
    let count : length c.clear.new.self ≡ length b.before.items = ap length c.clear.ensures ∙ length-set old.ready item false ∙ c.requires.pending.ready_count in
    record {
      before = now;
      under = subst (λ (rows : Table). AreCounts rows (q ++ item ∷ []) c.place-2.new.self) c.deref-2.ensures.value c.place-2.ensures;
      ready_count = c.open_each.ensures.count ∙ count;
      ready = open_place b.before.items q item ((blocks_open b).fresh q item c.requires.may) old.before s old.ready c.open_each.new.row c.requires.pending.before now c.requires.pending.ready
          (subst (λ (xs : List Bool). (k : ℕ) → get_or xs k false ≡ true → get_or c.open_each.new.row k false ≡ true) c.clear.ensures c.open_each.ensures.kept)
          (subst (λ (xs : List ℕ). (k : ℕ) → Contains (row_of s.rows_with.items item) k → get_or xs k 0 ≡ 0 → get_or c.open_each.new.row k false ≡ true) c.deref-3.ensures.value
          (subst (λ (xs : List ℕ). (k : ℕ) → Contains xs k → get_or c.deref-3.result.now k 0 ≡ 0 → get_or c.open_each.new.row k false ≡ true) row c.open_each.ensures.marked));
    }
