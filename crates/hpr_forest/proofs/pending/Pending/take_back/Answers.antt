use Rattle.std.proofs.Common.{◌≡◌, ◌<◌, ℕ, true, false, List, Bool, All, Contains, get_or, length, sym, ap, ◌∙◌, subst, arith}
use Rattle.std.proofs.lemmas.List.{length-set}
use Rattle.hpr_forest.specs.Counting.{AreCounts, Table, row_of}
use Rattle.hpr_forest.specs.Pending.{AreOpen}
use Rattle.hpr_forest.proofs.Counted.{open_back, row_read, rows_within}
use Rattle.hpr_forest.proofs.Starts.{blocks_open}
use Rattle.hpr_forest.proofs.pending.Pending.take_back.Goals as goal

pub close_each-requires : goal.close_each-requires
close_each-requires c =
    let b = c.args.blocks.now in
    let s = c.take_back.new.self in
    let now = subst (λ (rows : Table). AreCounts rows c.args.placed.now s) c.deref.ensures.value c.take_back.ensures in
    let small : c.args.item < length b.before.items = (let lt = (blocks_open b).within c.args.placed.now c.args.item c.requires.may in omega (arith, lt, b.befores, b.before.ok.0)) in
    let row : c.deref-3.result.now ≡ row_of s.rows_with.items c.args.item = c.deref-3.ensures.value ∙ sym (row_read s.rows_with.items c.args.item c.index.result.now (omega (arith, small, now.turned_count)) c.index.ensures) in
    subst (λ (xs : List ℕ). All (λ k. k < length c.args.self.now.ready) xs) (sym row)
    (subst (λ (n : ℕ). All (λ k. k < n) (row_of s.rows_with.items c.args.item)) (sym c.requires.pending.ready_count) (rows_within b.before.items s.rows_with.items now.turned c.args.item))

pub returns : goal.returns
returns c =
    let b = c.args.blocks.now in
    let q = c.args.placed.now in
    let item = c.args.item in
    let s = c.take_back.new.self in
    let old = c.args.self.now in
    let now = subst (λ (rows : Table). AreCounts rows q s) c.deref.ensures.value c.take_back.ensures in
    let small : item < length b.before.items = (let lt = (blocks_open b).within q item c.requires.may in omega (arith, lt, b.befores, b.before.ok.0)) in
    let row : c.deref-3.result.now ≡ row_of s.rows_with.items item = c.deref-3.ensures.value ∙ sym (row_read s.rows_with.items item c.index.result.now (omega (arith, small, now.turned_count)) c.index.ensures) in
    record {
      before = now;
      under = subst (λ (rows : Table). AreCounts rows q c.take_back-2.new.self) c.deref-2.ensures.value c.take_back-2.ensures;
      ready_count = ap length c.put.ensures ∙ length-set c.close_each.new.row item true ∙ c.close_each.ensures.count ∙ c.requires.pending.ready_count;
      ready = subst (λ (xs : List Bool). AreOpen b.before.items q xs) (sym c.put.ensures)
          (open_back b.before.items q item ((blocks_open b).fresh q item c.requires.may) old.before s old.ready c.close_each.new.row c.requires.pending.before now c.requires.pending.ready (omega (arith, small, c.requires.pending.ready_count))
          (subst (λ (xs : List ℕ). (k : ℕ) → ¬ Contains xs k → get_or c.close_each.new.row k false ≡ get_or old.ready k false) row c.close_each.ensures.kept) c.close_each.ensures.count);
    }
