use Rattle.std.proofs.Common.{◌≡◌, ◌<◌, ℕ, List, [], true, false, get_or, length, sym, ap, ◌∙◌, subst}
use Rattle.hpr_forest.specs.Counting.{AreCounts, AreOfRows, Table}
use Rattle.hpr_forest.proofs.Counted.{befores_within, children_within, open_start}
use Rattle.hpr_forest.proofs.pending.Pending.start.Goals as goal

pub start-requires : goal.start-requires
start-requires c = subst (λ (rows : Table). AreOfRows rows) (sym c.deref.ensures.value) (befores_within c.args.blocks.now)

pub start-requires-2 : goal.start-requires-2
start-requires-2 c = subst (λ (rows : Table). AreOfRows rows) (sym c.deref-2.ensures.value) (children_within c.args.blocks.now)

pub returns : goal.returns
returns c =
    let b = c.args.blocks.now in
    let before = subst (λ (rows : Table). AreCounts rows [] c.in_ok-before.before) c.deref.ensures.value c.in_ok-before.ensures in
    record {
      before = before;
      under = subst (λ (rows : Table). AreCounts rows [] c.in_ok-under.under) c.deref-2.ensures.value c.in_ok-under.ensures;
      ready_count = c.in_ok-ready.ensures.count ∙ ap length c.deref-3.ensures.value ∙ before.count;
      ready = open_start b.before.items c.in_ok-before.before c.in_ok-ready.ready before
          (subst (λ (xs : List ℕ). (k : ℕ) → k < length xs → get_or xs k 0 ≡ 0 → get_or c.in_ok-ready.ready k false ≡ true) c.deref-3.ensures.value c.in_ok-ready.ensures.marked);
    }
