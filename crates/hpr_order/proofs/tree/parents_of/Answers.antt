use Rattle.std.proofs.Common.{◌≡◌, Some, inl, inr, length, slice_get, sym, ap, subst, ◌∙◌, arith, rules}
use Rattle.hpr_terms.proofs.Facts.{at_push}
use Rattle.hpr_order.specs.Regions.{IsRegionAt}
use Rattle.hpr_order.proofs.tree.parents_of.Goals as goal

pub loop-at-preserved : goal.loop-at-preserved
loop-at-preserved c =
    let len : length c.loop-at.parents.items ≡ c.loop-at.at = search (rules, c.loop-at.invariant.count) in
    record {
      count = omega (arith, c.in_ok-push.ensures.len, c.loop-at.invariant.count);
      parents = λ k v r is_v is_r. elim (at_push c.loop-at.parents.items c.parent_at.result k r (subst (λ z. slice_get z k ≡ Some r) c.in_ok-push.ensures.items is_r)) [
        | inl old ↦ c.loop-at.invariant.parents k v r is_v old
        | inr (same, e) ↦ (
            let at : k ≡ c.loop-at.at = same ∙ len in
            subst (λ n. IsRegionAt c.args.graph.now n v r) (sym at)
            (subst (IsRegionAt c.args.graph.now c.loop-at.at v) e (c.parent_at.ensures v (subst (λ n. slice_get c.args.graph.now.vertices n ≡ Some v) at is_v))))
      ];
    }

pub returns-clause-count : goal.returns-clause-count
returns-clause-count c =
    let len : length c.loop-at.parents.items ≡ c.loop-at.at = search (rules, c.loop-at.invariant.count) in
    let all : length c.vertices-at-end.result.now ≡ length c.args.graph.now.vertices = ap length c.vertices-at-end.ensures.vertices in
    omega (arith, len, all, c.loop-at-test.false, c.loop-at.auto.at-end)
