use Rattle.std.proofs.Common.{ℕ, ◌+◌, List, length, sym, ap, subst, arith}
use Rattle.hpr_graph.specs.Numbered.{row_items}
use Rattle.hpr_merge.proofs.NewLinks.{AreNewTo, new_skip, new_more, new_whole}
use Rattle.hpr_merge.proofs.candidates.new_sources.Goals as goal
use Rattle.hpr_merge.proofs.candidates.new_sources.Goals.{then-is_marked+in_ok-push_new, else-is_marked}

pub loop-to-preserved : goal.loop-to-preserved
loop-to-preserved c =
    let m = c.args.merged.now in
    let k = c.args.variant.now in
    let near = c.args.near.now in
    let to = c.loop-to.to in
    elim c.if-is_marked.branch [
      | then-is_marked+in_ok-push_new w ↦
          subst (λ (xs : List ℕ). AreNewTo m k near (to + 1) xs) (sym (ap (λ o. o.items) w.sources-is))
          (new_more m k near to w.edges_into.result.now w.edges_into-then-is_marked.result.now c.loop-to.sources.items w.push_new.new.into.items
          (sym (ap row_items w.edges_into.ensures.row)) (sym (ap row_items w.edges_into-then-is_marked.ensures.row))
          (c.is_marked.ensures.0 w.if-is_marked.true)
          (record { kept = w.in_ok-push_new.ensures.kept; only = w.in_ok-push_new.ensures.only; all = w.in_ok-push_new.ensures.all }) c.loop-to.invariant)
      | else-is_marked w ↦
          subst (λ (xs : List ℕ). AreNewTo m k near (to + 1) xs) (sym (ap (λ o. o.items) w.sources-is))
          (new_skip m k near to c.loop-to.sources.items (λ marked. (let t = c.is_marked.ensures.1 marked in let n = w.if-is_marked.false in cc))
          c.loop-to.invariant)
    ]

pub returns : goal.returns
returns c =
    let count = ap length c.vertices-to-end.ensures.vertices in
    let all = c.loop-to-test.false in
    new_whole c.args.merged.now c.args.variant.now c.args.near.now c.loop-to.to c.loop-to.sources.items c.vertices-to-end.ensures.numbered
    (omega (arith, count, all)) c.loop-to.invariant
