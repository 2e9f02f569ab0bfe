use Rattle.std.proofs.Common.{ℕ, ◌+◌, List, length, sym, ap, ◌∙◌, subst, arith}
use Rattle.hpr_graph.specs.declared.link.Link.{Link}
use Rattle.hpr_graph.specs.Numbered.{row_items}
use Rattle.hpr_merge.proofs.NewLinks.{AreCandidatesTo, candidates_skip, candidates_more, candidates_whole}
use Rattle.hpr_merge.proofs.candidates.candidates.Goals as goal
use Rattle.hpr_merge.proofs.candidates.candidates.Goals.{then-is_marked+in_ok-push_first, else-is_marked}

pub loop-to-preserved : goal.loop-to-preserved
loop-to-preserved c =
    let m = c.args.merged.now in
    let k = c.args.variant.now in
    let near = c.args.near.now in
    let far = c.args.far.now in
    let to = c.loop-to.to in
    elim c.if-is_marked.branch [
      | then-is_marked+in_ok-push_first w ↦
          subst (λ (xs : List (ℕ × Link)). AreCandidatesTo m k near far (to + 1) xs) (sym (ap (λ o. o.items) w.found-is ∙ w.in_ok-push_first.ensures))
          (candidates_more m k near far to c.loop-to.found.items c.loop-to.invariant w.edges_into.result.now w.edges_into-then-is_marked.result.now
          w.first_new-first.result (sym (ap row_items w.edges_into.ensures.row)) (sym (ap row_items w.edges_into-then-is_marked.ensures.row))
          (c.is_marked.ensures.0 w.if-is_marked.true) w.first_new-first.ensures)
      | else-is_marked w ↦
          subst (λ (xs : List (ℕ × Link)). AreCandidatesTo m k near far (to + 1) xs) (sym (ap (λ o. o.items) w.found-is))
          (candidates_skip m k near far to c.loop-to.found.items c.loop-to.invariant
          (λ l marked has may. (let t = c.is_marked.ensures.1 marked in let n = w.if-is_marked.false in cc)))
    ]

pub returns : goal.returns
returns c =
    let count = ap length c.vertices-to-end.ensures.vertices in
    let all = c.loop-to-test.false in
    candidates_whole c.args.merged.now c.args.variant.now c.args.near.now c.args.far.now c.loop-to.to c.loop-to.found.items
    c.vertices-to-end.ensures.numbered (omega (arith, count, all)) c.loop-to.invariant
