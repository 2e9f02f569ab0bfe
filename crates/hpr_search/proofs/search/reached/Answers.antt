use Rattle.std.proofs.Common.{◌≡◌, ◌∙◌, ◌<◌, ◌++◌, [], All, length, false, sym, ap, subst, arith}
use Rattle.std.proofs.lemmas.List.{length-replicate}
use Rattle.hpr_search.specs.Marks.{Visited}
use Rattle.hpr_search.proofs.Marked.{empty_row}
use Rattle.hpr_search.proofs.Turns.{within_marks, search_start, search_step, search_complete, listed_within, next_within}
use Rattle.hpr_search.proofs.search.reached.Goals as goal

pub visit-requires-clause-row : goal.visit-requires-clause-row
visit-requires-clause-row g c = rw (c.in_ok-marks.ensures, c.in_ok-order.ensures.items) (empty_row c.point_count-points.result)

pub visit-requires-clause-within : goal.visit-requires-clause-within
visit-requires-clause-within g c =
    let size : length c.in_ok-marks.marks.items ≡ g.G.Digraph.points c.args.graph.now =
    ap length c.in_ok-marks.ensures ∙ length-replicate c.point_count-points.result false ∙ c.point_count-points.ensures in
    within_marks c.in_ok-marks.marks.items _ c.args.starts.now size c.requires

pub loop-at-init : goal.loop-at-init
loop-at-init g c =
    let size : length c.in_ok-marks.marks.items ≡ g.G.Digraph.points c.args.graph.now =
    ap length c.in_ok-marks.ensures ∙ length-replicate c.point_count-points.result false ∙ c.point_count-points.ensures in
    let v : Visited [] c.args.starts.now (length c.in_ok-marks.marks.items) c.visit.new.marks.items c.visit.new.order.items =
    subst (λ o. Visited o c.args.starts.now (length c.in_ok-marks.marks.items) c.visit.new.marks.items c.visit.new.order.items) c.in_ok-order.ensures.items c.in_ok-visit.ensures in
    search_start _ _ _ _ _ (subst (λ n. Visited [] c.args.starts.now n c.visit.new.marks.items c.visit.new.order.items) size v)

pub push_steps-requires : goal.push_steps-requires
push_steps-requires g c =
    next_within _ _ _ c.loop-at.at c.index.result.now _ _ c.loop-at.invariant (omega (arith, c.loop-at-test.true, c.len.ensures)) c.index.ensures

pub visit-requires-in-loop-at-clause-row : goal.visit-requires-in-loop-at-clause-row
visit-requires-in-loop-at-clause-row g c = c.loop-at.invariant.row

pub visit-requires-in-loop-at-clause-within : goal.visit-requires-in-loop-at-clause-within
visit-requires-in-loop-at-clause-within g c =
    let listed = c.as_slice.ensures.value ∙ c.in_ok-push_steps.ensures.pushed ∙ ap (λ xs. xs ++ g.G.Digraph.steps c.args.graph.now c.index.result.now) c.clear.ensures.items in
    within_marks c.loop-at.marks.items _ c.as_slice.result.now c.loop-at.invariant.size (subst (All (λ p. p < g.G.Digraph.points c.args.graph.now)) (sym listed) c.push_steps.ensures.within)

pub loop-at-smaller : goal.loop-at-smaller
loop-at-smaller g c =
    let l = listed_within _ _ _ c.loop-at.at _ _ c.loop-at.invariant in
    omega (arith, l, c.loop-at-test.true, c.len.ensures)

pub loop-at-preserved : goal.loop-at-preserved
loop-at-preserved g c =
    let s = c.loop-at.invariant in
    let here : c.loop-at.at < length c.loop-at.order.items = omega (arith, c.loop-at-test.true, c.len.ensures) in
    let steps : c.as_slice.result.now ≡ g.G.Digraph.steps c.args.graph.now c.index.result.now =
    c.as_slice.ensures.value ∙ c.in_ok-push_steps.ensures.pushed ∙ ap (λ xs. xs ++ g.G.Digraph.steps c.args.graph.now c.index.result.now) c.clear.ensures.items in
    let v : Visited c.loop-at.order.items (g.G.Digraph.steps c.args.graph.now c.index.result.now) (length c.loop-at.marks.items) c.visit-in-loop-at.new.marks.items c.visit-in-loop-at.new.order.items =
    subst (λ ps. Visited c.loop-at.order.items ps (length c.loop-at.marks.items) c.visit-in-loop-at.new.marks.items c.visit-in-loop-at.new.order.items) steps c.in_ok-visit-2.ensures in
    search_step _ _ _ c.loop-at.at c.index.result.now _ _ s here c.index.ensures _ _
    (subst (λ n. Visited c.loop-at.order.items (g.G.Digraph.steps c.args.graph.now c.index.result.now) n c.visit-in-loop-at.new.marks.items c.visit-in-loop-at.new.order.items) s.size v)

pub returns-clause-size : goal.returns-clause-size
returns-clause-size g c = c.loop-at.invariant.size

pub returns-clause-row : goal.returns-clause-row
returns-clause-row g c = c.loop-at.invariant.row

pub returns-clause-sound : goal.returns-clause-sound
returns-clause-sound g c = λ p h. c.loop-at.invariant.sound p (c.loop-at.invariant.row.listed p h)

pub returns-clause-complete : goal.returns-clause-complete
returns-clause-complete g c =
    search_complete _ _ _ c.loop-at.at c.loop-at.marks.items c.loop-at.order.items c.loop-at.invariant (omega (arith, c.loop-at-test.false, c.len.ensures))
