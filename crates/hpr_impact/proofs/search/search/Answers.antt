use Rattle.std.proofs.Common.{◌≡◌, ◌∙◌, ◌<◌, ℕ, ◌++◌, [], List, false, length, sym, ap, subst, arith, Some, None}
use Rattle.std.proofs.lemmas.List.{length-replicate, length-map}
use Rattle.hpr_search.specs.Marks.{Visited}
use Rattle.hpr_search.specs.Rows.{numbers_at}
use Rattle.hpr_search.proofs.Marked.{empty_row}
use Rattle.hpr_search.proofs.Turns.{search_start, search_step, search_complete, listed_within, next_within}
use Rattle.hpr_impact.specs.declared.search.Visit.{Visit}
use Rattle.hpr_impact.specs.Private.Search.{AreCome, points_of}
use Rattle.hpr_impact.proofs.Trails.{point_at, trail_begun, trail_more}
use Rattle.hpr_impact.proofs.search.search.Goals as goal

pub visit_each-requires-clause-row : goal.visit_each-requires-clause-row
visit_each-requires-clause-row c = rw (c.in_ok-marks.ensures, c.new-visits.ensures.items) (empty_row c.point_count.result)

pub loop-at-init : goal.loop-at-init
loop-at-init c =
    let size : length c.in_ok-marks.marks.items ≡ length c.args.rows.now = ap length c.in_ok-marks.ensures ∙ length-replicate c.point_count.result false ∙ c.point_count.ensures in
    let v : Visited [] c.args.starts.now (length c.args.rows.now) c.visit_each.new.marks.items (points_of c.visit_each.new.visits.items) =
    subst (λ (n : ℕ). Visited [] c.args.starts.now n c.visit_each.new.marks.items (points_of c.visit_each.new.visits.items)) size
    (subst (λ (o : List Visit). Visited (points_of o) c.args.starts.now (length c.in_ok-marks.marks.items) c.visit_each.new.marks.items (points_of c.visit_each.new.visits.items)) c.new-visits.ensures.items c.in_ok-visit_each.ensures.visited) in
    record {
      searching = search_start _ _ _ _ _ v;
      trail = trail_begun (numbers_at c.args.rows.now) c.args.starts.now _ (subst (λ (o : List Visit). AreCome None c.args.starts.now o c.visit_each.new.visits.items) c.new-visits.ensures.items c.in_ok-visit_each.ensures.come);
    }

pub push_steps-requires : goal.push_steps-requires
push_steps-requires c =
    let visits = c.loop-at.visits.items in
    let here : c.loop-at.at < length visits = omega (arith, c.loop-at-test.true, c.len.ensures) in
    let is = point_at visits c.loop-at.at c.index-before.result.now here c.index-before.ensures in
    let below : c.loop-at.at < length (points_of visits) = omega (arith, here, length-map visits (λ (v : Visit). v.point)) in
    next_within _ _ _ c.loop-at.at c.index-before.result.now.point _ (points_of visits) c.loop-at.invariant.searching below is

pub loop-at-smaller : goal.loop-at-smaller
loop-at-smaller c =
    let visits = c.loop-at.visits.items in
    let l = listed_within _ _ _ c.loop-at.at _ _ c.loop-at.invariant.searching in
    omega (arith, l, c.loop-at-test.true, c.len.ensures, length-map visits (λ (v : Visit). v.point))

pub loop-at-preserved : goal.loop-at-preserved
loop-at-preserved c =
    let rows = numbers_at c.args.rows.now in
    let old = c.loop-at.visits.items in
    let new = c.visit_each-in-loop-at.new.visits.items in
    let before = c.index-before.result.now in
    let s = c.loop-at.invariant.searching in
    let here : c.loop-at.at < length old = omega (arith, c.loop-at-test.true, c.len.ensures) in
    let below : c.loop-at.at < length (points_of old) = omega (arith, here, length-map old (λ (v : Visit). v.point)) in
    let is = point_at old c.loop-at.at before here c.index-before.ensures in
    let steps : c.deref.result.now ≡ rows before.point = c.deref.ensures.value ∙ c.in_ok-push_steps.ensures.pushed ∙ ap (λ (xs : List ℕ). xs ++ rows before.point) c.clear.ensures.items in
    let v : Visited (points_of old) (rows before.point) (length c.args.rows.now) c.visit_each-in-loop-at.new.marks.items (points_of new) =
    subst (λ (n : ℕ). Visited (points_of old) (rows before.point) n c.visit_each-in-loop-at.new.marks.items (points_of new)) s.size
    (subst (λ (ps : List ℕ). Visited (points_of old) ps (length c.loop-at.marks.items) c.visit_each-in-loop-at.new.marks.items (points_of new)) steps c.in_ok-visit_each-2.ensures.visited) in
    record {
      searching = search_step _ _ _ c.loop-at.at before.point _ _ s below is _ _ v;
      trail = trail_more rows c.args.starts.now before old new c.loop-at.invariant.trail (c.loop-at.at, here, sym c.index-before.ensures) s.begun
          (subst (λ (ps : List ℕ). AreCome (Some before) ps old new) steps c.in_ok-visit_each-2.ensures.come);
    }

pub returns-clause-complete : goal.returns-clause-complete
returns-clause-complete c = λ p h.
    let visits = c.loop-at.visits.items in
    c.loop-at.invariant.searching.row.listed p
    (search_complete _ _ _ c.loop-at.at c.loop-at.marks.items (points_of visits) c.loop-at.invariant.searching (omega (arith, c.loop-at-test.false, c.len.ensures, length-map visits (λ (v : Visit). v.point))) p h)
