use Rattle.std.proofs.Common.{◌≡◌, ◌∙◌, ℕ, ◌+◌, ◌<◌, true, false, sym, ap, subst, length, take, set, get_or, ◌++◌, ◌∷◌, [], arith}
use Rattle.std.proofs.lemmas.List.{take_more, get_or_default}
use Rattle.std.proofs.lemmas.List.Elements.{Contains-get_or}
use Rattle.hpr_search.proofs.Marked.{visited_again}
use Rattle.hpr_impact.specs.declared.search.Visit.{Visit}
use Rattle.hpr_impact.specs.Private.Search.{AreCome, come_to}
use Rattle.hpr_impact.proofs.Trails.{come_more, fresh_among, visited_push}
use Rattle.hpr_impact.proofs.search.visit_each.Goals as goal
use Rattle.hpr_impact.proofs.search.visit_each.Goals.{then-not-index+in_ok-push, else-not-index}

pub loop-point-preserved : goal.loop-point-preserved
loop-point-preserved c =
    let v = c.loop-point.invariant.visited in
    let from = c.args.from in
    let points = c.args.points.now in
    let old = c.args.visits.now.items in
    let now = c.loop-point.visits.items in
    let q : ℕ = get_or points c.loop-point.point-index 0 in
    let within : q < length c.args.marks.now.items = c.requires.within c.loop-point.point-index 0 c.loop-point-test.true in
    let inside : q < length c.loop-point.marks.items = omega (arith, within, v.size) in
    let read : get_or c.loop-point.marks.items q false ≡ c.index.result.now =
    get_or_default c.loop-point.marks.items q false c.index.result.now inside ∙ sym c.index.ensures in
    let front : take (c.loop-point.point-index + 1) points ≡ take c.loop-point.point-index points ++ q ∷ [] = take_more points c.loop-point.point-index 0 c.loop-point-test.true in
    elim c.if-not-index.branch [
      | then-not-index+in_ok-push w ↦
          let fresh : get_or c.loop-point.marks.items q false ≡ false = read ∙ w.if-not-index.true in
          let marks : c.if-not-index.marks.items ≡ set c.loop-point.marks.items q true = ap (λ m. m.items) w.marks-is in
          let visits : c.if-not-index.visits.items ≡ now ++ come_to from q ∷ [] = ap (λ o. o.items) w.visits-is ∙ w.in_ok-push.ensures.items ∙ ap (λ (x : Visit). now ++ x ∷ []) w.come_to.ensures in
          record {
            visited = rw front (visited_push from _ old now _ _ q _ _ v within fresh marks visits);
            come = subst (AreCome from points old) (sym visits) (come_more from points old now q c.loop-point.invariant.come (Contains-get_or points c.loop-point.point-index 0 c.loop-point-test.true) (fresh_among _ old now _ q _ v fresh));
          }
      | else-not-index w ↦
          let marks : c.if-not-index.marks.items ≡ c.loop-point.marks.items = ap (λ m. m.items) w.marks-is in
          let visits : c.if-not-index.visits.items ≡ now = ap (λ o. o.items) w.visits-is in
          record {
            visited = rw (marks, visits, front) (visited_again _ _ _ _ _ q v (read ∙ w.if-not-index.false));
            come = subst (AreCome from points old) (sym visits) c.loop-point.invariant.come;
          }
    ]
