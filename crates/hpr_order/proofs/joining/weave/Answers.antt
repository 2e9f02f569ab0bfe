use Rattle.std.proofs.Common.{◌≡◌, ◌++◌, ◌∷◌, [], List, ap, ◌∙◌, length, length-append, arith}
use Rattle.hpr_graph.specs.declared.vertex.Vertex.{Vertex}
use Rattle.hpr_order.specs.Joining.{runs_of, woven}
use Rattle.hpr_order.proofs.Joins.{woven_first, woven_more}
use Rattle.hpr_order.proofs.joining.weave.Goals as goal
use Rattle.hpr_order.proofs.joining.weave.Goals.{in-Some-pop+in_ok-push, in_default-pop}

pub loop-run-preserved : goal.loop-run-preserved
loop-run-preserved c =
    let whole : List Vertex = woven (runs_of c.args.runs.items) c.args.list.items in
    let out = c.loop-run.woven.items in
    let new_out = c.match-pop-2.woven.items in
    let list = c.loop-run.list.items in
    let before = c.pop-in-Some.new.self.items in
    let rows = c.loop-run.runs.items in
    let rest = c.pop.new.self.items in
    let row = c.in-Some.run' in
    let last = c.in-Some.ensures.items in
    let fewer = length-append rest (row ∷ []) in
    let old = c.loop-run.invariant in
    elim c.match-pop-2.branch [
      | in-Some-pop+in_ok-push w ↦ (let v = w.in-Some-pop.vertex in
          let ends = w.in-Some-pop.ensures.items in
          let grown =
          ap (λ v. v.items) w.woven-is ∙ w.in_ok-push.ensures.items ∙ ap (λ (l : List Vertex). l ++ v ∷ []) c.in_ok-append.ensures.items in (
            omega (arith, old.0, fewer, ap length last, ap length ends, length-append before (v ∷ [])),
            woven_more whole out new_out list before rows rest row v last ends old.0 grown old.1,
          ))
      | in_default-pop w ↦ (let none : length list ≡ 0 = omega (arith, w.in_default-pop.ensures.cases, c.loop-run.list.ok) in
          let ends = w.in_default-pop.ensures.items in
          let grown = ap (λ v. v.items) w.woven-is ∙ c.in_ok-append.ensures.items in (
            omega (arith, old.0, fewer, ap length last, ap length ends, none, length-append before []),
            woven_first whole out new_out list before rows rest row last ends none old.0 grown old.1,
          ))
    ]
