use Rattle.std.proofs.Common.{◌↔◌, ℕ, Bool, List, [], get_or, arith}
use Rattle.hpr_search.specs.Marks.{IsMarked}
use Rattle.hpr_reach.specs.Reaches.{Reaches}
use Rattle.hpr_build.proofs.Cuts.{places_more}
use Rattle.hpr_build.proofs.reaching.searches.Goals as goal

pub loop-point-preserved : goal.loop-point-preserved
loop-point-preserved c =
    let P : ℕ → List Bool → Type 0 = λ i row. (u : ℕ) → IsMarked row u ↔ Reaches c.args.succ.now c.args.name.now [] (get_or c.args.points.now i 0) u in
    record {
      len = omega (arith, c.in_ok-push.ensures.len, c.loop-point.invariant.len);
      exact = places_more P c.loop-point.rows.items c.push.new.self.items c.in_ok-reach.field-0 [] c.loop-point.point-index
          (omega (arith, c.loop-point.invariant.len, c.loop-point.rows.ok.0)) c.in_ok-push.ensures.items c.loop-point.invariant.exact c.in_ok-reach.ensures.exact;
    }

pub returns-clause-exact : goal.returns-clause-exact
returns-clause-exact c = λ i l. c.loop-point.invariant.exact i (omega (arith, l, c.loop-point-test.false))
