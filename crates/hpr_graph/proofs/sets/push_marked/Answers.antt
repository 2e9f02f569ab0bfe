use Rattle.std.proofs.Common.{◌≡◌, ap, arith, length}
use Rattle.hpr_graph.proofs.Lists.{read_at}
use Rattle.hpr_graph.proofs.Placed.{marked_begun, marked_fresh, marked_more, marked_all, marked_only}
use Rattle.hpr_graph.proofs.sets.push_marked.Goals as goal

pub loop-at-init : goal.loop-at-init
loop-at-init c = marked_begun c.args.source.now c.args.keep.now c.args.target.now _ c.requires.none c.new-numbers.ensures.items

pub push_if-requires : goal.push_if-requires
push_if-requires c =
    marked_fresh _ _ _ _ _ c.loop-at.at c.vertex-item.result c.loop-at.invariant c.vertices-vertex-items.ensures.numbered.once
    (read_at _ _ c.loop-at.at c.vertex-item.result c.vertices-vertex-items.ensures.vertices c.loop-at-test.true c.vertex-item.is)

pub loop-at-preserved : goal.loop-at-preserved
loop-at-preserved c =
    marked_more c.args.source.now c.args.keep.now c.args.target.now c.loop-at.target _ c.loop-at.numbers.items _ c.loop-at.at c.in_ok-push_if.field-0 c.vertex-item.result c.loop-at.invariant
    (read_at _ _ c.loop-at.at c.vertex-item.result c.vertices-vertex-items.ensures.vertices c.loop-at-test.true c.vertex-item.is)
    c.in_ok-push_if.ensures.grown c.in_ok-push_if.ensures.number c.in_ok-push_if.ensures.there c.in_ok-push_if.ensures.only c.in_ok-push.ensures.items

pub returns-clause-placed : goal.returns-clause-placed
returns-clause-placed c = c.loop-at.invariant.placed

pub returns-clause-marked : goal.returns-clause-marked
returns-clause-marked c =
    let all : length c.vertices-vertex-items.result.now ≡ length c.args.source.now.vertices = ap length c.vertices-vertex-items.ensures.vertices in
    marked_all _ _ _ _ _ c.loop-at.at c.loop-at.invariant (omega (arith, all, c.requires.marks, c.loop-at-test.false))

pub returns-clause-grown : goal.returns-clause-grown
returns-clause-grown c = c.loop-at.invariant.grown

pub returns-clause-only : goal.returns-clause-only
returns-clause-only c = marked_only _ _ _ _ _ c.loop-at.at c.loop-at.invariant
