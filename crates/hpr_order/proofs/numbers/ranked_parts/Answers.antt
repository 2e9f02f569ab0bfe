use Rattle.std.proofs.Common.{sym, subst}
use Rattle.hpr_order.proofs.Ranked.{IsRankedTo, ranked_none, ranked_skip, ranked_push, ranked_parts}
use Rattle.hpr_order.proofs.Steps.{read_of}
use Rattle.hpr_order.proofs.numbers.ranked_parts.Goals as goal

pub loop-vertex-init : goal.loop-vertex-init
loop-vertex-init c = subst (IsRankedTo c.args.graph.now c.args.rank.now 0) (sym c.new-numbers.ensures.items) (ranked_none c.args.graph.now c.args.rank.now)

pub loop-vertex-preserved-in_default : goal.loop-vertex-preserved-in_default
loop-vertex-preserved-in_default c =
    ranked_skip c.args.graph.now c.args.rank.now c.loop-vertex.vertex-index c.loop-vertex.numbers.items c.vertex-item.result c.loop-vertex.invariant
    (read_of c.args.rank.now c.loop-vertex.vertex-index c.vertex-item.result c.loop-vertex-test.true c.vertex-item.is)
    (λ part there. c.in_default.ensures.none part there)

pub loop-vertex-preserved : goal.loop-vertex-preserved
loop-vertex-preserved c =
    ranked_push c.args.graph.now c.args.rank.now c.loop-vertex.vertex-index c.in-Some.number c.loop-vertex.numbers.items c.push.new.self.items c.vertex-item.result c.loop-vertex.invariant
    (read_of c.args.rank.now c.loop-vertex.vertex-index c.vertex-item.result c.loop-vertex-test.true c.vertex-item.is) c.in-Some.ensures.found c.in-Some.ensures.part
    (λ a b u ea eb. c.vertices-vertices.ensures.numbered.once a b u ea eb) c.in_ok-push.ensures.items

pub returns-clause-parts : goal.returns-clause-parts
returns-clause-parts c = ranked_parts c.args.graph.now c.args.rank.now c.loop-vertex.vertex-index c.loop-vertex.numbers.items c.loop-vertex.invariant c.loop-vertex-test.false c.requires
