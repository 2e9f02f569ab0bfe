use Rattle.std.proofs.Common.{◌∙◌, ◌↔◌, IsTrue, sym, subst, arith}
use Rattle.hpr_graph.specs.declared.vertex.Vertex.{Vertex}
use Rattle.hpr_graph.specs.Numbered.{IsOneOf}
use Rattle.hpr_graph.proofs.Lists.{some_inj}
use Rattle.hpr_affected.proofs.PointLists.{before_none, before_more, before_all}
use Rattle.hpr_merge.proofs.conflicts.numbers_there.Goals as goal

pub loop-at-init : goal.loop-at-init
loop-at-init c = before_none _ _ _ c.new-there.ensures.items

pub loop-at-preserved : goal.loop-at-preserved
loop-at-preserved c =
    before_more _ _ c.loop-at.there.items _ c.loop-at.at c.is_one_of-test.result c.loop-at.invariant
    (λ v at_v. subst (λ (x : Vertex). IsTrue c.is_one_of-test.result ↔ IsOneOf c.args.graph.now c.args.numbers.now x) (some_inj c.vertex.result.now v (sym c.vertex.ensures ∙ at_v)) c.is_one_of-test.ensures)
    c.in_ok-push_if.ensures

pub returns : goal.returns
returns c = before_all _ _ _ c.loop-at.at c.loop-at.invariant (omega (arith, c.loop-at-test.false, c.loop-at.auto.at-end, c.vertex_count-at-end.ensures))
