use Rattle.std.proofs.Common.{List, Contains, sym, subst}
use Rattle.std.proofs.lemmas.List.{take_all}
use Rattle.hpr_graph.specs.declared.vertex.Vertex.{Vertex}
use Rattle.hpr_graph.specs.Fits.{IsPart}
use Rattle.hpr_graph.specs.Numbered.{HasVertex}
use Rattle.hpr_graph.proofs.Lists.{taken_more}
use Rattle.hpr_graph_calls.proofs.split.are_listed.Goals as goal

pub loop-vertex-preserved : goal.loop-vertex-preserved
loop-vertex-preserved c =
    taken_more c.args.vertices.now c.loop-vertex.vertex-index c.vertex-item.result (λ v. IsPart v → HasVertex c.args.list.now v) c.loop-vertex-test.true c.loop-vertex.invariant
    (subst (λ (v : Vertex). IsPart v → HasVertex c.args.list.now v) c.vertex-item.is (c.is_listed.ensures c.if-not-is_listed.false))

pub returns : goal.returns
returns c = λ t v h.
    c.loop-vertex.invariant v
    (subst (λ (vs : List Vertex). Contains vs v) (sym (take_all c.loop-vertex.vertex-index c.args.vertices.now c.loop-vertex-test.false)) h)
