use Rattle.std.proofs.Common.{◌≡◌, List, Some, Contains, slice_get, take, sym, subst}
use Rattle.std.proofs.lemmas.List.{take_all}
use Rattle.std.proofs.lemmas.Result.{IfOk-weaker}
use Rattle.hpr_graph.specs.declared.vertex.Vertex.{Vertex}
use Rattle.hpr_graph.specs.declared.vertex.Vertex.TheVariants.{Final}
use Rattle.hpr_graph.proofs.NameOrder.{names_up}
use Rattle.hpr_order.proofs.Linking.{names_skip, names_push}
use Rattle.hpr_order.proofs.Steps.{read_of}
use Rattle.hpr_order.proofs.numbers.finals_in_order.Goals as goal

pub loop-vertex-preserved-in_default : goal.loop-vertex-preserved-in_default
loop-vertex-preserved-in_default c =
    let here : slice_get c.args.graph.now.vertices c.loop-vertex.vertex-index ≡ Some c.vertex-item.result =
    subst (λ (vs : List Vertex). slice_get vs c.loop-vertex.vertex-index ≡ Some c.vertex-item.result) c.vertices-vertex-items.ensures.vertices
    (read_of c.vertices-vertex-items.result.now c.loop-vertex.vertex-index c.vertex-item.result c.loop-vertex-test.true c.vertex-item.is) in
    names_skip c.args.graph.now.vertices c.loop-vertex.vertex-index c.vertex-item.result here c.loop-vertex.names.items c.in_default.not-Final c.loop-vertex.invariant

pub loop-vertex-preserved : goal.loop-vertex-preserved
loop-vertex-preserved c =
    let here : slice_get c.args.graph.now.vertices c.loop-vertex.vertex-index ≡ Some c.vertex-item.result =
    subst (λ (vs : List Vertex). slice_get vs c.loop-vertex.vertex-index ≡ Some c.vertex-item.result) c.vertices-vertex-items.ensures.vertices
    (read_of c.vertices-vertex-items.result.now c.loop-vertex.vertex-index c.vertex-item.result c.loop-vertex-test.true c.vertex-item.is) in
    names_push c.args.graph.now.vertices c.loop-vertex.vertex-index c.vertex-item.result here c.loop-vertex.names.items c.push.new.self.items c.in-Final.name c.in_ok-copy.field-0
    c.in-Final.is c.in_ok-copy.ensures c.in_ok-push.ensures.items c.loop-vertex.invariant

pub returns-clause-names : goal.returns-clause-names
returns-clause-names c =
    let whole : take c.loop-vertex.vertex-index c.vertices-vertex-items.result.now ≡ c.vertices-vertex-items.result.now =
    take_all c.loop-vertex.vertex-index c.vertices-vertex-items.result.now c.loop-vertex-test.false in
    let all : take c.loop-vertex.vertex-index c.args.graph.now.vertices ≡ c.args.graph.now.vertices =
    subst (λ (vs : List Vertex). take c.loop-vertex.vertex-index vs ≡ vs) c.vertices-vertex-items.ensures.vertices whole in
    IfOk-weaker c.in_order.result _ _ (λ v same x. (
      (λ h. subst (λ (vs : List Vertex). Contains vs (Final x)) all ((c.loop-vertex.invariant x).0 ((same x).0 h))),
      (λ h. (same x).1 ((c.loop-vertex.invariant x).1 (subst (λ (vs : List Vertex). Contains vs (Final x)) (sym all) h))),
    )) c.in_order.ensures.same

pub returns-clause-ascending : goal.returns-clause-ascending
returns-clause-ascending c = IfOk-weaker c.in_order.result _ _ (λ v up. names_up v.items up) c.in_order.ensures.ascending
