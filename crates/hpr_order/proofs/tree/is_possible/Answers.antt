use Rattle.std.proofs.Common.{◌∙◌, ◌↔◌, IsTrue, refl, subst, sym}
use Rattle.hpr_graph.specs.declared.vertex.Vertex.{Vertex}
use Rattle.hpr_graph.specs.Numbered.{graph_in}
use Rattle.hpr_search.specs.Marks.{IsMarked}
use Rattle.hpr_order.specs.Regions.{Allows, IsPossible}
use Rattle.hpr_graph.proofs.Lists.{some_inj}
use Rattle.hpr_order.proofs.Places.{row_is, row_once, only_within, possible_is, possible_by, not_possible}
use Rattle.hpr_order.proofs.tree.is_possible.Goals as goal

pub only_control-requires : goal.only_control-requires
only_control-requires c = row_once c.args.graph.now c.edges_into.ensures.numbered c.args.at c.edges_into.result.now c.edges_into.ensures.row

pub vertex-requires : goal.vertex-requires
vertex-requires c = only_within c.args.graph.now c.edges_into.ensures.numbered c.args.at c.edges_into.result.now c.edges_into.ensures.row c.in-Some.from c.in-Some.label c.in-Some.ensures.found

pub returns-then-reached-at : goal.returns-then-reached-at
returns-then-reached-at c = λ v is_v.
    let same = some_inj c.vertex-then-reached-at.result.now v (sym c.vertex-then-reached-at.ensures ∙ is_v) in
    let u = c.vertex.result.now in
    let label = c.in-Some.label in
    possible_by (IsPossible (graph_in c.args.graph.now) v) (IsMarked c.args.reached.now c.args.at) (Allows u label v) c.is_allowed.result
    (possible_is c.args.graph.now c.edges_into.ensures.numbered c.args.at v is_v c.in-Some.from label u c.args.reached.now c.edges_into.result.now
    (row_is c.args.graph.now c.args.at c.edges_into.result.now c.edges_into.ensures.row) c.vertex.ensures c.in-Some.ensures.found c.requires.reached)
    c.if-reached-at.true
    (subst (λ (w : Vertex). IsTrue c.is_allowed.result ↔ Allows u label w) same c.is_allowed.ensures)

pub returns-in-None : goal.returns-in-None
returns-in-None c = λ v is_v. (
  λ t. absurd cc,
  λ p. absurd
      (not_possible c.args.graph.now c.edges_into.ensures.numbered c.args.at v is_v c.edges_into.result.now
      (row_is c.args.graph.now c.args.at c.edges_into.result.now c.edges_into.ensures.row) (c.in-None.ensures.none refl) p),
)
