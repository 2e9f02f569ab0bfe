use Rattle.std.proofs.Common.{Bor, Option, IsNone, refl, sym, subst}
use Rattle.std.specs.Option.{option_copied}
use Rattle.hpr_graph.specs.declared.vertex.Vertex.{Vertex}
use Rattle.hpr_graph.specs.Numbered.{graph_in}
use Rattle.hpr_graph.specs.Order.{vertex_cmp}
use Rattle.hpr_order.specs.Least.{IsLeastIn}
use Rattle.hpr_order.specs.Regions.{IsImpossible, IsLeastOf}
use Rattle.hpr_order.proofs.Places.{two_least}
use Rattle.hpr_order.proofs.tree.regions.Goals as goal

pub returns-in-Some-clause-refused : goal.returns-in-Some-clause-refused
returns-in-Some-clause-refused c = two_least c.args.graph.now c.vertices.result.now _ _ c.vertices.ensures.vertices c.in-Some.is c.in_ok-tag.ensures

pub returns-in-Some-2-clause-refused : goal.returns-in-Some-2-clause-refused
returns-in-Some-2-clause-refused c = (
  two_least c.args.graph.now c.vertices.result.now _ _ c.vertices.ensures.vertices c.in_default.is c.in_ok-tag.ensures,
  subst (λ (w : Vertex). IsLeastOf vertex_cmp (IsImpossible (graph_in c.args.graph.now)) w) (sym c.in_ok-copy.ensures)
      (subst (λ (o : Option (Bor Vertex)). IsLeastIn vertex_cmp (IsImpossible (graph_in c.args.graph.now)) (option_copied o)) c.in-Some-2.is c.in_ok-vertex.ensures.least),
)

pub parents_of-requires : goal.parents_of-requires
parents_of-requires c = c.in_ok-vertex.ensures.none (subst IsNone (sym c.in_default-2.is) refl)

pub returns-clause-ok : goal.returns-clause-ok
returns-clause-ok c = record {
  once = two_least c.args.graph.now c.vertices.result.now _ _ c.vertices.ensures.vertices c.in_default.is c.in_ok-tag.ensures;
  possible = c.in_ok-vertex.ensures.none (subst IsNone (sym c.in_default-2.is) refl);
  count = c.in_ok-parents.ensures.count;
  parents = c.in_ok-parents.ensures.parents;
}
