use Rattle.std.proofs.Common.{List, subst}
use Rattle.std.proofs.lemmas.List.{take_all}
use Rattle.std.specs.BTreeSet.{contains}
use Rattle.hpr_graph.specs.declared.vertex.Vertex.{Vertex}
use Rattle.hpr_graph.specs.Order.{tag_cmp}
use Rattle.hpr_order.specs.Least.{IsLeastIn, HasTwoIn}
use Rattle.hpr_order.proofs.Leasts.{seen_more, two_more, as_noted}
use Rattle.hpr_order.proofs.tags.repeated_tag.Goals as goal

pub loop-vertex-preserved : goal.loop-vertex-preserved
loop-vertex-preserved c = record {
  seen = seen_more c.args.vertices.now c.loop-vertex.vertex-index c.vertex-item.result c.requires c.loop-vertex-test.true c.vertex-item.is
      (contains tag_cmp c.loop-vertex.seen) (contains tag_cmp c.noted.new.seen) c.loop-vertex.invariant.seen c.in_ok-least.ensures.seen;
  least = as_noted (HasTwoIn _) _ _ c.in_ok-least.ensures.least
      (two_more c.args.vertices.now c.loop-vertex.vertex-index c.vertex-item.result c.requires c.loop-vertex-test.true c.vertex-item.is
      (contains tag_cmp c.loop-vertex.seen) c.loop-vertex.least c.loop-vertex.invariant.seen c.loop-vertex.invariant.least);
}

pub returns : goal.returns
returns c =
    subst (λ (vs : List Vertex). IsLeastIn tag_cmp (HasTwoIn vs) c.loop-vertex.least) (take_all c.loop-vertex.vertex-index c.args.vertices.now c.loop-vertex-test.false)
    c.loop-vertex.invariant.least
