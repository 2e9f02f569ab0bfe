use Rattle.std.proofs.Common.{◌≡◌, ◌↔◌, true, take}
use Rattle.std.specs.BTreeSet.{contains}
use Rattle.hpr_terms.specs.declared.tag.Tag.{Tag}
use Rattle.hpr_graph.specs.Order.{tag_cmp}
use Rattle.hpr_order.specs.Least.{HasTwoIn, IsLeastIn}
use Rattle.hpr_order.proofs.Leasts.{HasTagIn}
use Rattle.hpr_order.proofs.tags.repeated_tag.Given as goal

abbrev pub invariant-loop-vertex : goal.invariant-loop-vertex
invariant-loop-vertex l = record {
  seen : (t : Tag) → (contains tag_cmp l.seen t ≡ true) ↔ HasTagIn (take l.vertex-index l.vertices) t;
  least : IsLeastIn tag_cmp (HasTwoIn (take l.vertex-index l.vertices)) l.least;
}
