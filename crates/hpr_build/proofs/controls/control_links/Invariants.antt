use Rattle.std.proofs.Common.{◌≡◌, ◌↔◌, ◌≤◌, ◌<◌, Contains}
use Rattle.hpr_build.specs.declared.pushes.NewLink.{NewLink}
use Rattle.hpr_build.specs.NewLinks.{parent_of, link_under}
use Rattle.hpr_graph.specs.Graphs.{IsOnce}
use Rattle.hpr_build.specs.Places.{place_at}
use Rattle.hpr_build.proofs.controls.control_links.Given as goal

abbrev pub invariant-loop-to : goal.invariant-loop-to
invariant-loop-to l = record {
  exact : (n : NewLink) → Contains l.links.items n ↔ ((1 ≤ n.to) × (n.to < l.to) × (n.link ≡ link_under (parent_of (place_at l.places n.to))));
  once : IsOnce l.links.items;
}
