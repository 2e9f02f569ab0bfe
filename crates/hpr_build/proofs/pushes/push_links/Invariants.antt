use Rattle.std.proofs.Common.{◌≡◌, ◌↔◌, ◌⊎◌, ◌≤◌, ℕ, Contains, take}
use Rattle.hpr_graph.specs.declared.link.Link.{Link}
use Rattle.hpr_graph.specs.Numbered.{HasLink, link_count}
use Rattle.hpr_build.proofs.LinkTurns.{into}
use Rattle.hpr_build.proofs.pushes.push_links.Given as goal

abbrev pub invariant-loop-new : goal.invariant-loop-new
invariant-loop-new l = record {
  vertices : l.graph.vertices ≡ l.fn.graph.vertices;
  added : (to : ℕ) (k : Link) → HasLink l.graph to k ↔ (HasLink l.fn.graph to k ⊎ Contains (take l.new-index l.links) (into to k));
  room : link_count l.graph ≤ l.tables.most;
}
