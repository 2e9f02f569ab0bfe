use Rattle.std.proofs.Common.{◌≡◌, List, subst}
use Rattle.std.specs.List.Sorted.{IsPermutation}
use Rattle.std.proofs.lemmas.List.Sorted.{Contains-permutation, IsPermutation-sym}
use Rattle.hpr_graph.specs.declared.vertex.Vertex.{Vertex}
use Rattle.hpr_graph.proofs.Reordered.{vertices_sorted}
use Rattle.hpr_graph.proofs.ordered.sorted_vertices.Goals as goal

moved : (vs us ws : List Vertex) → us ≡ vs → IsPermutation us ws → IsPermutation vs ws
moved vs us ws e p = subst (λ (xs : List Vertex). IsPermutation xs ws) e p

pub returns-clause-ascend : goal.returns-clause-ascend
returns-clause-ascend c =
    vertices_sorted c.args.vertices.now c.sort_unstable.new.self.items c.requires (moved _ _ _ c.in_ok-copies.ensures c.sort_unstable.ensures.permutation) c.sort_unstable.ensures.sorted

pub returns-clause-same : goal.returns-clause-same
returns-clause-same c = λ x.
    let p = moved _ _ _ c.in_ok-copies.ensures c.sort_unstable.ensures.permutation in
    (λ h. Contains-permutation _ _ x (IsPermutation-sym _ _ p) h, λ h. Contains-permutation _ _ x p h)
