use Rattle.std.proofs.Common.{◌≡◌, ℕ, ◌+◌, ◌<◌, List, [], ◌∷◌, ◌++◌, length, take, get_or, ap, sym, ◌∙◌}
use Rattle.std.proofs.lemmas.List.{take_all, take_more}
use Rattle.hpr_graph.specs.declared.vertex.Vertex.{Vertex}
use Rattle.hpr_graph.proofs.vertex.copies.Goals as goal

-- one more, of which a copy was put behind the others
one_more : (xs old new : List Vertex) (n : ℕ) (copy v : Vertex) → n < length xs → old ≡ take n xs → new ≡ old ++ copy ∷ [] → copy ≡ v → v ≡ get_or xs n v → new ≡ take (n + 1) xs
one_more xs old new n copy v l was is same item =
    is
    ∙ ap (λ (vs : List Vertex). vs ++ copy ∷ []) was
    ∙ ap (λ (w : Vertex). take n xs ++ w ∷ []) (same ∙ item)
    ∙ sym (take_more xs n v l)

pub loop-vertex-preserved : goal.loop-vertex-preserved
loop-vertex-preserved c = one_more c.args.vertices.now _ _ c.loop-vertex.vertex-index _ c.vertex-item.result c.loop-vertex-test.true c.loop-vertex.invariant c.in_ok-push.ensures.items c.in_ok-copy.ensures c.vertex-item.is

pub returns : goal.returns
returns c = c.loop-vertex.invariant ∙ take_all c.loop-vertex.vertex-index c.args.vertices.now c.loop-vertex-test.false
