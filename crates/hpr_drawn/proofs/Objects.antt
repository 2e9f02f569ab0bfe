-- The objects of vertices, one behind the other.
use Rattle.std.proofs.Common.{◌≡◌, ℕ, ◌+◌, ◌<◌, List, [], ◌∷◌, ◌++◌, length, take, get_or, sym, subst}
use Rattle.std.proofs.lemmas.List.{take_more}
use Rattle.serde_json.specs.Data.{Data}
use Rattle.hpr_graph.specs.declared.vertex.Vertex.{Vertex}
use Rattle.hpr_located.specs.Sources.{Standing}
use Rattle.hpr_drawn.specs.Told.{IsTold, AreTold}

told_push : (ss : List Standing) (vs : List Vertex) (ds : List Data) (v : Vertex) (d : Data) → AreTold ss vs ds
    → IsTold ss v d → AreTold ss (vs ++ v ∷ []) (ds ++ d ∷ [])
told_push ss [] [] v d h one = (one, tt)
told_push ss [] (e ∷ ds) v d h one = absurd h
told_push ss (w ∷ vs) [] v d h one = absurd h
told_push ss (w ∷ vs) (e ∷ ds) v d h one = (h.0, told_push ss vs ds v d h.1 one)

pub told_more : (ss : List Standing) (vs : List Vertex) (i : ℕ) (o : Vertex) (ds es : List Data) (d : Data) → i < length vs
    → AreTold ss (take i vs) ds → IsTold ss (get_or vs i o) d → es ≡ ds ++ d ∷ []
    → AreTold ss (take (i + 1) vs) es
told_more ss vs i o ds es d below h one is =
    let pushed = told_push ss (take i vs) ds (get_or vs i o) d h one in
    subst (AreTold ss (take (i + 1) vs)) (sym is) (subst (λ ws. AreTold ss ws (ds ++ d ∷ [])) (sym (take_more vs i o below)) pushed)
