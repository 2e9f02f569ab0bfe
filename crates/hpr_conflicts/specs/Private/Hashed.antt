-- What of a key is hashed: the number of its variant, the ends of its edge, and the edge's loop or shared
-- use.
-- Keys that are equal by their code are hashed alike.
use Rattle.std.specs.Prelude.{◌==◌}
use Rattle.std.proofs.Common.{◌≡◌, ℕ, Bool, true, false, ◌&&◌, IsTrue, List, [], ◌++◌, refl, ap, ap₂}
use Rattle.std.proofs.lemmas.Bool.{eqb-true, false≢true}
use Rattle.std.specs.Hash as fed
use Rattle.hpr_graph.specs.Hashed as vertices
use Rattle.hpr_conflicts.specs.declared.key.Key.{Key}
use Rattle.hpr_conflicts.specs.declared.key.Sort.{Sort}
use Rattle.hpr_conflicts.specs.declared.key.Sort.TheVariants.{Control, Independent, Carried, Order}
use Rattle.hpr_conflicts.specs.contracts.key.KeyPartialEq.TheImpl as eqs
use Rattle.hpr_conflicts.specs.contracts.key.SortPartialEq.TheImpl as sort_eqs
use Rattle.hpr_graph.specs.contracts.vertex.VertexPartialEq.TheImpl as vertex_eqs

abbrev pub third_input : Sort → List (List ℕ)
third_input (Control label) = []
third_input (Independent x) = []
third_input (Carried x w) = vertices.hash_input w
third_input (Order u) = vertices.hash_input u

abbrev pub hash_input : Key → List (List ℕ)
hash_input k =
    fed.usize k.variant ++ (vertices.hash_input k.to ++ (vertices.hash_input k.from ++ third_input k.sort))

both_true : (a b : Bool) → (a && b) ≡ true → (a ≡ true) × (b ≡ true)
both_true true b e = (refl, e)
both_true false b e = absurd (false≢true e)

same_third : (s t : Sort) → IsTrue ((sort_eqs.ghosts).eq s t) → third_input s ≡ third_input t
same_third (Control a) (Control b) e = refl
same_third (Independent x) (Independent y) e = refl
same_third (Carried x v) (Carried y w) e =
    let (name, by) = both_true _ ((vertex_eqs.ghosts).eq v w) e in vertices.same_input v w by
same_third (Order v) (Order w) e = vertices.same_input v w e
same_third (Control a) (Independent y) e = refl
same_third (Control a) (Carried y w) e = absurd (false≢true e)
same_third (Control a) (Order w) e = absurd (false≢true e)
same_third (Independent x) (Control b) e = refl
same_third (Independent x) (Carried y w) e = absurd (false≢true e)
same_third (Independent x) (Order w) e = absurd (false≢true e)
same_third (Carried x v) (Control b) e = absurd (false≢true e)
same_third (Carried x v) (Independent y) e = absurd (false≢true e)
same_third (Carried x v) (Order w) e = absurd (false≢true e)
same_third (Order v) (Control b) e = absurd (false≢true e)
same_third (Order v) (Independent y) e = absurd (false≢true e)
same_third (Order v) (Carried y w) e = absurd (false≢true e)

pub same_input : (k l : Key) → IsTrue ((eqs.ghosts).eq k l) → hash_input k ≡ hash_input l
same_input k l e =
    let number = k.variant == l.variant in
    let to = (vertex_eqs.ghosts).eq k.to l.to in
    let from = (vertex_eqs.ghosts).eq k.from l.from in
    let (same_number, rest) = both_true number _ e in
    let (same_to, others) = both_true to _ rest in
    let (same_from, same_sort) = both_true from ((sort_eqs.ghosts).eq k.sort l.sort) others in
    ap₂ (λ (a b : List (List ℕ)). a ++ b) (ap fed.usize (eqb-true k.variant l.variant same_number))
    (ap₂ (λ (a b : List (List ℕ)). a ++ b) (vertices.same_input k.to l.to same_to)
    (ap₂ (λ (a b : List (List ℕ)). a ++ b) (vertices.same_input k.from l.from same_from)
    (same_third k.sort l.sort same_sort)))
