-- A base and its variants have a rank.
use Rattle.std.proofs.Common.{◌≡◌, ◌≢◌, inl, inr, Option, Some, None, List, [], ◌∷◌, ◌++◌, map, Contains, slice_get, refl}
use Rattle.hpr_terms.proofs.Facts.{by_both}
use Rattle.hpr_syntax.specs.Tree.{Tree}
use Rattle.hpr_graph.specs.declared.vertex.Vertex.{Vertex}
use Rattle.hpr_graph.specs.Rank.{parts_of, IsAddedAt, IsPutIn, IsJoined, AreJoined, IsFirstChanged, IsRankOf}
use Rattle.hpr_graph.proofs.Lists.{in_here, split}
use Rattle.hpr_order.proofs.Ranks.{joined_has}

-- the next vertex, if there is one, stands there
abbrev Stands : Option Vertex → List Vertex → Type 0
Stands None xs = Unit {0}
Stands (Some next) xs = Contains xs next

added : (v : Vertex) (next : Option Vertex) (xs : List Vertex) → Stands next xs → (ys : List Vertex) × IsAddedAt v next xs ys
added v None xs there = (xs ++ v ∷ [], refl)
added v (Some next) xs there = let found = split xs next there in (found.0 ++ v ∷ next ∷ found.1, (found.0, found.1, found.2, refl))

put : (v : Vertex) (next : Option Vertex) (xs : List Vertex) → Stands next xs → ¬ (¬ ((ys : List Vertex) × IsPutIn v next xs ys))
put v next xs there =
    by_both (Contains xs v) ((ys : List Vertex) × IsPutIn v next xs ys)
    (λ old n. n (xs, inl (old, refl)))
    (λ new n. let more = added v next xs there in n (more.0, inr (new, more.1)))

next_stands : (vs xs zs : List Vertex) → IsJoined vs xs zs → Stands (slice_get vs 0) zs
next_stands [] xs zs joined = tt
next_stands (w ∷ ws) xs zs joined = (joined_has (w ∷ ws) xs zs joined w).1 (inr (in_here w ws))

join : (vs xs : List Vertex) → ¬ (¬ ((ys : List Vertex) × IsJoined vs xs ys))
join [] xs n = n (xs, refl)
join (v ∷ vs) xs n =
    join vs xs (λ rest.
    put v (slice_get vs 0) rest.0 (next_stands vs xs rest.0 rest.1) (λ more.
    n (more.0, (rest.0, rest.1, more.1))))

join_all : (ls : List (List Vertex)) (xs : List Vertex) → ¬ (¬ ((ys : List Vertex) × AreJoined ls xs ys))
join_all [] xs n = n (xs, refl)
join_all (vs ∷ []) xs n = join vs xs n
join_all (vs ∷ us ∷ ls) xs n = join vs xs (λ zs. join_all (us ∷ ls) zs.0 (λ ys. n (ys.0, (zs.0, zs.1, ys.1))))

some_first : (base v : Tree) (vs : List Tree) → ¬ (¬ ((first : Tree) × IsFirstChanged base (v ∷ vs) first))
some_first base v [] n = n (v, refl)
some_first base v (u ∷ vs) n =
    by_both (v ≡ base) ((first : Tree) × IsFirstChanged base (v ∷ u ∷ vs) first)
    (λ same k. some_first base u vs (λ first. k (first.0, inl (same, first.1))))
    (λ other k. k (v, inr (other, refl)))
    n

pub some_rank : (base : Tree) (vs : List Tree) → vs ≢ [] → ¬ (¬ ((r : List Vertex) × IsRankOf base vs r))
some_rank base [] some n = some refl
some_rank base (v ∷ vs) some n =
    some_first base v vs (λ first.
    join_all (map parts_of (v ∷ vs ++ base ∷ [])) (parts_of first.0) (λ r.
    n (r.0, (first.0, first.1, r.1))))
