-- The rank of a base and any number of variants, one variant after another.
use Rattle.std.proofs.Common.{◌≡◌, ℕ, zero, suc, ◌+◌, ◌<◌, ◌≤◌, ◌⊎◌, inl, inr, Some, List, [], ◌∷◌, ◌++◌, length, map, take, get_or, slice_get, refl, sym, ap, ◌∙◌, subst, arith}
use Rattle.std.proofs.lemmas.List.{take_more, take_all, map-append}
use Rattle.hpr_terms.proofs.Facts.{compared}
use Rattle.hpr_syntax.specs.Tree.{Tree}
use Rattle.hpr_graph.specs.declared.vertex.Vertex.{Vertex}
use Rattle.hpr_graph.specs.Rank.{parts_of, IsJoined, AreJoined, IsFirstChanged, IsRankOf}
use Rattle.hpr_graph.proofs.Lists.{some_inj}

-- one list more
joined_push : (ls : List (List Vertex)) (vs xs ys zs : List Vertex) → AreJoined ls xs ys → IsJoined vs ys zs → AreJoined (ls ++ vs ∷ []) xs zs
joined_push [] vs xs ys zs is more = subst (λ (l : List Vertex). IsJoined vs l zs) is more
joined_push (us ∷ []) vs xs ys zs joined more = (ys, joined, more)
joined_push (us ∷ ws ∷ ls) vs xs ys zs (first, joined, rest) more = (first, joined, joined_push (ws ∷ ls) vs first ys zs rest more)

-- one variant more
pub joined_more : (vs : List Tree) (i : ℕ) (v : Tree) (xs ys zs : List Vertex) → i < length vs → v ≡ get_or vs i v → AreJoined (map parts_of (take i vs)) xs ys → IsJoined (parts_of v) ys zs → AreJoined (map parts_of (take (i + 1) vs)) xs zs
joined_more vs i v xs ys zs l is joined more =
    let next : take (i + 1) vs ≡ take i vs ++ v ∷ [] = take_more vs i v l ∙ ap (λ (u : Tree). take i vs ++ u ∷ []) (sym is) in
    subst (λ (ls : List (List Vertex)). AreJoined ls xs zs) (sym (ap (map parts_of) next ∙ map-append parts_of (take i vs) (v ∷ [])))
    (joined_push (map parts_of (take i vs)) (parts_of v) xs ys zs joined more)

-- all variants, and then the base
pub joined_all : (base : Tree) (vs : List Tree) (i : ℕ) (first : Tree) (xs ys zs : List Vertex) → length vs ≤ i → IsFirstChanged base vs first → xs ≡ parts_of first → AreJoined (map parts_of (take i vs)) xs ys → IsJoined (parts_of base) ys zs → IsRankOf base vs zs
joined_all base vs i first xs ys zs l is begun joined more =
    let all : AreJoined (map parts_of vs) xs ys = subst (λ (us : List Tree). AreJoined (map parts_of us) xs ys) (take_all i vs l) joined in
    let whole : AreJoined (map parts_of (vs ++ base ∷ [])) xs zs =
    subst (λ (ls : List (List Vertex)). AreJoined ls xs zs) (sym (map-append parts_of vs (base ∷ []))) (joined_push (map parts_of vs) (parts_of base) xs ys zs all more) in
    (first, is, subst (λ (l : List Vertex). AreJoined (map parts_of (vs ++ base ∷ [])) l zs) begun whole)

-- the variants before a place are all the base
abbrev pub AreBaseBelow : Tree → List Tree → ℕ → Type 0
AreBaseBelow base vs i = (k : ℕ) (w : Tree) → k < i → slice_get vs k ≡ Some w → w ≡ base

pub base_more : (base : Tree) (vs : List Tree) (i : ℕ) (v : Tree) → AreBaseBelow base vs i → slice_get vs i ≡ Some v → v ≡ base → AreBaseBelow base vs (i + 1)
base_more base vs i v all at same k w l is =
    elim (compared k i) [
      | inl before ↦ all k w before is
      | inr rest ↦ elim rest [
        | inl last ↦ some_inj w v (sym is ∙ ap (slice_get vs) last ∙ at) ∙ same
        | inr past ↦ absurd (omega (arith, l, past))
      ]
    ]

-- the first that isn't, or the last
pub first_at : (base : Tree) (vs : List Tree) (i : ℕ) (v : Tree) → AreBaseBelow base vs i → slice_get vs i ≡ Some v → (¬ (v ≡ base)) ⊎ (length vs ≡ i + 1) → IsFirstChanged base vs v
first_at base [] i v all at end = absurd cc
first_at base (w ∷ []) zero v all at end = sym (some_inj w v at)
first_at base (w ∷ []) (suc i) v all at end = absurd cc
first_at base (w ∷ u ∷ ws) zero v all at (inl other) = let same : w ≡ v = some_inj w v at in inr (λ e. other (sym same ∙ e), sym same)
first_at base (w ∷ u ∷ ws) zero v all at (inr count) = absurd (omega (arith, count))
first_at base (w ∷ u ∷ ws) (suc i) v all at end =
    inl (
      all 0 w (omega arith) refl,
      first_at base (u ∷ ws) i v (λ k x l is. all (suc k) x (omega (arith, l)) is) at
          (elim end [ inl other ↦ inl other | inr count ↦ inr (omega (arith, count)) ]),
    )
