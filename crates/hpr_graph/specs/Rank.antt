-- The rank of the parts of programs, a base and any number of variants: the order in which arrangements are
-- tried. The 1989 paper leaves it open.
--
-- parts_of tree      == the parts of a program as vertices, in preorder
-- IsPutIn v next xs ys == ys is xs with v immediately before `next`, or at the end where there is no next; a
--                         vertex that is listed stays where it is
-- IsJoined vs xs ys  == ys is xs with each of vs put in, from the last to the first, before the one that
--                       follows it in vs
-- AreJoined ls xs ys == ys is xs with the vertices of each of the lists put in so, one list after the other
-- IsFirstChanged base vs v == v is the first of the variants that isn't base; the last where each is
-- IsRankOf base vs r == the parts of the first variant that isn't base in preorder, with those of each
--                       variant and then of base put in
-- IsRank a b base r  == the same of two variants
-- StandsBefore r v w == v stands before w in the list
use Rattle.std.specs.Prelude.{◌≡◌, ℕ, ◌<◌, ◌⊎◌, Option, Some, None, List, [], ◌∷◌, ◌++◌, map, Contains, slice_get}
use Rattle.hpr_syntax.specs.Rows.{rows_of}
use Rattle.hpr_syntax.specs.Tree.{Tree}
use Rattle.hpr_graph.specs.declared.vertex.Vertex.{Vertex}
use Rattle.hpr_graph.specs.declared.vertex.Vertex.TheVariants.{Part}

abbrev pub parts_of : Tree → List Vertex
parts_of tree = map (λ row. Part row.tag row.content) (rows_of None 0 tree.body)

abbrev pub IsAddedAt : Vertex → Option Vertex → List Vertex → List Vertex → Type 0
IsAddedAt v None xs ys = ys ≡ xs ++ v ∷ []
IsAddedAt v (Some next) xs ys = (front back : List Vertex) × (xs ≡ front ++ next ∷ back) × (ys ≡ front ++ v ∷ next ∷ back)

abbrev pub IsPutIn : Vertex → Option Vertex → List Vertex → List Vertex → Type 0
IsPutIn v next xs ys = (Contains xs v × (ys ≡ xs)) ⊎ ((¬ Contains xs v) × IsAddedAt v next xs ys)

abbrev pub IsJoined : List Vertex → List Vertex → List Vertex → Type 0
IsJoined [] xs ys = ys ≡ xs
IsJoined (v ∷ vs) xs ys = (zs : List Vertex) × IsJoined vs xs zs × IsPutIn v (slice_get vs 0) zs ys

abbrev pub AreJoined : List (List Vertex) → List Vertex → List Vertex → Type 0
AreJoined [] xs ys = ys ≡ xs
AreJoined (vs ∷ []) xs ys = IsJoined vs xs ys
AreJoined (vs ∷ ws ∷ ls) xs ys = (zs : List Vertex) × IsJoined vs xs zs × AreJoined (ws ∷ ls) zs ys

abbrev pub IsFirstChanged : Tree → List Tree → Tree → Type 0
IsFirstChanged base [] v = ⊥
IsFirstChanged base (w ∷ []) v = v ≡ w
IsFirstChanged base (w ∷ u ∷ ws) v = ((w ≡ base) × IsFirstChanged base (u ∷ ws) v) ⊎ ((¬ (w ≡ base)) × (v ≡ w))

abbrev pub IsRankOf : Tree → List Tree → List Vertex → Type 0
IsRankOf base vs r = (first : Tree) × IsFirstChanged base vs first × AreJoined (map parts_of (vs ++ base ∷ [])) (parts_of first) r

abbrev pub IsRank : Tree → Tree → Tree → List Vertex → Type 0
IsRank a b base r = IsRankOf base (a ∷ b ∷ []) r

abbrev pub StandsBefore : List Vertex → Vertex → Vertex → Type 0
StandsBefore r v w = (i j : ℕ) × (i < j) × (slice_get r i ≡ Some v) × (slice_get r j ≡ Some w)
