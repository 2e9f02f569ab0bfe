-- A base and its variants have one rank, and one list of arrangements in its order.
use Rattle.std.proofs.Common.{◌≡◌, suc, ◌<◌, inl, inr, Option, Some, None, List, [], ◌∷◌, ◌++◌, map, length, Contains, slice_get, refl, sym, ap, ◌∙◌, subst, arith}
use Rattle.std.specs.List.{AllByRecursion}
use Rattle.std.proofs.lemmas.List.{append-nil}
use Rattle.hpr_terms.specs.declared.tag.Tag.{Tag}
use Rattle.hpr_terms.proofs.Facts.{compared}
use Rattle.hpr_syntax.specs.Issued.{Issued}
use Rattle.hpr_syntax.specs.Shape.{IsProgram}
use Rattle.hpr_syntax.specs.Tree.{Tree}
use Rattle.hpr_graph.specs.declared.vertex.Vertex.{Vertex}
use Rattle.hpr_graph.specs.Answer.{AreSplitOff, searched_graph_of, searched_issued_of}
use Rattle.hpr_graph.specs.Graphs.{Graph, IsOnce}
use Rattle.hpr_graph.specs.Rank.{parts_of, StandsBefore, IsAddedAt, IsPutIn, IsJoined, AreJoined, IsFirstChanged, IsRankOf}
use Rattle.hpr_graph.specs.Arrangements.{IsEarlier, AreArrangements}
use Rattle.hpr_graph.specs.Split.{split_rank}
use Rattle.hpr_graph.proofs.Lists.{contains_at, once_tail, once_head, some_inj}
use Rattle.hpr_graph.proofs.PutInOrder.{one_list}
use Rattle.hpr_order.proofs.Ranks.{rank_once}
use Rattle.hpr_engine.specs.Budget.{AreTriedOf}
use Rattle.hpr_rebuild.proofs.First.{at_middle}
use Rattle.hpr_engine.proofs.FirstInRank.{moved, never_both, never_itself}
use Rattle.hpr_engine.proofs.SearchedFor.{searched_once}

module _ {X : Type 0} where
  -- what is there without an item is there once too
  once_without : (front back : List X) (y : X) → IsOnce (front ++ y ∷ back) → IsOnce (front ++ back)
  once_without front back y once i j x at_i at_j = elim (moved front back y i x at_i) [
    | inl l ↦ elim (moved front back y j x at_j) [
      | inl k ↦ once i j x l.1 k.1
      | inr k ↦ absurd (omega (arith, l.0, k.0, once i (suc j) x l.1 k.1))
    ]
    | inr l ↦ elim (moved front back y j x at_j) [
      | inl k ↦ absurd (omega (arith, l.0, k.0, once (suc i) j x l.1 k.1))
      | inr k ↦ omega (arith, once (suc i) (suc j) x l.1 k.1)
    ]
  ]

  in_middle : (front back : List X) (x : X) → Contains (front ++ x ∷ back) x
  in_middle front back x = contains_at (front ++ x ∷ back) (length front) x (at_middle front x back)

  -- what stands once parts a list in one way
  one_split : (front back front' back' : List X) (x : X) → IsOnce (front ++ x ∷ back) → front ++ x ∷ back ≡ front' ++ x ∷ back' → (front ≡ front') × (back ≡ back')
  one_split [] back [] back' x once e = (refl, cc)
  one_split [] back (y ∷ front') back' x once e =
      let same : back ≡ front' ++ x ∷ back' = cc in
      absurd (once_head x back once (subst (λ (l : List X). Contains l x) (sym same) (in_middle front' back' x)))
  one_split (y ∷ front) back [] back' x once e =
      let first : y ≡ x = cc in
      absurd (once_head y (front ++ x ∷ back) once (subst (λ (z : X). Contains (front ++ x ∷ back) z) (sym first) (in_middle front back x)))
  one_split (y ∷ front) back (z ∷ front') back' x once e =
      let first : y ≡ z = cc in
      let rest : front ++ x ∷ back ≡ front' ++ x ∷ back' = cc in
      let (fronts, backs) = one_split front back front' back' x (once_tail y (front ++ x ∷ back) once) rest in
      let both : y ∷ front ≡ z ∷ front' = cc in
      (both, backs)

once_before_put : (v : Vertex) (next : Option Vertex) (xs ys : List Vertex) → IsPutIn v next xs ys → IsOnce ys → IsOnce xs
once_before_put v next xs ys (inl (there, is)) once = subst (λ (l : List Vertex). IsOnce l) is once
once_before_put v None xs ys (inr (new, is)) once =
    subst (λ (l : List Vertex). IsOnce l) (append-nil xs) (once_without xs [] v (subst (λ (l : List Vertex). IsOnce l) is once))
once_before_put v (Some next) xs ys (inr (new, (front, back, was, is))) once =
    subst (λ (l : List Vertex). IsOnce l) (sym was) (once_without front (next ∷ back) v (subst (λ (l : List Vertex). IsOnce l) is once))

one_added : (v : Vertex) (next : Option Vertex) (xs ys zs : List Vertex) → IsOnce xs → IsAddedAt v next xs ys → IsAddedAt v next xs zs → ys ≡ zs
one_added v None xs ys zs once is so = is ∙ sym so
one_added v (Some next) xs ys zs once (front, back, was, is) (front', back', was', so) =
    let (fronts, backs) = one_split front back front' back' next (subst (λ (l : List Vertex). IsOnce l) was once) (sym was ∙ was') in
    let same : front ++ v ∷ next ∷ back ≡ front' ++ v ∷ next ∷ back' = cc in
    is ∙ same ∙ sym so

one_put : (v : Vertex) (next : Option Vertex) (xs ys zs : List Vertex) → IsOnce xs → IsPutIn v next xs ys → IsPutIn v next xs zs → ys ≡ zs
one_put v next xs ys zs once (inl (there, is)) (inl (there', so)) = is ∙ sym so
one_put v next xs ys zs once (inl (there, is)) (inr (new, added)) = absurd (new there)
one_put v next xs ys zs once (inr (new, added)) (inl (there, so)) = absurd (new there)
one_put v next xs ys zs once (inr (new, added)) (inr (new', added')) = one_added v next xs ys zs once added added'

one_joined : (vs xs ys zs : List Vertex) → IsOnce ys → IsOnce zs → IsJoined vs xs ys → IsJoined vs xs zs → ys ≡ zs
one_joined [] xs ys zs once once' is so = is ∙ sym so
one_joined (v ∷ vs) xs ys zs once once' (before, joined, put) (before', joined', put') =
    let once_before : IsOnce before = once_before_put v (slice_get vs 0) before ys put once in
    let same : before ≡ before' = one_joined vs xs before before' once_before (once_before_put v (slice_get vs 0) before' zs put' once') joined joined' in
    one_put v (slice_get vs 0) before ys zs once_before put (subst (λ (l : List Vertex). IsPutIn v (slice_get vs 0) l zs) (sym same) put')

-- a list that is joined once was there once
once_before_joined : (vs xs ys : List Vertex) → IsJoined vs xs ys → IsOnce ys → IsOnce xs
once_before_joined [] xs ys is once = subst (λ (l : List Vertex). IsOnce l) is once
once_before_joined (v ∷ vs) xs ys (before, joined, put) once = once_before_joined vs xs before joined (once_before_put v (slice_get vs 0) before ys put once)

once_before_all : (ls : List (List Vertex)) (xs ys : List Vertex) → AreJoined ls xs ys → IsOnce ys → IsOnce xs
once_before_all [] xs ys is once = subst (λ (l : List Vertex). IsOnce l) is once
once_before_all (vs ∷ []) xs ys joined once = once_before_joined vs xs ys joined once
once_before_all (vs ∷ us ∷ ls) xs ys (zs, first, rest) once = once_before_joined vs xs zs first (once_before_all (us ∷ ls) zs ys rest once)

one_all_joined : (ls : List (List Vertex)) (xs ys zs : List Vertex) → IsOnce ys → IsOnce zs → AreJoined ls xs ys → AreJoined ls xs zs → ys ≡ zs
one_all_joined [] xs ys zs once once' is so = is ∙ sym so
one_all_joined (vs ∷ []) xs ys zs once once' joined joined' = one_joined vs xs ys zs once once' joined joined'
one_all_joined (vs ∷ us ∷ ls) xs ys zs once once' (before, first, rest) (before', first', rest') =
    let same : before ≡ before' = one_joined vs xs before before' (once_before_all (us ∷ ls) before ys rest once)
    (once_before_all (us ∷ ls) before' zs rest' once') first first' in
    one_all_joined (us ∷ ls) before ys zs once once' rest (subst (λ (l : List Vertex). AreJoined (us ∷ ls) l zs) (sym same) rest')

one_changed : (base : Tree) (vs : List Tree) (p q : Tree) → IsFirstChanged base vs p → IsFirstChanged base vs q → p ≡ q
one_changed base [] p q is so = absurd is
one_changed base (v ∷ []) p q is so = is ∙ sym so
one_changed base (v ∷ u ∷ vs) p q (inl (same, later)) (inl (same', later')) = one_changed base (u ∷ vs) p q later later'
one_changed base (v ∷ u ∷ vs) p q (inl (same, later)) (inr (other, so)) = absurd (other same)
one_changed base (v ∷ u ∷ vs) p q (inr (other, is)) (inl (same, later)) = absurd (other same)
one_changed base (v ∷ u ∷ vs) p q (inr (other, is)) (inr (other', so)) = is ∙ sym so

pub one_rank : (base : Tree) (vs : List Tree) (r s : List Vertex) → AllByRecursion IsProgram vs → IsRankOf base vs r → IsRankOf base vs s → r ≡ s
one_rank base vs r s are (first, is, joined) (first', so, joined') =
    let once : IsOnce r = rank_once base vs r (first, is, joined) are in
    let once_too : IsOnce s = rank_once base vs s (first', so, joined') are in
    let same : first ≡ first' = one_changed base vs first first' is so in
    one_all_joined (map parts_of (vs ++ base ∷ [])) (parts_of first) r s once once_too joined
    (subst (λ (p : Tree). AreJoined (map parts_of (vs ++ base ∷ [])) (parts_of p) s) (sym same) joined')

-- no two programs are each earlier than the other
module _ (rank : List Vertex) (once : IsOnce rank) where
  -- the item behind a front that is shorter than another front stands in that one
  in_longer : (front back front' back' : List Vertex) (x y : Vertex) → length front < length front' → front ++ x ∷ back ≡ front' ++ y ∷ back' → slice_get front' (length front) ≡ Some x
  in_longer front back [] back' x y less e = absurd (omega (arith, less))
  in_longer [] back (z ∷ front') back' x y less e = let same : z ≡ x = cc in ap Some same
  in_longer (w ∷ front) back (z ∷ front') back' x y less e =
      let rest : front ++ x ∷ back ≡ front' ++ y ∷ back' = cc in
      in_longer front back front' back' x y (omega (arith, less)) rest

  same_middle : (front back front' back' : List Vertex) (x y : Vertex) → length front ≡ length front' → front ++ x ∷ back ≡ front' ++ y ∷ back' → x ≡ y
  same_middle [] back [] back' x y e same = cc
  same_middle [] back (z ∷ front') back' x y e same = absurd (omega (arith, e))
  same_middle (w ∷ front) back [] back' x y e same = absurd (omega (arith, e))
  same_middle (w ∷ front) back (z ∷ front') back' x y e same =
      let rest : front ++ x ∷ back ≡ front' ++ y ∷ back' = cc in
      same_middle front back front' back' x y (omega (arith, e)) rest

  -- where the two lists differ first, both have one item
  shorter : (front xs ys front' xs' ys' : List Vertex) (v w v' w' : Vertex) → length front < length front' → front ++ v ∷ xs ≡ front' ++ w' ∷ ys' → front ++ w ∷ ys ≡ front' ++ v' ∷ xs'
      → v ≡ w
  shorter front xs ys front' xs' ys' v w v' w' less p q =
      some_inj v w (sym (in_longer front xs front' ys' v w' less p) ∙ in_longer front ys front' xs' w v' less q)

  pub never_earlier_both : (p q : Tree) → IsEarlier rank p q → IsEarlier rank q p → ⊥
  never_earlier_both p q (front, xs, ys, v, w, parts_p, parts_q, before) (front', xs', ys', v', w', parts_q', parts_p', before') =
      let in_p : front ++ v ∷ xs ≡ front' ++ w' ∷ ys' = sym parts_p ∙ parts_p' in
      let in_q : front ++ w ∷ ys ≡ front' ++ v' ∷ xs' = sym parts_q ∙ parts_q' in
      elim (compared (length front) (length front')) [
        | inl less ↦ (let same : v ≡ w = shorter front xs ys front' xs' ys' v w v' w' less in_p in_q in
            never_itself rank v once (subst (λ (x : Vertex). StandsBefore rank v x) (sym same) before))
        | inr rest ↦ elim rest [
          | inl e ↦ (let one : v ≡ w' = same_middle front xs front' ys' v w' e in_p in
              let two : w ≡ v' = same_middle front ys front' xs' w v' e in_q in
              never_both rank v w once before
              (subst (λ (x : Vertex). StandsBefore rank x v) (sym two) (subst (λ (x : Vertex). StandsBefore rank v' x) (sym one) before')))
          | inr more ↦ (let same : v' ≡ w' = shorter front' xs' ys' front xs ys v' w' v w more (sym in_q) (sym in_p) in
              never_itself rank v' once (subst (λ (x : Vertex). StandsBefore rank v' x) (sym same) before'))
        ]
      ]

  pub one_arrangements : (g : Graph) (issued : Issued) (ps qs : List Tree) → AreArrangements g rank issued ps → AreArrangements g rank issued qs → ps ≡ qs
  one_arrangements g issued ps qs h k =
      one_list (IsEarlier rank) never_earlier_both ps qs h.1 k.1 (λ p. (λ there. (k.0 p).1 ((h.0 p).0 there), λ there. (h.0 p).1 ((k.0 p).0 there)))

-- the arrangements that are tried are one list
pub one_tried : (base : Tree) (vs : List Tree) (rs : List (Vertex × Tag)) (ps qs : List Tree) → IsProgram base → AllByRecursion IsProgram vs → AreSplitOff base vs rs
    → AreTriedOf rs base vs ps → AreTriedOf rs base vs qs → ps ≡ qs
one_tried base vs rs ps qs is all split (ranks, (rank, is_rank, e), are) (ranks', (rank', is_rank', e'), are') =
    let same : ranks ≡ ranks' = e ∙ ap (split_rank rs) (one_rank base vs rank rank' all is_rank is_rank') ∙ sym e' in
    let once : IsOnce ranks = subst (λ (r : List Vertex). IsOnce r) (sym e) (searched_once base vs is all rs split rank is_rank) in
    one_arrangements ranks once (searched_graph_of rs base vs) (searched_issued_of rs base vs) ps qs are
    (subst (λ (r : List Vertex). AreArrangements (searched_graph_of rs base vs) r (searched_issued_of rs base vs) qs) (sym same) are')
