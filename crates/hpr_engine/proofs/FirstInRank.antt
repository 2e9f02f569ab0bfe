-- The program whose parts stand in the order of the rank is the first of the arrangements.
use Rattle.std.proofs.Common.{◌≡◌, ℕ, zero, suc, ◌<◌, inl, inr, ◌⊎◌, Option, Some, None, List, [], ◌∷◌, ◌++◌, map, length, Contains, slice_get, sym, ap, ◌∙◌, subst, arith}
use Rattle.hpr_terms.proofs.Facts.{compared}
use Rattle.hpr_syntax.specs.Issued.{Issued}
use Rattle.hpr_syntax.specs.Tree.{Tree}
use Rattle.hpr_graph.specs.declared.vertex.Vertex.{Vertex}
use Rattle.hpr_graph.specs.Graphs.{Graph, IsOnce}
use Rattle.hpr_graph.specs.Rank.{parts_of, StandsBefore, IsAddedAt, IsPutIn, IsJoined, AreJoined, IsFirstChanged, IsRankOf}
use Rattle.hpr_graph.specs.Arrangements.{IsArrangement, IsEarlier, AreArrangements}
use Rattle.hpr_graph.proofs.Lists.{contains_at, place_of, in_none, in_cons, in_here, in_later, get_longer}
use Rattle.hpr_order.proofs.Ranks.{first_within, parts_once}
use Rattle.hpr_rebuild.proofs.First.{at_middle, first_listed, in_front}
use Rattle.hpr_region.proofs.PartOrder.{part_says, says_part}

-- what stands so in one list stands so in the other
abbrev pub KeepsOrder : List Vertex → List Vertex → Type 0
KeepsOrder xs ys = (v w : Vertex) → StandsBefore xs v w → StandsBefore ys v w

module _ {X : Type 0} where
  -- where an item goes when another is put in
  pub moved : (front back : List X) (y : X) (i : ℕ) (x : X) → slice_get (front ++ back) i ≡ Some x
      → ((i < length front) × (slice_get (front ++ y ∷ back) i ≡ Some x)) ⊎ ((length front < suc i) × (slice_get (front ++ y ∷ back) (suc i) ≡ Some x))
  moved [] back y i x h = inr (omega arith, h)
  moved (z ∷ front) back y zero x h = inl (omega arith, h)
  moved (z ∷ front) back y (suc i) x h = elim (moved front back y i x h) [ inl l ↦ inl (omega (arith, l.0), l.1) | inr r ↦ inr (omega (arith, r.0), r.1) ]

put_keeps : (front back : List Vertex) (y : Vertex) → KeepsOrder (front ++ back) (front ++ y ∷ back)
put_keeps front back y v w (i, j, less, at_i, at_j) =
    elim (moved front back y i v at_i) [
      | inl l ↦ elim (moved front back y j w at_j) [ inl k ↦ (i, j, less, l.1, k.1) | inr k ↦ (i, suc j, omega (arith, less), l.1, k.1) ]
      | inr l ↦ elim (moved front back y j w at_j) [ inl k ↦ absurd (omega (arith, less, l.0, k.0)) | inr k ↦ (suc i, suc j, omega (arith, less), l.1, k.1) ]
    ]

added_keeps : (v : Vertex) (next : Option Vertex) (xs ys : List Vertex) → IsAddedAt v next xs ys → KeepsOrder xs ys
added_keeps v None xs ys is a b (i, j, less, at_i, at_j) =
    subst (λ (l : List Vertex). StandsBefore l a b) (sym is) (i, j, less, get_longer xs (v ∷ []) i a at_i, get_longer xs (v ∷ []) j b at_j)
added_keeps v (Some next) xs ys (front, back, was, is) a b before =
    subst (λ (l : List Vertex). StandsBefore l a b) (sym is)
    (put_keeps front (next ∷ back) v a b (subst (λ (l : List Vertex). StandsBefore l a b) was before))

put_in_keeps : (v : Vertex) (next : Option Vertex) (xs ys : List Vertex) → IsPutIn v next xs ys → KeepsOrder xs ys
put_in_keeps v next xs ys (inl (there, is)) a b before = subst (λ (l : List Vertex). StandsBefore l a b) (sym is) before
put_in_keeps v next xs ys (inr (new, added)) a b before = added_keeps v next xs ys added a b before

joined_keeps : (vs xs ys : List Vertex) → IsJoined vs xs ys → KeepsOrder xs ys
joined_keeps [] xs ys is a b before = subst (λ (l : List Vertex). StandsBefore l a b) (sym is) before
joined_keeps (v ∷ vs) xs ys (zs, joined, put) a b before = put_in_keeps v (slice_get vs 0) zs ys put a b (joined_keeps vs xs zs joined a b before)

all_joined_keeps : (ls : List (List Vertex)) (xs ys : List Vertex) → AreJoined ls xs ys → KeepsOrder xs ys
all_joined_keeps [] xs ys is v w before = subst (λ (l : List Vertex). StandsBefore l v w) (sym is) before
all_joined_keeps (vs ∷ []) xs ys joined v w before = joined_keeps vs xs ys joined v w before
all_joined_keeps (vs ∷ us ∷ ls) xs ys (zs, first, rest) v w before = all_joined_keeps (us ∷ ls) zs ys rest v w (joined_keeps vs xs zs first v w before)

-- where each variant is the base or p, p is the first that isn't base, or each is base
only_changed : (base p : Tree) (vs : List Tree) (first : Tree) → ((v : Tree) → Contains vs v → (v ≡ base) ⊎ (v ≡ p)) → Contains vs p → IsFirstChanged base vs first → first ≡ p
only_changed base p [] first each there is = absurd is
only_changed base p (v ∷ []) first each there is = elim (in_cons v p [] there) [ inl e ↦ is ∙ e | inr none ↦ absurd (in_none p none) ]
only_changed base p (v ∷ u ∷ vs) first each there (inl (same, later)) =
    elim (in_cons v p (u ∷ vs) there) [
      | inl e ↦ elim (each first (in_later v first (u ∷ vs) (first_within base (u ∷ vs) first later))) [ inl is_base ↦ is_base ∙ sym same ∙ e | inr is ↦ is ]
      | inr behind ↦ only_changed base p (u ∷ vs) first (λ w h. each w (in_later v w (u ∷ vs) h)) behind later
    ]
only_changed base p (v ∷ u ∷ vs) first each there (inr (other, is)) =
    elim (each v (in_here v (u ∷ vs))) [ inl same ↦ absurd (other same) | inr e ↦ is ∙ e ]

-- where each variant is the base or p, the parts of p stand in the rank as in p
pub rank_keeps : (base p : Tree) (vs : List Tree) (r : List Vertex) → ((v : Tree) → Contains vs v → (v ≡ base) ⊎ (v ≡ p)) → Contains vs p → IsRankOf base vs r → KeepsOrder (parts_of p) r
rank_keeps base p vs r each there (first, is, joined) =
    subst (λ (q : Tree). KeepsOrder (parts_of q) r) (only_changed base p vs first each there is)
    (λ v w before. all_joined_keeps (map parts_of (vs ++ base ∷ [])) (parts_of first) r joined v w before)

-- two arrangements have the same parts
same_parts : (g : Graph) (issued : Issued) (p q : Tree) → IsArrangement g issued p → IsArrangement g issued q → (v : Vertex) → Contains (parts_of p) v → Contains (parts_of q) v
same_parts g issued p q is_p is_q v h =
    let (t, c, e, says) = part_says p v h in
    subst (λ (w : Vertex). Contains (parts_of q) w) (sym e) (says_part q t c ((is_q.parts t c).1 ((is_p.parts t c).0 says)))

-- nothing stands before itself, nor two things before each other
pub never_both : (rank : List Vertex) (v w : Vertex) → IsOnce rank → StandsBefore rank v w → ¬ StandsBefore rank w v
never_both rank v w once (i, j, less, at_i, at_j) (k, l, less', at_k, at_l) = omega (arith, less, less', once i l v at_i at_l, once j k w at_j at_k)

pub never_itself : (rank : List Vertex) (v : Vertex) → IsOnce rank → ¬ StandsBefore rank v v
never_itself rank v once before = never_both rank v v once before before

-- no arrangement is earlier than the one whose parts stand in the order of the rank
module _ (g : Graph) (rank : List Vertex) (issued : Issued) (q : Tree) (once : IsOnce rank) (is : IsArrangement g issued q) (order : KeepsOrder (parts_of q) rank) where
  never_earlier : (r : Tree) → IsArrangement g issued r → ¬ IsEarlier rank r q
  never_earlier r is_r (front, ps, qs, v, w, parts_r, parts_q, before) =
      let once_r : IsOnce (front ++ v ∷ ps) = subst (λ (l : List Vertex). IsOnce l) parts_r (parts_once r is_r.program) in
      let in_r : Contains (parts_of r) v = contains_at (parts_of r) (length front) v (ap (λ (l : List Vertex). slice_get l (length front)) parts_r ∙ at_middle front v ps) in
      let (j, at_j) = place_of (parts_of q) v (same_parts g issued r q is_r is v in_r) in
      let there : slice_get (front ++ w ∷ qs) j ≡ Some v = subst (λ (l : List Vertex). slice_get l j ≡ Some v) parts_q at_j in
      elim (compared j (length front)) [
        | inl low ↦ (let e : j ≡ length front = once_r j (length front) v (in_front front (w ∷ qs) (v ∷ ps) j v low there) (at_middle front v ps) in omega (arith, low, e))
        | inr rest ↦ elim rest [
          | inl e ↦ (let same : Some w ≡ Some v = sym (at_middle front w qs) ∙ subst (λ (n : ℕ). slice_get (front ++ w ∷ qs) n ≡ Some v) e there in
              let is_w : w ≡ v = cc in never_itself rank v once (subst (λ (x : Vertex). StandsBefore rank v x) is_w before))
          | inr high ↦ never_both rank v w once before
              (order w v (length front, j, high, ap (λ (l : List Vertex). slice_get l (length front)) parts_q ∙ at_middle front w qs, at_j))
        ]
      ]

  pub first_in_rank : (ps : List Tree) → AreArrangements g rank issued ps → (qs : List Tree) × (ps ≡ q ∷ qs)
  first_in_rank ps are = first_listed g rank issued ps q are is never_earlier
