-- The program in whose order the rank begins is the first of the arrangements.
use Rattle.std.proofs.Common.{◌≡◌, ℕ, zero, suc, ◌<◌, Some, List, [], ◌∷◌, ◌++◌, length, slice_get, refl, sym, ap, ◌∙◌, arith, append_assoc}
use Rattle.hpr_syntax.specs.Body.{Body}
use Rattle.hpr_syntax.specs.Issued.{Issued}
use Rattle.hpr_syntax.specs.Tree.{Tree}
use Rattle.hpr_graph.specs.declared.vertex.Vertex.{Vertex}
use Rattle.hpr_graph.specs.Graphs.{Graph, IsOnce}
use Rattle.hpr_graph.specs.Arrangements.{IsArrangement, IsEarlier, AreArrangements}
use Rattle.hpr_graph.specs.Rank.{parts_of}
use Rattle.hpr_graph.proofs.Lists.{contains_at, place_of, in_none}
use Rattle.hpr_order.proofs.Ranks.{parts_once}
use Rattle.hpr_rebuild.specs.Settled.{IsSettled}

module _ {X : Type 0} where
  -- the item behind a front, and those of the front
  pub at_middle : (front : List X) (x : X) (back : List X) → slice_get (front ++ x ∷ back) (length front) ≡ Some x
  at_middle [] x back = refl
  at_middle (y ∷ front) x back = at_middle front x back

  pub in_front : (front back back' : List X) (i : ℕ) (x : X) → i < length front → slice_get (front ++ back) i ≡ Some x → slice_get (front ++ back') i ≡ Some x
  in_front [] back back' i x l h = absurd (omega (arith, l))
  in_front (y ∷ front) back back' zero x l h = h
  in_front (y ∷ front) back back' (suc i) x l h = in_front front back back' i x (omega (arith, l)) h

-- nothing is earlier than what stands in the order of the rank
never_earlier : (rank : List Vertex) (r q : Tree) (rest : List Vertex) → IsOnce rank → rank ≡ parts_of q ++ rest → IsOnce (parts_of r) → ¬ IsEarlier rank r q
never_earlier rank r q rest once begins once_r (front, ps, qs, v, w, is_r, is_q, (i, j, less, at_i, at_j)) =
    let whole : rank ≡ front ++ w ∷ (qs ++ rest) = begins ∙ ap (λ (xs : List Vertex). xs ++ rest) is_q ∙ append_assoc front (w ∷ qs) rest in
    let middle : slice_get rank (length front) ≡ Some w =
    ap (λ (xs : List Vertex). slice_get xs (length front)) whole ∙ at_middle front w (qs ++ rest) in
    let place : j ≡ length front = once j (length front) w at_j middle in
    let low : i < length front = omega (arith, less, place) in
    let in_r : slice_get (front ++ v ∷ ps) i ≡ Some v =
    in_front front (w ∷ (qs ++ rest)) (v ∷ ps) i v low (ap (λ (xs : List Vertex). slice_get xs i) (sym whole) ∙ at_i) in
    let same : i ≡ length front =
    once_r i (length front) v (ap (λ (xs : List Vertex). slice_get xs i) is_r ∙ in_r) (ap (λ (xs : List Vertex). slice_get xs (length front)) is_r ∙ at_middle front v ps) in
    omega (arith, same, low)

parts_by_body : (p q : Tree) → p.body ≡ q.body → parts_of p ≡ parts_of q
parts_by_body p q e = ap (λ (b : Body). parts_of (record { issued = p.issued; body = b; finals = p.finals })) e

-- an arrangement that no other is earlier than comes first
pub first_listed : (g : Graph) (rank : List Vertex) (issued : Issued) (ps : List Tree) (q : Tree) → AreArrangements g rank issued ps → IsArrangement g issued q
    → ((r : Tree) → IsArrangement g issued r → ¬ IsEarlier rank r q) → (qs : List Tree) × (ps ≡ q ∷ qs)
first_listed g rank issued [] q are is never = absurd (in_none q ((are.0 q).1 is))
first_listed g rank issued (r ∷ rs) q are is never = let (k, there) = place_of (r ∷ rs) q ((are.0 q).1 is) in at k there
  where
    at : (k : ℕ) → slice_get (r ∷ rs) k ≡ Some q → (qs : List Tree) × (r ∷ rs ≡ q ∷ qs)
    at zero there = (rs, let e : r ≡ q = cc in ap (λ (t : Tree). t ∷ rs) e)
    at (suc k) there = absurd (never r ((are.0 r).0 (contains_at (r ∷ rs) 0 r refl)) (are.1 0 (suc k) r q (omega arith) refl there))

pub first_of : (g : Graph) (rank : List Vertex) (issued : Issued) (ps : List Tree) (q : Tree) (rest : List Vertex) → AreArrangements g rank issued ps → IsOnce rank
    → IsArrangement g issued q → rank ≡ parts_of q ++ rest → (qs : List Tree) × (ps ≡ q ∷ qs)
first_of g rank issued ps q rest are once is begins =
    first_listed g rank issued ps q are is (λ r r_is. never_earlier rank r q rest once begins (parts_once r r_is.program))

-- where the rank begins with a program's parts in preorder
pub settled_first : (g : Graph) (rank : List Vertex) (issued : Issued) (ps : List Tree) (p q : Tree) (rest : List Vertex) → AreArrangements g rank issued ps → IsOnce rank
    → IsSettled issued p q → IsArrangement g issued q → rank ≡ parts_of p ++ rest → (qs : List Tree) × (ps ≡ q ∷ qs)
settled_first g rank issued ps p q rest are once s is begins =
    first_of g rank issued ps q rest are once is (begins ∙ ap (λ (xs : List Vertex). xs ++ rest) (parts_by_body p q s.body))
