-- The parts of a graph in the order of a rank.
use Rattle.std.proofs.Common.{◌≡◌, ℕ, ◌+◌, ◌<◌, ◌≤◌, inl, inr, Some, List, [], ◌∷◌, ◌++◌, length, slice_get, refl, sym, ap, ◌∙◌, subst, arith}
use Rattle.std.proofs.lemmas.Bool.{cases_eq, cases_lt}
use Rattle.hpr_terms.proofs.Facts.{contains_at, place_of, at_push, at_end}
use Rattle.hpr_graph.specs.declared.vertex.Vertex.{Vertex}
use Rattle.hpr_graph.specs.declared.vertex.Vertex.TheVariants.{Part}
use Rattle.hpr_graph.specs.Answer.{IsPart}
use Rattle.hpr_graph.specs.Numbered.{Numbered, HasVertex, graph_in}
use Rattle.hpr_order.specs.Arranging.{IsRanking}
use Rattle.hpr_order.specs.Numbers.{ArePartsOf, AreRanked}
use Rattle.hpr_order.proofs.ListFacts.{one_get, get_within, push_old}

-- the numbers are those of the parts among the first of the rank, in its order
pub record IsRankedTo (g : Numbered) (rank : List Vertex) (index : ℕ) (numbers : List ℕ) : Type 0 where
  pub parts : (k n : ℕ) → slice_get numbers k ≡ Some n
      → (i : ℕ) × (v : Vertex) × (i < index) × (slice_get rank i ≡ Some v) × (slice_get g.vertices n ≡ Some v) × IsPart v
  pub all : (i n : ℕ) (v : Vertex) → i < index → slice_get rank i ≡ Some v → slice_get g.vertices n ≡ Some v → IsPart v → (k : ℕ) × (slice_get numbers k ≡ Some n)
  pub ranked : AreRanked g rank numbers

module _ (g : Numbered) (rank : List Vertex) where
  pub ranked_none : IsRankedTo g rank 0 []
  ranked_none = record {
    parts = λ k n e. absurd cc;
    all = λ i n v lt a b p. absurd (omega (arith, lt));
    ranked = λ k j n m v w lt a b c d. absurd cc;
  }

  pub ranked_skip : (index : ℕ) (numbers : List ℕ) (v : Vertex) → IsRankedTo g rank index numbers → slice_get rank index ≡ Some v → (IsPart v → ¬ HasVertex g v)
      → IsRankedTo g rank (index + 1) numbers
  ranked_skip index numbers v r here out = record {
    parts = λ k n e. (let (i, w, lt, a, b, p) = r.parts k n e in (i, w, omega (arith, lt), a, b, p));
    all = λ i n w lt a b p. elim (cases_eq i index) [
      | inl same ↦ absurd (
          let is : w ≡ v = one_get rank index w v (subst (λ z. slice_get rank z ≡ Some w) same a) here in
          out (subst IsPart is p) (contains_at g.vertices n v (b ∙ ap Some is)))
      | inr other ↦ r.all i n w (omega (arith, lt)) a b p
    ];
    ranked = r.ranked;
  }

  pub ranked_push : (index n : ℕ) (numbers more : List ℕ) (v : Vertex) → IsRankedTo g rank index numbers → slice_get rank index ≡ Some v → slice_get g.vertices n ≡ Some v → IsPart v
      → ((a b : ℕ) (u : Vertex) → slice_get g.vertices a ≡ Some u → slice_get g.vertices b ≡ Some u → a ≡ b) → more ≡ numbers ++ n ∷ [] → IsRankedTo g rank (index + 1) more
  ranked_push index n numbers more v r here at part once is = record {
    parts = λ k m e. elim (at_push numbers n k m (subst (λ z. slice_get z k ≡ Some m) is e)) [
      | inl old ↦ (let (i, w, lt, a, b, p) = r.parts k m old in (i, w, omega (arith, lt), a, b, p))
      | inr (_, same) ↦ (index, v, omega arith, here, subst (λ z. slice_get g.vertices z ≡ Some v) same at, part)
    ];
    all = λ i m w lt a b p. elim (cases_eq i index) [
      | inl same ↦ (
          let is_v : w ≡ v = one_get rank index w v (subst (λ z. slice_get rank z ≡ Some w) same a) here in
          let is_n : n ≡ m = once n m v at (b ∙ ap Some is_v) in
          (length numbers, subst (λ z. slice_get z (length numbers) ≡ Some m) (sym is) (at_end numbers n ∙ ap Some is_n)))
      | inr other ↦ (let (k, ek) = r.all i m w (omega (arith, lt)) a b p in (k, subst (λ z. slice_get z k ≡ Some m) (sym is) (push_old numbers n k m ek)))
    ];
    ranked = λ k j a b u w lt ea eb au bw. elim (at_push numbers n j b (subst (λ z. slice_get z j ≡ Some b) is eb)) [
      | inl old_j ↦ elim (at_push numbers n k a (subst (λ z. slice_get z k ≡ Some a) is ea)) [
        | inl old_k ↦ r.ranked k j a b u w lt old_k old_j au bw
        | inr (last, _) ↦ absurd (let within = get_within numbers j b old_j in omega (arith, lt, last, within))
      ]
      | inr (last, same) ↦ elim (at_push numbers n k a (subst (λ z. slice_get z k ≡ Some a) is ea)) [
        | inl old_k ↦ (
            let (i, x, less, ri, gi, p) = r.parts k a old_k in
            let is_u : x ≡ u = one_get g.vertices a x u gi au in
            let is_w : v ≡ w = one_get g.vertices b v w (subst (λ z. slice_get g.vertices z ≡ Some v) same at) bw in
            (i, index, less, ri ∙ ap Some is_u, here ∙ ap Some is_w))
        | inr (last_k, _) ↦ absurd (omega (arith, lt, last, last_k))
      ]
    ];
  }

  pub ranked_parts : (index : ℕ) (numbers : List ℕ) → IsRankedTo g rank index numbers → length rank ≤ index → IsRanking (graph_in g) rank → ArePartsOf g numbers
  ranked_parts index numbers r end ranking = record {
    parts = λ k n e. (let (i, v, lt, a, b, (t, c, is)) = r.parts k n e in (t, c, b ∙ ap Some is));
    all = λ n t c p.
        (let (i, ei) = place_of rank (Part t c) (ranking.all t c (contains_at g.vertices n (Part t c) p)) in
        let lt = get_within rank i (Part t c) ei in
        r.all i n (Part t c) (omega (arith, lt)) ei p (t, c, refl));
    once = λ i j n a b. elim (cases_eq i j) [
      | inl same ↦ same
      | inr differ ↦ absurd (elim (cases_lt i j) [
        | inl lt ↦ twice i j n lt a b
        | inr ge ↦ twice j i n (omega (arith, ge)) b a
      ])
    ];
  }
    where
      twice : (i j n : ℕ) → i < j → slice_get numbers i ≡ Some n → slice_get numbers j ≡ Some n → ⊥
      twice i j n lt a b =
          let (k, v, _, _, gv, _) = r.parts i n a in
          let (x, y, less, rx, ry) = r.ranked i j n n v v lt a b gv gv in
          let same : x ≡ y = ranking.once x y v rx ry in
          omega (arith, less)
