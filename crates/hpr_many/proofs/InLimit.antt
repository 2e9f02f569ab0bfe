-- The graphs of the variants one after another, up to the first that has too many edges.
use Rattle.std.proofs.Common.{◌≡◌, ℕ, suc, ◌+◌, ◌<◌, ◌≤◌, List, [], ◌∷◌, ◌++◌, length, drop, get_or, append_assoc, sym, ap, ◌∙◌, subst, arith}
use Rattle.std.proofs.lemmas.List.{append-nil}
use Rattle.hpr_syntax.specs.Tree.{Tree}
use Rattle.hpr_graph.specs.Numbered.{Numbered}
use Rattle.hpr_engine.specs.Limit.{AreAllInLimit, HasTooManyEdges, IsFirstTooLargeOf}
use Rattle.hpr_engine.specs.Made.{AreGraphsOf, IsGraphOf}
use Rattle.hpr_engine.proofs.InTurn.{next_to_come, none_to_come}
use Rattle.hpr_many.specs.Answers.{IsFirstTooLargeVariant}

-- so many variants have their graphs in the list, within the limit
pub record AreMade (vs : List Tree) (i : ℕ) (gs : List Numbered) : Type 0 where
  pub graphs : (hs : List Numbered) → AreGraphsOf (drop i vs) hs → AreGraphsOf vs (gs ++ hs)
  pub within : AreAllInLimit (drop i vs) → AreAllInLimit vs
  pub first : (k : ℕ) → IsFirstTooLargeOf (drop i vs) k → IsFirstTooLargeOf vs (i + k)

pub within_more : (p : Tree) (ps : List Tree) → ¬ HasTooManyEdges p → AreAllInLimit ps → AreAllInLimit (p ∷ ps)
within_more p [] own rest = own
within_more p (q ∷ ps) own rest = (own, rest)

module _ (vs : List Tree) (i : ℕ) (gs : List Numbered) (so_far : AreMade vs i gs) where
  module _ (v : Tree) (l : i < length vs) (is : v ≡ get_or vs i v) where
    next : v ∷ drop (i + 1) vs ≡ drop i vs
    next = sym (next_to_come vs i v l is)

    pub made_next : (g : Numbered) (new : List Numbered) → IsGraphOf v g → ¬ HasTooManyEdges v → new ≡ gs ++ g ∷ [] → AreMade vs (i + 1) new
    made_next g new made own items = record {
      graphs = λ hs are.
          subst (AreGraphsOf vs) (sym (ap (λ (fs : List Numbered). fs ++ hs) items ∙ append_assoc gs (g ∷ []) hs))
          (so_far.graphs (g ∷ hs) (subst (λ (ws : List Tree). AreGraphsOf ws (g ∷ hs)) next (made, are)));
      within = λ all. so_far.within (subst AreAllInLimit next (within_more v (drop (i + 1) vs) own all));
      first = λ k large.
          (let same : i + suc k ≡ i + 1 + k = omega arith in
          subst (IsFirstTooLargeOf vs) same (so_far.first (suc k) (subst (λ (ws : List Tree). IsFirstTooLargeOf ws (suc k)) next (own, large))));
    }

    -- the variant is the first whose graph is too large
    pub first_large : (n : ℕ) → n ≡ i + 1 → HasTooManyEdges v → IsFirstTooLargeVariant vs n
    first_large n same large =
        let here : i + 0 ≡ i = omega arith in
        let number : n ≡ suc i = omega (arith, same) in
        (i, number, subst (IsFirstTooLargeOf vs) here (so_far.first 0 (subst (λ (ws : List Tree). IsFirstTooLargeOf ws 0) next large)))

  module _ (l : length vs ≤ i) where
    pub made_all : AreGraphsOf vs gs
    made_all =
        subst (AreGraphsOf vs) (append-nil gs)
        (so_far.graphs [] (subst (λ (ws : List Tree). AreGraphsOf ws []) (sym (none_to_come vs i l)) tt))

    pub all_within : AreAllInLimit vs
    all_within = so_far.within (subst AreAllInLimit (sym (none_to_come vs i l)) tt)

-- base and the variants behind it
pub base_large : (base : Tree) (vs : List Tree) (n : ℕ) → n ≡ 0 → HasTooManyEdges base → IsFirstTooLargeOf (base ∷ vs) n
base_large base vs n none large = subst (IsFirstTooLargeOf (base ∷ vs)) (sym none) large

pub variant_large : (base : Tree) (vs : List Tree) (n : ℕ) → ¬ HasTooManyEdges base → IsFirstTooLargeVariant vs n → IsFirstTooLargeOf (base ∷ vs) n
variant_large base vs n own (at, same, large) = subst (IsFirstTooLargeOf (base ∷ vs)) (sym same) (own, large)
