-- Where a change is the only one, the answer is the changed program; so where one of two variants is the base, it is the other one.
use Rattle.std.proofs.Common.{◌≡◌, ℕ, zero, suc, ◌≤◌, ◌⊎◌, inl, inr, List, [], ◌∷◌, ◌++◌, take, Contains, refl, sym, ◌∙◌, subst, arith}
use Rattle.std.specs.List.{AllByRecursion}
use Rattle.std.proofs.lemmas.List.Elements.{All-contains, All-from_recursion}
use Rattle.hpr_syntax.specs.Body.{Body}
use Rattle.hpr_syntax.specs.Issued.{Issued}
use Rattle.hpr_syntax.specs.Shape.{IsProgram}
use Rattle.hpr_syntax.specs.Tree.{Tree}
use Rattle.hpr_graph.specs.declared.vertex.Vertex.{Vertex}
use Rattle.hpr_graph.specs.Graphs.{Graph}
use Rattle.hpr_graph.specs.declared.edge.Edge.{Edge}
use Rattle.hpr_graph.specs.Conflicts.{told_as}
use Rattle.hpr_graph.specs.Rank.{parts_of, IsRankOf}
use Rattle.hpr_graph.specs.Arrangements.{AreArrangements}
use Rattle.hpr_graph.specs.Answer.{AnswerBy, Answer, interference, printed, no_program, spent, Fits, NoneFits, AreWithoutConflict, IsFound, IsFoundFor, graphs_of, merged_of_all, issued_of, issued_of_all, IsAnswer, IsAnswerBy}
use Rattle.hpr_graph.specs.ProgramGraph.{graph_of}
use Rattle.hpr_graph.proofs.Lists.{in_here}
use Rattle.hpr_order.proofs.Ranks.{rank_once}
use Rattle.hpr_rebuild.specs.Settled.{IsSettled}
use Rattle.hpr_rebuild.proofs.Member.{settled, settled_fits, member}
use Rattle.hpr_engine.specs.OneSide.{IsOnlyChange}
use Rattle.hpr_engine.proofs.FirstInRank.{KeepsOrder, first_in_rank, rank_keeps}
use Rattle.hpr_engine.proofs.OneList.{all_conflicts_one}
use Rattle.hpr_engine.proofs.OneSide.{a_alone, b_alone, free_when_kept, only_keeps}
use Rattle.hpr_engine.proofs.OneSideWhole.{only_whole}
use Rattle.hpr_engine.proofs.Premises.{proper_issued, parts_issued}
use Rattle.hpr_engine.proofs.SearchedFor.{fitting_content, found_whole}

first_taken : (q : Tree) (qs : List Tree) (tries : ℕ) → 1 ≤ tries → Contains (take tries (q ∷ qs)) q
first_taken q qs zero l = absurd (omega (arith, l))
first_taken q qs (suc n) l = in_here q (take n qs)

-- the first that fits, where the first of all fits
first_is : (g : Graph) (q : Tree) (qs ps front back : List Tree) (m : Tree) → ps ≡ q ∷ qs → ps ≡ front ++ m ∷ back → NoneFits g front → Fits g q → m ≡ q
first_is g q qs ps [] back m is split none fits = let e : q ∷ qs ≡ m ∷ back = sym is ∙ split in cc
first_is g q qs ps (f ∷ front) back m is split none fits =
    let e : q ∷ qs ≡ f ∷ (front ++ m ∷ back) = sym is ∙ split in
    let same : q ≡ f = cc in
    absurd (none f (in_here f front) (subst (Fits g) same fits))

-- the program p has the graph, and its parts stand in the order of each rank
module _ {X : Type 0} (at : X → ℕ × Vertex × Edge) (base : Tree) (vs : List Tree) (p : Tree) (is : IsProgram base) (all : AllByRecursion IsProgram vs) (is_p : IsProgram p)
    (free : AreWithoutConflict at base vs) (fits : Fits (merged_of_all base vs) p) (keeps : (r : List Vertex) → IsRankOf base vs r → KeepsOrder (parts_of p) r) where
  abbrev M : Graph
  M = merged_of_all base vs

  abbrev I : Issued
  I = issued_of_all base vs

  abbrev Unchanged : AnswerBy X → Type 0
  Unchanged r = (m : Tree) × (r ≡ printed m) × IsSettled I p m

  module _ (q : Tree) (s : IsSettled I p q) where
    order : (r : List Vertex) → KeepsOrder (parts_of p) r → KeepsOrder (parts_of q) r
    order r keeps_p = subst (λ (body : Body). KeepsOrder (parts_of (record { issued = q.issued; body = body; finals = q.finals })) r) s.body keeps_p

    first : (rank : List Vertex) (ps : List Tree) → IsRankOf base vs rank → AreArrangements M rank I ps → (qs : List Tree) × (ps ≡ q ∷ qs)
    first rank ps is_rank are =
        first_in_rank M rank I q (rank_once base vs rank is_rank all)
        (member M I p q is_p fits (proper_issued base vs is all) (parts_issued base vs is all) s) (order rank (keeps rank is_rank)) ps are

    -- what is found is p, made an arrangement
    found_is : (tries : ℕ) (r : AnswerBy X) (rank : List Vertex) → 1 ≤ tries → IsRankOf base vs rank → IsFound {X = X} M rank I tries r → Unchanged r
    found_is tries (interference xs) rank one is_rank never = absurd never
    found_is tries (no_program n) rank one is_rank (none, parts) = absurd (none p is_p fits)
    found_is tries spent rank one is_rank (ps, are, more, none, leaves) =
        let (qs, e) = first rank ps is_rank are in
        absurd (none q (subst (λ (l : List Tree). Contains (take tries l) q) (sym e) (first_taken q qs tries one)) (settled_fits M I p q fits s))
    found_is tries (printed m) rank one is_rank (ps, are, (front, back, split, fits_m, none)) =
        let (qs, e) = first rank ps is_rank are in
        let same : m ≡ q = first_is M q qs ps front back m e split none (settled_fits M I p q fits s) in
        (m, refl, subst (IsSettled I p) (sym same) s)

    found_for : (tries : ℕ) (r : AnswerBy X) → 1 ≤ tries → IsFoundFor {X = X} base vs tries r → Unchanged r
    found_for tries r one found =
        let (rank, is_rank, whole) = found_whole base vs (fitting_content M p is_p fits) tries r found in
        found_is tries r rank one is_rank whole

    unchanged : (tries : ℕ) (r : AnswerBy X) → 1 ≤ tries → IsAnswerBy at base vs tries r → Unchanged r
    unchanged tries (interference xs) one (are, some) = absurd (some (all_conflicts_one at (graph_of base) (graphs_of vs) xs [] are free))
    unchanged tries (no_program n) one (none_free, found) = found_for tries (no_program n) one found
    unchanged tries spent one (none_free, found) = found_for tries spent one found
    unchanged tries (printed m) one (none_free, found) = found_for tries (printed m) one found

  answer_is : (tries : ℕ) (r : AnswerBy X) → 1 ≤ tries → IsAnswerBy at base vs tries r → Unchanged r
  answer_is tries r one answer = let (q, s) = settled I p is_p in unchanged q s tries r one answer

-- where v is the only change, each variant is a program, and v's parts stand in each rank as in v
module _ (base v : Tree) where
  abbrev IsEither : Tree → Type 0
  IsEither w = (w ≡ base) ⊎ (w ≡ v)

  programs : (vs : List Tree) → AllByRecursion IsEither vs → IsProgram base → IsProgram v → AllByRecursion IsProgram vs
  programs [] each is is_v = tt
  programs (w ∷ ws) each is is_v = (elim each.0 [ inl same ↦ subst IsProgram (sym same) is | inr same ↦ subst IsProgram (sym same) is_v ], programs ws each.1 is is_v)

  order_kept : (vs : List Tree) → IsOnlyChange base vs v → (r : List Vertex) → IsRankOf base vs r → KeepsOrder (parts_of v) r
  order_kept vs (each, there) r is = rank_keeps base v vs r (λ w h. All-contains IsEither vs w (All-from_recursion IsEither vs each) h) there is

pub only_answer : {X : Type 0} (at : X → ℕ × Vertex × Edge) (base v : Tree) (vs : List Tree) (tries : ℕ) (r : AnswerBy X) → IsProgram base → IsProgram v → IsOnlyChange base vs v → 1 ≤ tries
    → IsAnswerBy at base vs tries r → (m : Tree) × (r ≡ printed m) × IsSettled (issued_of_all base vs) v m
only_answer at base v vs tries r is is_v only one answer =
    answer_is at base vs v is (programs base v vs only.0 is is_v) is_v (free_when_kept at base vs (only_keeps base v vs only is is_v))
    (only_whole base v vs only is is_v) (order_kept base v vs only) tries r one answer

pub b_unchanged : (base a : Tree) (tries : ℕ) (r : Answer) → IsProgram base → IsProgram a → 1 ≤ tries → IsAnswer base a base tries r
    → (m : Tree) × (r ≡ printed m) × IsSettled (issued_of base a base) a m
b_unchanged base a tries r is is_a one answer = only_answer told_as base a (a ∷ base ∷ []) tries r is is_a (a_alone base a) one answer

pub a_unchanged : (base b : Tree) (tries : ℕ) (r : Answer) → IsProgram base → IsProgram b → 1 ≤ tries → IsAnswer base base b tries r
    → (m : Tree) × (r ≡ printed m) × IsSettled (issued_of base base b) b m
a_unchanged base b tries r is is_b one answer = only_answer told_as base b (base ∷ b ∷ []) tries r is is_b (b_alone base b) one answer
