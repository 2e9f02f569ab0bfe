-- A base and its variants have an answer, and so have three programs.
use Rattle.std.proofs.Common.{ℕ, inl, inr, List, [], ◌∷◌, length, Contains, refl, sym, ap, subst}
use Rattle.std.specs.List.{AllByRecursion}
use Rattle.hpr_terms.specs.declared.tag.Tag.{Tag}
use Rattle.hpr_terms.proofs.Facts.{by_both}
use Rattle.hpr_syntax.specs.Issued.{Issued}
use Rattle.hpr_syntax.specs.Shape.{IsProgram}
use Rattle.hpr_syntax.specs.Tree.{Tree}
use Rattle.hpr_graph.specs.declared.vertex.Vertex.{Vertex}
use Rattle.hpr_graph.specs.declared.edge.Edge.{Edge}
use Rattle.hpr_graph.specs.Answer.{AnswerBy, Answer, interference, printed, no_program, Fits, IsFirstFit, IsPart, HasParts, AreSplitOff, graphs_of, merged_of_all, searched_graph_of, searched_issued_of, AreWithoutConflict, IsAnswerBy, IsAnswer}
use Rattle.hpr_graph.specs.Conflicts.{told_as, AreConflictsBy}
use Rattle.hpr_graph.specs.Graphs.{Graph}
use Rattle.hpr_graph.specs.Order.{vertex_cmp}
use Rattle.hpr_graph.specs.ProgramGraph.{graph_of}
use Rattle.hpr_graph.specs.Rank.{IsRankOf}
use Rattle.hpr_graph.specs.Split.{split_rank}
use Rattle.hpr_graph.proofs.Lists.{in_none, in_cons}
use Rattle.hpr_graph.proofs.VertexOrder.{vertex_total, vertex_tied, vertex_never}
use Rattle.hpr_graph.proofs.Bounded.{of_within}
use Rattle.hpr_rebuild.proofs.Member.{member, settled, settled_fits}
use Rattle.hpr_rebuild.proofs.SomeArrangements.{some_arrangements}
use Rattle.hpr_merge.proofs.SomeConflicts.{IsTellingOnce, some_conflicts_by, told_once}
use Rattle.hpr_graph.proofs.PutInOrder.{ascending, once_ascending}
use Rattle.hpr_order.proofs.SomeRank.{some_rank}
use Rattle.hpr_engine.proofs.SearchedFor.{searched_proper, searched_ranking, searched_serials, some_split_off, vertices_bounded}
use Rattle.hpr_engine.proofs.SplitParts.{split_bounded}

-- where some program of a list fits, one is the first
module _ (g : Graph) where
  abbrev HasFirst : List Tree → Type 0
  HasFirst ps = (m : Tree) × IsFirstFit g ps m

  first_more : (p : Tree) (ps : List Tree) → ¬ Fits g p → HasFirst ps → HasFirst (p ∷ ps)
  first_more p ps misfit (m, (front, back, is, fits, none)) = (
    m,
    (
      p ∷ front,
      back,
      ap (λ (l : List Tree). p ∷ l) is,
      fits,
      λ q there. elim (in_cons p q front there) [ inl e ↦ subst (λ (r : Tree). ¬ Fits g r) e misfit | inr later ↦ none q later ],
    ),
  )

  first_fit : (ps : List Tree) (q : Tree) → Contains ps q → Fits g q → ¬ (¬ HasFirst ps)
  first_fit [] q there fits n = in_none q there
  first_fit (p ∷ ps) q there fits n =
      by_both (Fits g p) (HasFirst (p ∷ ps))
      (λ here k. k (p, ([], ps, refl, here, λ r none. absurd (in_none r none))))
      (λ misfit k. elim (in_cons p q ps there) [
        | inl e ↦ misfit (subst (Fits g) (sym e) fits)
        | inr later ↦ first_fit ps q later fits (λ found. k (first_more p ps misfit found))
      ])
      n

-- where there is a rank, there is an answer
module _ {X : Type 0} (at : X → ℕ × Vertex × Edge) (once : IsTellingOnce at) (base : Tree) (vs : List Tree) (is : IsProgram base) (all : AllByRecursion IsProgram vs)
    (ranked : ¬ (¬ ((r : List Vertex) × IsRankOf base vs r))) (tries : ℕ) where
  abbrev M : Graph
  M = merged_of_all base vs

  abbrev Has : Type 0
  Has = (r : AnswerBy X) × IsAnswerBy at base vs tries r

  -- where a list of parts is split off, there is an answer
  module _ (rs : List (Vertex × Tag)) (split : AreSplitOff base vs rs) where
    abbrev G : Graph
    G = searched_graph_of rs base vs

    abbrev I : Issued
    I = searched_issued_of rs base vs

    some_count : ¬ (¬ ((n : ℕ) × HasParts G n))
    some_count n =
        ascending vertex_cmp vertex_total vertex_tied (λ v. G.vertex v × IsPart v) (of_within (λ v. G.vertex v × IsPart v) G.vertex (λ v h. h.0) (split_bounded rs M (vertices_bounded base vs))) (λ ws.
        n (length ws.0, (ws.0, once_ascending vertex_cmp vertex_never ws.0 ws.1, ws.2, refl)))

    -- where a program fits, an arrangement does
    some_printed : AreWithoutConflict at base vs → (p : Tree) → IsProgram p → Fits G p → ¬ (¬ Has)
    some_printed free p is_p fits n =
        ranked (λ rank.
        (let r : List Vertex = split_rank rs rank.0 in
        let ranks = searched_ranking base vs is all rs split rank.0 rank.1 in
        some_arrangements r ranks.once G I ranks.all (λ ps.
        (let q = settled I p is_p in
        let is_q = member G I p q.0 is_p fits (searched_proper base vs is all rs split) (searched_serials base vs is all rs split) q.1 in
        first_fit G ps.0 q.0 ((ps.1.0 q.0).1 is_q) (settled_fits G I p q.0 fits q.1) (λ first.
        n (printed first.0, (free, (rs, split, (r, (rank.0, rank.1, refl), (ps.0, ps.1, first.1))))))))))

    some_none : AreWithoutConflict at base vs → ((p : Tree) → IsProgram p → ¬ Fits G p) → ¬ (¬ Has)
    some_none free none n =
        ranked (λ rank. some_count (λ count. n (no_program count.0, (free, (rs, split, (split_rank rs rank.0, (rank.0, rank.1, refl), (none, count.1)))))))

    some_found : AreWithoutConflict at base vs → ¬ (¬ Has)
    some_found free =
        by_both ((p : Tree) × IsProgram p × Fits G p) Has
        (λ some. some_printed free some.0 some.1 some.2)
        (λ none. some_none free (λ p is_p fits. none (p, is_p, fits)))

  without_conflict : AreWithoutConflict at base vs → ¬ (¬ Has)
  without_conflict free n = some_split_off base vs (λ rs. some_found rs.0 rs.1 free n)

  pub some_answer_by : ¬ (¬ Has)
  some_answer_by n = some_conflicts_by at once base vs (λ found. of_list found.0 found.1)
    where
      of_list : (xs : List X) → AreConflictsBy at (graph_of base) (graphs_of vs) xs → ⊥
      of_list [] are = without_conflict are n
      of_list (x ∷ xs) are = n (interference (x ∷ xs), (are, λ e. absurd cc))

pub some_answer : (base a b : Tree) → IsProgram base → IsProgram a → IsProgram b → (tries : ℕ) → ¬ (¬ ((r : Answer) × IsAnswer base a b tries r))
some_answer base a b is is_a is_b tries =
    some_answer_by told_as told_once base (a ∷ b ∷ []) is (is_a, (is_b, tt)) (some_rank base (a ∷ b ∷ []) (λ e. absurd cc)) tries
