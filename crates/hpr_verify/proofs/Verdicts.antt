-- Programs have one verdict.
use Rattle.std.proofs.Common.{◌≡◌, ◌↔◌, ℕ, zero, suc, List, [], ◌∷◌, ◌++◌, Result, Ok, Err, IfOk, sym, ap, subst}
use Rattle.hpr_terms.specs.declared.tag.Tag.{Tag}
use Rattle.hpr_syntax.specs.Meaning.{Keeps}
use Rattle.hpr_syntax.specs.Shape.{IsProgram}
use Rattle.hpr_syntax.specs.Tree.{Tree}
use Rattle.hpr_graph.specs.declared.conflict.Conflict.{Conflict}
use Rattle.hpr_graph.specs.declared.vertex.Vertex.{Vertex}
use Rattle.hpr_graph.specs.Answer.{IsWithoutConflict, searched_graph_of}
use Rattle.hpr_graph.specs.Conflicts.{AreConflicts}
use Rattle.hpr_graph.specs.Graphs.{Same}
use Rattle.hpr_graph.specs.Numbered.{Numbered, graph_in}
use Rattle.hpr_graph.specs.ProgramGraph.{graph_of}
use Rattle.hpr_engine.specs.declared.search.Searched.{Searched}
use Rattle.hpr_engine.specs.Limit.{IsFirstTooLargeOf}
use Rattle.hpr_engine.specs.Searched.{IsSearched}
use Rattle.hpr_engine.proofs.OneList.{one_conflicts}
use Rattle.hpr_engine.proofs.PrintedKeeps.{split_kept_two}
use Rattle.hpr_engine.proofs.SearchedFor.{one_split_off}
use Rattle.hpr_verify.specs.declared.error.VerifyError.{VerifyError}
use Rattle.hpr_verify.specs.declared.verdict.Verdict.{Verdict}
use Rattle.hpr_verify.specs.declared.verdict.Verdict.TheVariants as verdict
use Rattle.hpr_verify.specs.Difference.{IsDifference}
use Rattle.hpr_verify.specs.Refusals.{IsFirstOf}
use Rattle.hpr_verify.specs.Verdict.{HasSearchedGraph, IsJudged, IsVerdict}
use Rattle.hpr_verify.proofs.Differences.{difference_same, one_difference}

-- the first that is too large stays the first where more programs come behind it
pub first_of_more : (ps qs : List Tree) (n : ℕ) → IsFirstTooLargeOf ps n → IsFirstTooLargeOf (ps ++ qs) n
first_of_more [] qs n h = absurd h
first_of_more (p ∷ ps) qs zero h = h
first_of_more (p ∷ ps) qs (suc n) h = (h.0, first_of_more ps qs n h.1)

-- how the graph of the offered program differs from what is searched, by the graphs that were made
pub judged_from : (base a b offered : Tree) (g : Numbered) (s : Searched) (v : Verdict) → Same (graph_in g) (graph_of offered) → IsSearched base a b s → IsDifference (graph_in g) (graph_in s.graph) v → IsJudged base a b offered v
judged_from base a b offered g s v made (split, same, ranked, numbers) is =
    (s.renamed.items, split, difference_same (graph_in g) (graph_of offered) (graph_in s.graph) (searched_graph_of s.renamed.items base (a ∷ b ∷ [])) made same v is)

module _ (base a b offered : Tree) where
  abbrev Is : Verdict → Type 0
  Is = IsVerdict base a b offered

  abbrev Judged : Verdict → Type 0
  Judged = IsJudged base a b offered

  one_judged : (v w : Verdict) → Judged v → Judged w → v ≡ w
  one_judged v w (rs, split, is) (ss, split', is') =
      let same : ss ≡ rs = one_split_off base (a ∷ b ∷ []) ss rs split' split in
      one_difference (graph_of offered) (searched_graph_of rs base (a ∷ b ∷ [])) v w is
      (subst (λ (qs : List (Vertex × Tag)). IsDifference (graph_of offered) (searched_graph_of qs base (a ∷ b ∷ [])) w) same is')

  -- where there is no conflict, a verdict is how the graphs differ
  pub free_verdict : IsWithoutConflict base a b → (v : Verdict) → Judged v → Is v
  free_verdict free (verdict.Conflict c) (rs, split, none) = absurd none
  free_verdict free verdict.Same is = (free, is)
  free_verdict free (verdict.Vertex v h) is = (free, is)
  free_verdict free (verdict.Edge e h) is = (free, is)

  -- where there is one, the verdict is the first
  pub first_verdict : (cs : List Conflict) (v : Verdict) → AreConflicts (graph_of base) (graph_of a) (graph_of b) cs → IsFirstOf cs v → Is v
  first_verdict cs v are (c, rest, cs_are, v_is) =
      subst Is (sym v_is) (rest, subst (AreConflicts (graph_of base) (graph_of a) (graph_of b)) cs_are are)

  no_other : (c : Conflict) → Is (verdict.Conflict c) → ¬ IsWithoutConflict base a b
  no_other c (cs, are) free = let none = one_conflicts (graph_of base) (graph_of a) (graph_of b) (c ∷ cs) [] are free in cc

  pub one_verdict : (v w : Verdict) → Is v → Is w → v ≡ w
  one_verdict (verdict.Conflict c) (verdict.Conflict d) (cs, are) (ds, are') =
      let same = one_conflicts (graph_of base) (graph_of a) (graph_of b) (c ∷ cs) (d ∷ ds) are are' in
      let first : c ≡ d = cc in
      ap (λ (x : Conflict). verdict.Conflict x) first
  one_verdict (verdict.Conflict c) verdict.Same are (free, _) = absurd (no_other c are free)
  one_verdict (verdict.Conflict c) (verdict.Vertex v h) are (free, _) = absurd (no_other c are free)
  one_verdict (verdict.Conflict c) (verdict.Edge e h) are (free, _) = absurd (no_other c are free)
  one_verdict verdict.Same (verdict.Conflict c) (free, _) are = absurd (no_other c are free)
  one_verdict (verdict.Vertex v h) (verdict.Conflict c) (free, _) are = absurd (no_other c are free)
  one_verdict (verdict.Edge e h) (verdict.Conflict c) (free, _) are = absurd (no_other c are free)
  one_verdict verdict.Same verdict.Same (_, is) (_, is') = one_judged verdict.Same verdict.Same is is'
  one_verdict verdict.Same (verdict.Vertex v h) (_, is) (_, is') = one_judged verdict.Same (verdict.Vertex v h) is is'
  one_verdict verdict.Same (verdict.Edge e h) (_, is) (_, is') = one_judged verdict.Same (verdict.Edge e h) is is'
  one_verdict (verdict.Vertex v h) verdict.Same (_, is) (_, is') = one_judged (verdict.Vertex v h) verdict.Same is is'
  one_verdict (verdict.Vertex v h) (verdict.Vertex w k) (_, is) (_, is') = one_judged (verdict.Vertex v h) (verdict.Vertex w k) is is'
  one_verdict (verdict.Vertex v h) (verdict.Edge e k) (_, is) (_, is') = one_judged (verdict.Vertex v h) (verdict.Edge e k) is is'
  one_verdict (verdict.Edge e h) verdict.Same (_, is) (_, is') = one_judged (verdict.Edge e h) verdict.Same is is'
  one_verdict (verdict.Edge e h) (verdict.Vertex w k) (_, is) (_, is') = one_judged (verdict.Edge e h) (verdict.Vertex w k) is is'
  one_verdict (verdict.Edge e h) (verdict.Edge f k) (_, is) (_, is') = one_judged (verdict.Edge e h) (verdict.Edge f k) is is'

  -- it is that the graphs are the same exactly where they are
  pub same_exactly : (v : Verdict) → Is v → (v ≡ verdict.Same) ↔ HasSearchedGraph base a b offered
  same_exactly v is = (λ same. subst Is same is, λ has. one_verdict v verdict.Same is has)

  -- what is the same keeps the meaning
  pub keeps_when : IsWithoutConflict base a b → (r : Result Verdict VerifyError) → IfOk r Judged → IfOk r (λ _. IsProgram base) → IfOk r (λ _. IsProgram a) → IfOk r (λ _. IsProgram b) → IfOk r (λ _. IsProgram offered)
      → IfOk r (λ v. v ≡ verdict.Same → Keeps base a b offered)
  keeps_when free (Err e) judged is is_a is_b is_m = tt
  keeps_when free (Ok v) judged is is_a is_b is_m = λ same.
      (let (rs, split, fits) = subst Judged same judged in
      split_kept_two base a b offered rs is is_a is_b is_m free split fits)
