-- What is told of a search is told of the programs that it is made of.
use Rattle.std.proofs.Common.{◌-◌, ◌≤◌, ◌≡◌, ℕ, List, Option, Some, None, Result, Ok, Err, IfOk, IfNone, IfSome, sym, ap, ◌∙◌, subst}
use Rattle.hpr_terms.specs.declared.memory.NoMemory.{NoMemory}
use Rattle.hpr_terms.specs.declared.tag.Tag.{Tag}
use Rattle.hpr_syntax.specs.Issued.{Issued}
use Rattle.hpr_syntax.specs.Tree.{Tree}
use Rattle.hpr_graph.specs.declared.conflict.Conflict.{Conflict}
use Rattle.hpr_graph.specs.declared.conflict.ManyConflict.{ManyConflict}
use Rattle.hpr_graph.specs.declared.vertex.Vertex.{Vertex}
use Rattle.hpr_graph.specs.Leaves.{AreLeavesSpent}
use Rattle.hpr_rebuild.specs.Tries.{AreSoMany, IsFoundWithin}
use Rattle.hpr_graph.specs.Answer.{AreSplitOff, HasNoProgram, IsFound, printed, spent, IsSearchedRankOf, searched_graph_of, searched_issued_of}
use Rattle.hpr_graph.specs.Graphs.{Same}
use Rattle.hpr_graph.specs.Numbered.{Numbered, graph_in}
use Rattle.hpr_rebuild.specs.declared.clash.FirstClash.{FirstClash}
use Rattle.hpr_rebuild.specs.FirstClash.{HasNoFirstClash, IsClashOf}
use Rattle.hpr_engine.specs.declared.search.Searched.{Searched}
use Rattle.hpr_engine.specs.Searched.{IsSearchedOf}
use Rattle.hpr_outcome.specs.declared.outcome.Outcome.{Outcome}
use Rattle.hpr_outcome.specs.declared.outcome.Outcome.TheVariants.{Interference, Merged, NoProgram, Spent}
use Rattle.hpr_outcome.specs.declared.outcome.Sought.{Sought}
use Rattle.hpr_outcome.specs.Outcomes.{IfMerged, IfNoProgram, IfSpent, IsClashTold, IsMergedBy, IsNoneBy, IsSoughtFor, IsSoughtFrom, IsSpentBy}

pub sought_for : (base : Tree) (vs : List Tree) (m : Searched) (s : Sought) (P : List Vertex → Issued → Type 0) → IsSearchedOf base vs m → IsSoughtFrom m s
    → P m.rank.items m.issued → IsSoughtFor base vs s P
sought_for base vs m s P (split, same, ranked, numbers) (graph, renamed) holds =
    let rs : s.renamed.items ≡ m.renamed.items = ap (λ v. v.items) renamed in (
      subst (λ (qs : List (Vertex × Tag)). AreSplitOff base vs qs) (sym rs) split,
      subst (λ (g : Numbered). Same (graph_in g) (searched_graph_of s.renamed.items base vs)) (sym graph)
          (subst (λ (qs : List (Vertex × Tag)). Same (graph_in m.graph) (searched_graph_of qs base vs)) (sym rs) same),
      (
        m.rank.items,
        subst (λ (qs : List (Vertex × Tag)). IsSearchedRankOf qs base vs m.rank.items) (sym rs) ranked,
        subst (P m.rank.items) (numbers ∙ ap (λ (qs : List (Vertex × Tag)). searched_issued_of qs base vs) (sym rs)) holds,
      ),
    )

pub merged_weaker : (o : Outcome) (P Q : Tree → Sought → Type 0) → ((p : Tree) (s : Sought) → P p s → Q p s) → IfMerged o P → IfMerged o Q
merged_weaker (Interference cs) P Q to h = tt
merged_weaker (Merged p s) P Q to h = to p s h
merged_weaker (NoProgram s c) P Q to h = tt
merged_weaker (Spent s c) P Q to h = tt

pub none_weaker : (o : Outcome) (P Q : Sought → Option FirstClash → Type 0) → ((s : Sought) (c : Option FirstClash) → P s c → Q s c) → IfNoProgram o P → IfNoProgram o Q
none_weaker (Interference cs) P Q to h = tt
none_weaker (Merged p s) P Q to h = tt
none_weaker (NoProgram s c) P Q to h = to s c h
none_weaker (Spent s c) P Q to h = tt

pub spent_weaker : (o : Outcome) (P Q : Sought → Option FirstClash → Type 0) → ((s : Sought) (c : Option FirstClash) → P s c → Q s c) → IfSpent o P → IfSpent o Q
spent_weaker (Interference cs) P Q to h = tt
spent_weaker (Merged p s) P Q to h = tt
spent_weaker (NoProgram s c) P Q to h = tt
spent_weaker (Spent s c) P Q to h = to s c h

-- the first clash is told, or that there is none
pub told_either_way : (g : Numbered) (rank : List Vertex) (issued : Issued) (r : Result (Option FirstClash) NoMemory) → IfOk r (λ o. IfSome o (IsClashOf g rank issued))
    → IfOk r (λ o. IfNone o (HasNoFirstClash (graph_in g) rank issued)) → IfOk r (IsClashTold g rank issued)
told_either_way g rank issued (Ok (Some f)) some none = some
told_either_way g rank issued (Ok None) some none = none
told_either_way g rank issued (Err e) some none = tt

-- what is found by the rank that the search was given is found for what is told
module _ (m : Searched) (s : Sought) (from : IsSoughtFrom m s) (rank : List Vertex) (is : rank ≡ m.rank.items) where
  told_by : (P : Numbered → List Vertex → ℕ → Type 0) (n : ℕ) → s.tries ≡ n → P m.graph rank n → P s.graph m.rank.items s.tries
  told_by P n count h =
      subst (λ (g : Numbered). P g m.rank.items s.tries) (sym from.0)
      (subst (λ (r : List Vertex). P m.graph r s.tries) is (subst (P m.graph rank) (sym count) h))

  pub merged_by : (tries n : ℕ) (p : Tree) → s.tries ≡ n
      → IsFound {X = Conflict} (graph_in m.graph) rank m.issued tries (printed p) × IsFoundWithin (graph_in m.graph) rank m.issued n p
      × AreLeavesSpent (graph_in m.graph) rank m.issued (n - 1) × (n ≤ tries)
      → IsMergedBy m.rank.items m.issued tries p s
  merged_by tries n p count h =
      told_by (λ g r k. IsFound {X = Conflict} (graph_in g) r m.issued tries (printed p) × IsFoundWithin (graph_in g) r m.issued k p
      × AreLeavesSpent (graph_in g) r m.issued (k - 1) × (k ≤ tries)) n count h

  told_clash : (o : Option FirstClash) → IsClashTold m.graph m.rank.items m.issued o → IsClashTold s.graph m.rank.items m.issued o
  told_clash o h = subst (λ (g : Numbered). IsClashTold g m.rank.items m.issued o) (sym from.0) h

  pub none_by : (tries n : ℕ) (o : Option FirstClash) → s.tries ≡ n
      → HasNoProgram (graph_in m.graph) × AreSoMany (graph_in m.graph) rank m.issued n × (n ≤ tries)
      → IsClashTold m.graph m.rank.items m.issued o → IsNoneBy m.rank.items m.issued tries s o
  none_by tries n o count h clash =
      let (none, many, few) =
      told_by (λ g r k. HasNoProgram (graph_in g) × AreSoMany (graph_in g) r m.issued k × (k ≤ tries)) n count h in
      (none, many, few, told_clash o clash)

  pub spent_by : (tries : ℕ) (o : Option FirstClash) → s.tries ≡ tries → IsFound {X = Conflict} (graph_in m.graph) rank m.issued tries spent
      → IsClashTold m.graph m.rank.items m.issued o → IsSpentBy m.rank.items m.issued tries s o
  spent_by tries o count h clash =
      (told_by (λ g r k. IsFound {X = Conflict} (graph_in g) r m.issued tries spent) tries count h, count, told_clash o clash)
