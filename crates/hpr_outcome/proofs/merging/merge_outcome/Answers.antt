use Rattle.std.proofs.Common.{◌≡◌, ◌≤◌, ℕ, List, [], ◌∷◌, length, map, Option, refl, sym, ap, ◌∙◌, subst}
use Rattle.std.proofs.lemmas.Result.{IfOk-weaker}
use Rattle.hpr_terms.specs.declared.limits.TheConstants.{MAX_VARIANTS}
use Rattle.hpr_syntax.specs.Issued.{Issued}
use Rattle.hpr_syntax.specs.Tree.{Tree}
use Rattle.hpr_graph.specs.declared.conflict.Conflict.{Conflict}
use Rattle.hpr_graph.specs.declared.conflict.ManyConflict.{ManyConflict}
use Rattle.hpr_graph.specs.declared.edge.Edge.{Edge}
use Rattle.hpr_graph.specs.declared.vertex.Vertex.{Vertex}
use Rattle.hpr_graph.specs.Answer.{AnswerBy, AreWithoutConflict, HasParts, IsAnswerBy, IsFound, graphs_of, no_program, printed, spent}
use Rattle.hpr_graph.specs.Conflicts.{AreConflictsBy, told_many}
use Rattle.hpr_graph.specs.Numbered.{Numbered, graph_in, graphs_in}
use Rattle.hpr_graph.specs.ProgramGraph.{graph_of}
use Rattle.hpr_rebuild.specs.declared.clash.FirstClash.{FirstClash}
use Rattle.hpr_engine.specs.Made.{AreGraphsOf, IsGraphOf}
use Rattle.hpr_engine.proofs.Merge.{all_conflicts_of, all_merged, as_many, each_whole, whole_graph}
use Rattle.hpr_engine.proofs.SplitOff.{found_for}
use Rattle.hpr_engine.specs.declared.search.Searched.{Searched}
use Rattle.hpr_outcome.specs.declared.outcome.Outcome.{Outcome}
use Rattle.hpr_outcome.specs.declared.outcome.Sought.{Sought}
use Rattle.hpr_outcome.specs.Outcomes.{IfMerged, IfNoProgram, IfSpent, IsMergedBy, IsNoneBy, IsSoughtFor, IsSoughtFrom, IsSpentBy}
use Rattle.hpr_outcome.proofs.Told.{merged_weaker, none_weaker, sought_for, spent_weaker}
use Rattle.hpr_outcome.proofs.merging.merge_outcome.Goals as goal

abbrev Told : Type 0
Told = ℕ × Vertex × Edge

pub merge_many-requires-clause-least : goal.merge_many-requires-clause-least
merge_many-requires-clause-least c =
    subst (λ (n : ℕ). 2 ≤ n) (sym (as_many c.args.variants.now c.args.graphs.now c.requires.graphs)) c.requires.least

pub merge_many-requires-clause-most : goal.merge_many-requires-clause-most
merge_many-requires-clause-most c =
    subst (λ (n : ℕ). n ≤ MAX_VARIANTS) (sym (as_many c.args.variants.now c.args.graphs.now c.requires.graphs)) c.requires.most

pub merge_many-requires-clause-base : goal.merge_many-requires-clause-base
merge_many-requires-clause-base c = whole_graph c.args.base.now c.args.base_graph.now c.requires.base

pub merge_many-requires-clause-variants : goal.merge_many-requires-clause-variants
merge_many-requires-clause-variants c = each_whole c.args.variants.now c.args.graphs.now c.requires.graphs

no_conflict : (base : Tree) (vs : List Tree) (base_graph : Numbered) (gs : List Numbered) → IsGraphOf base base_graph → AreGraphsOf vs gs → (cs : List ManyConflict) → cs ≡ []
    → AreConflictsBy {X = Told} (λ t. t) (graph_in base_graph) (graphs_in gs) (map told_many cs) → AreWithoutConflict {X = Told} (λ t. t) base vs
no_conflict base vs base_graph gs base_is are cs none told =
    all_conflicts_of base base_graph vs gs base_is are {X = Told} (λ t. t) []
    (subst (λ (ds : List ManyConflict). AreConflictsBy {X = Told} (λ t. t) (graph_in base_graph) (graphs_in gs) (map told_many ds)) none told)

some_told : (cs : List ManyConflict) → ¬ (cs ≡ []) → ¬ (map told_many cs ≡ [])
some_told [] some is = some refl
some_told (d ∷ cs) some is = absurd cc

pub returns-else-are_none-clause-interference : goal.returns-else-are_none-clause-interference
returns-else-are_none-clause-interference c =
    let base = c.args.base.now in
    let vs = c.args.variants.now in
    let cs = c.in_ok-merged.merged.conflicts.items in (
      all_conflicts_of base c.args.base_graph.now vs c.args.graphs.now c.requires.base c.requires.graphs {X = Told} (λ t. t) (map told_many cs) c.in_ok-merged.ensures.conflicts,
      λ none. some_told cs (λ e. c.are_none.ensures.some c.if-are_none.false (c.deref.ensures.value ∙ e)) none,
    )

pub searched_for_all-requires-clause-graph : goal.searched_for_all-requires-clause-graph
searched_for_all-requires-clause-graph c =
    all_merged c.args.base.now c.args.base_graph.now c.args.variants.now c.args.graphs.now c.requires.base c.requires.graphs c.in_ok-merged.merged.graph c.in_ok-merged.ensures.graph

pub returns-in_ok-searched-clause-printed : goal.returns-in_ok-searched-clause-printed
returns-in_ok-searched-clause-printed c =
    let base = c.args.base.now in
    let vs = c.args.variants.now in
    let m = c.in_ok-searched.searched in
    let cs = c.in_ok-merged.merged.conflicts.items in
    let none : cs ≡ [] = sym c.deref.ensures.value ∙ c.are_none.ensures.none c.if-are_none.true in
    let free = no_conflict base vs c.args.base_graph.now c.args.graphs.now c.requires.base c.requires.graphs cs none c.in_ok-merged.ensures.conflicts in
    IfOk-weaker c.search.result _ _ (λ o h. merged_weaker o _ _ (λ p s it. (
      free,
      found_for Told base vs m m.rank.items refl c.args.tries (printed p) c.in_ok-searched.ensures.searched
          (subst (λ (g : Numbered). IsFound {X = Told} (graph_in g) m.rank.items m.issued c.args.tries (printed p)) it.0.0 it.1.0),
    )) h) c.search.ensures.merged

pub returns-in_ok-searched-clause-merged : goal.returns-in_ok-searched-clause-merged
returns-in_ok-searched-clause-merged c =
    let base = c.args.base.now in
    let vs = c.args.variants.now in
    let m = c.in_ok-searched.searched in
    IfOk-weaker c.search.result _ _ (λ o h. merged_weaker o _ _ (λ p s (from, found).
    sought_for base vs m s (λ rank issued. IsMergedBy rank issued c.args.tries p s) c.in_ok-searched.ensures.searched from found) h) c.search.ensures.merged

pub returns-in_ok-searched-clause-no_program : goal.returns-in_ok-searched-clause-no_program
returns-in_ok-searched-clause-no_program c =
    let base = c.args.base.now in
    let vs = c.args.variants.now in
    let m = c.in_ok-searched.searched in
    let cs = c.in_ok-merged.merged.conflicts.items in
    let none : cs ≡ [] = sym c.deref.ensures.value ∙ c.are_none.ensures.none c.if-are_none.true in
    let free = no_conflict base vs c.args.base_graph.now c.args.graphs.now c.requires.base c.requires.graphs cs none c.in_ok-merged.ensures.conflicts in
    IfOk-weaker c.search.result _ _ (λ o h. none_weaker o _ _ (λ s d it n parts. (
      free,
      found_for Told base vs m m.rank.items refl c.args.tries (no_program n) c.in_ok-searched.ensures.searched
          (subst (λ (g : Numbered). IsFound {X = Told} (graph_in g) m.rank.items m.issued c.args.tries (no_program n)) it.0.0 (it.1.0, parts)),
    )) h) c.search.ensures.no_program

pub returns-in_ok-searched-clause-none : goal.returns-in_ok-searched-clause-none
returns-in_ok-searched-clause-none c =
    let base = c.args.base.now in
    let vs = c.args.variants.now in
    let m = c.in_ok-searched.searched in
    IfOk-weaker c.search.result _ _ (λ o h. none_weaker o _ _ (λ s d (from, found).
    sought_for base vs m s (λ rank issued. IsNoneBy rank issued c.args.tries s d) c.in_ok-searched.ensures.searched from found) h) c.search.ensures.no_program

pub returns-in_ok-searched-clause-spent : goal.returns-in_ok-searched-clause-spent
returns-in_ok-searched-clause-spent c =
    let base = c.args.base.now in
    let vs = c.args.variants.now in
    let m = c.in_ok-searched.searched in
    let cs = c.in_ok-merged.merged.conflicts.items in
    let none : cs ≡ [] = sym c.deref.ensures.value ∙ c.are_none.ensures.none c.if-are_none.true in
    let free = no_conflict base vs c.args.base_graph.now c.args.graphs.now c.requires.base c.requires.graphs cs none c.in_ok-merged.ensures.conflicts in
    IfOk-weaker c.search.result _ _ (λ o h. spent_weaker o _ _ (λ s d it. (
      free,
      found_for Told base vs m m.rank.items refl c.args.tries spent c.in_ok-searched.ensures.searched
          (subst (λ (g : Numbered). IsFound {X = Told} (graph_in g) m.rank.items m.issued c.args.tries spent) it.0.0 it.1.0),
    )) h) c.search.ensures.spent

pub returns-in_ok-searched-clause-unfound : goal.returns-in_ok-searched-clause-unfound
returns-in_ok-searched-clause-unfound c =
    let base = c.args.base.now in
    let vs = c.args.variants.now in
    let m = c.in_ok-searched.searched in
    IfOk-weaker c.search.result _ _ (λ o h. spent_weaker o _ _ (λ s d (from, found).
    sought_for base vs m s (λ rank issued. IsSpentBy rank issued c.args.tries s d) c.in_ok-searched.ensures.searched from found) h) c.search.ensures.spent
