-- The laws of other tags of hpr's own runs: each is the law whatever the contents mean, by `standard`.
use Rattle.std.proofs.Common.{◌≡◌, ℕ, List, map, refl, sym, ap, ◌∙◌}
use Rattle.std.specs.List.{AllByRecursion}
use Rattle.hpr_terms.specs.declared.tag.Tag.{Tag}
use Rattle.hpr_syntax.specs.Issued.{Issued}
use Rattle.hpr_syntax.specs.Run.{run}
use Rattle.hpr_syntax.specs.Shape.{IsProgram}
use Rattle.hpr_syntax.specs.Tree.{Tree}
use Rattle.hpr_syntax.specs.Values.{Values}
use Rattle.hpr_graph.specs.declared.vertex.Vertex.{Vertex}
use Rattle.hpr_graph.specs.Answer.{Fits, AreSplitOff, graphs_of, searched_graph_of}
use Rattle.hpr_graph.specs.Conflicts.{HasNoConflict}
use Rattle.hpr_graph.specs.ProgramGraph.{graph_of}
use Rattle.hpr_meaning.specs.Any.Run as any
use Rattle.hpr_meaning.specs.Any.Standard.{standard, own_outcome}
use Rattle.hpr_meaning.specs.Instances.{instances}
use Rattle.hpr_meaning.specs.KeptLaw.{KeepsAll}
use Rattle.hpr_meaning.proofs.Standard.{standard_laws, run_is, keeps_standard}
use Rattle.hpr_rename.specs.Any.RenamedRuns as means
use Rattle.hpr_rename.specs.Renamed.{tree_with}
use Rattle.hpr_rename.specs.RenamedRuns.{outcome_with, instance_with}
use Rattle.hpr_rename.proofs.Courses as courses
use Rattle.hpr_rename.proofs.SplitKeeps as split

outcome_same : (f : Tag → Tag) (o : any.Outcome standard) → own_outcome (means.outcome_with standard f o) ≡ outcome_with f (own_outcome o)
outcome_same f (any.ends finals steps) = refl
outcome_same f (any.faults t fault steps) = refl
outcome_same f (any.more steps) = refl

pub renamed_run : (f : Tag → Tag) (issued : Issued) (t : Tree) (s : Values) (n : ℕ) → run (tree_with f issued t) s n ≡ outcome_with f (run t s n)
renamed_run f issued t s n =
    sym (run_is (tree_with f issued t) s n)
    ∙ (ap own_outcome (courses.renamed_run standard standard_laws f issued t s n)
    ∙ (outcome_same f (any.run standard t s n) ∙ ap (outcome_with f) (run_is t s n)))

pub renamed_instances : (f : Tag → Tag) (issued : Issued) (t : Tree) (s : Values) (n : ℕ) → instances (tree_with f issued t) s n ≡ map (instance_with f) (instances t s n)
renamed_instances f issued t s n = courses.renamed_instances standard standard_laws f issued t s n

pub split_kept : (base m : Tree) (vs : List Tree) (rs : List (Vertex × Tag)) → IsProgram base → AllByRecursion IsProgram vs → IsProgram m
    → HasNoConflict (graph_of base) (graphs_of vs)
    → AreSplitOff base vs rs → Fits (searched_graph_of rs base vs) m → KeepsAll base vs m
split_kept base m vs rs is all is_m free split_off fits =
    keeps_standard base m vs (split.split_kept standard standard_laws base m vs rs is all is_m free split_off fits)
