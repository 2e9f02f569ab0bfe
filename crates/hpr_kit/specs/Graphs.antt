-- What is told of the graphs of programs.
--
-- HasTooManyEdges p          == the graph of the program p has more edges than are taken
-- OnGraph file p next a      == a refuses the file for that; or it isn't so, and a is what next says of p's
--                               graph, by numbers
-- OnGraphs files ps next a   == the same of several programs: a refuses the first file of which that is so;
--                               or it is what next says of all graphs
-- OnPoints g words next a    == a refuses the first word that is that for no vertex of g; or there is none,
--                               and a is what next says of the numbers of the vertices that the words name
-- left_out without           == the kinds of edges that a picture leaves out
-- IsGraphTold form p s g a   == a tells p's graph g in this form, with where the parts stand in s
-- IsImpactTold form g ns bytes s a == a tells what is reached from the vertices with the numbers ns: these
--                               points, or marks in the bytes of the file s
-- AreReasonsTold g base s a  == a tells the affected points of the graph g with their reasons
-- AreConflictsOf gs cs       == the list has the conflicts of the variants behind the first graph, which is
--                               base's, numbered from 1
-- AreConflictsTold gs ss a   == a tells these conflicts, with where the parts of base and of each variant
--                               stand
use Rattle.std.specs.Prelude.{◌≡◌, ◌⊎◌, ℕ, ◌≤◌, List, [], ◌∷◌, All, Contains, map}
use Rattle.serde_json.specs.Data.{Data}
use Rattle.hpr_terms.specs.declared.limits.TheConstants.{MAX_EDGES}
use Rattle.hpr_syntax.specs.Tree.{Tree}
use Rattle.hpr_graph.specs.declared.conflict.ManyConflict.{ManyConflict}
use Rattle.hpr_graph.specs.Conflicts.{AreConflictsBy, told_many}
use Rattle.hpr_graph.specs.Graphs.{HasMoreEdges, Same}
use Rattle.hpr_graph.specs.Numbered.{IsOneOf, Numbered, graph_in, graphs_in}
use Rattle.hpr_graph.specs.ProgramGraph.{graph_of}
use Rattle.hpr_graph.specs.Slices.{IsReached}
use Rattle.hpr_words.specs.Request.{Text}
use Rattle.hprkit_words.specs.declared.forms.GraphForm.{GraphForm}
use Rattle.hprkit_words.specs.declared.forms.GraphForm.TheVariants as graph_form
use Rattle.hprkit_words.specs.declared.forms.ImpactForm.{ImpactForm}
use Rattle.hprkit_words.specs.declared.forms.ImpactForm.TheVariants as impact_form
use Rattle.hprkit_words.specs.declared.forms.LeftOut as asked
use Rattle.hpr_report.specs.AffectedText.{IsAffectedText}
use Rattle.hpr_inputs.specs.Points.{IsFirstStranger, IsNamed, no_such_point}
use Rattle.hpr_inputs.specs.ReadsPoints.{AreNumbersFor}
use Rattle.hpr_json.specs.Answers.{json_line}
use Rattle.hpr_json.specs.Refusals.{edges_text}
use Rattle.hpr_located.specs.Sources.{Standing}
use Rattle.hpr_interference.specs.Answers.{Tells}
use Rattle.hpr_drawn.specs.Pictures.{IsPicture}
use Rattle.hpr_drawn.specs.Told.{IsToldGraph}
use Rattle.hpr_drawn.specs.declared.dot.LeftOut as drawn
use Rattle.hpr_impact.specs.Lines.{AreMarkedLines, BeginsIn}
use Rattle.hpr_impact.specs.Reasons.{AreReasons}
use Rattle.hpr_impact.specs.Shown.{IsImpactData, reasons_data}
use Rattle.hpr_impact.specs.declared.why.Reason.{Reason}
use Rattle.hpr_kit.specs.Answer.{Answer, prints, refuses}

abbrev pub HasTooManyEdges : Tree → Type 0
HasTooManyEdges p = HasMoreEdges (graph_of p) MAX_EDGES

abbrev pub OnGraph : Text → Tree → (Numbered → Type 0) → Answer → Type 0
OnGraph file p next a =
    (HasTooManyEdges p × (a ≡ refuses (edges_text file)))
    ⊎ ((¬ HasTooManyEdges p) × ((g : Numbered) × Same (graph_in g) (graph_of p) × next g))

abbrev pub OnGraphs : List Text → List Tree → (List Numbered → Type 0) → Answer → Type 0
OnGraphs (file ∷ files) (p ∷ ps) next a = OnGraph file p (λ g. OnGraphs files ps (λ gs. next (g ∷ gs)) a) a
OnGraphs _ _ next a = next []

abbrev pub OnPoints : Numbered → List Text → (List ℕ → Type 0) → Answer → Type 0
OnPoints g words next a =
    ((word : Text) × IsFirstStranger (IsNamed (graph_in g)) words word × (a ≡ refuses (no_such_point word)))
    ⊎ (All (IsNamed (graph_in g)) words × ((ns : List ℕ) × AreNumbersFor g words ns × next ns))

abbrev pub left_out : asked.LeftOut → drawn.LeftOut
left_out without = record { control = without.control; flow = without.flow; order = without.order }

abbrev pub IsGraphTold : GraphForm → Tree → Standing → Numbered → Answer → Type 0
IsGraphTold graph_form.Json p s g a =
    (d : Data) × IsToldGraph (s ∷ []) (graph_in g) d × (a ≡ prints (json_line d))
IsGraphTold (graph_form.Dot without) p s g a =
    (text : List ℕ) × IsPicture (left_out without) p (graph_in g) text × (a ≡ prints text)

abbrev pub IsImpactTold : ImpactForm → Numbered → List ℕ → List ℕ → Standing → Answer → Type 0
IsImpactTold impact_form.Points g ns bytes s a =
    (text : List ℕ) × IsAffectedText (IsReached (graph_in g) (IsOneOf g ns)) text × (a ≡ prints text)
IsImpactTold impact_form.Json g ns bytes s a =
    (d : Data) × IsImpactData (s ∷ []) (IsReached (graph_in g) (IsOneOf g ns)) d × (a ≡ prints (json_line d))
IsImpactTold impact_form.Marks g ns bytes s a =
    (text : List ℕ) × AreMarkedLines (BeginsIn s (IsReached (graph_in g) (IsOneOf g ns))) 1 bytes text
    × (a ≡ prints text)

abbrev pub AreReasonsTold : Numbered → Numbered → Standing → Answer → Type 0
AreReasonsTold g base s a =
    (rs : List Reason) × AreReasons (graph_in g) (graph_in base) rs
    × (a ≡ prints (json_line (reasons_data (s ∷ []) rs)))

abbrev pub AreConflictsOf : List Numbered → List ManyConflict → Type 0
AreConflictsOf [] cs = ⊥
AreConflictsOf (base ∷ gs) cs =
    AreConflictsBy (λ t. t) (graph_in base) (graphs_in gs) (map told_many cs)
    × ((c : ManyConflict) → Contains cs c → 1 ≤ c.variant)

abbrev pub AreConflictsTold : List Numbered → List Standing → Answer → Type 0
AreConflictsTold gs ss a =
    (cs : List ManyConflict) × (d : Data) × AreConflictsOf gs cs × Tells ss cs d × (a ≡ prints (json_line d))
