-- What a call is sure to do where nothing fails.
--
-- DonePrinting P old new s          == the status is Done, and `out` took a text that has P in full
-- CompletesBy at say base vs tries old new s == the status and the text report an answer of the integration
--                                               of base and its variants, where `at` tells each conflict's
--                                               variant, point and edge and `say` gives their text. Where no
--                                               variants interfere, the first program that fits, of the
--                                               arrangements of what is searched that may be tried, is
--                                               printed; and the budget is not spent where there are no more
--                                               arrangements
-- Completes base a b tries old new s, CompletesMany base vs tries old new s == the same of two variants, and
--       of more
-- IsOnlyText base vs only bytes     == the text of the variant `only` with its finals ascending and, for each
--                                      author, the greatest issued number of all
-- IsOtherText base a b other bytes  == the text of the variant `other` with its finals ascending and, for
--                                      each author, the greatest issued number of the three
-- Runs p state steps trace old new s == the status is that of how the run went, and `out` took its text in
--                                       full
-- Tries base a b state steps old new s == the status and the text are those of a decision on the trial of the
--                                         three programs
-- Samples seed parts old new s == the status and the text are those of a decision on the sample
-- Verifies base a b offered old new s == the status and the text report a verdict on the offered program
-- RequestCompletes request files .. == that, where no state word is refused, each file of the request is of
--                                      an accepted length and spells a program, or a script that is one of
--                                      which no command is refused, no graph that the request needs has too
--                                      many edges, and each point is named
-- PrintsOther request files ..      == where one variant of an integration is the base and no graph has too
--                                      many edges, the other one is printed so; so is the one program that
--                                      each of many variants is, but those that are the base
-- UnlessFailed shelf_before .. s P    == where no read and no write failed in the call: P, unless memory ran
--                                        out
-- IsRefusedCall message s err       == the status is Refused, and `err` got the message; or memory ran out
use Rattle.std.specs.Prelude.{◌≡◌, ◌≢◌, ◌≤◌, ◌⊎◌, ℕ, Bool, List, [], ◌∷◌, All, Option, Ok, length, take}
use Rattle.hpr_io.specs.Counts.{Rose}
use Rattle.hpr_io.specs.Files.{Files, bytes_of}
use Rattle.hpr_io.specs.Taken.{taken_then}
use Rattle.hpr_terms.specs.declared.tag.Tag.{Tag}
use Rattle.hpr_syntax.specs.Grammar.{untagged}
use Rattle.hpr_syntax.specs.Run as means
use Rattle.hpr_syntax.specs.Tree.{Tree}
use Rattle.hpr_syntax.specs.Values.{Values}
use Rattle.hpr_syntax.specs.Print.{text}
use Rattle.hpr_graph.specs.declared.edge.Edge.{Edge}
use Rattle.hpr_graph.specs.declared.vertex.Vertex.{Vertex}
use Rattle.hpr_graph.specs.Answer.{AnswerBy, AreSplitOff, AreWithoutConflict, IsAnswerBy, IsFirstFit, issued_of_all, searched_graph_of}
use Rattle.hpr_graph.specs.Conflicts.{told_as}
use Rattle.hpr_graph.specs.Points.{IsAffected}
use Rattle.hpr_graph.specs.ProgramGraph.{graph_of}
use Rattle.hpr_graph.specs.Slices.{slice_of}
use Rattle.hpr_report.specs.AffectedText.{IsAffectedText}
use Rattle.hpr_inputs.specs.Decision.{Decision}
use Rattle.hpr_decisions.specs.Ends.{Change, Says, status_of, status_of_kind, text_of}
use Rattle.hpr_decisions.specs.GraphFile.{IsShown}
use Rattle.hpr_decisions.specs.SliceFile.{IsSliceShown}
use Rattle.hpr_engine.specs.Limit.{AreAllInLimit, AreInLimit, HasTooManyEdges}
use Rattle.hpr_engine.specs.Budget.{AreTriedOf}
use Rattle.hpr_engine.specs.OneSide.{IsOnlyChange}
use Rattle.hpr_rebuild.specs.Settled.{IsSettled}
use Rattle.hpr_report.specs.ConflictsText.{conflicts_text}
use Rattle.hpr_inputs.specs.ReadsAll.{AreAllFilesOf}
use Rattle.hpr_decisions.specs.Integrate.{report_by}
use Rattle.hpr_decisions.specs.IntegrateMany.{Told, told_text}
use Rattle.hpr_inputs.specs.Points.{IsNamed, IsPoint}
use Rattle.hpr_edit.specs.declared.command.Command.{Command}
use Rattle.hpr_edit.specs.Applied.{applied, becomes}
use Rattle.hpr_refusals.specs.Refusals.{IsFileIn, IsFileOf, IsScriptOf}
use Rattle.hpr_decisions.specs.RunFile.{kind_of}
use Rattle.hpr_inputs.specs.States.{states_of}
use Rattle.hpr_decisions.specs.TraceText.{run_text}
use Rattle.hpr_decisions.specs.TrialFiles.{IsTried}
use Rattle.hpr_sample.specs.Sample as made
use Rattle.hpr_decisions.specs.Sampled.{IsSampled}
use Rattle.hpr_decisions.specs.VerifyFiles.{IsVerified}
use Rattle.hpr_words.specs.Request.{Request, integrate, integrate_many, run, graph, slice, affected, trial, edit, tag, sample, verify}
use Rattle.hpr_decisions.specs.declared.status.Status.{Status}
use Rattle.hpr_decisions.specs.declared.status.Status.TheVariants.{Done, Refused, Spent, Memory}

abbrev pub DonePrinting : (List ℕ → Type 0) → Option (List ℕ) → Option (List ℕ) → Status → Type 0
DonePrinting P old new s = (s ≡ Done) × (bytes : List ℕ) × P bytes × (new ≡ taken_then old bytes)

pub record CompletesBy {X : Type 0} (at : X → ℕ × Vertex × Edge) (say : List X → List ℕ) (base : Tree) (vs : List Tree) (tries : ℕ) (old new : Option (List ℕ)) (s : Status) : Type 0 where
  pub answered : (x : AnswerBy X) × IsAnswerBy at base vs tries x × (s ≡ status_of (report_by say tries x)) × (new ≡ taken_then old (text_of (report_by say tries x)))
  pub first : AreWithoutConflict at base vs → (rs : List (Vertex × Tag)) (ps : List Tree) (m : Tree) → AreSplitOff base vs rs → AreTriedOf rs base vs ps
      → IsFirstFit (searched_graph_of rs base vs) (take tries ps) m → DonePrinting (λ bytes. bytes ≡ text m) old new s
  pub enough : AreWithoutConflict at base vs → (rs : List (Vertex × Tag)) (ps : List Tree) → AreSplitOff base vs rs → AreTriedOf rs base vs ps
      → length ps ≤ tries → s ≢ Spent

abbrev pub Completes : Tree → Tree → Tree → ℕ → Option (List ℕ) → Option (List ℕ) → Status → Type 0
Completes base a b = CompletesBy told_as conflicts_text base (a ∷ b ∷ [])

abbrev pub CompletesMany : Tree → List Tree → ℕ → Option (List ℕ) → Option (List ℕ) → Status → Type 0
CompletesMany = CompletesBy {X = Told} (λ t. t) told_text

abbrev pub IsOnlyText : Tree → List Tree → Tree → List ℕ → Type 0
IsOnlyText base vs only bytes = (m : Tree) × IsSettled (issued_of_all base vs) only m × (bytes ≡ text m)

abbrev pub IsOtherText : Tree → Tree → Tree → Tree → List ℕ → Type 0
IsOtherText base a b other bytes = IsOnlyText base (a ∷ b ∷ []) other bytes

abbrev pub Runs : Tree → Values → ℕ → Bool → Option (List ℕ) → Option (List ℕ) → Status → Type 0
Runs p state steps trace old new s =
    (s ≡ status_of_kind (kind_of (means.run p state steps))) × (new ≡ taken_then old (run_text p state steps trace))

abbrev pub Tries : Tree → Tree → Tree → Values → ℕ → Option (List ℕ) → Option (List ℕ) → Status → Type 0
Tries base a b state steps old new s = (d : Decision) × IsTried base a b state steps d × (s ≡ status_of d) × (new ≡ taken_then old (text_of d))

abbrev pub Samples : (seed parts : ℕ) → Option (List ℕ) → Option (List ℕ) → Status → Type 0
Samples seed parts old new s =
    let three = made.sample seed parts in
    (d : Decision) × IsSampled seed parts three.base three.a three.b d × (s ≡ status_of d) × (new ≡ taken_then old (text_of d))

abbrev pub Verifies : Tree → Tree → Tree → Tree → Option (List ℕ) → Option (List ℕ) → Status → Type 0
Verifies base a b offered old new s = (d : Decision) × IsVerified base a b offered d × (s ≡ status_of d) × (new ≡ taken_then old (text_of d))

abbrev pub RequestCompletes : Request → Files → Option (List ℕ) → Option (List ℕ) → Status → Type 0
RequestCompletes (integrate base a b tries) files old new s =
    (p q r : Tree) → IsFileOf (bytes_of files base) p → IsFileOf (bytes_of files a) q → IsFileOf (bytes_of files b) r → AreInLimit p q r
    → Completes p q r tries old new s
RequestCompletes (integrate_many base variants tries) files old new s =
    (p : Tree) (ps : List Tree) → IsFileOf (bytes_of files base) p → AreAllFilesOf files variants ps → AreAllInLimit (p ∷ ps) → CompletesMany p ps tries old new s
RequestCompletes (run file states steps trace) files old new s =
    (state : Values) (p : Tree) → states_of states ≡ Ok state → IsFileOf (bytes_of files file) p → Runs p state steps trace old new s
RequestCompletes (graph file json) files old new s =
    (p : Tree) → IsFileOf (bytes_of files file) p → (HasTooManyEdges p → ⊥) → DonePrinting (IsShown json (graph_of p)) old new s
RequestCompletes (slice file points program) files old new s =
    (p : Tree) → IsFileOf (bytes_of files file) p → (HasTooManyEdges p → ⊥) → All (IsNamed (graph_of p)) points
    → DonePrinting (IsSliceShown program p (slice_of (graph_of p) (IsPoint points))) old new s
RequestCompletes (affected base a) files old new s =
    (p q : Tree) → IsFileOf (bytes_of files base) p → IsFileOf (bytes_of files a) q → (HasTooManyEdges p → ⊥) → (HasTooManyEdges q → ⊥)
    → DonePrinting (IsAffectedText (IsAffected (graph_of q) (graph_of p))) old new s
RequestCompletes (trial base a b states steps) files old new s =
    (state : Values) (p q r : Tree) → states_of states ≡ Ok state → IsFileOf (bytes_of files base) p → IsFileOf (bytes_of files a) q → IsFileOf (bytes_of files b) r
    → AreInLimit p q r → Tries p q r state steps old new s
RequestCompletes (edit file script author) files old new s =
    (p q : Tree) (cs : List Command) → IsFileOf (bytes_of files file) p → IsScriptOf (bytes_of files script) cs → applied p cs author ≡ becomes q
    → DonePrinting (λ bytes. bytes ≡ text q) old new s
RequestCompletes (tag file author) files old new s =
    (p : Tree) → IsFileIn (untagged author) (bytes_of files file) p → DonePrinting (λ bytes. bytes ≡ text p) old new s
RequestCompletes (sample seed parts) files old new s =
    let three = made.sample seed parts in AreInLimit three.base three.a three.b → Samples seed parts old new s
RequestCompletes (verify base a b offered) files old new s =
    (p q r o : Tree) → IsFileOf (bytes_of files base) p → IsFileOf (bytes_of files a) q → IsFileOf (bytes_of files b) r → IsFileOf (bytes_of files offered) o
    → AreAllInLimit (p ∷ q ∷ r ∷ o ∷ []) → Verifies p q r o old new s

abbrev pub PrintsOther : Request → Files → Option (List ℕ) → Option (List ℕ) → Status → Type 0
PrintsOther (integrate base a b tries) files old new s =
    (p q r : Tree) → IsFileOf (bytes_of files base) p → IsFileOf (bytes_of files a) q → IsFileOf (bytes_of files b) r → AreInLimit p q r
    → (q ≡ p → DonePrinting (IsOtherText p q r r) old new s) × (r ≡ p → DonePrinting (IsOtherText p q r q) old new s)
PrintsOther (integrate_many base variants tries) files old new s =
    (p v : Tree) (ps : List Tree) → IsFileOf (bytes_of files base) p → AreAllFilesOf files variants ps → AreAllInLimit (p ∷ ps) → IsOnlyChange p ps v
    → DonePrinting (IsOnlyText p ps v) old new s
PrintsOther _ files old new s = Unit {0}

abbrev pub UnlessFailed : (shelf_before shelf_now out_before out_now : ℕ) → Status → Type 0 → Type 0
UnlessFailed shelf_before shelf_now out_before out_now s P = ¬ Rose shelf_before shelf_now → ¬ Rose out_before out_now → (s ≡ Memory) ⊎ P

abbrev pub IsRefusedCall : List ℕ → Status → Change → Type 0
IsRefusedCall message s err = (s ≡ Memory) ⊎ ((s ≡ Refused) × Says message err)
