-- What hpr prints of a finding.
--
-- numbered c                == a conflict of one of two variants, by the number of its side: A is 1, B is 2
-- AreListed request cs text == the text is hpr's of these conflicts, where those of two variants have sides
-- shown_graph json vs es    == hpr's text of a graph, or its JSON where that is asked for
-- ShowsGraph request vs es text == the text is hpr's of this graph, as it is asked for
-- IsPrinted request f r     == hpr's decision r on the request is on the same finding: it prints it, a run
--                              behind its trace if there is one, or refuses with its message
-- FoundIsDecided            == what comes of one of the five commands is what hpr decides on it, unless a
--                              text that it comes to read isn't there
-- HasData request           == the request is of one of the five commands
-- DecidedIsFound            == what hpr decides on one of them comes of it, where all its texts are there
-- Agrees request files s    == s is the status of a decision of hpr on the request over these files
use Rattle.std.specs.Prelude.{◌≡◌, ◌≢◌, ◌+◌, ℕ, Bool, true, false, List, ◌++◌, All, IsSome, Some, codes, map}
use Rattle.serde_json.specs.Written.{compact_text}
use Rattle.hpr_io.specs.Files.{Files, lookup}
use Rattle.hpr_syntax.specs.Print.{text}
use Rattle.hpr_graph.specs.declared.conflict.Conflict.{Conflict}
use Rattle.hpr_graph.specs.declared.conflict.ManyConflict.{ManyConflict}
use Rattle.hpr_graph.specs.declared.edge.Edge.{Edge}
use Rattle.hpr_graph.specs.declared.vertex.Vertex.{Vertex}
use Rattle.hpr_graph.specs.Conflicts.{number_of}
use Rattle.hpr_refusals.specs.Reasons.{refusal_text}
use Rattle.hpr_report.specs.AffectedText.{affected_text}
use Rattle.hpr_report.specs.ConflictsText.{conflicts_text, many_conflicts_text}
use Rattle.hpr_report.specs.GraphJson.{graph_data}
use Rattle.hpr_report.specs.GraphTexts.{graph_text}
use Rattle.hpr_report.specs.Texts.{outcome_text}
use Rattle.hpr_words.specs.Request.{Request, affected, graph, integrate, integrate_many, run, verify}
use Rattle.hpr_inputs.specs.Decision.{Decision, prints, refuses}
use Rattle.hpr_inputs.specs.declared.answer.Kind.TheVariants as kind
use Rattle.hpr_decisions.specs.Ends as ends
use Rattle.hpr_decisions.specs.Graphs.{too_many_edges}
use Rattle.hpr_decisions.specs.Integrate.{no_program_text, spent_text}
use Rattle.hpr_decisions.specs.Outcome.{RequestOutcome}
use Rattle.hpr_decisions.specs.Reads.{files_of}
use Rattle.hpr_decisions.specs.RunFile.{kind_of}
use Rattle.hpr_decisions.specs.VerifyFiles.{report_verdict}
use Rattle.hpr_decisions.specs.declared.status.Status.{Status}
use Rattle.hpr_decisions.specs.declared.status.Status.TheVariants.{ReadFault, Words}
use Rattle.hpr_data.specs.Findings.{Finding, Finds, no_call, word_refused, absent, refused, too_large, merged, conflicting, unmatched, over_budget, affects, graphed, judged, ran}
use Rattle.hpr_data.specs.Told.{status_of}

abbrev pub numbered : Conflict → ManyConflict
numbered c = record { variant = number_of c.side + 1; point = c.point; edge = c.edge }

abbrev pub AreListed : Request → List ManyConflict → List ℕ → Type 0
AreListed (integrate base a b tries) cs shown = (ds : List Conflict) × (cs ≡ map numbered ds) × (shown ≡ conflicts_text ds)
AreListed _ cs shown = shown ≡ many_conflicts_text cs

abbrev pub shown_graph : Bool → List Vertex → List Edge → List ℕ
shown_graph true vs es = compact_text (graph_data vs es) ++ codes "\n"
shown_graph false vs es = graph_text vs es

abbrev pub ShowsGraph : Request → List Vertex → List Edge → List ℕ → Type 0
ShowsGraph (graph file json) vs es shown = shown ≡ shown_graph json vs es
ShowsGraph _ vs es shown = ⊥

abbrev pub IsPrinted : Request → Finding → Decision → Type 0
IsPrinted request no_call r = ⊥
IsPrinted request (word_refused message) r = r ≡ refuses message
IsPrinted request (absent file) r = ⊥
IsPrinted request (refused file why) r = r ≡ refuses (refusal_text file why)
IsPrinted request (too_large file) r = r ≡ refuses (too_many_edges file)
IsPrinted request (merged m) r = r ≡ prints kind.Done (text m)
IsPrinted request (conflicting cs) r = (shown : List ℕ) × AreListed request cs shown × (r ≡ prints kind.Interference shown)
IsPrinted request (unmatched n) r = r ≡ prints kind.NoProgram (no_program_text n)
IsPrinted request (over_budget tries) r = r ≡ prints kind.Spent (spent_text tries)
IsPrinted request (affects vs) r = r ≡ prints kind.Done (affected_text vs)
IsPrinted request (graphed vs es) r = (shown : List ℕ) × ShowsGraph request vs es shown × (r ≡ prints kind.Done shown)
IsPrinted request (judged v) r = r ≡ report_verdict v
IsPrinted request (ran o) r = (trace : List ℕ) × (r ≡ prints (kind_of o) (trace ++ outcome_text o))

abbrev pub FoundIsDecided : Type 0
FoundIsDecided =
    (request : Request) (files : Files) (f : Finding) → Finds (Some request) files f → status_of f ≢ Words → status_of f ≢ ReadFault
    → (r : Decision) × RequestOutcome request files r × IsPrinted request f r

abbrev pub HasData : Request → Type 0
HasData (integrate base a b tries) = Unit {0}
HasData (integrate_many base variants tries) = Unit {0}
HasData (affected base a) = Unit {0}
HasData (graph file json) = Unit {0}
HasData (verify base a b offered) = Unit {0}
HasData (run file words steps trace) = Unit {0}
HasData _ = ⊥

abbrev pub DecidedIsFound : Type 0
DecidedIsFound =
    (request : Request) (files : Files) (r : Decision) → HasData request → All (λ name. IsSome (lookup files name)) (files_of request) → RequestOutcome request files r
    → (f : Finding) × Finds (Some request) files f × IsPrinted request f r

abbrev pub Agrees : Request → Files → Status → Type 0
Agrees request files s = (r : Decision) × RequestOutcome request files r × (s ≡ ends.status_of r)
