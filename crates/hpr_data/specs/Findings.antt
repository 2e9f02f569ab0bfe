-- What comes of a request over texts in memory.
--
-- Finding                   == what comes of it, one of these:
--   no_call                    it is none of the five commands
--   word_refused message       a word of the state is refused, with this message
--   absent file                no text has this name
--   refused file why           the text with this name is refused, for this cause
--   too_large file             the graph of its program has too many edges
--   merged m                   an integration made this program
--   conflicting cs             these are all conflicts, with the numbers of their variants from 1
--   unmatched n                no program has the merged graph, which has so many parts
--   over_budget tries          the budget of so many tries is spent
--   affects vs                 these are the affected points of a variant, in their order
--   graphed vs es              a graph has these vertices and these edges, in their order
--   judged v                   this is the verdict on a merged program that was made elsewhere
--   ran o                      a run went so
-- OnBytes told file next f  == there is no text, and f says so of this name; or it is refused for a cause,
--                              and f says so; or it spells a program, and f is what next says of it
-- OnText files file next f  == that of the first text with this name
-- OnAllTexts files names next f == that of all these names, in their order; next says it of their programs
-- OnEdges file p next f     == the graph of the program p has too many edges, and f says so of this name; or
--                              it hasn't, and f is what next says
-- OnAllEdges names ps next f == that of all these programs, in their order
-- OnWords told next f       == a word of the state is refused, and f says so; or f is what next says of it
-- finding_of tries x        == what is found by the answer x, within so many tries
-- Answers p ps tries f      == f is found by an answer of the integration of the variants ps with p
-- Integrated base p names ps tries f == that of the programs of these names, unless one of their graphs has
--                              too many edges
-- AffectsPoints p q f       == f is the affected points of the graph of q beside that of p
-- AffectedBetween base p a q f == that, unless one of their graphs has too many edges
-- IsGraphed p f             == f is the vertices and the edges of the graph of p
-- IsJudgedOf ps f           == f is a verdict on the last of four programs, which is offered, by the first,
--                              which is their base, and two variants
-- Verified names ps f       == that of the programs of these names, unless one of their graphs has too many
--                              edges
-- Integrates files base names tries f, Affects files base a f, Graphs files file f, Verifies files names f,
-- Runs files file words steps f == f comes of the command over these texts
-- Finds request files f     == f comes of the request over these texts; there is none where the words are no
--                              call
use Rattle.std.specs.Prelude.{◌≡◌, ◌⊎◌, ℕ, List, [], ◌∷◌, map, Option, Some, None, Result, Ok, Err}
use Rattle.hpr_io.specs.Files.{Files, lookup}
use Rattle.hpr_syntax.specs.Grammar.{tagged}
use Rattle.hpr_syntax.specs.Run as means
use Rattle.hpr_syntax.specs.Run.{Outcome}
use Rattle.hpr_syntax.specs.Tree.{Tree}
use Rattle.hpr_syntax.specs.Values.{Values}
use Rattle.hpr_graph.specs.declared.conflict.ManyConflict.{ManyConflict}
use Rattle.hpr_graph.specs.declared.edge.Edge.{Edge}
use Rattle.hpr_graph.specs.declared.vertex.Vertex.{Vertex}
use Rattle.hpr_graph.specs.Answer.{AnswerBy, interference, printed, no_program, spent}
use Rattle.hpr_graph.specs.InOrder.{AreEdgesOf, AreVerticesOf}
use Rattle.hpr_graph.specs.Points.{IsAffected}
use Rattle.hpr_graph.specs.ProgramGraph.{graph_of}
use Rattle.hpr_engine.specs.Limit.{HasTooManyEdges}
use Rattle.hpr_verify.specs.Verdict.{IsVerdict}
use Rattle.hpr_verify.specs.declared.verdict.Verdict.{Verdict}
use Rattle.hpr_report.specs.AffectedText.{ArePoints}
use Rattle.hpr_refusals.specs.Refusals.{IsCauseIn, IsFileOf}
use Rattle.hpr_refusals.specs.declared.files.Refusal.{Refusal}
use Rattle.hpr_words.specs.Request.{Request, Text, integrate, integrate_many, run, graph, affected, verify}
use Rattle.hpr_inputs.specs.States.{RefusedWord, refused_word_text, states_of}
use Rattle.hpr_decisions.specs.IntegrateMany.{IsAnswerOfMany, Told, conflict_of}

pub data Finding : Type 0 where
  no_call : Finding
  word_refused : (message : List ℕ) → Finding
  absent : (file : Text) → Finding
  refused : (file : Text) (why : Refusal) → Finding
  too_large : (file : Text) → Finding
  merged : (program : Tree) → Finding
  conflicting : (conflicts : List ManyConflict) → Finding
  unmatched : (parts : ℕ) → Finding
  over_budget : (tries : ℕ) → Finding
  affects : (points : List Vertex) → Finding
  graphed : (vertices : List Vertex) (edges : List Edge) → Finding
  judged : (verdict : Verdict) → Finding
  ran : (outcome : Outcome) → Finding

abbrev pub OnBytes : Option (List ℕ) → Text → (Tree → Type 0) → Finding → Type 0
OnBytes None file next f = f ≡ absent file
OnBytes (Some bytes) file next f =
    ((why : Refusal) × IsCauseIn tagged bytes why × (f ≡ refused file why)) ⊎ ((p : Tree) × IsFileOf bytes p × next p)

abbrev pub OnText : Files → Text → (Tree → Type 0) → Finding → Type 0
OnText files file next f = OnBytes (lookup files file) file next f

abbrev pub OnAllTexts : Files → List Text → (List Tree → Type 0) → Finding → Type 0
OnAllTexts files [] next f = next []
OnAllTexts files (file ∷ names) next f = OnText files file (λ p. OnAllTexts files names (λ ps. next (p ∷ ps)) f) f

abbrev pub OnEdges : Text → Tree → Type 0 → Finding → Type 0
OnEdges file p next f = (HasTooManyEdges p × (f ≡ too_large file)) ⊎ ((HasTooManyEdges p → ⊥) × next)

abbrev pub OnAllEdges : List Text → List Tree → Type 0 → Finding → Type 0
OnAllEdges (file ∷ names) (p ∷ ps) next f = OnEdges file p (OnAllEdges names ps next f) f
OnAllEdges [] ps next f = next
OnAllEdges (file ∷ names) [] next f = next

abbrev pub OnWords : Result Values RefusedWord → (Values → Type 0) → Finding → Type 0
OnWords (Ok state) next f = next state
OnWords (Err word) next f = f ≡ word_refused (refused_word_text word)

abbrev pub finding_of : ℕ → AnswerBy Told → Finding
finding_of tries (interference cs) = conflicting (map conflict_of cs)
finding_of tries (printed m) = merged m
finding_of tries (no_program n) = unmatched n
finding_of tries spent = over_budget tries

abbrev pub Answers : Tree → List Tree → ℕ → Finding → Type 0
Answers p ps tries f = (x : AnswerBy Told) × IsAnswerOfMany p ps tries x × (f ≡ finding_of tries x)

abbrev pub Integrated : Text → Tree → List Text → List Tree → ℕ → Finding → Type 0
Integrated base p names ps tries f = OnAllEdges (base ∷ names) (p ∷ ps) (Answers p ps tries f) f

abbrev pub Integrates : Files → Text → List Text → ℕ → Finding → Type 0
Integrates files base names tries f = OnText files base (λ p. OnAllTexts files names (λ ps. Integrated base p names ps tries f) f) f

abbrev pub AffectsPoints : Tree → Tree → Finding → Type 0
AffectsPoints p q f = (vs : List Vertex) × ArePoints (IsAffected (graph_of q) (graph_of p)) vs × (f ≡ affects vs)

abbrev pub AffectedBetween : Text → Tree → Text → Tree → Finding → Type 0
AffectedBetween base p a q f = OnEdges base p (OnEdges a q (AffectsPoints p q f) f) f

abbrev pub Affects : Files → Text → Text → Finding → Type 0
Affects files base a f = OnText files base (λ p. OnText files a (λ q. AffectedBetween base p a q f) f) f

abbrev pub IsGraphed : Tree → Finding → Type 0
IsGraphed p f = (vs : List Vertex) × (es : List Edge) × AreVerticesOf (graph_of p) vs × AreEdgesOf (graph_of p) es × (f ≡ graphed vs es)

abbrev pub Graphs : Files → Text → Finding → Type 0
Graphs files file f = OnText files file (λ p. OnEdges file p (IsGraphed p f) f) f

abbrev pub IsJudgedOf : List Tree → Finding → Type 0
IsJudgedOf (base ∷ a ∷ b ∷ offered ∷ []) f = (v : Verdict) × IsVerdict base a b offered v × (f ≡ judged v)
IsJudgedOf _ f = ⊥

abbrev pub Verified : List Text → List Tree → Finding → Type 0
Verified names ps f = OnAllEdges names ps (IsJudgedOf ps f) f

abbrev pub Verifies : Files → List Text → Finding → Type 0
Verifies files names f = OnAllTexts files names (λ ps. Verified names ps f) f

abbrev pub Runs : Files → Text → List Text → ℕ → Finding → Type 0
Runs files file words steps f =
    OnWords (states_of words) (λ state. OnText files file (λ p. f ≡ ran (means.run p state steps)) f) f

abbrev pub Finds : Option Request → Files → Finding → Type 0
Finds (Some (integrate base a b tries)) files f = Integrates files base (a ∷ b ∷ []) tries f
Finds (Some (integrate_many base variants tries)) files f = Integrates files base variants tries f
Finds (Some (affected base a)) files f = Affects files base a f
Finds (Some (graph file json)) files f = Graphs files file f
Finds (Some (verify base a b offered)) files f = Verifies files (base ∷ a ∷ b ∷ offered ∷ []) f
Finds (Some (run file words steps trace)) files f = Runs files file words steps f
Finds _ files f = f ≡ no_call
