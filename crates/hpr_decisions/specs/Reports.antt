-- The answers of an integration, as the status and the text tell them.
--
-- tries_of request              == the budget of tries of its integration
-- ConflictOf request            == what a conflict of its integration is: one of two variants with its side,
--                                  or else one of many with its variant's number
-- text_of_conflicts request cs  == the text of the conflicts
-- AnswersFiles at files base names tries x == base's file and the variants' spell programs whose graphs are
--                                             within the limit, and x is an answer of their integration,
--                                             where `at` tells each conflict's variant, point and edge
-- AnswersSample seed parts x    == the graphs of the programs of the sample are within the limit, and x is an
--                                  answer of their integration
-- HasAnswer request files x     == for `integrate`, and for `trial` where no state word is refused, or for
--                                  `sample`: x is such an answer
-- ConflictsIn base a b          == the bytes of three files spell programs whose graphs are within the limit,
--                                  and a point of one side is a conflict
-- ConflictsInSample seed parts   == the same of the programs of the sample
-- ConflictsInMany files base names == the same of base and the variants in these files, where a point of some
--                                     variant is a conflict
-- HasConflict request files     == for `integrate`, and for `trial` where no state word is refused, or for
--                                  `sample`: there is such a point
-- SpentIn files base names tries == base's file and the variants' spell programs, whose arrangements have
--                                   more leaves than tries, none of the first of which fits
-- HasSpentLeaves request files  == for the same commands: it is so of their programs
-- IsInterference request cs old new s == the status is Interference, and `out` took the text of all these
--                                        conflicts
use Rattle.std.specs.Prelude.{◌≡◌, ℕ, List, [], ◌∷◌, Option, Ok}
use Rattle.hpr_terms.specs.declared.limits.TheConstants.{DEFAULT_TRIES}
use Rattle.hpr_io.specs.Files.{Files, bytes_of}
use Rattle.hpr_io.specs.Taken.{taken_then}
use Rattle.hpr_syntax.specs.Tree.{Tree}
use Rattle.hpr_syntax.specs.Values.{Values}
use Rattle.hpr_graph.specs.declared.conflict.Conflict.{Conflict}
use Rattle.hpr_graph.specs.declared.conflict.Side.{Side}
use Rattle.hpr_graph.specs.declared.edge.Edge.{Edge}
use Rattle.hpr_graph.specs.declared.vertex.Vertex.{Vertex}
use Rattle.hpr_graph.specs.Answer as answer
use Rattle.hpr_graph.specs.Answer.{Answer, AnswerBy, IsAnswer, IsAnswerBy, graphs_of, merged_of, merged_of_all}
use Rattle.hpr_graph.specs.Conflicts.{IsConflictAt, graph_at, graph_on, told_as}
use Rattle.hpr_graph.specs.ProgramGraph.{graph_of}
use Rattle.hpr_engine.specs.Limit.{AreAllInLimit, AreInLimit}
use Rattle.hpr_report.specs.ConflictsText.{conflicts_text}
use Rattle.hpr_words.specs.Request.{Request, Text, integrate, integrate_many, trial, sample}
use Rattle.hpr_sample.specs.Sample as made
use Rattle.hpr_sample.specs.Sample.{IsSampleSize}
use Rattle.hpr_refusals.specs.Refusals.{IsFileOf}
use Rattle.hpr_inputs.specs.ReadsAll.{AreAllFilesOf}
use Rattle.hpr_inputs.specs.States.{states_of}
use Rattle.hpr_decisions.specs.IntegrateMany.{Told, told_text}
use Rattle.hpr_decisions.specs.declared.status.Status.{Status}
use Rattle.hpr_decisions.specs.declared.status.Status.TheVariants.{Interference}

abbrev pub tries_of : Request → ℕ
tries_of (integrate base a b tries) = tries
tries_of (integrate_many base variants tries) = tries
tries_of _ = DEFAULT_TRIES

abbrev pub ConflictOf : Request → Type 0
ConflictOf (integrate_many base variants tries) = Told
ConflictOf _ = Conflict

abbrev pub text_of_conflicts : (request : Request) → List (ConflictOf request) → List ℕ
text_of_conflicts (integrate_many base variants tries) cs = told_text cs
text_of_conflicts _ cs = conflicts_text cs

pub record AnswersFiles {X : Type 0} (at : X → ℕ × Vertex × Edge) (files : Files) (base : Text) (names : List Text) (tries : ℕ) (x : AnswerBy X) : Type 0 where
  pub p : Tree
  pub ps : List Tree
  pub base_is : IsFileOf (bytes_of files base) p
  pub variants_are : AreAllFilesOf files names ps
  pub within : AreAllInLimit (p ∷ ps)
  pub answer : IsAnswerBy at p ps tries x

pub record AnswersSample (seed parts : ℕ) (x : Answer) : Type 0 where
  pub size : IsSampleSize parts
  pub within : AreInLimit (made.sample seed parts).base (made.sample seed parts).a (made.sample seed parts).b
  pub answer : IsAnswer (made.sample seed parts).base (made.sample seed parts).a (made.sample seed parts).b DEFAULT_TRIES x

abbrev pub HasAnswer : (request : Request) → Files → AnswerBy (ConflictOf request) → Type 0
HasAnswer (integrate base a b tries) files x = AnswersFiles told_as files base (a ∷ b ∷ []) tries x
HasAnswer (integrate_many base variants tries) files x = AnswersFiles {X = Told} (λ t. t) files base variants tries x
HasAnswer (trial base a b states steps) files x =
    (state : Values) × (states_of states ≡ Ok state) × AnswersFiles told_as files base (a ∷ b ∷ []) DEFAULT_TRIES x
HasAnswer (sample seed parts) files x = AnswersSample seed parts x
HasAnswer _ files x = ⊥

pub record ConflictsIn (base a b : List ℕ) : Type 0 where
  pub p : Tree
  pub q : Tree
  pub r : Tree
  pub base_is : IsFileOf base p
  pub a_is : IsFileOf a q
  pub b_is : IsFileOf b r
  pub within : AreInLimit p q r
  pub side : Side
  pub point : Vertex
  pub conflict : IsConflictAt (merged_of p q r) (graph_on side (graph_of q) (graph_of r)) (graph_of p) point

pub record ConflictsInSample (seed parts : ℕ) : Type 0 where
  pub size : IsSampleSize parts
  pub within : AreInLimit (made.sample seed parts).base (made.sample seed parts).a (made.sample seed parts).b
  pub side : Side
  pub point : Vertex
  pub conflict : IsConflictAt (merged_of (made.sample seed parts).base (made.sample seed parts).a (made.sample seed parts).b)
      (graph_on side (graph_of (made.sample seed parts).a) (graph_of (made.sample seed parts).b)) (graph_of (made.sample seed parts).base) point

pub record ConflictsInMany (files : Files) (base : Text) (names : List Text) : Type 0 where
  pub p : Tree
  pub ps : List Tree
  pub base_is : IsFileOf (bytes_of files base) p
  pub variants_are : AreAllFilesOf files names ps
  pub within : AreAllInLimit (p ∷ ps)
  pub number : ℕ
  pub point : Vertex
  pub conflict : IsConflictAt (merged_of_all p ps) (graph_at (graphs_of ps) number) (graph_of p) point

abbrev pub HasConflict : Request → Files → Type 0
HasConflict (integrate base a b tries) files = ConflictsIn (bytes_of files base) (bytes_of files a) (bytes_of files b)
HasConflict (integrate_many base variants tries) files = ConflictsInMany files base variants
HasConflict (trial base a b states steps) files =
    (state : Values) × (states_of states ≡ Ok state) × ConflictsIn (bytes_of files base) (bytes_of files a) (bytes_of files b)
HasConflict (sample seed parts) files = ConflictsInSample seed parts
HasConflict _ files = ⊥

pub record SpentIn (files : Files) (base : Text) (names : List Text) (tries : ℕ) : Type 0 where
  pub p : Tree
  pub ps : List Tree
  pub base_is : IsFileOf (bytes_of files base) p
  pub variants_are : AreAllFilesOf files names ps
  pub spent : answer.HasSpentLeavesOf p ps tries

abbrev pub HasSpentLeaves : Request → Files → Type 0
HasSpentLeaves (integrate base a b tries) files = SpentIn files base (a ∷ b ∷ []) tries
HasSpentLeaves (integrate_many base variants tries) files = SpentIn files base variants tries
HasSpentLeaves (trial base a b states steps) files = SpentIn files base (a ∷ b ∷ []) DEFAULT_TRIES
HasSpentLeaves (sample seed parts) files =
    answer.HasSpentLeaves (made.sample seed parts).base (made.sample seed parts).a (made.sample seed parts).b DEFAULT_TRIES
HasSpentLeaves _ files = ⊥

abbrev pub IsInterference : (request : Request) → List (ConflictOf request) → Option (List ℕ) → Option (List ℕ) → Status → Type 0
IsInterference request cs old new s = (s ≡ Interference) × (new ≡ taken_then old (text_of_conflicts request cs))
