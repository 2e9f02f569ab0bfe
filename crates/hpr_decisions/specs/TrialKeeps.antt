-- What a finished trial shows.
--
-- IsKeptTrial p q s state steps bytes == the bytes are the text of a trial of base p, its variants q and s
--                                        and their merged program m, where all four end, m within as many
--                                        steps as the three took together, and each row has what a variant
--                                        changed and what all three agree on
-- KeepsTrial request files bytes      == for `trial`: the bytes are such a text, of the state that the words
--                                        tell and the programs that the files spell
-- EndsTrial request files s           == for `trial`: where these three programs end, the status isn't
--                                        NotEnded
use Rattle.std.specs.Prelude.{◌≡◌, ◌≢◌, ℕ, ◌+◌, List, ◌++◌, All, Ok, map, codes}
use Rattle.hpr_terms.specs.declared.limits.TheConstants.{DEFAULT_TRIES}
use Rattle.hpr_io.specs.Files.{Files, bytes_of}
use Rattle.hpr_syntax.specs.Grammar.{tagged}
use Rattle.hpr_syntax.specs.Meaning.{Ends}
use Rattle.hpr_syntax.specs.Run.{FinalValues, ends}
use Rattle.hpr_syntax.specs.Run as means
use Rattle.hpr_syntax.specs.Spelling.{Spells}
use Rattle.hpr_syntax.specs.Tree.{Tree}
use Rattle.hpr_syntax.specs.Values.{Values}
use Rattle.hpr_graph.specs.Answer.{IsAnswer, printed}
use Rattle.hpr_report.specs.GraphTexts.{on_lines}
use Rattle.hpr_report.specs.TableText.{Row, AreRows, IsKeptIn, table_line}
use Rattle.hpr_words.specs.Request.{Request, trial}
use Rattle.hpr_inputs.specs.States.{states_of}
use Rattle.hpr_decisions.specs.TrialFiles.{three_lines, trial_line}
use Rattle.hpr_decisions.specs.declared.status.Status.{Status}
use Rattle.hpr_decisions.specs.declared.status.Status.TheVariants.{NotEnded}

pub record IsKeptTrial (p q s : Tree) (state : Values) (steps : ℕ) (bytes : List ℕ) : Type 0 where
  pub m : Tree
  pub answer : IsAnswer p q s DEFAULT_TRIES (printed m)
  pub base : FinalValues
  pub a : FinalValues
  pub b : FinalValues
  pub merged : FinalValues
  pub base_steps : ℕ
  pub a_steps : ℕ
  pub b_steps : ℕ
  pub merged_steps : ℕ
  pub base_ends : means.run p state steps ≡ ends base base_steps
  pub a_ends : means.run q state steps ≡ ends a a_steps
  pub b_ends : means.run s state steps ≡ ends b b_steps
  pub merged_ends : means.run m state (base_steps + a_steps + b_steps) ≡ ends merged merged_steps
  pub rows : List Row
  pub are_rows : AreRows base a b merged rows
  pub kept : All IsKeptIn rows
  pub text : bytes ≡ three_lines (ends base base_steps) (ends a a_steps) (ends b b_steps) ++ trial_line (codes "merged ") (ends merged merged_steps) ++ on_lines (map table_line rows)

abbrev pub KeepsTrial : Request → Files → List ℕ → Type 0
KeepsTrial (trial base a b states steps) files bytes =
    (state : Values) (p q s : Tree) → states_of states ≡ Ok state → Spells tagged (bytes_of files base) p → Spells tagged (bytes_of files a) q → Spells tagged (bytes_of files b) s
    → IsKeptTrial p q s state steps bytes
KeepsTrial _ files bytes = Unit {0}

abbrev pub EndsTrial : Request → Files → Status → Type 0
EndsTrial (trial base a b states steps) files s =
    (state : Values) (p q r : Tree) (f0 f1 f2 : FinalValues) → states_of states ≡ Ok state
    → Spells tagged (bytes_of files base) p → Spells tagged (bytes_of files a) q → Spells tagged (bytes_of files b) r
    → Ends p state steps f0 → Ends q state steps f1 → Ends r state steps f2 → s ≢ NotEnded
EndsTrial _ files s = Unit {0}
