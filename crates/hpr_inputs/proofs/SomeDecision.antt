-- What is read leaves no case without a decision.
--
-- HasOne P == that there is a decision with P can't be refuted
use Rattle.std.proofs.Common.{◌≡◌, ◌⊎◌, ℕ, suc, length, ap, List, [], ◌∷◌, Result, Ok, Err, inl, inr, refl}
use Rattle.std.specs.List.{AllByRecursion}
use Rattle.std.proofs.lemmas.List.Elements.{All-from_recursion}
use Rattle.hpr_terms.proofs.Facts.{by_both}
use Rattle.hpr_io.specs.Files.{Files, bytes_of}
use Rattle.hpr_syntax.specs.Grammar.{tagged}
use Rattle.hpr_syntax.specs.Shape.{IsProgram}
use Rattle.hpr_syntax.specs.Tree.{Tree}
use Rattle.hpr_syntax.specs.Values.{Values}
use Rattle.hpr_text.proofs.SpelledProper.{tagged_proper}
use Rattle.hpr_graph.specs.Graphs.{Graph}
use Rattle.hpr_words.specs.Request.{Text}
use Rattle.hpr_refusals.specs.Refusals.{IsFileIn, IsRefusedIn}
use Rattle.hpr_refusals.proofs.SomeReading.{IsRead, reads_file}
use Rattle.hpr_inputs.specs.Decision.{Decision, OnRead, Prints, prints, refuses}
use Rattle.hpr_inputs.specs.declared.answer.Kind.TheVariants.{Done}
use Rattle.hpr_inputs.specs.Files.{OnAllFiles, OnFile, OnFiles}
use Rattle.hpr_inputs.specs.Points.{IsFirstStranger, IsNamed, OnPoints, no_such_point}
use Rattle.hpr_inputs.specs.States.{OnState, RefusedWord, refused_word_text}

abbrev pub HasOne : (Decision → Type 0) → Type 0
HasOne P = ¬ (¬ ((r : Decision) × P r))

-- what a file holds
pub on_read : {A : Type 0} (refused : List ℕ → Type 0) (is : A → Type 0) (next : A → Decision → Type 0) → ¬ (¬ IsRead refused is) → ((a : A) → is a → HasOne (next a))
    → HasOne (λ r. OnRead refused is (λ a. next a r) r)
on_read refused is next some decides n =
    some (λ which. elim which [
      | inl found ↦ n (refuses found.0, inl (found.0, found.1, refl))
      | inr read ↦ decides read.0 read.1 (λ found. n (found.0, inr (read.0, read.1, found.1)))
    ])

module _ (fs : Files) where
  pub on_file : (file : List ℕ) (next : Tree → Decision → Type 0) → ((p : Tree) → IsProgram p → HasOne (next p)) → HasOne (λ r. OnFile fs file (λ p. next p r) r)
  on_file file next decides =
      let bytes = bytes_of fs file in
      on_read (IsRefusedIn tagged file bytes) (IsFileIn tagged bytes) next (reads_file tagged file bytes (λ t is _. tagged_proper bytes t is))
      (λ p is. decides p is.program)

  -- three files, read in order
  pub on_files : (base a b : List ℕ) (next : Tree → Tree → Tree → Decision → Type 0) → ((p q s : Tree) → IsProgram p → IsProgram q → IsProgram s → HasOne (next p q s))
      → HasOne (λ r. OnFiles fs base a b (λ p q s. next p q s r) r)
  on_files base a b next decides =
      on_file base (λ p r. OnFile fs a (λ q. OnFile fs b (λ s. next p q s r) r) r) (λ p is_p.
      on_file a (λ q r. OnFile fs b (λ s. next p q s r) r) (λ q is_q.
      on_file b (λ s r. next p q s r) (λ s is_s. decides p q s is_p is_q is_s)))

  -- any number of files, read in order
  pub on_all_files : (named : List (List ℕ)) (next : List Tree → Decision → Type 0) → ((ps : List Tree) → length ps ≡ length named → AllByRecursion IsProgram ps → HasOne (next ps))
      → HasOne (λ r. OnAllFiles fs named (λ ps. next ps r) r)
  on_all_files [] next decides = decides [] refl tt
  on_all_files (file ∷ named) next decides =
      on_file file (λ p r. OnAllFiles fs named (λ ps. next (p ∷ ps) r) r) (λ p is_p.
      on_all_files named (λ ps. next (p ∷ ps)) (λ ps same are. decides (p ∷ ps) (ap suc same) (is_p, are)))

-- the state that words tell
pub on_state : (told : Result Values RefusedWord) (next : Values → Decision → Type 0) → ((state : Values) → HasOne (next state)) → HasOne (λ r. OnState told (λ state. next state r) r)
on_state (Ok state) next decides n = decides state n
on_state (Err refused) next decides n = n (refuses (refused_word_text refused), refl)

-- each list of words has a first stranger, or none
module _ (P : Text → Type 0) where
  abbrev HasStranger : List Text → Type 0
  HasStranger words = ((word : Text) × IsFirstStranger P words word) ⊎ AllByRecursion P words

  stranger : (words : List Text) → ¬ (¬ HasStranger words)
  stranger [] n = n (inr tt)
  stranger (w ∷ ws) n =
      by_both (P w) (HasStranger (w ∷ ws))
      (λ is k. stranger ws (λ rest. elim rest [ inl found ↦ k (inl (found.0, inr (is, found.1))) | inr all ↦ k (inr (is, all)) ]))
      (λ none k. k (inl (w, inl (none, refl)))) n

pub on_points : (g : Graph) (words : List Text) (next : Decision → Type 0) → HasOne next → HasOne (λ r. OnPoints g words (next r) r)
on_points g words next decides n =
    stranger (IsNamed g) words (λ which. elim which [
      | inl found ↦ n (refuses (no_such_point found.0), inl (found.0, found.1, refl))
      | inr all ↦ decides (λ rest. n (rest.0, inr (All-from_recursion (IsNamed g) words all, rest.1)))
    ])

-- what has a text is printed
pub printed : (P : List ℕ → Type 0) → ¬ (¬ ((text : List ℕ) × P text)) → HasOne (Prints P)
printed P some n = some (λ found. n (prints Done found.0, (found.0, found.1, refl)))
