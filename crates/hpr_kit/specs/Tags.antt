-- A text in which some parts have no tag, and the tags of an author in it.
--
-- Suffices author bytes       == the bytes aren't too many, and the author has a serial for each part that
--                                has no tag
-- IsTagged author bytes p     == that is so, and with these tags the bytes spell the program p
-- IsSpent author bytes        == the bytes aren't too many, and the author has too few serials
-- IsTagCause author bytes why == the bytes are too many; or they suffice, and with the tags they spell no
--                                tree, with this place in the bytes as they were written; or a tree that
--                                is no program, and this is the first test that it fails
-- IsTagging author keep bytes t == with the tags the bytes spell a program, and so does the text t: its
--                                canonical text; or the bytes with the tags, if these aren't too many
use Rattle.std.specs.Prelude.{◌≡◌, ℕ, ◌≤◌, ◌<◌, Bool, true, false, List, length}
use Rattle.hpr_terms.specs.declared.limits.TheConstants.{MAX_FILE, TAG_NUMBERS}
use Rattle.hpr_syntax.specs.Grammar.{tagged}
use Rattle.hpr_syntax.specs.Print.{text}
use Rattle.hpr_syntax.specs.Shape.{IsProgram}
use Rattle.hpr_syntax.specs.Spelling.{Spells}
use Rattle.hpr_syntax.specs.Tree.{Tree}
use Rattle.hpr_text.specs.Answers.{IsMisshapen}
use Rattle.hpr_tagging.specs.Answers.{IsRefusedAt}
use Rattle.hpr_tagging.specs.Tagging.{changes_in, kept, last_in}
use Rattle.hpr_refusals.specs.Refusals.{IsFileOf}
use Rattle.hpr_refusals.specs.declared.files.Refusal.{Refusal}
use Rattle.hpr_refusals.specs.declared.files.Refusal.TheVariants as refusal

pub record Suffices (author : ℕ) (bytes : List ℕ) : Type 0 where
  pub short : length bytes ≤ MAX_FILE
  pub serials : last_in author bytes < TAG_NUMBERS

pub record IsTagged (author : ℕ) (bytes : List ℕ) (p : Tree) : Type 0 where
  pub suffices : Suffices author bytes
  pub spelled : Spells tagged (kept author bytes) p
  pub program : IsProgram p

pub record IsSpent (author : ℕ) (bytes : List ℕ) : Type 0 where
  pub short : length bytes ≤ MAX_FILE
  pub spent : TAG_NUMBERS ≤ last_in author bytes

abbrev pub IsTagCause : ℕ → List ℕ → Refusal → Type 0
IsTagCause author bytes refusal.Longer = MAX_FILE < length bytes
IsTagCause author bytes (refusal.Syntax n) =
    Suffices author bytes × IsRefusedAt author bytes (changes_in author bytes) n
IsTagCause author bytes (refusal.Shape error) =
    Suffices author bytes × IsMisshapen tagged (kept author bytes) error

abbrev pub IsTagging : ℕ → Bool → List ℕ → List ℕ → Type 0
IsTagging author false bytes t =
    (p : Tree) × IsTagged author bytes p × (t ≡ text p) × Spells tagged t p
IsTagging author true bytes t =
    (p : Tree) × IsTagged author bytes p × (t ≡ kept author bytes) × IsFileOf t p
