-- Files read one after another: what each says of the outcome.
use Rattle.std.proofs.Common.{◌≡◌, ℕ, List, arith, refl, ◌∙◌, subst, inl, inr, Option, Ok, Err, Result, string_bytes}
use Rattle.hpr_io.specs.Files.{Files, bytes_of}
use Rattle.hpr_syntax.specs.Tree.{Tree}
use Rattle.hpr_inputs.specs.Decision.{Decision, OnRead}
use Rattle.hpr_inputs.specs.Files.{OnFile}
use Rattle.hpr_inputs.specs.ReadsFile.{Fails, FailsBy}
use Rattle.hpr_inputs.specs.Reads.{IfTold, SpellsProgram}
use Rattle.hpr_refusals.specs.Refusals.{IsFileOf, IsRefused}
use Rattle.hpr_inputs.specs.Answer.{StopIs, Decides, Merges}
use Rattle.hpr_inputs.specs.declared.answer.Report.{Report}
use Rattle.hpr_inputs.specs.declared.answer.Stop.{Stop}
use Rattle.hpr_inputs.specs.declared.answer.Stop.TheVariants as stop

abbrev pub FileOf : Option Files → List ℕ → Tree → Type 0
FileOf files file p = IfTold files (λ fs. IsFileOf (bytes_of fs file) p)

-- a file that spells a known program spells one
pub spelled : (files : Option Files) (file : List ℕ) (p : Tree) → FileOf files file p → SpellsProgram files file
spelled files file p h = λ fs told. (p, h fs told)

pub merges_map : (P Q : Decision → Type 0) → ((r : Decision) → P r → Q r) → (result : Result Report Stop) → Merges P result → Merges Q result
merges_map P Q f (Ok report) h = f _ h
merges_map P Q f (Err (stop.Refused message)) h = f _ h
merges_map P Q f (Err (stop.ReadFault message)) h = h
merges_map P Q f (Err stop.Memory) h = h

module _ (files : Option Files) (reads : List ℕ → Type 0) (before now : ℕ) where
  -- what is decided of P is decided of what P gives
  pub decides_map : (P Q : Decision → Type 0) → ((r : Decision) → P r → Q r) → (result : Result Report Stop) → Decides P reads before now result
      → Decides Q reads before now result
  decides_map P Q f (Ok report) h = (f _ h.0, h.1)
  decides_map P Q f (Err (stop.Refused message)) h = (f _ h.0, h.1)
  decides_map P Q f (Err (stop.ReadFault message)) h = h
  decides_map P Q f (Err stop.Memory) h = h

  -- what is decided in memory, behind the last read
  pub merges_told : (P : Decision → Type 0) (result : Result Report Stop) → now ≡ before → Merges P result → Decides (λ r. IfTold files (λ fs. P r)) reads before now result
  merges_told P (Ok report) same h = (λ fs t. h, same)
  merges_told P (Err (stop.Refused message)) same h = (λ fs t. h, same)
  merges_told P (Err (stop.ReadFault message)) same h = absurd h
  merges_told P (Err stop.Memory) same h = omega (arith, same)

  -- what is read of a file, behind which the outcome is as next says
  module _ {A : Type 0} (refused : List ℕ → List ℕ → Type 0) (is : List ℕ → A → Type 0) (file : List ℕ) (next : Files → A → Decision → Type 0) where
    abbrev pub ReachesBy : Decision → Type 0
    ReachesBy r = IfTold files (λ fs. OnRead (refused (bytes_of fs file)) (is (bytes_of fs file)) (λ a. next fs a r) r)

    pub read_fails : (s : Stop) → reads file → FailsBy refused files file before now s → StopIs ReachesBy reads before now s
    read_fails (stop.Refused message) may (h, e) = (λ fs t. inl (string_bytes message, h fs t, refl), e)
    read_fails (stop.ReadFault message) may (h, e) = (h, file, may, e)
    read_fails stop.Memory may h = h

    pub past_read : (a : A) (result : Result Report Stop) → IfTold files (λ fs. is (bytes_of fs file) a)
        → Decides (λ r. IfTold files (λ fs. next fs a r)) reads before now result → Decides ReachesBy reads before now result
    past_read a result ha h = decides_map (λ r. IfTold files (λ fs. next fs a r)) ReachesBy (λ r k fs t. inr (a, ha fs t, k fs t)) result h

  pub past_last_read : {A : Type 0} (refused : List ℕ → List ℕ → Type 0) (is : List ℕ → A → Type 0) (file : List ℕ) (next : A → Decision → Type 0) (a : A)
      (result : Result Report Stop) → IfTold files (λ fs. is (bytes_of fs file) a) → now ≡ before → Merges (next a) result
      → Decides (ReachesBy refused is file (λ fs b r. next b r)) reads before now result
  past_last_read refused is file next a result ha same h = past_read refused is file (λ fs b r. next b r) a result ha (merges_told (next a) result same h)

  -- the same of a program
  module _ (file : List ℕ) (next : Files → Tree → Decision → Type 0) where
    abbrev pub Reaches : Decision → Type 0
    Reaches r = IfTold files (λ fs. OnFile fs file (λ p. next fs p r) r)

    pub file_fails : (s : Stop) → reads file → Fails files file before now s → StopIs Reaches reads before now s
    file_fails s may h = read_fails (IsRefused file) IsFileOf file next s may h

    pub past_file : (p : Tree) (result : Result Report Stop) → FileOf files file p → Decides (λ r. IfTold files (λ fs. next fs p r)) reads before now result
        → Decides Reaches reads before now result
    past_file p result hp h = past_read (IsRefused file) IsFileOf file next p result hp h

  pub past_last_file : (file : List ℕ) (next : Tree → Decision → Type 0) (p : Tree) (result : Result Report Stop) → FileOf files file p → now ≡ before → Merges (next p) result
      → Decides (Reaches file (λ fs q r. next q r)) reads before now result
  past_last_file file next p result hp same h = past_last_read (IsRefused file) IsFileOf file next p result hp same h

-- the same files, told by the same shelf later
pub told_same : (f g : Option Files) (P : Files → Type 0) → g ≡ f → IfTold g P → IfTold f P
told_same f g P e h fs t = h fs (e ∙ t)

pub fails_same : (f g : Option Files) (file : List ℕ) (before now : ℕ) (s : Stop) → g ≡ f → Fails g file before now s → Fails f file before now s
fails_same f g file before now s e h = subst (λ fs. Fails fs file before now s) e h

-- the same of whatever is read behind a file
pub read_fails_behind : (refused : List ℕ → List ℕ → Type 0) (f g : Option Files) (file : List ℕ) (before then now : ℕ) (s : Stop) → g ≡ f → then ≡ before
    → FailsBy refused g file then now s → FailsBy refused f file before now s
read_fails_behind refused f g file before then now s e same h =
    subst (λ n. FailsBy refused f file n now s) same (subst (λ fs. FailsBy refused fs file then now s) e h)

-- the same count of failures, after a read that didn't fail
pub fails_from : (f : Option Files) (file : List ℕ) (before then now : ℕ) (s : Stop) → then ≡ before → Fails f file then now s → Fails f file before now s
fails_from f file before then now s e h = subst (λ n. Fails f file n now s) e h
