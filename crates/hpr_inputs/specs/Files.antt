-- What is decided of the files that are read.
--
-- cannot_read file                   == the message on a file that can't be read
-- OnFile files file next r           == r is the refusal of the file; or the file spells a program, and r is
--                                       what next says of it
-- OnFiles files base a b next r      == that of three files, read in order; next says it of their programs
-- OnAllFiles files named next r      == that of all these files, read in order; next says it of the list of
--                                       their programs
use Rattle.std.specs.Prelude.{ℕ, List, [], ◌∷◌, ◌++◌, codes}
use Rattle.hpr_io.specs.Files.{Files, bytes_of}
use Rattle.hpr_syntax.specs.Tree.{Tree}
use Rattle.hpr_refusals.specs.Refusals.{IsFileOf, IsRefused}
use Rattle.hpr_inputs.specs.Decision.{Decision, OnRead}

abbrev pub cannot_read : List ℕ → List ℕ
cannot_read file = codes "hpr: cannot read " ++ file ++ codes "\n"

abbrev pub OnFile : Files → List ℕ → (Tree → Type 0) → Decision → Type 0
OnFile files file next r = OnRead (IsRefused file (bytes_of files file)) (IsFileOf (bytes_of files file)) next r

abbrev pub OnFiles : Files → List ℕ → List ℕ → List ℕ → (Tree → Tree → Tree → Type 0) → Decision → Type 0
OnFiles files base a b next r = OnFile files base (λ p. OnFile files a (λ q. OnFile files b (λ s. next p q s) r) r) r

abbrev pub OnAllFiles : Files → List (List ℕ) → (List Tree → Type 0) → Decision → Type 0
OnAllFiles files [] next r = next []
OnAllFiles files (file ∷ named) next r = OnFile files file (λ p. OnAllFiles files named (λ ps. next (p ∷ ps)) r) r
