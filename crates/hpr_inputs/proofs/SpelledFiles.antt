-- What is decided of files that spell programs.
use Rattle.std.proofs.Common.{ℕ, List, [], ◌∷◌, inl, inr, subst}
use Rattle.hpr_io.specs.Files.{Files, bytes_of}
use Rattle.hpr_syntax.specs.Grammar.{tagged}
use Rattle.hpr_syntax.specs.Tree.{Tree}
use Rattle.hpr_refusals.specs.Refusals.{IsFileOf, IsOne, IsRefused}
use Rattle.hpr_refusals.proofs.Once.{one_file}
use Rattle.hpr_inputs.specs.Decision.{Decision, OnRead}
use Rattle.hpr_inputs.specs.Files.{OnAllFiles, OnFile, OnFiles}
use Rattle.hpr_inputs.specs.ReadsAll.{AreAllFilesOf}

-- what is read one way is not refused
pub of_read : {A : Type 0} (refused : List ℕ → Type 0) (is : A → Type 0) → IsOne refused is → (next : A → Type 0) (r : Decision) (a : A) → OnRead refused is next r → is a → next a
of_read refused is one next r a (inl (m, h, _)) k = absurd (one.apart m a h k)
of_read refused is one next r a (inr (b, h, n)) k = subst next (one.value b a h k) n

pub of_program : (fs : Files) (file : List ℕ) (next : Tree → Type 0) (r : Decision) (p : Tree) → OnFile fs file next r → IsFileOf (bytes_of fs file) p → next p
of_program fs file next r p o h = of_read (IsRefused file (bytes_of fs file)) (IsFileOf (bytes_of fs file)) (one_file tagged (bytes_of fs file) file) next r p o h

pub of_programs : (fs : Files) (base a b : List ℕ) (next : Tree → Tree → Tree → Type 0) (d : Decision) (p q r : Tree) → OnFiles fs base a b next d
    → IsFileOf (bytes_of fs base) p → IsFileOf (bytes_of fs a) q → IsFileOf (bytes_of fs b) r → next p q r
of_programs fs base a b next d p q r o hp hq hr =
    let on_base = of_program fs base (λ p. OnFile fs a (λ q. OnFile fs b (λ r. next p q r) d) d) d p o hp in
    let on_a = of_program fs a (λ q. OnFile fs b (λ r. next p q r) d) d q on_base hq in
    of_program fs b (λ r. next p q r) d r on_a hr

pub of_all_programs : (fs : Files) (named : List (List ℕ)) (next : List Tree → Type 0) (d : Decision) (ps : List Tree) → OnAllFiles fs named next d → AreAllFilesOf fs named ps → next ps
of_all_programs fs [] next d [] o are = o
of_all_programs fs [] next d (p ∷ ps) o are = absurd are
of_all_programs fs (n ∷ named) next d [] o are = absurd are
of_all_programs fs (n ∷ named) next d (p ∷ ps) o are =
    of_all_programs fs named (λ qs. next (p ∷ qs)) d ps (of_program fs n (λ q. OnAllFiles fs named (λ qs. next (q ∷ qs)) d) d p o are.0) are.1
