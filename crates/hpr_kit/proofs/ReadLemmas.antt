-- What is read of files.
use Rattle.std.proofs.Common.{◌≡◌, ◌≤◌, ◌+◌, ℕ, List, [], ◌∷◌, ◌++◌, None, Option, Some, IfSome, length, take, refl, ap, subst, inl, inr, unwrap_or, arith, length-take}
use Rattle.std.proofs.lemmas.List.{take_all}
use Rattle.hpr_io.specs.Files.{Files, bytes_of}
use Rattle.hpr_terms.specs.declared.limits.TheConstants.{MAX_FILE}
use Rattle.hpr_syntax.specs.Tree.{Tree}
use Rattle.hpr_refusals.specs.Refusals.{IsFileOf}
use Rattle.hpr_inputs.specs.Reads.{IsReached, SpellsProgram}
use Rattle.hpr_located.specs.Sources.{Standing}
use Rattle.hpr_kit.specs.Reading.{read}
use Rattle.hpr_kit.specs.Private.Loads.{AreLoaded, IsLoaded}

-- what is read of a file that isn't too long is the file
whole : (n : ℕ) (bytes : List ℕ) → length (take (n + 1) bytes) ≤ n → take (n + 1) bytes ≡ bytes
whole n bytes short = take_all (n + 1) bytes (omega (arith, length-take (n + 1) bytes, short))

read_short : (n : ℕ) (bytes : List ℕ) → length bytes ≤ n → take (n + 1) bytes ≡ bytes
read_short n bytes short = take_all (n + 1) bytes (omega (arith, short))

module _ (files : Files) (file : List ℕ) where
  pub read_is : length (read files file) ≤ MAX_FILE → read files file ≡ bytes_of files file
  read_is short = whole MAX_FILE (bytes_of files file) short

  pub file_is : (p : Tree) → IsFileOf (read files file) p → IsFileOf (bytes_of files file) p
  file_is p is = subst (λ bytes. IsFileOf bytes p) (read_is is.short) is

  pub read_all : (p : Tree) → IsFileOf (bytes_of files file) p → read files file ≡ bytes_of files file
  read_all p is = read_short MAX_FILE (bytes_of files file) is.short

untold : (files : Files) → None ≡ Some files → ⊥
untold files e = cc

-- a file that was loaded spells a program
spells : (fs : Files) (file : List ℕ) (p : Tree) (s : Standing) → IsLoaded fs file p s → SpellsProgram (Some fs) file
spells fs file p s is files e = (p, subst (λ (x : Files). IsFileOf (bytes_of x file) p) (ap (λ o. unwrap_or o fs) e) (file_is fs file p is.0))

pub spells_told : (told : Option Files) (file bytes : List ℕ) (p : Tree) (s : Standing) → IfSome told (λ fs. (bytes ≡ read fs file) × IsLoaded fs file p s) → SpellsProgram told file
spells_told None file bytes p s is = λ files e. absurd (untold files e)
spells_told (Some fs) file bytes p s is = spells fs file p s is.1

-- behind files that were loaded the next one is reached
reached_told : (fs : Files) (front behind : List (List ℕ)) (file : List ℕ) (ps : List Tree) (ss : List Standing) → AreLoaded fs front ps ss
    → IsReached (Some fs) (front ++ file ∷ behind) file
reached_told fs [] behind file ps ss are = inl refl
reached_told fs (n ∷ front) behind file [] ss are = absurd are
reached_told fs (n ∷ front) behind file (p ∷ ps) [] are = absurd are
reached_told fs (n ∷ front) behind file (p ∷ ps) (s ∷ ss) are = inr (spells fs n p s are.0, reached_told fs front behind file ps ss are.1)

reached_untold : (front behind : List (List ℕ)) (file : List ℕ) → IsReached None (front ++ file ∷ behind) file
reached_untold [] behind file = inl refl
reached_untold (n ∷ front) behind file = inr (λ files e. absurd (untold files e), reached_untold front behind file)

pub reached : (told : Option Files) (front behind : List (List ℕ)) (file : List ℕ) (ps : List Tree) (ss : List Standing) → IfSome told (λ fs. AreLoaded fs front ps ss)
    → IsReached told (front ++ file ∷ behind) file
reached None front behind file ps ss are = reached_untold front behind file
reached (Some fs) front behind file ps ss are = reached_told fs front behind file ps ss are
