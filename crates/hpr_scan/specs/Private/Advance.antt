-- How a scanner goes on over bytes.
--
-- keyword_or_number k w     == the keyword k, or else the number whose text w is
-- IsNextWord next s bytes w == w is all bytes of words at the front of these, and begins a word that s takes;
--                              another byte follows
-- Passes next a bytes n b   == the first n bytes lead from a to b, and the machine waits; n is at least 1
-- Takes next a bytes n P    == the first n bytes lead from a to where its machine still waits, and P of where
--                              the next byte leads
-- advanced n result         == how a scanner went on that passed over n bytes, and has this answer of the
--                              next one
-- Advances next a bytes b r == r says how a scanner went on from a to b over bytes: it passed over some, took
--                              one, or failed at one
use Rattle.std.specs.Prelude.{◌≡◌, ℕ, ◌≤◌, ◌<◌, false, List, length, take, slice_index, Option, Some, None, Result, Ok, Err}
use Rattle.hpr_terms.specs.declared.keyword.Keyword.{Keyword}
use Rattle.hpr_terms.specs.declared.token.Token.{Token}
use Rattle.hpr_terms.specs.declared.token.Token.TheVariants.{Word}
use Rattle.hpr_terms.specs.Names.{is_name_byte}
use Rattle.hpr_scan.specs.declared.machine.Fault.{Fault}
use Rattle.hpr_scan.specs.declared.scanner.Advance.{Advance}
use Rattle.hpr_scan.specs.declared.scanner.Advance.TheVariants.{Passed, Took, Failed}
use Rattle.hpr_scan.specs.declared.scanner.Lex.{Lex}
use Rattle.hpr_scan.specs.declared.scanner.Scanner.{Scanner}
use Rattle.hpr_scan.specs.Scanner.{at, feed, feeds, Waits}
use Rattle.hpr_scan.specs.Steps.{Steps}
use Rattle.hpr_scan.specs.Words.{number_token, IsFirstWord}

abbrev pub keyword_or_number : Option Keyword → List ℕ → Option Token
keyword_or_number (Some k) w = Some (Word k)
keyword_or_number None w = number_token w

pub record IsNextWord {S : Type 0} (next : S → Token → Option S) (s : S) (bytes w : List ℕ) : Type 0 where
  pub first : IsFirstWord next s bytes w (length w)
  pub more : length w < length bytes
  pub outside : is_name_byte (slice_index bytes (length w)) ≡ false

pub record Passes {S : Type 0} (next : S → Token → Option S) (a : Scanner S) (bytes : List ℕ) (n : ℕ) (b : Scanner S) : Type 0 where
  pub long : 1 ≤ n
  pub within : n ≤ length bytes
  pub fed : feeds next a.lex a.machine (take n bytes) ≡ Some b
  pub waits : Waits next a.lex a.machine (take n bytes)
  pub machine : b.machine ≡ a.machine

pub record Takes {S : Type 0} (next : S → Token → Option S) (a : Scanner S) (bytes : List ℕ) (n : ℕ) (P : Option (Scanner S) → Type 0) : Type 0 where
  pub begun : Lex
  pub within : n < length bytes
  pub fed : feeds next a.lex a.machine (take n bytes) ≡ Some (at begun a.machine)
  pub waits : Waits next a.lex a.machine (take n bytes)
  pub taken : P (feed next begun a.machine (slice_index bytes n))

abbrev pub advanced : {A : Type 0} → ℕ → Result A Fault → Advance
advanced n (Ok x) = Took n
advanced n (Err f) = Failed n f

abbrev pub Advances : {S : Type 0} → (S → Token → Option S) → Scanner S → List ℕ → Scanner S → Advance → Type 0
Advances next a bytes b (Passed n) = Passes next a bytes n b
Advances next a bytes b (Took n) = Takes next a bytes n (λ o. o ≡ Some b)
Advances {S} next a bytes b (Failed n f) = Takes next a bytes n (λ o. Steps {S = Scanner S} o (Err f))
