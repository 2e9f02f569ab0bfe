-- Where tokens and bytes lead a machine.
--
-- Steps o result           == the step's answer is o: a machine, or a refusal; memory may run out
-- Moves o s result         == a step in place left s, and s is what o is; or it was refused, and o is none;
--                             memory may run out
-- runs next s tokens       == where the tokens lead from s
-- IsReading next s bytes m == the bytes are the text of tokens that lead from s to m, and of no tokens that
--                             lead elsewhere
use Rattle.std.specs.Prelude.{◌≡◌, ℕ, false, List, [], ◌∷◌, Option, Some, None, Result, Ok, Err}
use Rattle.hpr_terms.specs.declared.token.Token.{Token}
use Rattle.hpr_terms.specs.Tokens.{Text}
use Rattle.hpr_scan.specs.declared.machine.Fault.{Fault}
use Rattle.hpr_scan.specs.declared.machine.Fault.TheVariants.{Refused, Memory}

abbrev pub Steps : {S : Type 0} → Option S → Result S Fault → Type 0
Steps o (Ok n) = o ≡ Some n
Steps o (Err Refused) = o ≡ None
Steps o (Err Memory) = Unit {0}

abbrev pub Moves : {S A : Type 0} → Option S → S → Result A Fault → Type 0
Moves o s (Ok _) = o ≡ Some s
Moves o s (Err Refused) = o ≡ None
Moves o s (Err Memory) = Unit {0}

abbrev pub and_then : {A B : Type 0} → Option A → (A → Option B) → Option B
and_then None f = None
and_then (Some x) f = f x

abbrev pub runs : {S : Type 0} → (S → Token → Option S) → S → List Token → Option S
runs next s [] = Some s
runs next s (t ∷ ts) = and_then (next s t) (λ n. runs next n ts)

pub record IsReading {S : Type 0} (next : S → Token → Option S) (s : S) (bytes : List ℕ) (m : S) : Type 0 where
  pub tokens : List Token
  pub text : Text false bytes tokens
  pub leads : runs next s tokens ≡ Some m
  pub only : (ts : List Token) (n : S) → Text false bytes ts → runs next s ts ≡ Some n → n ≡ m
