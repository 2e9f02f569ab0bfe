-- The place of a refusal: how far the bytes are the front of a text.
--
-- IsViable L bytes              == some more bytes complete these to a text of L
-- IsPlace L bytes n             == the bytes are no text of L, and their longest front that can be completed
--                                  to one has n bytes
-- BeginsWith L bytes            == some front of the bytes is a text of L
-- Accepts next may_end s bytes  == the bytes are the text of tokens that lead from s to a machine at which a
--                                  text may end
-- IfStuck result P              == P of the place, where the answer is one
use Rattle.std.specs.Prelude.{◌≡◌, ℕ, ◌≤◌, Bool, true, false, List, ◌++◌, length, take, Option, Some, Result, Ok, Err}
use Rattle.hpr_terms.specs.declared.token.Token.{Token}
use Rattle.hpr_terms.specs.Tokens.{Text}
use Rattle.hpr_scan.specs.declared.reader.Refusal.{Refusal}
use Rattle.hpr_scan.specs.declared.reader.Refusal.TheVariants.{Stuck, Memory}
use Rattle.hpr_scan.specs.Steps.{runs}

abbrev pub IsViable : (List ℕ → Type 0) → List ℕ → Type 0
IsViable L bytes = (more : List ℕ) × L (bytes ++ more)

pub record IsPlace (L : List ℕ → Type 0) (bytes : List ℕ) (n : ℕ) : Type 0 where
  pub unspelled : L bytes → ⊥
  pub within : n ≤ length bytes
  pub viable : IsViable L (take n bytes)
  pub longest : (m : ℕ) → m ≤ length bytes → IsViable L (take m bytes) → m ≤ n

abbrev pub BeginsWith : (List ℕ → Type 0) → List ℕ → Type 0
BeginsWith L bytes = (n : ℕ) × L (take n bytes)

pub record Accepts {S : Type 0} (next : S → Token → Option S) (may_end : S → Bool) (s : S) (bytes : List ℕ) : Type 0 where
  pub tokens : List Token
  pub last : S
  pub text : Text false bytes tokens
  pub leads : runs next s tokens ≡ Some last
  pub ends : may_end last ≡ true

abbrev pub IfStuck : {A : Type 0} → Result A Refusal → (ℕ → Type 0) → Type 0
IfStuck (Ok x) P = Unit {0}
IfStuck (Err (Stuck n)) P = P n
IfStuck (Err Memory) P = Unit {0}
