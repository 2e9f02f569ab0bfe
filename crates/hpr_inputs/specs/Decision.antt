-- What a call decides.
--
-- Decision               == a text for `out` with the kind of its status; or something is refused, with a
--                           message for `err`; or the words are no call
-- Prints P r             == the command did what it is for, and r prints a text that has P
-- OnRead refused is next r == r refuses what is read, with a message that is so; or what is read is this, and
--                             r is what next says of it
use Rattle.std.specs.Prelude.{◌≡◌, ◌⊎◌, ℕ, List}
use Rattle.hpr_inputs.specs.declared.answer.Kind.{Kind}
use Rattle.hpr_inputs.specs.declared.answer.Kind.TheVariants.{Done}

pub data Decision : Type 0 where
  prints : Kind → List ℕ → Decision
  refuses : (message : List ℕ) → Decision
  usage : Decision

abbrev pub Prints : (List ℕ → Type 0) → Decision → Type 0
Prints P r = (bytes : List ℕ) × P bytes × (r ≡ prints Done bytes)

abbrev pub OnRead : {A : Type 0} → (List ℕ → Type 0) → (A → Type 0) → (A → Type 0) → Decision → Type 0
OnRead {A = A} refused is next r = ((message : List ℕ) × refused message × (r ≡ refuses message)) ⊎ ((a : A) × is a × next a)
