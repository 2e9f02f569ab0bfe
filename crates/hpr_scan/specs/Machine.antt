-- What a machine of tokens keeps, so that a reader of bytes can tell early which words and signs may stand
-- next.
--
-- IsTokenMachine next == names are alike to it; with a number it takes every smaller one from 1 on, and none
--                        from 2 ^ 64 on; no sign that it takes can be read on as the front of a longer one
-- HasText t           == the token has a text: a name is a name, and a number is below 2 ^ 64; keywords and
--                        signs always have one
-- Live next may_end s == some tokens with texts lead from s to a machine at which a text may end
-- EndsAtOnce t        == the token is a sign that no byte makes a longer one: with its last byte it has ended
use Rattle.std.specs.Prelude.{◌≡◌, ℕ, ◌≤◌, ◌<◌, ◌^◌, Bool, true, List, Option, Some, None, is_some}
use Rattle.hpr_terms.specs.declared.token.Sign.TheVariants.{Colon, Less, Greater, Equal, GreaterEqual}
use Rattle.hpr_terms.specs.declared.token.Token.{Token}
use Rattle.hpr_terms.specs.declared.token.Token.TheVariants.{Name, Number, Mark}
use Rattle.hpr_terms.specs.Names.{IsName}

pub record IsTokenMachine {S : Type 0} (next : S → Token → Option S) : Type 0 where
  pub names : (s : S) (x y : List ℕ) → is_some (next s (Name x)) ≡ is_some (next s (Name y))
  pub smaller : (s : S) (m n : ℕ) → 1 ≤ m → m ≤ n → is_some (next s (Number n)) ≡ true → is_some (next s (Number m)) ≡ true
  pub bounded : (s : S) (n : ℕ) → 2 ^ 64 ≤ n → next s (Number n) ≡ None
  pub colon : (s n : S) → next s (Mark Colon) ≡ Some n → next n (Mark Equal) ≡ None
  pub less_equal : (s n : S) → next s (Mark Less) ≡ Some n → next n (Mark Equal) ≡ None
  pub less_greater : (s n : S) → next s (Mark Less) ≡ Some n → next n (Mark Greater) ≡ None
  pub less_greater_equal : (s n : S) → next s (Mark Less) ≡ Some n → next n (Mark GreaterEqual) ≡ None
  pub greater : (s n : S) → next s (Mark Greater) ≡ Some n → next n (Mark Equal) ≡ None

abbrev pub HasText : Token → Type 0
HasText (Name x) = IsName x
HasText (Number n) = n < 2 ^ 64
HasText _ = Unit {0}

pub data Live {S : Type 0} (next : S → Token → Option S) (may_end : S → Bool) : S → Type 0 where
  ends : {s : S} → may_end s ≡ true → Live next may_end s
  goes : {s : S} (t : Token) (n : S) → HasText t → next s t ≡ Some n → Live next may_end n → Live next may_end s

abbrev pub EndsAtOnce : Token → Type 0
EndsAtOnce (Mark Colon) = ⊥
EndsAtOnce (Mark Less) = ⊥
EndsAtOnce (Mark Greater) = ⊥
EndsAtOnce (Mark _) = Unit {0}
EndsAtOnce _ = ⊥
