-- Words, read from left to right.
--
-- is_digit b                == b is a digit 0 to 9
-- value_after n w           == the number that the digits w write when they follow those of n
-- is_numeral w              == w is `0`, or a digit 1 to 9 followed by digits
-- number_token w            == the number whose text w is, if there is one
-- other_token w             == the name or the number whose text w is, if there is one
-- keyword_or k w            == the keyword k, or else the name or the number whose text w is
-- word_token w              == the token whose text the word w is, if there is one
-- IsNoToken o               == o is no token, or a number that no machine takes
-- ReadsWord o r             == r is the token o, or a refusal where there is none that a machine takes;
--                              memory may run out
-- begins_name next s w      == s takes a name, and w is the front of one
-- begins_number next s w    == w is a number that s takes
-- begins_keyword next s w k == s takes the keyword k, and w is a front of its text
-- begins next s w           == w is the front of a word that s takes
-- IsFirstWord next s bytes w n == w is the first n bytes, all bytes of words, and the front of a word that s
--                                 takes
use Rattle.std.specs.Prelude.{◌≡◌, ℕ, ◌+◌, ◌*◌, ◌-◌, ◌^◌, ◌≤◌, Bool, false, ◌||◌, ◌&&◌, nat_eq, nat_lt, true, List, [], ◌∷◌, length, take, Option, Some, None, is_some, Result, Ok, Err, if◌then◌else◌}
use Rattle.std.specs.Char.{is_ascii_digit}
use Rattle.std.specs.List.{list_all, list_any, starts_with}
use Rattle.hpr_terms.specs.declared.keyword.Keyword.{Keyword}
use Rattle.hpr_terms.specs.declared.token.Token.{Token}
use Rattle.hpr_terms.specs.declared.token.Token.TheVariants.{Word, Name, Number}
use Rattle.hpr_scan.specs.declared.machine.Fault.{Fault}
use Rattle.hpr_scan.specs.declared.machine.Fault.TheVariants.{Refused, Memory}
use Rattle.hpr_terms.specs.Keywords.{keyword_text, keywords, keyword_of}
use Rattle.hpr_terms.specs.Names.{is_name_byte, is_name_like, is_name}

unfoldable pub is_digit : ℕ → Bool
is_digit b = is_ascii_digit b

abbrev pub value_after : ℕ → List ℕ → ℕ
value_after n [] = n
value_after n (b ∷ bs) = value_after (10 * n + (b - 48)) bs

abbrev pub is_numeral : List ℕ → Bool
is_numeral [] = false
is_numeral (b ∷ []) = is_digit b
is_numeral (b ∷ c ∷ bs) = is_digit b && nat_lt 48 b && list_all is_digit (c ∷ bs)

abbrev pub number_token : List ℕ → Option Token
number_token w = if is_numeral w then Some (Number (value_after 0 w)) else None

abbrev pub other_token : List ℕ → Option Token
other_token w = if is_name w then Some (Name w) else number_token w

abbrev pub keyword_or : Option Keyword → List ℕ → Option Token
keyword_or (Some k) w = Some (Word k)
keyword_or None w = other_token w

unfoldable pub word_token : List ℕ → Option Token
word_token w = keyword_or (keyword_of w) w

abbrev pub IsNoToken : Option Token → Type 0
IsNoToken None = Unit {0}
IsNoToken (Some (Number n)) = 2 ^ 64 ≤ n
IsNoToken (Some t) = ⊥

abbrev pub ReadsWord : Option Token → Result Token Fault → Type 0
ReadsWord o (Ok t) = o ≡ Some t
ReadsWord o (Err Refused) = IsNoToken o
ReadsWord o (Err Memory) = Unit {0}

abbrev pub begins_name : {S : Type 0} → (S → Token → Option S) → S → List ℕ → Bool
begins_name next s w = is_name_like w && is_some (next s (Name w))

abbrev pub begins_number : {S : Type 0} → (S → Token → Option S) → S → List ℕ → Bool
begins_number next s w = is_numeral w && is_some (next s (Number (value_after 0 w)))

abbrev pub begins_keyword : {S : Type 0} → (S → Token → Option S) → S → List ℕ → Keyword → Bool
begins_keyword next s w k = is_some (next s (Word k)) && starts_with nat_eq (keyword_text k) w

unfoldable pub begins : {S : Type 0} → (S → Token → Option S) → S → List ℕ → Bool
begins next s w = begins_name next s w || begins_number next s w || list_any (begins_keyword next s w) keywords

pub record IsFirstWord {S : Type 0} (next : S → Token → Option S) (s : S) (bytes : List ℕ) (w : List ℕ) (n : ℕ) : Type 0 where
  pub within : n ≤ length bytes
  pub long : 1 ≤ n
  pub front : w ≡ take n bytes
  pub letters : list_all is_name_byte w ≡ true
  pub begun : begins next s w ≡ true
