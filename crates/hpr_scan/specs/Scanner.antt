-- The machine that finds the tokens in bytes, one byte at a time.
--
-- A place in a text is what has begun there (`Lex`) and the machine of tokens before it. A comment goes on to
-- the next newline. A word goes on only as the front of a word that can stand next. A sign that may be the
-- front of a longer one waits for the next byte, and begins only where it or a longer one can stand next.
--
-- at lex s                == the place where lex has begun before s takes a token
-- sign_of b               == the sign of the one byte b, if there is one
-- longer sign b           == the sign of two bytes: the sign and b, if there is one
-- after_sign o            == the place after a sign that led to o
-- waiting s sign can      == the place behind the first byte of a sign, if it or a longer one can stand there
-- feed_sign next s sign   == the place behind the byte that is the sign, or its front, where nothing has
--                            begun
-- grown next s w          == the place behind the front w of a word, if s takes a word that begins with it
-- feed_gap next s b       == the place after the byte b where nothing has begun, if b can stand there
-- feed_half next o sign s b == the place after the byte b behind the sign; o is the longer sign with b
-- finish next lex s       == the machine after what has begun, where it ends here
-- feed next lex s b       == the place after the byte b, if b can stand here
-- scan next lex s bytes   == the machine after all of the bytes, if they can stand here and end here
-- feeds next lex s bytes  == the place after the bytes, if they can stand here
-- goes_on_comment b       == a comment that goes on with the byte b has not ended: b is no newline
-- Waits next l s bytes    == each front of the bytes leads from l to a place at which the machine is still s
-- refusal_at n f          == what the fault f behind the first n bytes means: that they are all that can
--                            stand, or that memory ran out
-- FeedsAt o n result      == the answer is o's place, or that n bytes is all that can stand, where o is none;
--                            memory may run out
-- IsStuck next s bytes n  == the first n bytes lead from s to a place at which the next byte cannot stand
-- Scans next s bytes r    == r is the place after the bytes, or the number of bytes before the first that
--                            cannot stand; memory may run out
use Rattle.std.specs.Prelude.{◌≡◌, ℕ, ◌<◌, Bool, not, ◌||◌, nat_eq, List, [], ◌∷◌, ◌++◌, length, take, slice_index, Option, Some, None, is_some, Result, Ok, Err, if◌then◌else◌}
use Rattle.hpr_terms.specs.declared.token.Sign.{Sign}
use Rattle.hpr_terms.specs.declared.token.Sign.TheVariants.{Colon, Becomes, Dot, Comma, Semicolon, Open, Close, OpenSquare, CloseSquare, Plus, Minus, Star, Slash, Percent, Equal, Differ, Less, LessEqual, Greater, GreaterEqual}
use Rattle.hpr_terms.specs.declared.token.Token.{Token}
use Rattle.hpr_terms.specs.declared.token.Token.TheVariants.{Mark}
use Rattle.hpr_terms.specs.Names.{is_name_byte}
use Rattle.hpr_terms.specs.Tokens.{is_blank}
use Rattle.hpr_scan.specs.declared.machine.Fault.{Fault}
use Rattle.hpr_scan.specs.declared.machine.Fault.TheVariants as fault
use Rattle.hpr_scan.specs.declared.scanner.Lex.{Lex}
use Rattle.hpr_scan.specs.declared.scanner.Lex.TheVariants.{Gap, Comment, InWord, Half}
use Rattle.hpr_scan.specs.declared.scanner.Scanner.{Scanner}
use Rattle.hpr_scan.specs.declared.reader.Refusal.{Refusal}
use Rattle.hpr_scan.specs.declared.reader.Refusal.TheVariants.{Stuck, Memory}
use Rattle.hpr_scan.specs.Steps.{and_then}
use Rattle.hpr_scan.specs.Words.{word_token, begins}

abbrev pub at : {S : Type 0} → Lex → S → Scanner S
at l s = record { lex = l; machine = s }

unfoldable pub sign_of : ℕ → Option Sign
sign_of b =
    if nat_eq b 58 then Some Colon else (if nat_eq b 46 then Some Dot else (if nat_eq b 44 then Some Comma else (if nat_eq b 59 then Some Semicolon
    else (if nat_eq b 40 then Some Open else (if nat_eq b 41 then Some Close else (if nat_eq b 91 then Some OpenSquare else (if nat_eq b 93 then Some CloseSquare
    else (if nat_eq b 43 then Some Plus else (if nat_eq b 45 then Some Minus
    else (if nat_eq b 42 then Some Star else (if nat_eq b 47 then Some Slash else (if nat_eq b 37 then Some Percent else (if nat_eq b 61 then Some Equal
    else (if nat_eq b 60 then Some Less else (if nat_eq b 62 then Some Greater else None)))))))))))))))

abbrev pub longer : Sign → ℕ → Option Sign
longer Colon b = if nat_eq b 61 then Some Becomes else None
longer Less b = if nat_eq b 61 then Some LessEqual else (if nat_eq b 62 then Some Differ else None)
longer Greater b = if nat_eq b 61 then Some GreaterEqual else None
longer _ b = None

abbrev pub after_sign : {S : Type 0} → Option S → Option (Scanner S)
after_sign None = None
after_sign (Some n) = Some (at Gap n)

abbrev pub waiting : {S : Type 0} → S → Sign → Bool → Option (Scanner S)
waiting s sign can = if can then Some (at (Half sign) s) else None

abbrev pub feed_sign : {S : Type 0} → (S → Token → Option S) → S → Sign → Option (Scanner S)
feed_sign next s Colon = waiting s Colon (is_some (next s (Mark Colon)) || is_some (next s (Mark Becomes)))
feed_sign next s Less = waiting s Less (is_some (next s (Mark Less)) || is_some (next s (Mark LessEqual)) || is_some (next s (Mark Differ)))
feed_sign next s Greater = waiting s Greater (is_some (next s (Mark Greater)) || is_some (next s (Mark GreaterEqual)))
feed_sign next s sign = after_sign (next s (Mark sign))

abbrev pub grown : {S : Type 0} → (S → Token → Option S) → S → List ℕ → Option (Scanner S)
grown next s w = if begins next s w then Some (at (InWord w) s) else None

unfoldable pub feed_gap : {S : Type 0} → (S → Token → Option S) → S → ℕ → Option (Scanner S)
feed_gap next s b =
    if is_blank b then Some (at Gap s)
    else (if nat_eq b 35 then Some (at Comment s) else (if is_name_byte b then grown next s (b ∷ []) else and_then (sign_of b) (feed_sign next s)))

unfoldable pub finish : {S : Type 0} → (S → Token → Option S) → Lex → S → Option S
finish next Gap s = Some s
finish next Comment s = Some s
finish next (InWord w) s = and_then (word_token w) (next s)
finish next (Half sign) s = next s (Mark sign)

abbrev pub feed_half : {S : Type 0} → (S → Token → Option S) → Option Sign → Sign → S → ℕ → Option (Scanner S)
feed_half next (Some long) sign s b = after_sign (next s (Mark long))
feed_half next None sign s b = and_then (finish next (Half sign) s) (λ n. feed_gap next n b)

unfoldable pub feed : {S : Type 0} → (S → Token → Option S) → Lex → S → ℕ → Option (Scanner S)
feed next Gap s b = feed_gap next s b
feed next Comment s b = Some (at (if nat_eq b 10 then Gap else Comment) s)
feed next (InWord w) s b = if is_name_byte b then grown next s (w ++ (b ∷ [])) else and_then (finish next (InWord w) s) (λ n. feed_gap next n b)
feed next (Half sign) s b = feed_half next (longer sign b) sign s b

unfoldable pub scan : {S : Type 0} → (S → Token → Option S) → Lex → S → List ℕ → Option S
scan next l s [] = finish next l s
scan next l s (b ∷ bs) = and_then (feed next l s b) (λ a. scan next a.lex a.machine bs)

unfoldable pub feeds : {S : Type 0} → (S → Token → Option S) → Lex → S → List ℕ → Option (Scanner S)
feeds next l s [] = Some (at l s)
feeds next l s (b ∷ bs) = and_then (feed next l s b) (λ a. feeds next a.lex a.machine bs)

abbrev pub goes_on_comment : ℕ → Bool
goes_on_comment b = not (nat_eq b 10)

abbrev pub Waits : {S : Type 0} → (S → Token → Option S) → Lex → S → List ℕ → Type 0
Waits next l s bytes = (m : ℕ) → (k : Lex) × (feeds next l s (take m bytes) ≡ Some (at k s))

abbrev pub refusal_at : ℕ → Fault → Refusal
refusal_at n fault.Refused = Stuck n
refusal_at n fault.Memory = Memory

abbrev pub FeedsAt : {S : Type 0} → Option (Scanner S) → ℕ → Result (Scanner S) Refusal → Type 0
FeedsAt o n (Ok a) = o ≡ Some a
FeedsAt o n (Err (Stuck m)) = (o ≡ None) × (m ≡ n)
FeedsAt o n (Err Memory) = Unit {0}

pub record IsStuck {S : Type 0} (next : S → Token → Option S) (s : S) (bytes : List ℕ) (n : ℕ) : Type 0 where
  pub place : Scanner S
  pub within : n < length bytes
  pub front : feeds next Gap s (take n bytes) ≡ Some place
  pub stops : feed next place.lex place.machine (slice_index bytes n) ≡ None

abbrev pub Scans : {S : Type 0} → (S → Token → Option S) → S → List ℕ → Result (Scanner S) Refusal → Type 0
Scans next s bytes (Ok a) = feeds next Gap s bytes ≡ Some a
Scans next s bytes (Err (Stuck n)) = IsStuck next s bytes n
Scans next s bytes (Err Memory) = Unit {0}
