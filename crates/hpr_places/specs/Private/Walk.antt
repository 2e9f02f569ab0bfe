-- How the parts of a text are found, from one byte to the next.
--
-- gap_next c b           == whether a comment goes on behind the byte b, if b is of what stands between
--                           tokens; c says that one goes on before it
-- gap_len c bytes        == how many of the bytes stand before the next token
-- word bytes             == the bytes of words at the front
-- sign_len bytes         == 1 where the bytes begin with a semicolon, else 0
-- ends_content w         == the word w ends what is said in front of a block
-- closer_len s bytes     == how many bytes the token has that begins here and ends what a part says; else 0
-- after s b              == what stands before the byte behind b
-- content_len s bytes    == how many bytes there are up to such a token, with it; all where there is none
-- skip bytes n           == the first byte of the next token, from the byte n on
-- opened bytes n         == the byte behind the first such token
-- closed bytes n         == the byte behind the next word
-- signed bytes n         == the byte behind the next sign of one byte
-- next_is bytes n w      == the next word is w
-- after_pair bytes n     == the byte behind the next number, sign and number
-- has_comma bytes n      == the next token begins with a comma
-- PairsEnd bytes n m     == n is the byte behind a pair, and m that behind the last of those that follow
-- if_type b A B          == A if b is so, else B
-- IsHeaderEnd bytes m    == m is the byte behind the header
-- Walked                 == the places of parts, and the byte behind these
-- then_on a f            == these and those that f finds behind them
-- walk bytes body n      == the places of a block's parts, of which the text begins at n
use Rattle.std.specs.Prelude.{◌≡◌, ℕ, ◌+◌, ◌-◌, min, Bool, true, false, not, ◌||◌, nat_eq, if◌then◌else◌, List, [], ◌∷◌, ◌++◌, length, take, drop, slice_index, Option, Some, None, codes}
use Rattle.std.specs.List.{prefix_len}
use Rattle.std.specs.Str.{bytes_eq}
use Rattle.hpr_terms.specs.declared.tag.Tag.{Tag}
use Rattle.hpr_terms.specs.Names.{is_name_byte}
use Rattle.hpr_terms.specs.Tokens.{is_blank}
use Rattle.hpr_syntax.specs.declared.tree.Stmt.{Stmt}
use Rattle.hpr_syntax.specs.declared.tree.Stmt.TheVariants.{Assign, If, While, Write, Store}
use Rattle.hpr_syntax.specs.Body.{Body, done, action, branch, loop}
use Rattle.hpr_places.specs.declared.place.Placed.{Placed}
use Rattle.hpr_places.specs.declared.scan.Before.{Before}
use Rattle.hpr_places.specs.declared.scan.Before.TheVariants.{Gap, Comment, InWord}

-- 10 is a newline, 35 is `#`
abbrev pub gap_next : Bool → ℕ → Option Bool
gap_next true b = Some (not (nat_eq b 10))
gap_next false b = if nat_eq b 35 then Some true else (if is_blank b then Some false else None)

abbrev pub counted_on : Option Bool → (Bool → ℕ) → ℕ
counted_on None f = 0
counted_on (Some c) f = f c + 1

abbrev pub gap_len : Bool → List ℕ → ℕ
gap_len c [] = 0
gap_len c (b ∷ bs) = counted_on (gap_next c b) (λ d. gap_len d bs)

abbrev pub word : List ℕ → List ℕ
word bytes = take (prefix_len is_name_byte bytes) bytes

-- 59 is a semicolon
abbrev pub sign_len : List ℕ → ℕ
sign_len [] = 0
sign_len (b ∷ bs) = if nat_eq b 59 then 1 else 0

abbrev pub ends_content : List ℕ → Bool
ends_content w = bytes_eq w (codes "then") || bytes_eq w (codes "do")

abbrev pub closer_len : Before → List ℕ → ℕ
closer_len Comment bytes = 0
closer_len InWord bytes = sign_len bytes
closer_len Gap bytes = if ends_content (word bytes) then length (word bytes) else sign_len bytes

abbrev pub beside : ℕ → Before
beside b = if nat_eq b 35 then Comment else (if is_name_byte b then InWord else Gap)

abbrev pub after : Before → ℕ → Before
after Comment b = if nat_eq b 10 then Gap else Comment
after InWord b = beside b
after Gap b = beside b

unfoldable pub content_len : Before → List ℕ → ℕ
content_len s [] = 0
content_len s (b ∷ bs) = if nat_eq (closer_len s (b ∷ bs)) 0 then content_len (after s b) bs + 1 else closer_len s (b ∷ bs)

unfoldable pub skip : List ℕ → ℕ → ℕ
skip bytes n = n + gap_len false (drop n bytes)

unfoldable pub opened : List ℕ → ℕ → ℕ
opened bytes n = skip bytes n + content_len Gap (drop (skip bytes n) bytes)

unfoldable pub closed : List ℕ → ℕ → ℕ
closed bytes n = skip bytes n + prefix_len is_name_byte (drop (skip bytes n) bytes)

unfoldable pub signed : List ℕ → ℕ → ℕ
signed bytes n = min (skip bytes n + 1) (length bytes)

unfoldable pub next_is : List ℕ → ℕ → List ℕ → Bool
next_is bytes n w = bytes_eq (word (drop (skip bytes n) bytes)) w

unfoldable pub after_pair : List ℕ → ℕ → ℕ
after_pair bytes n = closed bytes (signed bytes (closed bytes n))

-- 44 is a comma
unfoldable pub has_comma : List ℕ → ℕ → Bool
has_comma bytes n = nat_eq (slice_index bytes (skip bytes n)) 44

abbrev pub if_type : Bool → Type 0 → Type 0 → Type 0
if_type true A B = A
if_type false A B = B

pub data PairsEnd (bytes : List ℕ) : ℕ → ℕ → Type 0 where
  last : {n : ℕ} → has_comma bytes n ≡ false → PairsEnd bytes n n
  more : {n m : ℕ} → has_comma bytes n ≡ true → PairsEnd bytes (after_pair bytes (signed bytes n)) m → PairsEnd bytes n m

-- where the first part begins, or `end` where there is none: behind `program`, or behind the pairs
unfoldable pub IsHeaderEnd : List ℕ → ℕ → Type 0
IsHeaderEnd bytes m = if_type (next_is bytes (closed bytes 0) (codes "issued")) (PairsEnd bytes (after_pair bytes (closed bytes (closed bytes 0))) m) (m ≡ closed bytes 0)

pub record Walked : Type 0 where
  pub places : List Placed
  pub end : ℕ

abbrev pub stop : ℕ → Walked
stop n = record { places = []; end = n }

abbrev pub then_on : Walked → (ℕ → Walked) → Walked
then_on a f = record { places = a.places ++ (f a.end).places; end = (f a.end).end }

-- behind the word that ends the blocks of a part
abbrev pub close : List ℕ → Walked → Walked
close bytes a = record { places = a.places; end = closed bytes a.end }

abbrev pub placed_from : Tag → ℕ → ℕ → Placed
placed_from t n m = record { tag = t; place = record { first = n; length = m - n } }

-- a part from the byte n on, and what stands in it
abbrev pub whole : Tag → ℕ → Walked → Walked
whole t n inside = record { places = placed_from t n inside.end ∷ inside.places; end = inside.end }

abbrev pub if_else : List ℕ → (ℕ → Walked) → ℕ → Walked
if_else bytes f n = if next_is bytes n (codes "else") then f (closed bytes n) else stop n

unfoldable pub walk : List ℕ → Body → ℕ → Walked
walk bytes done n = stop n
walk bytes (action t d rest) n = then_on (whole t (skip bytes n) (stop (opened bytes n))) (walk bytes rest)
walk bytes (branch t e a b rest) n =
    then_on (whole t (skip bytes n) (close bytes (then_on (walk bytes a (opened bytes n)) (if_else bytes (walk bytes b))))) (walk bytes rest)
walk bytes (loop t e body rest) n = then_on (whole t (skip bytes n) (close bytes (walk bytes body (opened bytes n)))) (walk bytes rest)

-- what stands in a part, and the byte behind the part
unfoldable pub inside : List ℕ → Stmt → ℕ → Walked
inside bytes (If t e a b) n = close bytes (then_on (walk bytes a (opened bytes n)) (if_else bytes (walk bytes b)))
inside bytes (While t e body) n = close bytes (walk bytes body (opened bytes n))
inside bytes (Assign t x e) n = stop (opened bytes n)
inside bytes (Write t x e) n = stop (opened bytes n)
inside bytes (Store t x i e) n = stop (opened bytes n)
