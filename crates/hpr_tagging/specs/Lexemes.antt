-- The words and signs of any bytes, whether or not these are a text.
--
-- Lexeme                == a word or one byte of a sign: its first byte, from 0, the byte behind it, its kind
-- Begun                 == what has begun before a byte: nothing, a comment or a word
-- after s b             == what has begun before the byte behind b, where s has before b
-- word bytes            == the bytes of words at the front
-- keyword_kind k        == a part may stand behind `program`, `then`, `else`, `do`, `fi` and `od`, and
--                          begins, behind its tag, with `if`, `while` or `write`
-- named_kind k w        == the kind of the word w, of which k is the keyword: a part begins also with any
--                          word that is no keyword and doesn't begin with a digit
-- sign_kind b           == a part may stand behind a semicolon
-- lexeme_by s n b bytes == the lexeme that begins with b, the byte n and the first of the bytes, if one does
-- some_of o             == the item o in a list, or none
-- lexemes s n bytes     == the lexemes of the bytes, the first of which is the byte n; s has begun before it
use Rattle.std.specs.Prelude.{ℕ, ◌+◌, ◌||◌, nat_eq, nat_lt, if◌then◌else◌, List, [], ◌∷◌, ◌++◌, length, take, Option, Some, None}
use Rattle.std.specs.List.{prefix_len}
use Rattle.hpr_terms.specs.declared.limits.TheConstants.{TAG_NUMBERS}
use Rattle.hpr_terms.specs.declared.keyword.Keyword.{Keyword}
use Rattle.hpr_terms.specs.declared.keyword.Keyword.TheVariants as keyword
use Rattle.hpr_terms.specs.Keywords.{keyword_of}
use Rattle.hpr_terms.specs.Names.{is_name_byte, begins_with_digit}
use Rattle.hpr_terms.specs.Tokens.{is_blank}
use Rattle.hpr_scan.specs.Words.{is_numeral, value_after}
use Rattle.hpr_tagging.specs.declared.lexemes.Kind.{Kind}
use Rattle.hpr_tagging.specs.declared.lexemes.Kind.TheVariants.{Opens, Begins, Issued, Number, Dot, Colon, Other}
use Rattle.hpr_tagging.specs.declared.lexemes.Begun.{Begun}
use Rattle.hpr_tagging.specs.declared.lexemes.Begun.TheVariants.{Nothing, Comment, InWord}
use Rattle.hpr_tagging.specs.declared.lexemes.Lexeme.{Lexeme}

-- 35 is `#`, 10 a newline
abbrev pub beside : ℕ → Begun
beside b = if nat_eq b 35 then Comment else (if is_name_byte b then InWord else Nothing)

abbrev pub after : Begun → ℕ → Begun
after Comment b = if nat_eq b 10 then Nothing else Comment
after Nothing b = beside b
after InWord b = beside b

abbrev pub word : List ℕ → List ℕ
word bytes = take (prefix_len is_name_byte bytes) bytes

abbrev pub keyword_kind : Keyword → Kind
keyword_kind keyword.Program = Opens
keyword_kind keyword.Then = Opens
keyword_kind keyword.Else = Opens
keyword_kind keyword.Do = Opens
keyword_kind keyword.Fi = Opens
keyword_kind keyword.Od = Opens
keyword_kind keyword.If = Begins
keyword_kind keyword.While = Begins
keyword_kind keyword.Write = Begins
keyword_kind keyword.Issued = Issued
keyword_kind keyword.End = Other
keyword_kind keyword.And = Other
keyword_kind keyword.Or = Other
keyword_kind keyword.Not = Other
keyword_kind keyword.Out = Other

abbrev pub small_kind : ℕ → Kind
small_kind n = if nat_lt n TAG_NUMBERS then Number n else Other

abbrev pub number_kind : List ℕ → Kind
number_kind w = if is_numeral w then small_kind (value_after 0 w) else Other

abbrev pub named_kind : Option Keyword → List ℕ → Kind
named_kind (Some k) w = keyword_kind k
named_kind None w = if begins_with_digit w then number_kind w else Begins

-- 59 is a semicolon, 46 a dot, 58 a colon
abbrev pub sign_kind : ℕ → Kind
sign_kind b =
    if nat_eq b 59 then Opens else (if nat_eq b 46 then Dot else (if nat_eq b 58 then Colon else Other))

unfoldable pub word_at : ℕ → List ℕ → Lexeme
word_at n w = record { first = n; end = n + length w; kind = named_kind (keyword_of w) w }

abbrev pub sign_at : ℕ → ℕ → Option Lexeme
sign_at n b =
    if is_blank b || nat_eq b 35 then None else Some (record { first = n; end = n + 1; kind = sign_kind b })

abbrev pub lexeme_by : Begun → ℕ → ℕ → List ℕ → Option Lexeme
lexeme_by Comment n b bytes = None
lexeme_by InWord n b bytes = if is_name_byte b then None else sign_at n b
lexeme_by Nothing n b bytes = if is_name_byte b then Some (word_at n (word bytes)) else sign_at n b

abbrev pub some_of : {A : Type 0} → Option A → List A
some_of None = []
some_of (Some x) = x ∷ []

unfoldable pub lexemes : Begun → ℕ → List ℕ → List Lexeme
lexemes s n [] = []
lexemes s n (b ∷ bs) = some_of (lexeme_by s n b (b ∷ bs)) ++ lexemes (after s b) (n + 1) bs
