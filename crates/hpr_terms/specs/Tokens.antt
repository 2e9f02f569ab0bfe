-- Tokens, and the texts of lists of tokens.
--
-- sign_text s          == the sign as it stands in a text
-- IsToken text token   == the bytes spell this token by themselves
-- is_word token        == the token is a keyword, a name or a number: it ends, and begins, with a letter, a
--                         digit or `_`
-- is_blank b           == b is a space, a tab, a carriage return or a newline
-- HasNoNewline bytes   == none of the bytes is a newline
-- Blanks bytes         == the bytes are blanks and comments, each comment with the newline that ends it
-- Ending bytes         == the same, and at the end there may be a comment without a newline
-- Apart w between v    == two tokens that are words have something between them
-- Text w bytes tokens  == the bytes are these tokens in order, with blanks before, between and after them;
--                         w says that a word stands just before the bytes
use Rattle.std.specs.Prelude.{◌≡◌, ◌≢◌, ℕ, Bool, true, false, ◌==◌, ◌||◌, List, [], ◌∷◌, ◌++◌, codes, All, IsTrue}
use Rattle.std.specs.Fmt.{decimal}
use Rattle.hpr_terms.specs.declared.token.Sign.{Sign}
use Rattle.hpr_terms.specs.declared.token.Sign.TheVariants.{Colon, Becomes, Dot, Comma, Semicolon, Open, Close, OpenSquare, CloseSquare, Plus, Minus, Star, Slash, Percent, Equal, Differ, Less, LessEqual, Greater, GreaterEqual}
use Rattle.hpr_terms.specs.declared.token.Token.{Token}
use Rattle.hpr_terms.specs.declared.token.Token.TheVariants.{Word, Name, Number, Mark}
use Rattle.hpr_terms.specs.Keywords.{keyword_text}
use Rattle.hpr_terms.specs.Names.{IsName}

abbrev pub sign_text : Sign → List ℕ
sign_text Colon = codes ":"
sign_text Becomes = codes ":="
sign_text Dot = codes "."
sign_text Comma = codes ","
sign_text Semicolon = codes ";"
sign_text Open = codes "("
sign_text Close = codes ")"
sign_text OpenSquare = codes "["
sign_text CloseSquare = codes "]"
sign_text Plus = codes "+"
sign_text Minus = codes "-"
sign_text Star = codes "*"
sign_text Slash = codes "/"
sign_text Percent = codes "%"
sign_text Equal = codes "="
sign_text Differ = codes "<>"
sign_text Less = codes "<"
sign_text LessEqual = codes "<="
sign_text Greater = codes ">"
sign_text GreaterEqual = codes ">="

-- A number is `0`, or a digit 1 to 9 followed by digits: the decimal text of its value.
abbrev pub IsToken : List ℕ → Token → Type 0
IsToken text (Word k) = text ≡ keyword_text k
IsToken text (Name x) = (text ≡ x) × IsName x
IsToken text (Number n) = text ≡ decimal n
IsToken text (Mark s) = text ≡ sign_text s

abbrev pub is_word : Token → Bool
is_word (Mark s) = false
is_word _ = true

unfoldable pub is_blank : ℕ → Bool
is_blank b = (b == 32) || (b == 9) || (b == 13) || (b == 10)

-- 10 is a newline
abbrev pub HasNoNewline : List ℕ → Type 0
HasNoNewline bytes = All (λ b. b ≢ 10) bytes

-- A comment begins with `#`, which is 35, and may hold any bytes up to the next newline.
pub data Blanks : List ℕ → Type 0 where
  nothing : Blanks []
  blank : {b : ℕ} {bytes : List ℕ} → IsTrue (is_blank b) → Blanks bytes → Blanks (b ∷ bytes)
  comment : (remark : List ℕ) {bytes : List ℕ} → HasNoNewline remark → Blanks bytes → Blanks (35 ∷ (remark ++ (10 ∷ bytes)))

pub data Ending : List ℕ → Type 0 where
  blanks : {bytes : List ℕ} → Blanks bytes → Ending bytes
  comment : (bytes remark : List ℕ) → Blanks bytes → HasNoNewline remark → Ending (bytes ++ (35 ∷ remark))

abbrev pub Apart : Bool → List ℕ → Bool → Type 0
Apart true [] true = ⊥
Apart _ _ _ = Unit {0}

pub data Text : Bool → List ℕ → List Token → Type 0 where
  ending : {w : Bool} {bytes : List ℕ} → Ending bytes → Text w bytes []
  token : {w : Bool} (blanks text : List ℕ) {rest : List ℕ} {t : Token} {ts : List Token} → Blanks blanks → IsToken text t → Apart w blanks (is_word t)
      → Text (is_word t) rest ts → Text w (blanks ++ (text ++ rest)) (t ∷ ts)
