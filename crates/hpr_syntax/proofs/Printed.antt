-- The bytes of an expression's canonical text are its tokens.
use Rattle.std.proofs.Common.{◌≡◌, ℕ, zero, suc, ◌*◌, List, [], ◌∷◌, ◌++◌, Bool, true, false, not, codes, replicate, refl, append_assoc, IsTrue}
use Rattle.std.specs.Fmt.{decimal}
use Rattle.hpr_terms.specs.declared.expr.Unary.{Unary}
use Rattle.hpr_terms.specs.declared.expr.Unary.TheVariants.{Neg, Not}
use Rattle.hpr_terms.specs.declared.expr.Binary.{Binary}
use Rattle.hpr_terms.specs.declared.expr.Binary.TheVariants.{Or, And, Equal, Differ, Less, LessEqual, Greater, GreaterEqual, Add, Sub, Mul, Div, Rem}
use Rattle.hpr_terms.specs.declared.keyword.Keyword.{Keyword}
use Rattle.hpr_terms.specs.declared.keyword.Keyword.TheVariants as keyword
use Rattle.hpr_terms.specs.declared.token.Sign.{Sign}
use Rattle.hpr_terms.specs.declared.token.Sign.TheVariants as sign
use Rattle.hpr_terms.specs.declared.token.Token.{Token}
use Rattle.hpr_terms.specs.declared.token.Token.TheVariants.{Word, Name, Number, Mark}
use Rattle.hpr_terms.specs.Keywords.{keyword_text}
use Rattle.hpr_terms.specs.Names.{IsName, is_name, is_array, base_of}
use Rattle.hpr_terms.specs.Tokens.{sign_text, is_blank, nothing, blank, Ending, blanks, Text, ending, token}
use Rattle.hpr_terms.specs.Term.{Term, num, var, prefix, infix', element}
use Rattle.hpr_syntax.specs.Print as print
use Rattle.hpr_syntax.specs.Print.{bracketed, prefix_sign, element_text, term_text, indent}
use Rattle.hpr_terms.proofs.Facts.{not_is, or_false}
use Rattle.hpr_terms.proofs.Plain.{array_parts}
use Rattle.hpr_syntax.specs.Shape.{names_wrong}
use Rattle.hpr_syntax.proofs.Shown.{prefix_token, sign_token, in_brackets, operand_test, left_test, right_test, shown}

-- ---- pieces of a text

-- Before a rest of the text, the bytes are these tokens. `after` says that the rest may stand after a word, `before` that the bytes may.
abbrev pub Printed : Bool → Bool → List ℕ → List Token → Type 0
Printed before after bytes tokens = (rest : List ℕ) (ts : List Token) → Text after rest ts → Text before (bytes ++ rest) (tokens ++ ts)

-- what may stand after a word may stand anywhere
pub weaker : {bytes : List ℕ} {ts : List Token} → Text true bytes ts → Text false bytes ts
weaker (ending k) = ending k
weaker (token between text k h a more) = token between text k h tt more

-- ---- blanks

ending_blank : (b : ℕ) (bytes : List ℕ) → IsTrue (is_blank b) → Ending bytes → Ending (b ∷ bytes)
ending_blank b bytes h (blanks k) = blanks (blank h k)
ending_blank b _ h (Ending.comment bytes remark k n) = Ending.comment (b ∷ bytes) remark (blank h k) n

blank_before : {bytes : List ℕ} {ts : List Token} (b : ℕ) → IsTrue (is_blank b) → Text false bytes ts → Text true (b ∷ bytes) ts
blank_before b h (ending {bytes = bytes} k) = ending (ending_blank b bytes h k)
blank_before b h (token between text k i a more) = token (b ∷ between) text (blank h k) i tt more

pub blank_is : (b : ℕ) → IsTrue (is_blank b) → Printed true false (b ∷ []) []
blank_is b h rest ts t = blank_before b h t

space_blank : IsTrue (is_blank 32)
unfolding is_blank
space_blank = refl

newline_blank : IsTrue (is_blank 10)
unfolding is_blank
newline_blank = refl

pub space : Printed true false (codes " ") []
space = blank_is 32 space_blank

pub newline : Printed true false (10 ∷ []) []
newline = blank_is 10 newline_blank

spaces : (n : ℕ) → Printed false false (replicate n 32) []
spaces zero rest ts t = t
spaces (suc n) rest ts t = weaker (blank_before 32 space_blank (spaces n rest ts t))

pub indented : (n : ℕ) → Printed false false (indent n) []
indented n = spaces (2 * n)

-- ---- tokens

pub mark : (s : Sign) → Printed true false (sign_text s) (Mark s ∷ [])
mark s rest ts t = token [] (sign_text s) nothing refl tt t

pub word : (k : Keyword) → Printed false true (keyword_text k) (Word k ∷ [])
word k rest ts t = token [] (keyword_text k) nothing refl tt t

pub number : (n : ℕ) → Printed false true (decimal n) (Number n ∷ [])
number n rest ts t = token [] (decimal n) nothing refl tt t

pub name : (x : List ℕ) → IsName x → Printed false true x (Name x ∷ [])
name x h rest ts t = token [] x nothing (refl, h) tt t

-- ---- expressions

bracketed_is : (b : Bool) (text : List ℕ) (ts : List Token) → Printed false true text ts → Printed false true (bracketed b text) (in_brackets b ts)
bracketed_is false text ts p rest us h = p rest us h
bracketed_is true text ts p rest us h = simp append_assoc (weaker (mark sign.Open _ _ (p _ _ (mark sign.Close rest us (weaker h)))))

prefix_is : (op : Unary) → Printed false false (prefix_sign op) (prefix_token op ∷ [])
prefix_is Neg rest ts h = weaker (mark sign.Minus rest ts h)
prefix_is Not rest ts h = word keyword.Not _ ts (space rest ts h)

either : (s : Sign) → Printed false true (sign_text s) (Mark s ∷ [])
either s rest ts h = weaker (mark s rest ts (weaker h))

sign_is : (op : Binary) → Printed false true (print.sign op) (sign_token op ∷ [])
sign_is Or = word keyword.Or
sign_is And = word keyword.And
sign_is Equal = either sign.Equal
sign_is Differ = either sign.Differ
sign_is Less = either sign.Less
sign_is LessEqual = either sign.LessEqual
sign_is Greater = either sign.Greater
sign_is GreaterEqual = either sign.GreaterEqual
sign_is Add = either sign.Plus
sign_is Sub = either sign.Minus
sign_is Mul = either sign.Star
sign_is Div = either sign.Slash
sign_is Rem = either sign.Percent

infix_is : (op : Binary) (left right : List ℕ) (s t : List Token) → Printed false true left s → Printed false true right t
    → Printed false true (left ++ codes " " ++ print.sign op ++ codes " " ++ right) (s ++ (sign_token op ∷ t))
infix_is op left right s t p q rest ts h = simp append_assoc (p _ _ (space _ _ (sign_is op _ _ (space _ _ (q rest ts h)))))

prefixed_is : (op : Unary) (operand : List ℕ) (s : List Token) → Printed false true operand s → Printed false true (prefix_sign op ++ operand) (prefix_token op ∷ s)
prefixed_is op operand s p rest ts h = simp append_assoc (prefix_is op _ _ (p rest ts h))

-- an element of an array, piece by piece
pub element_before : (x index : List ℕ) (tokens : List Token) → is_array x ≡ true → Printed false true index tokens → (rest : List ℕ) (ts : List Token)
    → Text false rest ts
    → Text false (base_of x ++ (codes "[" ++ (index ++ (codes "]" ++ rest)))) (Name (base_of x) ∷ Mark sign.OpenSquare ∷ (tokens ++ (Mark sign.CloseSquare ∷ ts)))
element_before x index tokens is p rest ts h =
    name (base_of x) (array_parts x is).1 _ _ (mark sign.OpenSquare _ _ (p _ _ (mark sign.CloseSquare rest ts h)))

element_is : (x index : List ℕ) (tokens : List Token) → is_array x ≡ true → Printed false true index tokens
    → Printed false true (element_text x index) (Name (base_of x) ∷ Mark sign.OpenSquare ∷ (tokens ++ (Mark sign.CloseSquare ∷ [])))
element_is x index tokens is p rest ts h = simp append_assoc (element_before x index tokens is p rest ts (weaker h))

pub term_is : (x : Term) → names_wrong x ≡ false → Printed false true (term_text x) (shown x)
unfolding term_text
term_is (num n) f = number n
term_is (var x) f = name x (not_is (is_name x) f)
term_is (prefix op a) f =
    prefixed_is op (bracketed (operand_test a) (term_text a)) (in_brackets (operand_test a) (shown a)) (bracketed_is (operand_test a) (term_text a) (shown a) (term_is a f))
term_is (infix' op a b) f =
    let both = or_false (names_wrong a) (names_wrong b) f in
    infix_is op (bracketed (left_test op a) (term_text a)) (bracketed (right_test op b) (term_text b)) (in_brackets (left_test op a) (shown a)) (in_brackets (right_test op b) (shown b))
    (bracketed_is (left_test op a) (term_text a) (shown a) (term_is a both.0)) (bracketed_is (right_test op b) (term_text b) (shown b) (term_is b both.1))
term_is (element x i) f =
    let both = or_false (not (is_array x)) (names_wrong i) f in
    element_is x (term_text i) (shown i) (not_is (is_array x) both.0) (term_is i both.1)
