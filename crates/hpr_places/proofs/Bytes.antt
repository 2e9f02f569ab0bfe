-- Bytes of blanks, of words and of signs, and where the next token begins.
use Rattle.std.proofs.Common.{◌≡◌, ◌≢◌, ℕ, zero, suc, ◌+◌, List, [], ◌∷◌, ◌++◌, length, take, drop, true, false, eqb, refl, sym, ap, subst, ◌∙◌, append_assoc, zero-add, arith}
use Rattle.std.specs.List.{list_all, prefix_len}
use Rattle.std.proofs.Math.Seq.{take-append_seam, drop-append_seam, drop-nil}
use Rattle.std.proofs.lemmas.Bool.{and_parts, and_from}
use Rattle.std.proofs.lemmas.Bool.Decides.{nat_tests}
use Rattle.std.proofs.lemmas.List.{append-nil, length-append}
use Rattle.hpr_terms.specs.declared.token.Sign.{Sign}
use Rattle.hpr_terms.specs.declared.token.Sign.TheVariants.{Colon, Becomes, Dot, Comma, Semicolon, Open, Close, OpenSquare, CloseSquare, Plus, Minus, Star, Slash, Percent, Equal, Differ, Less, LessEqual, Greater, GreaterEqual}
use Rattle.hpr_terms.specs.declared.token.Token.{Token}
use Rattle.hpr_terms.specs.declared.token.Token.TheVariants.{Word, Name, Number, Mark}
use Rattle.hpr_terms.specs.Names.{is_name_byte}
use Rattle.hpr_terms.specs.Tokens.{sign_text, IsToken, is_word, is_blank, HasNoNewline, Blanks, nothing, blank, blanks, comment, Apart, Text, ending, token}
use Rattle.hpr_scan.proofs.Words.{IsSmall, word_bytes}
use Rattle.hpr_scan.proofs.WholeText.{word_no_blank, word_no_comment}
use Rattle.hpr_places.specs.Private.Walk.{gap_len, word}

-- ---- what is left of a list

drop_plus : (n k : ℕ) (xs : List ℕ) → drop (n + k) xs ≡ drop k (drop n xs)
drop_plus zero k xs = ap (λ m. drop m xs) (zero-add k)
drop_plus (suc n) k [] = drop-nil (suc n + k) ∙ sym (drop-nil k)
drop_plus (suc n) k (x ∷ xs) = let e : suc n + k ≡ suc (n + k) = omega arith in ap (λ m. drop m (x ∷ xs)) e ∙ drop_plus n k xs

pub drop_on : (n : ℕ) (xs a b : List ℕ) → drop n xs ≡ a ++ b → drop (n + length a) xs ≡ b
drop_on n xs a b e = drop_plus n (length a) xs ∙ ap (drop (length a)) e ∙ drop-append_seam a b

-- ---- blanks and comments

pub first_no_newline : (b : ℕ) (bs : List ℕ) → HasNoNewline (b ∷ bs) → eqb b 10 ≡ false
first_no_newline b bs h = let never : b ≢ 10 = h 0 0 (omega arith) in grind (arith, nat_tests)

pub rest_no_newline : (b : ℕ) (bs : List ℕ) → HasNoNewline (b ∷ bs) → HasNoNewline bs
rest_no_newline b bs h = λ k d lt. h (suc k) d (omega arith)

pub blank_no_comment : (b : ℕ) → is_blank b ≡ true → eqb b 35 ≡ false
unfolding is_blank
blank_no_comment b e = grind (arith, nat_tests)

pub blank_no_semicolon : (b : ℕ) → is_blank b ≡ true → eqb b 59 ≡ false
unfolding is_blank
blank_no_semicolon b e = grind (arith, nat_tests)

pub blank_no_word : (b : ℕ) → is_blank b ≡ true → is_name_byte b ≡ false
unfolding is_name_byte is_blank
blank_no_word b e = grind (arith, nat_tests)

pub word_no_semicolon : (b : ℕ) → is_name_byte b ≡ true → eqb b 59 ≡ false
unfolding is_name_byte
word_no_semicolon b e = grind (arith, nat_tests)

pub word_no_comma : (b : ℕ) → is_name_byte b ≡ true → eqb b 44 ≡ false
unfolding is_name_byte
word_no_comma b e = grind (arith, nat_tests)

remark_gap : (remark rest : List ℕ) → HasNoNewline remark → gap_len true (remark ++ (10 ∷ rest)) ≡ length remark + 1 + gap_len false rest
remark_gap [] rest h = omega arith
remark_gap (b ∷ bs) rest h = let i = remark_gap bs rest (rest_no_newline b bs h) in rw (first_no_newline b bs h) (omega (arith, i))

pub blanks_gap : {bs : List ℕ} → Blanks bs → (rest : List ℕ) → gap_len false (bs ++ rest) ≡ length bs + gap_len false rest
blanks_gap nothing rest = omega arith
blanks_gap (blank {b = b} e h) rest = let i = blanks_gap h rest in rw (blank_no_comment b e, e) (omega (arith, i))
blanks_gap (comment remark {bytes = bs} n h) rest =
    let i = blanks_gap h rest in
    let a = ap (gap_len true) (append_assoc remark (10 ∷ bs) rest) ∙ remark_gap remark (bs ++ rest) n in
    omega (arith, a, i, length-append remark (10 ∷ bs))

-- ---- where a token begins

word_gap : (b : ℕ) (bs : List ℕ) → is_name_byte b ≡ true → gap_len false (b ∷ bs) ≡ 0
word_gap b bs e = rw (word_no_comment b e, word_no_blank b e) refl

sign_gap : (s : Sign) (rest : List ℕ) → gap_len false (sign_text s ++ rest) ≡ 0
unfolding is_blank
sign_gap Colon rest = refl
sign_gap Becomes rest = refl
sign_gap Dot rest = refl
sign_gap Comma rest = refl
sign_gap Semicolon rest = refl
sign_gap Open rest = refl
sign_gap Close rest = refl
sign_gap OpenSquare rest = refl
sign_gap CloseSquare rest = refl
sign_gap Plus rest = refl
sign_gap Minus rest = refl
sign_gap Star rest = refl
sign_gap Slash rest = refl
sign_gap Percent rest = refl
sign_gap Equal rest = refl
sign_gap Differ rest = refl
sign_gap Less rest = refl
sign_gap LessEqual rest = refl
sign_gap Greater rest = refl
sign_gap GreaterEqual rest = refl

word_token_gap : (t : Token) (text rest : List ℕ) → IsToken text t → is_word t ≡ true → IsSmall t → gap_len false (text ++ rest) ≡ 0
word_token_gap t text rest h w s = let k = word_bytes text t h w s in rw k.is (word_gap k.first (k.rest ++ rest) k.begins)

pub token_gap : (t : Token) (text rest : List ℕ) → IsToken text t → IsSmall t → gap_len false (text ++ rest) ≡ 0
token_gap (Mark x) text rest h s = rw h (sign_gap x rest)
token_gap (Word k) text rest h s = word_token_gap (Word k) text rest h refl s
token_gap (Name x) text rest h s = word_token_gap (Name x) text rest h refl s
token_gap (Number n) text rest h s = word_token_gap (Number n) text rest h refl s

-- ---- after a word stands no byte of a word

abbrev pub NoWord : List ℕ → Type 0
NoWord [] = Unit {0}
NoWord (b ∷ bs) = is_name_byte b ≡ false

blanks_no_word : {bs : List ℕ} → Blanks bs → (rest : List ℕ) → NoWord rest → NoWord (bs ++ rest)
unfolding is_name_byte
blanks_no_word nothing rest h = h
blanks_no_word (blank {b = b} e k) rest h = blank_no_word b e
blanks_no_word (comment remark n k) rest h = refl

sign_no_word : (sign : Sign) (rest : List ℕ) → NoWord (sign_text sign ++ rest)
unfolding is_name_byte
sign_no_word Colon rest = refl
sign_no_word Becomes rest = refl
sign_no_word Dot rest = refl
sign_no_word Comma rest = refl
sign_no_word Semicolon rest = refl
sign_no_word Open rest = refl
sign_no_word Close rest = refl
sign_no_word OpenSquare rest = refl
sign_no_word CloseSquare rest = refl
sign_no_word Plus rest = refl
sign_no_word Minus rest = refl
sign_no_word Star rest = refl
sign_no_word Slash rest = refl
sign_no_word Percent rest = refl
sign_no_word Equal rest = refl
sign_no_word Differ rest = refl
sign_no_word Less rest = refl
sign_no_word LessEqual rest = refl
sign_no_word Greater rest = refl
sign_no_word GreaterEqual rest = refl

first_no_word : {bs : List ℕ} → Blanks bs → (t : Token) → Apart true bs (is_word t) → (text : List ℕ) → IsToken text t → (rest : List ℕ) → NoWord (bs ++ (text ++ rest))
unfolding is_name_byte
first_no_word nothing (Mark x) a text h rest = rw h (sign_no_word x rest)
first_no_word nothing (Word k) a text h rest = absurd a
first_no_word nothing (Name x) a text h rest = absurd a
first_no_word nothing (Number n) a text h rest = absurd a
first_no_word (blank {b = b} f k) t a text h rest = blank_no_word b f
first_no_word (comment remark n k) t a text h rest = refl

pub text_no_word : {bytes : List ℕ} {ts : List Token} → Text true bytes ts → NoWord bytes
unfolding is_name_byte
text_no_word (ending (blanks {bytes = bs} k)) = subst NoWord (append-nil bs) (blanks_no_word k [] tt)
text_no_word (ending (comment bs remark k n)) = blanks_no_word k (35 ∷ remark) refl
text_no_word (token bs text {rest = rest} {t = t} k h a more) = first_no_word k t a text h rest

-- ---- the bytes of a word

pub word_len_is : (w rest : List ℕ) → list_all is_name_byte w ≡ true → NoWord rest → prefix_len is_name_byte (w ++ rest) ≡ length w
word_len_is [] [] e n = refl
word_len_is [] (b ∷ bs) e n = rw n refl
word_len_is (b ∷ w) rest e n =
    let two = and_parts (is_name_byte b) (list_all is_name_byte w) e in
    let i = word_len_is w rest two.1 n in
    rw two.0 (omega (arith, i))

pub word_of : (w rest : List ℕ) → list_all is_name_byte w ≡ true → NoWord rest → word (w ++ rest) ≡ w
word_of w rest e n = ap (λ k. take k (w ++ rest)) (word_len_is w rest e n) ∙ take-append_seam w rest

pub word_all : (t : Token) (text : List ℕ) → IsToken text t → is_word t ≡ true → IsSmall t → list_all is_name_byte text ≡ true
word_all t text h w s =
    let k = word_bytes text t h w s in
    ap (list_all is_name_byte) k.is ∙ and_from (is_name_byte k.first) (list_all is_name_byte k.rest) k.begins k.goes_on
