-- Up to which byte a part says something.
use Rattle.std.proofs.Common.{◌≡◌, ℕ, ◌+◌, List, [], ◌∷◌, ◌++◌, length, Bool, true, false, cond, eqb, codes, refl, sym, ap, subst, ◌∙◌, append_assoc, arith}
use Rattle.std.specs.List.{list_all}
use Rattle.std.specs.Str.{bytes_eq}
use Rattle.std.proofs.lemmas.Bool.{and_parts, and_from}
use Rattle.std.proofs.lemmas.List.{length-append}
use Rattle.std.proofs.lemmas.Slice.Eq.{bytes_eq-Decides}
use Rattle.hpr_terms.specs.declared.keyword.Keyword.{Keyword}
use Rattle.hpr_terms.specs.declared.keyword.Keyword.TheVariants.{Then, Do}
use Rattle.hpr_terms.specs.declared.token.Sign.{Sign}
use Rattle.hpr_terms.specs.declared.token.Sign.TheVariants.{Colon, Becomes, Dot, Comma, Semicolon, Open, Close, OpenSquare, CloseSquare, Plus, Minus, Star, Slash, Percent, Equal, Differ, Less, LessEqual, Greater, GreaterEqual}
use Rattle.hpr_terms.specs.declared.token.Token.{Token}
use Rattle.hpr_terms.specs.declared.token.Token.TheVariants.{Word, Name, Number, Mark}
use Rattle.hpr_terms.specs.Keywords.{keyword_text}
use Rattle.hpr_terms.specs.Names.{is_name_byte}
use Rattle.hpr_terms.specs.Tokens.{sign_text, IsToken, is_word, HasNoNewline, Blanks, nothing, blank, comment, Text}
use Rattle.hpr_terms.proofs.Facts.{some_inj, neither}
use Rattle.hpr_scan.proofs.Words.{IsSmall, word_bytes, word_is, keyword_bytes}
use Rattle.hpr_scan.proofs.WholeText.{word_no_comment}
use Rattle.hpr_places.specs.declared.scan.Before.{Before}
use Rattle.hpr_places.specs.declared.scan.Before.TheVariants.{Gap, Comment, InWord}
use Rattle.hpr_places.specs.Private.Walk.{sign_len, ends_content, closer_len, after, content_len}
use Rattle.hpr_places.proofs.Bytes.{first_no_newline, rest_no_newline, blank_no_comment, blank_no_semicolon, blank_no_word, word_no_semicolon, NoWord, text_no_word, word_of}

step : (s : Before) (b : ℕ) (bs : List ℕ) (k : ℕ) → closer_len s (b ∷ bs) ≡ k → content_len s (b ∷ bs) ≡ cond (eqb k 0) (content_len (after s b) bs + 1) k
unfolding content_len
step s b bs k e = ap (λ n. cond (eqb n 0) (content_len (after s b) bs + 1) n) e

-- a byte that neither ends what is said nor begins a comment or a word is passed
plain : (b : ℕ) (rest : List ℕ) → eqb b 59 ≡ false → eqb b 35 ≡ false → is_name_byte b ≡ false → content_len Gap (b ∷ rest) ≡ content_len Gap rest + 1
plain b rest e f n =
    let never : closer_len Gap (b ∷ rest) ≡ 0 = rw (n, e) refl in
    step Gap b rest 0 never ∙ rw (f, n) refl

remark_pass : (remark rest : List ℕ) → HasNoNewline remark → content_len Comment (remark ++ (10 ∷ rest)) ≡ length remark + 1 + content_len Gap rest
remark_pass [] rest h = let e = step Comment 10 rest 0 refl in omega (arith, e)
remark_pass (b ∷ bs) rest h =
    let i = remark_pass bs rest (rest_no_newline b bs h) in
    step Comment b (bs ++ (10 ∷ rest)) 0 refl ∙ rw (first_no_newline b bs h) (omega (arith, i))

comment_begins : (rest : List ℕ) → content_len Gap (35 ∷ rest) ≡ content_len Comment rest + 1
unfolding is_name_byte
comment_begins rest = step Gap 35 rest 0 refl

pub blanks_pass : {bs : List ℕ} → Blanks bs → (rest : List ℕ) → content_len Gap (bs ++ rest) ≡ length bs + content_len Gap rest
blanks_pass nothing rest = omega arith
blanks_pass (blank {b = b} {bytes = bs} e h) rest =
    let i = blanks_pass h rest in
    plain b (bs ++ rest) (blank_no_semicolon b e) (blank_no_comment b e) (blank_no_word b e) ∙ omega (arith, i)
blanks_pass (comment remark {bytes = bs} n h) rest =
    let i = blanks_pass h rest in
    let a = ap (content_len Comment) (append_assoc remark (10 ∷ bs) rest) ∙ remark_pass remark (bs ++ rest) n in
    comment_begins ((remark ++ (10 ∷ bs)) ++ rest) ∙ omega (arith, a, i, length-append remark (10 ∷ bs))

-- ---- words

leaves : (b : ℕ) (bs : List ℕ) → is_name_byte b ≡ false → content_len InWord (b ∷ bs) ≡ content_len Gap (b ∷ bs)
leaves b bs n =
    let same : closer_len Gap (b ∷ bs) ≡ closer_len InWord (b ∷ bs) = rw n refl in
    step InWord b bs (closer_len InWord (b ∷ bs)) refl ∙ sym (step Gap b bs (closer_len InWord (b ∷ bs)) same)

nothing_left : content_len InWord [] ≡ length {A = ℕ} [] + content_len Gap []
unfolding content_len
nothing_left = refl

in_word : (w rest : List ℕ) → list_all is_name_byte w ≡ true → NoWord rest → content_len InWord (w ++ rest) ≡ length w + content_len Gap rest
in_word [] [] e n = nothing_left
in_word [] (b ∷ bs) e n = let same = leaves b bs n in omega (arith, same)
in_word (b ∷ w) rest e n =
    let two = and_parts (is_name_byte b) (list_all is_name_byte w) e in
    let i = in_word w rest two.1 n in
    let never : closer_len InWord (b ∷ (w ++ rest)) ≡ 0 = rw (word_no_semicolon b two.0) refl in
    step InWord b (w ++ rest) 0 never ∙ rw (word_no_comment b two.0, two.0) (omega (arith, i))

closer_is : (w rest : List ℕ) → list_all is_name_byte w ≡ true → NoWord rest → closer_len Gap (w ++ rest) ≡ cond (ends_content w) (length w) (sign_len (w ++ rest))
closer_is w rest e n = ap (λ v. cond (ends_content v) (length v) (sign_len (w ++ rest))) (word_of w rest e n)

word_pass : (b : ℕ) (w rest : List ℕ) → is_name_byte b ≡ true → list_all is_name_byte w ≡ true → NoWord rest → ends_content (b ∷ w) ≡ false
    → content_len Gap (b ∷ (w ++ rest)) ≡ length (b ∷ w) + content_len Gap rest
word_pass b w rest one all n never =
    let none : cond (ends_content (b ∷ w)) (length (b ∷ w)) (sign_len (b ∷ (w ++ rest))) ≡ 0 = rw (never, word_no_semicolon b one) refl in
    let e : closer_len Gap (b ∷ (w ++ rest)) ≡ 0 = closer_is (b ∷ w) rest (and_from (is_name_byte b) (list_all is_name_byte w) one all) n ∙ none in
    let i = in_word w rest all n in
    step Gap b (w ++ rest) 0 e ∙ rw (word_no_comment b one, one) (omega (arith, i))

then_ends : (rest : List ℕ) → NoWord rest → content_len Gap (codes "then" ++ rest) ≡ 4
then_ends rest n = step Gap 116 (codes "hen" ++ rest) 4 (closer_is (codes "then") rest (keyword_bytes Then) n)

do_ends : (rest : List ℕ) → NoWord rest → content_len Gap (codes "do" ++ rest) ≡ 2
do_ends rest n = step Gap 100 (codes "o" ++ rest) 2 (closer_is (codes "do") rest (keyword_bytes Do) n)

-- ---- signs

one_sign : (b : ℕ) (rest : List ℕ) → eqb b 59 ≡ false → eqb b 35 ≡ false → is_name_byte b ≡ false → content_len Gap (b ∷ rest) ≡ 1 + content_len Gap rest
one_sign b rest e f n = let i = plain b rest e f n in omega (arith, i)

two_signs : (a b : ℕ) (rest : List ℕ) → (eqb a 59 ≡ false) × (eqb a 35 ≡ false) × (is_name_byte a ≡ false) → (eqb b 59 ≡ false) × (eqb b 35 ≡ false) × (is_name_byte b ≡ false)
    → content_len Gap (a ∷ b ∷ rest) ≡ 2 + content_len Gap rest
two_signs a b rest p q =
    let i = plain a (b ∷ rest) p.0 p.1 p.2 in
    let j = plain b rest q.0 q.1 q.2 in
    omega (arith, i, j)

-- the token ends what a part says
abbrev pub is_closer : Token → Bool
is_closer (Mark Semicolon) = true
is_closer (Word Then) = true
is_closer (Word Do) = true
is_closer _ = false

sign_pass : (s : Sign) (rest : List ℕ) → is_closer (Mark s) ≡ false → content_len Gap (sign_text s ++ rest) ≡ length (sign_text s) + content_len Gap rest
unfolding is_name_byte
sign_pass Semicolon rest e = absurd cc
sign_pass Colon rest e = one_sign 58 rest refl refl refl
sign_pass Becomes rest e = two_signs 58 61 rest (refl, refl, refl) (refl, refl, refl)
sign_pass Dot rest e = one_sign 46 rest refl refl refl
sign_pass Comma rest e = one_sign 44 rest refl refl refl
sign_pass Open rest e = one_sign 40 rest refl refl refl
sign_pass Close rest e = one_sign 41 rest refl refl refl
sign_pass OpenSquare rest e = one_sign 91 rest refl refl refl
sign_pass CloseSquare rest e = one_sign 93 rest refl refl refl
sign_pass Plus rest e = one_sign 43 rest refl refl refl
sign_pass Minus rest e = one_sign 45 rest refl refl refl
sign_pass Star rest e = one_sign 42 rest refl refl refl
sign_pass Slash rest e = one_sign 47 rest refl refl refl
sign_pass Percent rest e = one_sign 37 rest refl refl refl
sign_pass Equal rest e = one_sign 61 rest refl refl refl
sign_pass Differ rest e = two_signs 60 62 rest (refl, refl, refl) (refl, refl, refl)
sign_pass Less rest e = one_sign 60 rest refl refl refl
sign_pass LessEqual rest e = two_signs 60 61 rest (refl, refl, refl) (refl, refl, refl)
sign_pass Greater rest e = one_sign 62 rest refl refl refl
sign_pass GreaterEqual rest e = two_signs 62 61 rest (refl, refl, refl) (refl, refl, refl)

semicolon_ends : (rest : List ℕ) → content_len Gap (59 ∷ rest) ≡ 1
unfolding is_name_byte
semicolon_ends rest = step Gap 59 rest 1 refl

-- ---- tokens

-- two tokens with the text of a keyword are the keyword
pub keyword_is : (t : Token) (k : Keyword) (text : List ℕ) → IsToken text t → is_word t ≡ true → IsSmall t → text ≡ keyword_text k → t ≡ Word k
keyword_is t k text h w s e = some_inj t (Word k) (sym (word_is text t h w s) ∙ word_is text (Word k) e refl tt)

pub other_text : (t : Token) (k : Keyword) (text : List ℕ) → IsToken text t → is_word t ≡ true → IsSmall t → (t ≡ Word k → ⊥) → bytes_eq text (keyword_text k) ≡ false
other_text t k text h w s other = at_test (bytes_eq text (keyword_text k)) refl
  where
    at_test : (b : Bool) → bytes_eq text (keyword_text k) ≡ b → b ≡ false
    at_test true e = absurd (other (keyword_is t k text h w s ((bytes_eq-Decides text (keyword_text k)).0 e)))
    at_test false e = refl

goes_on : (t : Token) (text : List ℕ) → IsToken text t → is_word t ≡ true → IsSmall t → is_closer t ≡ false → ends_content text ≡ false
goes_on t text h w s c =
    neither (bytes_eq text (codes "then")) (bytes_eq text (codes "do"))
    (other_text t Then text h w s (λ e. let never = sym (ap is_closer e) ∙ c in absurd cc))
    (other_text t Do text h w s (λ e. let never = sym (ap is_closer e) ∙ c in absurd cc))

word_token_pass : (t : Token) (text rest : List ℕ) → IsToken text t → is_word t ≡ true → IsSmall t → is_closer t ≡ false → NoWord rest
    → content_len Gap (text ++ rest) ≡ length text + content_len Gap rest
word_token_pass t text rest h w s c n =
    let k = word_bytes text t h w s in
    let never : ends_content (k.first ∷ k.rest) ≡ false = sym (ap ends_content k.is) ∙ goes_on t text h w s c in
    ap (λ v. content_len Gap (v ++ rest)) k.is ∙ word_pass k.first k.rest rest k.begins k.goes_on n never ∙ ap (λ v. length v + content_len Gap rest) (sym k.is)

pub token_pass : (t : Token) (text rest : List ℕ) (ts : List Token) → IsToken text t → IsSmall t → is_closer t ≡ false → Text (is_word t) rest ts
    → content_len Gap (text ++ rest) ≡ length text + content_len Gap rest
token_pass (Mark x) text rest ts h s c more = subst (λ v. content_len Gap (v ++ rest) ≡ length v + content_len Gap rest) (sym h) (sign_pass x rest c)
token_pass (Word k) text rest ts h s c more = word_token_pass (Word k) text rest h refl s c (text_no_word more)
token_pass (Name x) text rest ts h s c more = word_token_pass (Name x) text rest h refl s c (text_no_word more)
token_pass (Number n) text rest ts h s c more = word_token_pass (Number n) text rest h refl s c (text_no_word more)

pub token_ends : (t : Token) (text rest : List ℕ) (ts : List Token) → IsToken text t → is_closer t ≡ true → Text (is_word t) rest ts
    → content_len Gap (text ++ rest) ≡ length text
token_ends (Mark Semicolon) text rest ts h c more = subst (λ v. content_len Gap (v ++ rest) ≡ length v) (sym h) (semicolon_ends rest)
token_ends (Word Then) text rest ts h c more = subst (λ v. content_len Gap (v ++ rest) ≡ length v) (sym h) (then_ends rest (text_no_word more))
token_ends (Word Do) text rest ts h c more = subst (λ v. content_len Gap (v ++ rest) ≡ length v) (sym h) (do_ends rest (text_no_word more))
token_ends _ text rest ts h c more = absurd cc
