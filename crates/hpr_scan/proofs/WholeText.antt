-- The bytes of tokens that are taken are taken.
use Rattle.std.proofs.Common.{◌≡◌, ◌≢◌, ℕ, suc, List, [], ◌∷◌, ◌++◌, Bool, true, false, eqb, ◌||◌, Option, Some, None, refl, sym, ap, subst, ◌∙◌, append_assoc, arith}
use Rattle.std.specs.List.{list_all}
use Rattle.std.proofs.lemmas.Bool.{and_parts}
use Rattle.std.proofs.lemmas.Bool.Decides.{nat_tests}
use Rattle.std.proofs.lemmas.List.{append-nil}
use Rattle.hpr_terms.specs.declared.token.Sign.{Sign}
use Rattle.hpr_terms.specs.declared.token.Sign.TheVariants.{Colon, Becomes, Dot, Comma, Semicolon, Open, Close, OpenSquare, CloseSquare, Plus, Minus, Star, Slash, Percent, Equal, Differ, Less, LessEqual, Greater, GreaterEqual}
use Rattle.hpr_terms.specs.declared.token.Token.{Token}
use Rattle.hpr_terms.specs.declared.token.Token.TheVariants.{Word, Name, Number, Mark}
use Rattle.hpr_terms.specs.Names.{is_name_byte}
use Rattle.hpr_terms.specs.Tokens.{sign_text, IsToken, is_word, is_blank, HasNoNewline, Blanks, nothing, blank, Ending, blanks, comment, Apart, Text, ending, token}
use Rattle.hpr_scan.specs.declared.scanner.Lex.TheVariants.{Gap, Comment, InWord, Half}
use Rattle.hpr_scan.specs.Machine.{IsTokenMachine}
use Rattle.hpr_scan.specs.Steps.{and_then, runs}
use Rattle.hpr_scan.specs.Words.{word_token, begins}
use Rattle.hpr_scan.specs.Scanner.{sign_of, longer, feed_gap, finish, feed, scan}
use Rattle.hpr_scan.proofs.Words.{none_some, IsSmall, small, word_bytes, word_is, fronts_begin}

-- ---- blanks and comments

first_no_newline : (b : ℕ) (bs : List ℕ) → HasNoNewline (b ∷ bs) → eqb b 10 ≡ false
first_no_newline b bs h = let no : b ≢ 10 = h 0 0 (omega arith) in grind (arith, nat_tests)

rest_no_newline : (b : ℕ) (bs : List ℕ) → HasNoNewline (b ∷ bs) → HasNoNewline bs
rest_no_newline b bs h = λ k d lt. h (suc k) d (omega arith)

remark_scan : {S : Type 0} (next : S → Token → Option S) (s : S) (remark rest : List ℕ) → HasNoNewline remark → scan next Comment s (remark ++ (10 ∷ rest)) ≡ scan next Gap s rest
unfolding scan feed
remark_scan next s [] rest h = refl
remark_scan next s (b ∷ bs) rest h = rw (first_no_newline b bs h) (remark_scan next s bs rest (rest_no_newline b bs h))

remark_ends : {S : Type 0} (next : S → Token → Option S) (s : S) (remark : List ℕ) → HasNoNewline remark → scan next Comment s remark ≡ Some s
unfolding scan feed finish
remark_ends next s [] h = refl
remark_ends next s (b ∷ bs) h = rw (first_no_newline b bs h) (remark_ends next s bs (rest_no_newline b bs h))

pub blanks_scan : {S : Type 0} (next : S → Token → Option S) {bs : List ℕ} → Blanks bs → (s : S) (rest : List ℕ) → scan next Gap s (bs ++ rest) ≡ scan next Gap s rest
unfolding scan feed feed_gap is_blank
blanks_scan next nothing s rest = refl
blanks_scan next (blank e h) s rest = rw e (blanks_scan next h s rest)
blanks_scan next (comment remark {bytes = bs} n h) s rest =
    ap (scan next Comment s) (append_assoc remark (10 ∷ bs) rest) ∙ remark_scan next s remark (bs ++ rest) n ∙ blanks_scan next h s rest

ending_scan : {S : Type 0} (next : S → Token → Option S) {bs : List ℕ} → Ending bs → (s : S) → scan next Gap s bs ≡ Some s
unfolding scan feed feed_gap finish is_blank
ending_scan next (blanks {bytes = bs} h) s = ap (scan next Gap s) (sym (append-nil bs)) ∙ blanks_scan next h s []
ending_scan next (comment bs remark h n) s = blanks_scan next h s (35 ∷ remark) ∙ remark_ends next s remark n

-- ---- what stands after a token

-- the bytes don't begin with a byte of a word
abbrev pub NoWord : List ℕ → Type 0
NoWord [] = Unit {0}
NoWord (b ∷ bs) = is_name_byte b ≡ false

-- the sign isn't the front of a longer one that the bytes go on with
abbrev pub Follows : Sign → List ℕ → Type 0
Follows sign [] = Unit {0}
Follows sign (b ∷ bs) = longer sign b ≡ None

blank_no_word : (b : ℕ) → is_blank b ≡ true → is_name_byte b ≡ false
unfolding is_name_byte is_blank
blank_no_word b e = grind (arith, nat_tests)

other_follows : (sign : Sign) (b : ℕ) → eqb b 61 ≡ false → eqb b 62 ≡ false → longer sign b ≡ None
other_follows Colon b e f = rw e refl
other_follows Less b e f = rw (e, f) refl
other_follows Greater b e f = rw e refl
other_follows _ b e f = refl

pub blank_follows : (sign : Sign) (b : ℕ) → is_blank b ≡ true → longer sign b ≡ None
unfolding is_blank
blank_follows sign b e = other_follows sign b (grind (arith, nat_tests)) (grind (arith, nat_tests))

word_follows : (sign : Sign) (b : ℕ) → is_name_byte b ≡ true → longer sign b ≡ None
unfolding is_name_byte
word_follows sign b e = other_follows sign b (grind (arith, nat_tests)) (grind (arith, nat_tests))

blanks_no_word : {bs : List ℕ} → Blanks bs → (rest : List ℕ) → NoWord rest → NoWord (bs ++ rest)
unfolding is_name_byte
blanks_no_word nothing rest h = h
blanks_no_word (blank {b = b} e k) rest h = blank_no_word b e
blanks_no_word (comment remark n k) rest h = refl

blanks_follow : (sign : Sign) {bs : List ℕ} → Blanks bs → (rest : List ℕ) → Follows sign rest → Follows sign (bs ++ rest)
blanks_follow sign nothing rest h = h
blanks_follow sign (blank {b = b} e k) rest h = blank_follows sign b e
blanks_follow sign (comment remark n k) rest h = other_follows sign 35 refl refl

sign_no_word : (sign : Sign) (rest : List ℕ) → NoWord (sign_text sign ++ rest)
unfolding is_name_byte
sign_no_word Colon rest = refl
sign_no_word Becomes rest = refl
sign_no_word Dot rest = refl
sign_no_word Comma rest = refl
sign_no_word Semicolon rest = refl
sign_no_word Open rest = refl
sign_no_word Close rest = refl
sign_no_word OpenSquare rest = refl
sign_no_word CloseSquare rest = refl
sign_no_word Plus rest = refl
sign_no_word Minus rest = refl
sign_no_word Star rest = refl
sign_no_word Slash rest = refl
sign_no_word Percent rest = refl
sign_no_word Equal rest = refl
sign_no_word Differ rest = refl
sign_no_word Less rest = refl
sign_no_word LessEqual rest = refl
sign_no_word Greater rest = refl
sign_no_word GreaterEqual rest = refl

no_word_mark : (t : Token) (text : List ℕ) → is_word t ≡ false → IsToken text t → (sign : Sign) × (text ≡ sign_text sign)
no_word_mark (Mark sign) text w h = (sign, h)
no_word_mark (Word k) text w h = absurd cc
no_word_mark (Name x) text w h = absurd cc
no_word_mark (Number n) text w h = absurd cc

first_no_word : {bs : List ℕ} (w : Bool) → Blanks bs → Apart true bs w → (t : Token) (text : List ℕ) → is_word t ≡ w → IsToken text t → (rest : List ℕ) → NoWord (bs ++ (text ++ rest))
unfolding is_name_byte
first_no_word true nothing a t text e h rest = absurd a
first_no_word false nothing a t text e h rest = let m = no_word_mark t text e h in rw m.1 (sign_no_word m.0 rest)
first_no_word w (blank {b = b} f k) a t text e h rest = blank_no_word b f
first_no_word w (comment remark n k) a t text e h rest = refl

-- after a word stands no byte of a word
text_no_word : {bytes : List ℕ} {ts : List Token} → Text true bytes ts → NoWord bytes
unfolding is_name_byte
text_no_word (ending (blanks {bytes = bs} k)) = subst NoWord (append-nil bs) (blanks_no_word k [] tt)
text_no_word (ending (comment bs remark k n)) = blanks_no_word k (35 ∷ remark) refl
text_no_word (token bs text {rest = rest} {t = t} k h a more) = first_no_word (is_word t) k a t text refl h rest

-- the first step of a run
pub run_parts : {S : Type 0} (next : S → Token → Option S) (s m : S) (t : Token) (ts : List Token) → runs next s (t ∷ ts) ≡ Some m → (n : S) × (next s t ≡ Some n) × (runs next n ts ≡ Some m)
run_parts {S = S} next s m t ts e = parts_at (next s t) refl e
  where
    parts_at : (o : Option S) → next s t ≡ o → and_then o (λ n. runs next n ts) ≡ Some m → (n : S) × (next s t ≡ Some n) × (runs next n ts ≡ Some m)
    parts_at None e q = absurd cc
    parts_at (Some n) e q = (n, e, q)

equal_follows : {S : Type 0} (next : S → Token → Option S) → IsTokenMachine next → (s n m : S) (sign : Sign) (ts : List Token) → next s (Mark sign) ≡ Some n → next n (Mark Equal) ≡ Some m → longer sign 61 ≡ None
equal_follows next laws s n m Colon ts e q = absurd (none_some (sym (laws.colon s n e) ∙ q))
equal_follows next laws s n m Less ts e q = absurd (none_some (sym (laws.less_equal s n e) ∙ q))
equal_follows next laws s n m Greater ts e q = absurd (none_some (sym (laws.greater s n e) ∙ q))
equal_follows next laws s n m _ ts e q = refl

greater_follows : {S : Type 0} (next : S → Token → Option S) → IsTokenMachine next → (s n m : S) (sign : Sign) (ts : List Token) → next s (Mark sign) ≡ Some n → next n (Mark Greater) ≡ Some m → longer sign 62 ≡ None
greater_follows next laws s n m Less ts e q = absurd (none_some (sym (laws.less_greater s n e) ∙ q))
greater_follows next laws s n m _ ts e q = refl

greater_equal_follows : {S : Type 0} (next : S → Token → Option S) → IsTokenMachine next → (s n m : S) (sign : Sign) (ts : List Token) → next s (Mark sign) ≡ Some n → next n (Mark GreaterEqual) ≡ Some m → longer sign 62 ≡ None
greater_equal_follows next laws s n m Less ts e q = absurd (none_some (sym (laws.less_greater_equal s n e) ∙ q))
greater_equal_follows next laws s n m _ ts e q = refl

sign_follows : {S : Type 0} (next : S → Token → Option S) → IsTokenMachine next → (s n m : S) (sign other : Sign) (ts : List Token) (rest : List ℕ) → next s (Mark sign) ≡ Some n → next n (Mark other) ≡ Some m → Follows sign (sign_text other ++ rest)
sign_follows next laws s n m sign Colon ts rest e q = other_follows sign 58 refl refl
sign_follows next laws s n m sign Becomes ts rest e q = other_follows sign 58 refl refl
sign_follows next laws s n m sign Dot ts rest e q = other_follows sign 46 refl refl
sign_follows next laws s n m sign Comma ts rest e q = other_follows sign 44 refl refl
sign_follows next laws s n m sign Semicolon ts rest e q = other_follows sign 59 refl refl
sign_follows next laws s n m sign Open ts rest e q = other_follows sign 40 refl refl
sign_follows next laws s n m sign Close ts rest e q = other_follows sign 41 refl refl
sign_follows next laws s n m sign OpenSquare ts rest e q = other_follows sign 91 refl refl
sign_follows next laws s n m sign CloseSquare ts rest e q = other_follows sign 93 refl refl
sign_follows next laws s n m sign Plus ts rest e q = other_follows sign 43 refl refl
sign_follows next laws s n m sign Minus ts rest e q = other_follows sign 45 refl refl
sign_follows next laws s n m sign Star ts rest e q = other_follows sign 42 refl refl
sign_follows next laws s n m sign Slash ts rest e q = other_follows sign 47 refl refl
sign_follows next laws s n m sign Percent ts rest e q = other_follows sign 37 refl refl
sign_follows next laws s n m sign Equal ts rest e q = equal_follows next laws s n m sign ts e q
sign_follows next laws s n m sign Differ ts rest e q = other_follows sign 60 refl refl
sign_follows next laws s n m sign Less ts rest e q = other_follows sign 60 refl refl
sign_follows next laws s n m sign LessEqual ts rest e q = other_follows sign 60 refl refl
sign_follows next laws s n m sign Greater ts rest e q = greater_follows next laws s n m sign ts e q
sign_follows next laws s n m sign GreaterEqual ts rest e q = greater_equal_follows next laws s n m sign ts e q

text_word_follows : (sign : Sign) (t : Token) (text rest : List ℕ) → IsToken text t → is_word t ≡ true → IsSmall t → Follows sign (text ++ rest)
text_word_follows sign t text rest h w s = let k = word_bytes text t h w s in rw k.is (word_follows sign k.first k.begins)

token_follows : {S : Type 0} (next : S → Token → Option S) → IsTokenMachine next → (s n m : S) (sign : Sign) (t : Token) (ts : List Token) (text rest : List ℕ) → IsToken text t → next s (Mark sign) ≡ Some n → next n t ≡ Some m → Follows sign (text ++ rest)
token_follows next laws s n m sign (Mark other) ts text rest h e q = rw h (sign_follows next laws s n m sign other ts rest e q)
token_follows next laws s n m sign (Word k) ts text rest h e q = text_word_follows sign (Word k) text rest h refl tt
token_follows next laws s n m sign (Name x) ts text rest h e q = text_word_follows sign (Name x) text rest h refl tt
token_follows next laws s n m sign (Number x) ts text rest h e q = text_word_follows sign (Number x) text rest h refl (small next laws n m (Number x) q)

-- after a sign stand no bytes that make it longer
text_follows : {S : Type 0} (next : S → Token → Option S) → IsTokenMachine next → {w : Bool} {bytes : List ℕ} {ts : List Token} → Text w bytes ts → (s n m : S) (sign : Sign) → next s (Mark sign) ≡ Some n → runs next n ts ≡ Some m → Follows sign bytes
text_follows next laws (ending (blanks {bytes = bs} k)) s n m sign e q = subst (Follows sign) (append-nil bs) (blanks_follow sign k [] tt)
text_follows next laws (ending (comment bs remark k h)) s n m sign e q = blanks_follow sign k (35 ∷ remark) (other_follows sign 35 refl refl)
text_follows next laws (token bs text {rest = rest} {t = t} {ts = ts} k h a more) s n m sign e q =
    let r = run_parts next n m t ts q in
    blanks_follow sign k (text ++ rest) (token_follows next laws s n r.0 sign t ts text rest h e r.1)

-- ---- words

word_end : {S : Type 0} (next : S → Token → Option S) (s n : S) (t : Token) (u : List ℕ) → IsToken (u ++ []) t → is_word t ≡ true → IsSmall t → word_token u ≡ Some t
word_end next s n t u h w sm = word_is u t (subst (λ (x : List ℕ). IsToken x t) (append-nil u) h) w sm

pub word_scan : {S : Type 0} (next : S → Token → Option S) → IsTokenMachine next → (s n : S) (t : Token) (u v rest : List ℕ) → IsToken (u ++ v) t → is_word t ≡ true → list_all is_name_byte v ≡ true → next s t ≡ Some n → NoWord rest → scan next (InWord u) s (v ++ rest) ≡ scan next Gap n rest
unfolding scan feed finish
word_scan next laws s n t u [] [] h w al e nw = rw (word_end next s n t u h w (small next laws s n t e)) e
word_scan next laws s n t u [] (b ∷ rest) h w al e nw = rw (nw, word_end next s n t u h w (small next laws s n t e), e) refl
word_scan next laws s n t u (b ∷ v) rest h w al e nw =
    let two = and_parts (is_name_byte b) (list_all is_name_byte v) al in
    let begun = fronts_begin next laws s n t u v b h w e in
    rw (two.0, begun) (word_scan next laws s n t (u ++ (b ∷ [])) v rest (subst (λ (x : List ℕ). IsToken x t) (sym (append_assoc u (b ∷ []) v)) h) w two.1 e nw)

pub word_no_blank : (b : ℕ) → is_name_byte b ≡ true → is_blank b ≡ false
unfolding is_name_byte is_blank
word_no_blank b e = grind (arith, nat_tests)

pub word_no_comment : (b : ℕ) → is_name_byte b ≡ true → eqb b 35 ≡ false
unfolding is_name_byte
word_no_comment b e = grind (arith, nat_tests)

gap_word : {S : Type 0} (next : S → Token → Option S) (s : S) (b : ℕ) (rest : List ℕ) → is_name_byte b ≡ true → begins next s (b ∷ []) ≡ true → scan next Gap s (b ∷ rest) ≡ scan next (InWord (b ∷ [])) s rest
unfolding scan feed feed_gap
gap_word next s b rest e h = rw (word_no_blank b e, word_no_comment b e, e, h) refl

first_byte : {S : Type 0} (next : S → Token → Option S) → IsTokenMachine next → (s n : S) (t : Token) (b : ℕ) (bs rest : List ℕ) → IsToken (b ∷ bs) t → is_word t ≡ true → is_name_byte b ≡ true → list_all is_name_byte bs ≡ true → next s t ≡ Some n → NoWord rest → scan next Gap s (b ∷ (bs ++ rest)) ≡ scan next Gap n rest
first_byte next laws s n t b bs rest h w one al e nw = gap_word next s b (bs ++ rest) one (fronts_begin next laws s n t [] bs b h w e) ∙ word_scan next laws s n t (b ∷ []) bs rest h w al e nw

word_from_gap : {S : Type 0} (next : S → Token → Option S) → IsTokenMachine next → (s n : S) (t : Token) (text rest : List ℕ) → IsToken text t → is_word t ≡ true → next s t ≡ Some n → NoWord rest → scan next Gap s (text ++ rest) ≡ scan next Gap n rest
word_from_gap next laws s n t text rest h w e nw =
    let k = word_bytes text t h w (small next laws s n t e) in
    let g = subst (λ (x : List ℕ). IsToken x t) k.is h in
    rw k.is (first_byte next laws s n t k.first k.rest rest g w k.begins k.goes_on e nw)

-- ---- signs

or_true : (a : Bool) → (a || true) ≡ true
or_true true = refl
or_true false = refl

pub half_scan : {S : Type 0} (next : S → Token → Option S) (s n : S) (sign : Sign) (rest : List ℕ) → next s (Mark sign) ≡ Some n → Follows sign rest → scan next (Half sign) s rest ≡ scan next Gap n rest
unfolding scan feed finish
half_scan next s n sign [] e h = e
half_scan next s n sign (b ∷ rest) e h = rw (h, e) refl

sign_scan : {S : Type 0} (next : S → Token → Option S) (s n : S) (sign : Sign) (rest : List ℕ) → next s (Mark sign) ≡ Some n → Follows sign rest → scan next Gap s (sign_text sign ++ rest) ≡ scan next Gap n rest
unfolding scan feed feed_gap is_blank is_name_byte sign_of
sign_scan next s n Colon rest e h = rw e (half_scan next s n Colon rest e h)
sign_scan next s n Becomes rest e h = rw (e, or_true, e) refl
sign_scan next s n Dot rest e h = rw e refl
sign_scan next s n Comma rest e h = rw e refl
sign_scan next s n Semicolon rest e h = rw e refl
sign_scan next s n Open rest e h = rw e refl
sign_scan next s n Close rest e h = rw e refl
sign_scan next s n OpenSquare rest e h = rw e refl
sign_scan next s n CloseSquare rest e h = rw e refl
sign_scan next s n Plus rest e h = rw e refl
sign_scan next s n Minus rest e h = rw e refl
sign_scan next s n Star rest e h = rw e refl
sign_scan next s n Slash rest e h = rw e refl
sign_scan next s n Percent rest e h = rw e refl
sign_scan next s n Equal rest e h = rw e refl
sign_scan next s n Differ rest e h = rw (e, or_true, e) refl
sign_scan next s n Less rest e h = rw e (half_scan next s n Less rest e h)
sign_scan next s n LessEqual rest e h = rw (e, or_true, e) refl
sign_scan next s n Greater rest e h = rw e (half_scan next s n Greater rest e h)
sign_scan next s n GreaterEqual rest e h = rw (e, or_true, e) refl

token_scan : {S : Type 0} (next : S → Token → Option S) → IsTokenMachine next → (s n m : S) (t : Token) (ts : List Token) (text rest : List ℕ) → IsToken text t → Text (is_word t) rest ts → next s t ≡ Some n → runs next n ts ≡ Some m → scan next Gap s (text ++ rest) ≡ scan next Gap n rest
token_scan next laws s n m (Mark sign) ts text rest h more e q = rw h (sign_scan next s n sign rest e (text_follows next laws more s n m sign e q))
token_scan next laws s n m (Word k) ts text rest h more e q = word_from_gap next laws s n (Word k) text rest h refl e (text_no_word more)
token_scan next laws s n m (Name x) ts text rest h more e q = word_from_gap next laws s n (Name x) text rest h refl e (text_no_word more)
token_scan next laws s n m (Number k) ts text rest h more e q = word_from_gap next laws s n (Number k) text rest h refl e (text_no_word more)

-- the text of tokens that lead to n leads to n
pub text_scan : {S : Type 0} (next : S → Token → Option S) → IsTokenMachine next → {w : Bool} {bytes : List ℕ} {ts : List Token} → Text w bytes ts → (s n : S) → runs next s ts ≡ Some n → scan next Gap s bytes ≡ Some n
text_scan next laws (ending k) s n e = ending_scan next k s ∙ e
text_scan next laws (token bs text {rest = rest} {t = t} {ts = ts} k h a more) s n e =
    let r = run_parts next s n t ts e in
    blanks_scan next k s (text ++ rest) ∙ token_scan next laws s r.0 n t ts text rest h more r.1 r.2 ∙ text_scan next laws more r.0 n r.2
