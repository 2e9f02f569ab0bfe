-- Bytes that are taken are the text of tokens that are taken.
use Rattle.std.proofs.Common.{◌≡◌, ◌≢◌, ℕ, List, [], ◌∷◌, ◌++◌, Bool, true, false, cond, eqb, Option, Some, None, refl, sym, ap, subst, append_assoc, arith, inl, inr, ◌⊎◌}
use Rattle.std.proofs.lemmas.List.{append-nil}
use Rattle.std.proofs.lemmas.List.Elements.{All-cons, All-nil}
use Rattle.std.proofs.lemmas.Bool.{eqb-true}
use Rattle.std.proofs.lemmas.Bool.Decides.{nat_tests}
use Rattle.hpr_terms.specs.declared.token.Sign.{Sign}
use Rattle.hpr_terms.specs.declared.token.Sign.TheVariants.{Colon, Becomes, Dot, Comma, Semicolon, Open, Close, OpenSquare, CloseSquare, Plus, Minus, Star, Slash, Percent, Equal, Differ, Less, LessEqual, Greater, GreaterEqual}
use Rattle.hpr_terms.specs.declared.token.Token.{Token}
use Rattle.hpr_terms.specs.declared.token.Token.TheVariants.{Mark}
use Rattle.hpr_terms.specs.Names.{is_name_byte}
use Rattle.hpr_terms.specs.Tokens.{sign_text, IsToken, is_word, is_blank, HasNoNewline, Blanks, nothing, blank, blanks, comment, Apart, Text, ending, token}
use Rattle.hpr_terms.proofs.Facts.{some_inj}
use Rattle.hpr_scan.specs.declared.scanner.Lex.{Lex}
use Rattle.hpr_scan.specs.declared.scanner.Lex.TheVariants.{Gap, Comment, InWord, Half}
use Rattle.hpr_scan.specs.declared.scanner.Scanner.{Scanner}
use Rattle.hpr_scan.specs.Machine.{IsTokenMachine}
use Rattle.hpr_scan.specs.Steps.{and_then, runs}
use Rattle.hpr_scan.specs.Words.{word_token, begins}
use Rattle.hpr_scan.specs.Scanner.{at, sign_of, longer, after_sign, waiting, feed_sign, feed_gap, finish, feed_half, feed, scan}
use Rattle.hpr_scan.proofs.Words.{none_some, true_false, IsSmall, small, word_bytes, token_is}
use Rattle.hpr_scan.proofs.WholeText.{NoWord, run_parts}

-- the bytes go on with a comment, up to its newline or to their end
pub data FromComment : List ℕ → List Token → Type 0 where
  goes : (remark : List ℕ) {rest : List ℕ} {ts : List Token} → HasNoNewline remark → Text false rest ts → FromComment (remark ++ (10 ∷ rest)) ts
  stops : (remark : List ℕ) → HasNoNewline remark → FromComment remark []

-- the bytes go on with the word w, up to the end of a token
pub record FromWord (w bytes : List ℕ) (ts : List Token) : Type 0 where
  pub more : List ℕ
  pub rest : List ℕ
  pub first : Token
  pub others : List Token
  pub is : IsToken (w ++ more) first
  pub is_word : is_word first ≡ true
  pub text : Text true rest others
  pub bytes_are : bytes ≡ more ++ rest
  pub tokens_are : ts ≡ first ∷ others

-- the bytes go on with the sign, up to the end of a token
pub record FromHalf (sign : Sign) (bytes : List ℕ) (ts : List Token) : Type 0 where
  pub more : List ℕ
  pub rest : List ℕ
  pub other : Sign
  pub others : List Token
  pub is : sign_text other ≡ sign_text sign ++ more
  pub text : Text false rest others
  pub bytes_are : bytes ≡ more ++ rest
  pub tokens_are : ts ≡ Mark other ∷ others

-- what the bytes are, behind what was begun
abbrev pub From : Lex → List ℕ → List Token → Type 0
From Gap bytes ts = Text false bytes ts
From Comment bytes ts = FromComment bytes ts
From (InWord w) bytes ts = FromWord w bytes ts
From (Half sign) bytes ts = FromHalf sign bytes ts

pub apart_cons : (w : Bool) (b : ℕ) (bs : List ℕ) (v : Bool) → Apart w (b ∷ bs) v
apart_cons true b bs true = tt
apart_cons true b bs false = tt
apart_cons false b bs v = tt

no_newline_none : HasNoNewline []
no_newline_none = All-nil (λ b. b ≢ 10)

differs : (b : ℕ) → eqb b 10 ≡ false → b ≢ 10
differs b e = grind (arith, nat_tests)

no_newline_more : (b : ℕ) (bs : List ℕ) → eqb b 10 ≡ false → HasNoNewline bs → HasNoNewline (b ∷ bs)
no_newline_more b bs e n = All-cons (λ b. b ≢ 10) b bs (differs b e) n

blank_text : {w v : Bool} {bytes : List ℕ} {ts : List Token} (b : ℕ) → is_blank b ≡ true → Text w bytes ts → Text v (b ∷ bytes) ts
blank_text b e (ending (blanks k)) = ending (blanks (blank e k))
blank_text b e (ending (comment bs remark k n)) = ending (comment (b ∷ bs) remark (blank e k) n)
blank_text {v = v} b e (token bs text {t = t} k h a more) = token (b ∷ bs) text (blank e k) h (apart_cons v b bs (is_word t)) more

comment_text : {w v : Bool} {bytes : List ℕ} {ts : List Token} (remark : List ℕ) → HasNoNewline remark → Text w bytes ts → Text v (35 ∷ (remark ++ (10 ∷ bytes))) ts
comment_text remark n (ending (blanks k)) = ending (blanks (comment remark n k))
comment_text {v = v} remark n (ending (comment bs last k m)) =
    subst (λ (x : List ℕ). Text v (35 ∷ x) []) (append_assoc remark (10 ∷ bs) (35 ∷ last)) (ending (comment (35 ∷ (remark ++ (10 ∷ bs))) last (comment remark n k) m))
comment_text {v = v} remark n (token bs text {rest = rest} {t = t} {ts = ts} k h a more) =
    subst (λ (x : List ℕ). Text v (35 ∷ x) (t ∷ ts)) (append_assoc remark (10 ∷ bs) (text ++ rest))
    (token (35 ∷ (remark ++ (10 ∷ bs))) text (comment remark n k) h (apart_cons v 35 (remark ++ (10 ∷ bs)) (is_word t)) more)

comment_from : {bytes : List ℕ} {ts : List Token} → FromComment bytes ts → Text false (35 ∷ bytes) ts
comment_from (goes remark n text) = comment_text remark n text
comment_from (stops remark n) = ending (comment [] remark nothing n)

longer_comment : {bs : List ℕ} {ts : List Token} (b : ℕ) → eqb b 10 ≡ false → FromComment bs ts → FromComment (b ∷ bs) ts
longer_comment b e (goes remark n text) = goes (b ∷ remark) (no_newline_more b remark e n) text
longer_comment b e (stops remark n) = stops (b ∷ remark) (no_newline_more b remark e n)

word_apart : {bs : List ℕ} (text rest : List ℕ) (t : Token) (w : Bool) → is_word t ≡ w → IsToken text t → IsSmall t → Blanks bs → NoWord (bs ++ (text ++ rest)) → Apart true bs w
word_apart text rest t true e h s nothing nw =
    let k = word_bytes text t h e s in
    let first : is_name_byte k.first ≡ false = subst (λ (x : List ℕ). NoWord (x ++ rest)) k.is nw in
    absurd (true_false k.begins first)
word_apart text rest t false e h s nothing nw = tt
word_apart text rest t w e h s (blank {b = b} {bytes = bs} f k) nw = apart_cons true b bs w
word_apart text rest t w e h s (comment remark {bytes = bs} n k) nw = apart_cons true 35 (remark ++ (10 ∷ bs)) w

-- Behind a word the text is the same, where it begins with no byte of a word.
apart_text : {S : Type 0} (next : S → Token → Option S) → IsTokenMachine next → {bytes : List ℕ} {ts : List Token} → Text false bytes ts → NoWord bytes → (s n : S) → runs next s ts ≡ Some n → Text true bytes ts
apart_text next laws (ending k) nw s n q = ending k
apart_text next laws (token bs text {rest = rest} {t = t} {ts = ts} k h a more) nw s n q =
    let r = run_parts next s n t ts q in
    token bs text k h (word_apart text rest t (is_word t) refl h (small next laws s r.0 t r.1) k nw) more

-- ---- one byte

-- a step back: from the tokens behind the byte to those from the byte on
pub record Back {S : Type 0} (next : S → Token → Option S) (l : Lex) (s : S) (b : ℕ) (bs : List ℕ) (n : S) : Type 0 where
  pub tokens : List Token
  pub from : From l (b ∷ bs) tokens
  pub run : runs next s tokens ≡ Some n

pub run_first : {S : Type 0} (next : S → Token → Option S) (s m n : S) (t : Token) (ts : List Token) → next s t ≡ Some m → runs next m ts ≡ Some n → runs next s (t ∷ ts) ≡ Some n
run_first next s m n t ts e q = rw e q

pub guard_of : {A : Type 0} (b : Bool) (x y : Option A) (z : A) → cond b x y ≡ Some z → ((b ≡ true) × (x ≡ Some z)) ⊎ ((b ≡ false) × (y ≡ Some z))
guard_of true x y z e = inl (refl, e)
guard_of false x y z e = inr (refl, e)

pub guard_is : {A : Type 0} (b : Bool) (x y : A) → cond b (Some x) None ≡ Some y → (b ≡ true) × (x ≡ y)
guard_is true x y e = (refl, cc)
guard_is false x y e = absurd cc

pub then_of : {A B : Type 0} (o : Option A) (f : A → Option B) (z : B) → and_then o f ≡ Some z → (x : A) × (o ≡ Some x) × (f x ≡ Some z)
then_of None f z e = absurd cc
then_of (Some x) f z e = (x, refl, e)

-- where the byte leads to the place m
stay_back : {S : Type 0} (next : S → Token → Option S) (l : Lex) (s : S) (b : ℕ) (bs : List ℕ) (a m : Scanner S) (ts : List Token) (n : S) → m ≡ a → (From m.lex bs ts → runs next m.machine ts ≡ Some n → Back next l s b bs n) → From a.lex bs ts → runs next a.machine ts ≡ Some n → Back next l s b bs n
stay_back {S = S} next l s b bs a m ts n e f = subst (λ (x : Scanner S). From x.lex bs ts → runs next x.machine ts ≡ Some n → Back next l s b bs n) e f

word_from : (b : ℕ) (bs : List ℕ) (ts : List Token) → FromWord (b ∷ []) bs ts → Text false (b ∷ bs) ts
word_from b bs ts f =
    let behind : Text (is_word f.first) f.rest f.others = subst (λ (w : Bool). Text w f.rest f.others) (sym f.is_word) f.text in
    rw (f.bytes_are, f.tokens_are) (token [] (b ∷ f.more) nothing f.is tt behind)

word_longer : (w : List ℕ) (b : ℕ) (bs : List ℕ) (ts : List Token) → FromWord (w ++ (b ∷ [])) bs ts → FromWord w (b ∷ bs) ts
word_longer w b bs ts f = record {
  more = b ∷ f.more;
  rest = f.rest;
  first = f.first;
  others = f.others;
  is = subst (λ (x : List ℕ). IsToken x f.first) (append_assoc w (b ∷ []) f.more) f.is;
  is_word = f.is_word;
  text = f.text;
  bytes_are = ap (λ (x : List ℕ). b ∷ x) f.bytes_are;
  tokens_are = f.tokens_are;
}

-- ---- signs

next_sign : (b k : ℕ) (sign goal : Sign) (other : Option Sign) → sign_text sign ≡ k ∷ [] → cond (eqb b k) (Some sign) other ≡ Some goal → (other ≡ Some goal → sign_text goal ≡ b ∷ []) → sign_text goal ≡ b ∷ []
next_sign b k sign goal other t e f =
    elim (guard_of (eqb b k) (Some sign) other goal e) [
      | inl h ↦ rw (eqb-true _ _ h.0, ← some_inj _ _ h.1) t
      | inr h ↦ f h.1
    ]

sign_is : (b : ℕ) (sign : Sign) → sign_of b ≡ Some sign → sign_text sign ≡ b ∷ []
unfolding sign_of
sign_is b sign e =
    next_sign b 58 Colon sign _ refl e (λ e. next_sign b 46 Dot sign _ refl e (λ e. next_sign b 44 Comma sign _ refl e (λ e. next_sign b 59 Semicolon sign _ refl e
    (λ e. next_sign b 40 Open sign _ refl e (λ e. next_sign b 41 Close sign _ refl e (λ e. next_sign b 91 OpenSquare sign _ refl e (λ e. next_sign b 93 CloseSquare sign _ refl e
    (λ e. next_sign b 43 Plus sign _ refl e (λ e. next_sign b 45 Minus sign _ refl e
    (λ e. next_sign b 42 Star sign _ refl e (λ e. next_sign b 47 Slash sign _ refl e (λ e. next_sign b 37 Percent sign _ refl e (λ e. next_sign b 61 Equal sign _ refl e
    (λ e. next_sign b 60 Less sign _ refl e (λ e. next_sign b 62 Greater sign None refl e (λ e. absurd (none_some e)))))))))))))))))

free : (w : Bool) → Apart w [] false
free true = tt
free false = tt

mark_text : {w : Bool} (sign : Sign) (rest : List ℕ) (ts : List Token) → Text false rest ts → Text w (sign_text sign ++ rest) (Mark sign ∷ ts)
mark_text {w = w} sign rest ts f = token [] (sign_text sign) nothing refl (free w) f

after_back : {S : Type 0} (next : S → Token → Option S) (s : S) (sign : Sign) (o : Option S) (b : ℕ) (bs : List ℕ) (a : Scanner S) (ts : List Token) (n : S) → sign_text sign ≡ b ∷ [] → next s (Mark sign) ≡ o → after_sign o ≡ Some a → From a.lex bs ts → runs next a.machine ts ≡ Some n → Back next Gap s b bs n
after_back next s sign None b bs a ts n t e q = absurd cc
after_back next s sign (Some m) b bs a ts n t e q = stay_back next Gap s b bs a (at Gap m) ts n (some_inj _ _ q) (λ (f : Text false bs ts) r. record {
  tokens = Mark sign ∷ ts;
  from = subst (λ (x : List ℕ). Text false (x ++ bs) (Mark sign ∷ ts)) t (mark_text sign bs ts f);
  run = run_first next s m n (Mark sign) ts e r;
})

half_whole : (sign other : Sign) (more rest : List ℕ) (b : ℕ) → sign_text sign ≡ b ∷ [] → sign_text other ≡ sign_text sign ++ more → sign_text other ++ rest ≡ b ∷ (more ++ rest)
half_whole sign other more rest b t e = rw (e, t) refl

half_text : (sign : Sign) (b : ℕ) (bs : List ℕ) (ts : List Token) → sign_text sign ≡ b ∷ [] → FromHalf sign bs ts → Text false (b ∷ bs) ts
half_text sign b bs ts t f =
    rw (f.bytes_are, f.tokens_are) (subst (λ (x : List ℕ). Text false x (Mark f.other ∷ f.others)) (half_whole sign f.other f.more f.rest b t f.is) (mark_text f.other f.rest f.others f.text))

wait_back : {S : Type 0} (next : S → Token → Option S) (s : S) (b : ℕ) (sign : Sign) (can : Bool) (bs : List ℕ) (a : Scanner S) (ts : List Token) (n : S) → sign_text sign ≡ b ∷ [] → waiting s sign can ≡ Some a → From a.lex bs ts → runs next a.machine ts ≡ Some n → Back next Gap s b bs n
wait_back next s b sign can bs a ts n t e =
    stay_back next Gap s b bs a (at (Half sign) s) ts n (guard_is can (at (Half sign) s) a e).1 (λ (f : FromHalf sign bs ts) r. record { tokens = ts; from = half_text sign b bs ts t f; run = r })

sign_back : {S : Type 0} (next : S → Token → Option S) (s : S) (b : ℕ) (sign : Sign) (bs : List ℕ) (a : Scanner S) (ts : List Token) (n : S) → sign_text sign ≡ b ∷ [] → feed_sign next s sign ≡ Some a → From a.lex bs ts → runs next a.machine ts ≡ Some n → Back next Gap s b bs n
sign_back next s b Colon bs a ts n t e = wait_back next s b Colon _ bs a ts n t e
sign_back next s b Less bs a ts n t e = wait_back next s b Less _ bs a ts n t e
sign_back next s b Greater bs a ts n t e = wait_back next s b Greater _ bs a ts n t e
sign_back next s b sign bs a ts n t e = after_back next s sign (next s (Mark sign)) b bs a ts n t refl e

-- ---- the byte after a gap

grown_back : {S : Type 0} (next : S → Token → Option S) (s : S) (b : ℕ) (bs : List ℕ) (a : Scanner S) (ts : List Token) (n : S) → cond (begins next s (b ∷ [])) (Some (at (InWord (b ∷ [])) s)) None ≡ Some a → From a.lex bs ts → runs next a.machine ts ≡ Some n → Back next Gap s b bs n
grown_back next s b bs a ts n e =
    stay_back next Gap s b bs a (at (InWord (b ∷ [])) s) ts n (guard_is (begins next s (b ∷ [])) (at (InWord (b ∷ [])) s) a e).1 (λ (f : FromWord (b ∷ []) bs ts) r. record { tokens = ts; from = word_from b bs ts f; run = r })

gap_back : {S : Type 0} (next : S → Token → Option S) (s : S) (b : ℕ) (bs : List ℕ) (a : Scanner S) (ts : List Token) (n : S) → feed_gap next s b ≡ Some a → From a.lex bs ts → runs next a.machine ts ≡ Some n → Back next Gap s b bs n
unfolding feed_gap
gap_back next s b bs a ts n e f q =
    elim (guard_of (is_blank b) _ _ a e) [
      | inl h ↦ stay_back next Gap s b bs a (at Gap s) ts n (some_inj _ _ h.1) (λ (f : Text false bs ts) r. record { tokens = ts; from = blank_text b h.0 f; run = r }) f q
      | inr h ↦ elim (guard_of (eqb b 35) _ _ a h.1) [
        | inl i ↦ stay_back next Gap s b bs a (at Comment s) ts n (some_inj _ _ i.1) (λ (f : FromComment bs ts) r. record { tokens = ts; from = rw (eqb-true _ _ i.0) (comment_from f); run = r }) f q
        | inr i ↦ elim (guard_of (is_name_byte b) _ _ a i.1) [
          | inl j ↦ grown_back next s b bs a ts n j.1 f q
          | inr j ↦ let k = then_of (sign_of b) (feed_sign next s) a j.1 in sign_back next s b k.0 bs a ts n (sign_is b k.0 k.1) k.2 f q
        ]
      ]
    ]

comment_back : {S : Type 0} (next : S → Token → Option S) (s : S) (b : ℕ) (bs : List ℕ) (a : Scanner S) (ts : List Token) (n : S) (v : Bool) → eqb b 10 ≡ v → Some (at (cond v Gap Comment) s) ≡ Some a → From a.lex bs ts → runs next a.machine ts ≡ Some n → Back next Comment s b bs n
comment_back next s b bs a ts n true v e =
    stay_back next Comment s b bs a (at Gap s) ts n (some_inj _ _ e) (λ (f : Text false bs ts) r. record { tokens = ts; from = rw (eqb-true _ _ v) (goes [] no_newline_none f); run = r })
comment_back next s b bs a ts n false v e =
    stay_back next Comment s b bs a (at Comment s) ts n (some_inj _ _ e) (λ (f : FromComment bs ts) r. record { tokens = ts; from = longer_comment b v f; run = r })

-- ---- the byte after a word or a sign

finish_back : {S : Type 0} (next : S → Token → Option S) → IsTokenMachine next → (s m : S) (w : List ℕ) (b : ℕ) (bs : List ℕ) (a : Scanner S) (ts : List Token) (n : S) → is_name_byte b ≡ false → finish next (InWord w) s ≡ Some m → feed_gap next m b ≡ Some a → From a.lex bs ts → runs next a.machine ts ≡ Some n → Back next (InWord w) s b bs n
unfolding finish
finish_back next laws s m w b bs a ts n nw e g f q =
    let p = gap_back next m b bs a ts n g f q in
    let k = then_of (word_token w) (next s) m e in
    let t = token_is w k.0 k.1 (small next laws s m k.0 k.2) in
    record {
      tokens = k.0 ∷ p.tokens;
      from = record { more = []; rest = b ∷ bs; first = k.0; others = p.tokens; is = subst (λ (x : List ℕ). IsToken x k.0) (sym (append-nil w)) t.0; is_word = t.1; text = apart_text next laws p.from nw m n p.run; bytes_are = refl; tokens_are = refl };
      run = run_first next s m n k.0 p.tokens k.2 p.run;
    }

half_ends : {S : Type 0} (next : S → Token → Option S) (s m : S) (sign : Sign) (b : ℕ) (bs : List ℕ) (a : Scanner S) (ts : List Token) (n : S) → finish next (Half sign) s ≡ Some m → feed_gap next m b ≡ Some a → From a.lex bs ts → runs next a.machine ts ≡ Some n → Back next (Half sign) s b bs n
unfolding finish
half_ends next s m sign b bs a ts n e g f q =
    let p = gap_back next m b bs a ts n g f q in
    record {
      tokens = Mark sign ∷ p.tokens;
      from = record { more = []; rest = b ∷ bs; other = sign; others = p.tokens; is = sym (append-nil (sign_text sign)); text = p.from; bytes_are = refl; tokens_are = refl };
      run = run_first next s m n (Mark sign) p.tokens e p.run;
    }

longer_is : (sign long : Sign) (b : ℕ) → longer sign b ≡ Some long → sign_text long ≡ sign_text sign ++ (b ∷ [])
longer_is Colon long b e = let g = guard_is (eqb b 61) Becomes long e in rw (← g.1, eqb-true _ _ g.0) refl
longer_is Less long b e =
    elim (guard_of (eqb b 61) (Some LessEqual) _ long e) [
      | inl h ↦ rw (← some_inj _ _ h.1, eqb-true _ _ h.0) refl
      | inr h ↦ let g = guard_is (eqb b 62) Differ long h.1 in rw (← g.1, eqb-true _ _ g.0) refl
    ]
longer_is Greater long b e = let g = guard_is (eqb b 61) GreaterEqual long e in rw (← g.1, eqb-true _ _ g.0) refl
longer_is _ long b e = absurd cc

long_back : {S : Type 0} (next : S → Token → Option S) (s : S) (sign long : Sign) (o : Option S) (b : ℕ) (bs : List ℕ) (a : Scanner S) (ts : List Token) (n : S) → longer sign b ≡ Some long → next s (Mark long) ≡ o → after_sign o ≡ Some a → From a.lex bs ts → runs next a.machine ts ≡ Some n → Back next (Half sign) s b bs n
long_back next s sign long None b bs a ts n l e q = absurd cc
long_back next s sign long (Some m) b bs a ts n l e q = stay_back next (Half sign) s b bs a (at Gap m) ts n (some_inj _ _ q) (λ (f : Text false bs ts) r. record {
  tokens = Mark long ∷ ts;
  from = record { more = b ∷ []; rest = bs; other = long; others = ts; is = longer_is sign long b l; text = f; bytes_are = refl; tokens_are = refl };
  run = run_first next s m n (Mark long) ts e r;
})

half_next : {S : Type 0} (next : S → Token → Option S) (s : S) (sign : Sign) (o : Option Sign) (b : ℕ) (bs : List ℕ) (a : Scanner S) (ts : List Token) (n : S) → longer sign b ≡ o → feed_half next o sign s b ≡ Some a → From a.lex bs ts → runs next a.machine ts ≡ Some n → Back next (Half sign) s b bs n
half_next next s sign (Some long) b bs a ts n l e f q = long_back next s sign long (next s (Mark long)) b bs a ts n l refl e f q
half_next next s sign None b bs a ts n l e f q = let k = then_of (finish next (Half sign) s) (λ n. feed_gap next n b) a e in half_ends next s k.0 sign b bs a ts n k.1 k.2 f q

back : {S : Type 0} (next : S → Token → Option S) → IsTokenMachine next → (l : Lex) (s : S) (b : ℕ) (bs : List ℕ) (a : Scanner S) (ts : List Token) (n : S) → feed next l s b ≡ Some a → From a.lex bs ts → runs next a.machine ts ≡ Some n → Back next l s b bs n
unfolding feed
back next laws Gap s b bs a ts n e f q = gap_back next s b bs a ts n e f q
back next laws Comment s b bs a ts n e f q = comment_back next s b bs a ts n (eqb b 10) refl e f q
back next laws (Half sign) s b bs a ts n e f q = half_next next s sign (longer sign b) b bs a ts n refl e f q
back next laws (InWord w) s b bs a ts n e f q =
    elim (guard_of (is_name_byte b) _ _ a e) [
      | inl j ↦ let g = guard_is (begins next s (w ++ (b ∷ []))) (at (InWord (w ++ (b ∷ []))) s) a j.1 in
          stay_back next (InWord w) s b bs a (at (InWord (w ++ (b ∷ []))) s) ts n g.1 (λ (f : FromWord (w ++ (b ∷ [])) bs ts) r. record { tokens = ts; from = word_longer w b bs ts f; run = r }) f q
      | inr j ↦ let k = then_of (finish next (InWord w) s) (λ n. feed_gap next n b) a j.1 in finish_back next laws s k.0 w b bs a ts n j.0 k.1 k.2 f q
    ]

-- ---- all bytes

no_text : {w : Bool} → Text w [] []
no_text = ending (blanks nothing)

ends_from : {S : Type 0} (next : S → Token → Option S) → IsTokenMachine next → (l : Lex) (s n : S) → finish next l s ≡ Some n → (ts : List Token) × From l [] ts × (runs next s ts ≡ Some n)
unfolding finish
ends_from next laws Gap s n e = ([], no_text, e)
ends_from next laws Comment s n e = ([], stops [] no_newline_none, e)
ends_from next laws (InWord w) s n e =
    let k = then_of (word_token w) (next s) n e in
    let t = token_is w k.0 k.1 (small next laws s n k.0 k.2) in
    (k.0 ∷ [], record { more = []; rest = []; first = k.0; others = []; is = subst (λ (x : List ℕ). IsToken x k.0) (sym (append-nil w)) t.0; is_word = t.1; text = no_text; bytes_are = refl; tokens_are = refl }, run_first next s n n k.0 [] k.2 refl)
ends_from next laws (Half sign) s n e =
    (Mark sign ∷ [], record { more = []; rest = []; other = sign; others = []; is = sym (append-nil (sign_text sign)); text = no_text; bytes_are = refl; tokens_are = refl }, run_first next s n n (Mark sign) [] e refl)

-- bytes that lead to n are the text of tokens that lead to n
pub scan_from : {S : Type 0} (next : S → Token → Option S) → IsTokenMachine next → (bytes : List ℕ) (l : Lex) (s n : S) → scan next l s bytes ≡ Some n → (ts : List Token) × From l bytes ts × (runs next s ts ≡ Some n)
unfolding scan
scan_from next laws [] l s n e = ends_from next laws l s n e
scan_from next laws (b ∷ bs) l s n e =
    let k = then_of (feed next l s b) (λ a. scan next a.lex a.machine bs) n e in
    let r = scan_from next laws bs k.0.lex k.0.machine n k.2 in
    let p = back next laws l s b bs k.0 r.0 n k.1 r.1 r.2 in
    (p.tokens, p.from, p.run)
