-- Whatever has begun can be completed, and the machine behind it can come to an end.
use Rattle.std.proofs.Common.{◌≡◌, ℕ, List, [], ◌∷◌, ◌++◌, Bool, true, false, cond, eqb, ◌||◌, Option, Some, None, refl, sym, ap, subst, ◌∙◌, inl, inr, ◌⊎◌}
use Rattle.std.specs.Option.{is_some}
use Rattle.std.specs.List.{list_all, list_any, starts_with}
use Rattle.std.specs.Fmt.{decimal}
use Rattle.std.proofs.lemmas.Bool.{and_parts, eqb-true}
use Rattle.std.proofs.lemmas.List.{append-nil}
use Rattle.hpr_terms.specs.declared.keyword.Keyword.{Keyword}
use Rattle.hpr_terms.specs.declared.keyword.Keyword.TheVariants.{Program, Issued, If, Then, Else, Fi, While, Do, Od, End, And, Or, Not, Write, Out}
use Rattle.hpr_terms.specs.declared.token.Sign.{Sign}
use Rattle.hpr_terms.specs.declared.token.Sign.TheVariants.{Colon, Becomes, Differ, Less, LessEqual, Greater, GreaterEqual}
use Rattle.hpr_terms.specs.declared.token.Token.{Token}
use Rattle.hpr_terms.specs.declared.token.Token.TheVariants.{Word, Name, Number, Mark}
use Rattle.hpr_terms.specs.Keywords.{keyword_text, keywords, keyword_of}
use Rattle.hpr_terms.specs.Names.{is_name_like, is_name_byte, is_name}
use Rattle.hpr_terms.specs.Tokens.{sign_text, IsToken, is_word, is_blank, nothing, blank, blanks, Text, ending, token}
use Rattle.hpr_terms.proofs.Facts.{some_inj}
use Rattle.hpr_scan.specs.declared.scanner.Lex.{Lex}
use Rattle.hpr_scan.specs.declared.scanner.Lex.TheVariants.{Gap, Comment, InWord, Half}
use Rattle.hpr_scan.specs.declared.scanner.Scanner.{Scanner}
use Rattle.hpr_scan.specs.Machine.{IsTokenMachine, HasText, Live, ends, goes}
use Rattle.hpr_scan.specs.Steps.{runs}
use Rattle.hpr_scan.specs.Words.{value_after, is_numeral, begins_name, begins_number, begins_keyword, begins}
use Rattle.hpr_scan.specs.Scanner.{at, sign_of, longer, after_sign, waiting, feed_sign, feed_gap, finish, feed_half, feed, scan, feeds}
use Rattle.hpr_scan.proofs.Words.{small, keyword_is, number_text, keyword_bytes}
use Rattle.hpr_scan.proofs.WholeText.{NoWord, Follows, blank_follows, half_scan, word_scan, text_scan}
use Rattle.hpr_scan.proofs.SoundText.{apart_cons, run_first, guard_of, guard_is, then_of}

-- ---- tokens to an end have a text

token_text : (t : Token) → HasText t → (text : List ℕ) × IsToken text t
token_text (Word k) h = (keyword_text k, refl)
token_text (Name x) h = (x, (refl, h))
token_text (Number n) h = (decimal n, refl)
token_text (Mark s) h = (sign_text s, refl)

-- bytes that lead s to an end, and that end whatever token stands before them
pub record Way {S : Type 0} (next : S → Token → Option S) (may_end : S → Bool) (w : Bool) (s : S) : Type 0 where
  pub bytes : List ℕ
  pub tokens : List Token
  pub last : S
  pub text : Text w bytes tokens
  pub run : runs next s tokens ≡ Some last
  pub ends : may_end last ≡ true
  pub no_word : NoWord bytes
  pub follows : (sign : Sign) → Follows sign bytes

pub way : {S : Type 0} (next : S → Token → Option S) (may_end : S → Bool) (w : Bool) {s : S} → Live next may_end s → Way next may_end w s
unfolding is_blank is_name_byte
way next may_end w (ends {s = s} e) = record { bytes = []; tokens = []; last = s; text = ending (blanks nothing); run = refl; ends = e; no_word = tt; follows = λ sign. tt }
way next may_end w (goes {s = s} t n h e k) =
    let r = way next may_end (is_word t) k in
    let u = token_text t h in
    record {
      bytes = 32 ∷ (u.0 ++ r.bytes);
      tokens = t ∷ r.tokens;
      last = r.last;
      text = token (32 ∷ []) u.0 (blank refl nothing) u.1 (apart_cons w 32 [] (is_word t)) r.text;
      run = run_first next s n r.last t r.tokens e r.run;
      ends = r.ends;
      no_word = refl;
      follows = λ sign. blank_follows sign 32 refl;
    }

-- ---- words that have begun

pub or_of : (a b : Bool) → (a || b) ≡ true → (a ≡ true) ⊎ (b ≡ true)
or_of true b e = inl refl
or_of false b e = inr e

pub taken : {A : Type 0} (o : Option A) → is_some o ≡ true → (x : A) × (o ≡ Some x)
taken None e = absurd cc
taken (Some x) e = (x, refl)

pub all_behind : (p : ℕ → Bool) (u v : List ℕ) → list_all p (u ++ v) ≡ true → list_all p v ≡ true
all_behind p [] v e = e
all_behind p (b ∷ u) v e = all_behind p u v (and_parts (p b) (list_all p (u ++ v)) e).1

same_more : (b c : ℕ) (text rest : List ℕ) → b ≡ c → text ≡ rest → c ∷ text ≡ b ∷ rest
same_more b c text rest e f = rw (e, f) refl

pub front_of : (text w : List ℕ) → starts_with eqb text w ≡ true → (more : List ℕ) × (text ≡ w ++ more)
front_of text [] e = (text, refl)
front_of [] (b ∷ w) e = absurd cc
front_of (c ∷ text) (b ∷ w) e =
    let p = and_parts (eqb b c) (starts_with eqb text w) e in
    let r = front_of text w p.1 in
    (r.0, same_more b c text (w ++ r.0) (eqb-true b c p.0) r.1)

-- some letters complete the word w to one that s takes
pub record Completes {S : Type 0} (next : S → Token → Option S) (s : S) (w : List ℕ) : Type 0 where
  pub more : List ℕ
  pub token : Token
  pub end : S
  pub is : IsToken (w ++ more) token
  pub is_word : is_word token ≡ true
  pub takes : next s token ≡ Some end
  pub letters : list_all is_name_byte more ≡ true

keyword_completes : {S : Type 0} (next : S → Token → Option S) (s : S) (w : List ℕ) (k : Keyword) → begins_keyword next s w k ≡ true → Completes next s w
keyword_completes next s w k e =
    let p = and_parts (is_some (next s (Word k))) (starts_with eqb (keyword_text k) w) e in
    let n = taken (next s (Word k)) p.0 in
    let f = front_of (keyword_text k) w p.1 in
    record {
      more = f.0;
      token = Word k;
      end = n.0;
      is = sym f.1;
      is_word = refl;
      takes = n.1;
      letters = all_behind is_name_byte w f.0 (subst (λ (x : List ℕ). list_all is_name_byte x ≡ true) f.1 (keyword_bytes k));
    }

some_keyword_completes : {S : Type 0} (next : S → Token → Option S) (s : S) (w : List ℕ) (ks : List Keyword) → list_any (begins_keyword next s w) ks ≡ true → Completes next s w
some_keyword_completes next s w [] e = absurd cc
some_keyword_completes next s w (k ∷ ks) e =
    elim (or_of (begins_keyword next s w k) (list_any (begins_keyword next s w) ks) e) [
      | inl h ↦ keyword_completes next s w k h
      | inr h ↦ some_keyword_completes next s w ks h
    ]

-- a keyword and `_` are a name
pub name_behind : (k : Keyword) → is_name (keyword_text k ++ (95 ∷ [])) ≡ true
unfolding is_name is_name_like is_name_byte keyword_of
name_behind Program = refl
name_behind Issued = refl
name_behind If = refl
name_behind Then = refl
name_behind Else = refl
name_behind Fi = refl
name_behind While = refl
name_behind Do = refl
name_behind Od = refl
name_behind End = refl
name_behind And = refl
name_behind Or = refl
name_behind Not = refl
name_behind Write = refl
name_behind Out = refl

pub underscore : list_all is_name_byte (95 ∷ []) ≡ true
unfolding is_name_byte
underscore = refl

pub name_of_like : (w : List ℕ) → keyword_of w ≡ None → is_name_like w ≡ true → is_name w ≡ true
unfolding is_name is_name_like
name_of_like w h e = rw (h, e) refl

name_completes : {S : Type 0} (next : S → Token → Option S) → IsTokenMachine next → (s : S) (w : List ℕ) (o : Option Keyword) → keyword_of w ≡ o → is_name_like w ≡ true → is_some (next s (Name w)) ≡ true → Completes next s w
name_completes next laws s w None h e f =
    let n = taken (next s (Name w)) f in
    record { more = []; token = Name w; end = n.0; is = (append-nil w, name_of_like w h e); is_word = refl; takes = n.1; letters = refl }
name_completes next laws s w (Some k) h e f =
    let name = keyword_text k ++ (95 ∷ []) in
    let n = taken (next s (Name name)) (laws.names s name w ∙ f) in
    record { more = 95 ∷ []; token = Name name; end = n.0; is = (ap (λ (x : List ℕ). x ++ (95 ∷ [])) (keyword_is w k h), name_behind k); is_word = refl; takes = n.1; letters = underscore }

number_completes : {S : Type 0} (next : S → Token → Option S) → IsTokenMachine next → (s : S) (w : List ℕ) → is_numeral w ≡ true → is_some (next s (Number (value_after 0 w))) ≡ true → Completes next s w
number_completes next laws s w e f =
    let n = taken (next s (Number (value_after 0 w))) f in
    record { more = []; token = Number (value_after 0 w); end = n.0; is = append-nil w ∙ number_text w e (small next laws s n.0 (Number (value_after 0 w)) n.1); is_word = refl; takes = n.1; letters = refl }

pub completes : {S : Type 0} (next : S → Token → Option S) → IsTokenMachine next → (s : S) (w : List ℕ) → begins next s w ≡ true → Completes next s w
unfolding begins
completes next laws s w h =
    elim (or_of (begins_name next s w || begins_number next s w) (list_any (begins_keyword next s w) keywords) h) [
      | inl a ↦ elim (or_of (begins_name next s w) (begins_number next s w) a) [
        | inl b ↦ let p = and_parts (is_name_like w) (is_some (next s (Name w))) b in name_completes next laws s w (keyword_of w) refl p.0 p.1
        | inr b ↦ let p = and_parts (is_numeral w) (is_some (next s (Number (value_after 0 w)))) b in number_completes next laws s w p.0 p.1
      ]
      | inr a ↦ some_keyword_completes next s w keywords a
    ]

-- ---- what has begun

-- the sign may be the front of a longer one
abbrev pub is_front : Sign → Bool
is_front Colon = true
is_front Less = true
is_front Greater = true
is_front _ = false

-- the sign, which may be the front of a longer one, can be completed to one that s takes
pub record Waits {S : Type 0} (next : S → Token → Option S) (sign : Sign) (s : S) : Type 0 where
  pub front : is_front sign ≡ true
  pub more : List ℕ
  pub end : S
  pub goes : (rest : List ℕ) → Follows sign rest → scan next (Half sign) s (more ++ rest) ≡ scan next Gap end rest

-- what has begun can be ended
abbrev pub Good : {S : Type 0} → (S → Token → Option S) → Lex → S → Type 0
Good next Gap s = Unit {0}
Good next Comment s = Unit {0}
Good next (InWord w) s = begins next s w ≡ true
Good next (Half sign) s = Waits next sign s

-- bytes that complete what has begun, and lead to an end
pub record Completed {S : Type 0} (next : S → Token → Option S) (may_end : S → Bool) (l : Lex) (s : S) : Type 0 where
  pub more : List ℕ
  pub last : S
  pub run : scan next l s more ≡ Some last
  pub ends : may_end last ≡ true

pub completed : {S : Type 0} (next : S → Token → Option S) (may_end : S → Bool) → IsTokenMachine next → ((s : S) → Live next may_end s) → (l : Lex) (s : S) → Good next l s → Completed next may_end l s
unfolding scan feed
completed next may_end laws live Gap s g =
    let k = way next may_end false (live s) in
    record { more = k.bytes; last = k.last; run = text_scan next laws k.text s k.last k.run; ends = k.ends }
completed next may_end laws live Comment s g =
    let k = way next may_end false (live s) in
    record { more = 10 ∷ k.bytes; last = k.last; run = text_scan next laws k.text s k.last k.run; ends = k.ends }
completed next may_end laws live (InWord w) s g =
    let c = completes next laws s w g in
    let k = way next may_end false (live c.end) in
    record {
      more = c.more ++ k.bytes;
      last = k.last;
      run = word_scan next laws s c.end c.token w c.more k.bytes c.is c.is_word c.letters c.takes k.no_word ∙ text_scan next laws k.text c.end k.last k.run;
      ends = k.ends;
    }
completed next may_end laws live (Half sign) s g =
    let k = way next may_end false (live g.end) in
    record { more = g.more ++ k.bytes; last = k.last; run = g.goes k.bytes (k.follows sign) ∙ text_scan next laws k.text g.end k.last k.run; ends = k.ends }

-- ---- what has begun behind bytes that are taken

abbrev IsGood : {S : Type 0} → (S → Token → Option S) → Scanner S → Type 0
IsGood next a = Good next a.lex a.machine

good_is : {S : Type 0} (next : S → Token → Option S) (m a : Scanner S) → m ≡ a → IsGood next m → IsGood next a
good_is {S = S} next m a e g = subst (λ (x : Scanner S). IsGood next x) e g

good_after : {S : Type 0} (next : S → Token → Option S) (o : Option S) (a : Scanner S) → after_sign o ≡ Some a → IsGood next a
good_after next None a e = absurd cc
good_after next (Some n) a e = good_is next (at Gap n) a (some_inj _ _ e) tt

long_scan : {S : Type 0} (next : S → Token → Option S) (s n : S) (sign long : Sign) (b : ℕ) (rest : List ℕ) → longer sign b ≡ Some long → next s (Mark long) ≡ Some n → scan next (Half sign) s (b ∷ rest) ≡ scan next Gap n rest
unfolding scan feed
long_scan next s n sign long b rest l e = rw (l, e) refl

short_waits : {S : Type 0} (next : S → Token → Option S) (s : S) (sign : Sign) → is_front sign ≡ true → is_some (next s (Mark sign)) ≡ true → Waits next sign s
short_waits next s sign f h = let n = taken (next s (Mark sign)) h in record { front = f; more = []; end = n.0; goes = λ rest k. half_scan next s n.0 sign rest n.1 k }

long_waits : {S : Type 0} (next : S → Token → Option S) (s : S) (sign long : Sign) (b : ℕ) → is_front sign ≡ true → longer sign b ≡ Some long → is_some (next s (Mark long)) ≡ true → Waits next sign s
long_waits next s sign long b f l h = let n = taken (next s (Mark long)) h in record { front = f; more = b ∷ []; end = n.0; goes = λ rest k. long_scan next s n.0 sign long b rest l n.1 }

colon_waits : {S : Type 0} (next : S → Token → Option S) (s : S) → (is_some (next s (Mark Colon)) || is_some (next s (Mark Becomes))) ≡ true → Waits next Colon s
colon_waits next s e =
    elim (or_of _ _ e) [
      | inl h ↦ short_waits next s Colon refl h
      | inr h ↦ long_waits next s Colon Becomes 61 refl refl h
    ]

less_waits : {S : Type 0} (next : S → Token → Option S) (s : S) → (is_some (next s (Mark Less)) || is_some (next s (Mark LessEqual)) || is_some (next s (Mark Differ))) ≡ true → Waits next Less s
less_waits next s e =
    elim (or_of _ _ e) [
      | inl h ↦ elim (or_of _ _ h) [
        | inl i ↦ short_waits next s Less refl i
        | inr i ↦ long_waits next s Less LessEqual 61 refl refl i
      ]
      | inr h ↦ long_waits next s Less Differ 62 refl refl h
    ]

greater_waits : {S : Type 0} (next : S → Token → Option S) (s : S) → (is_some (next s (Mark Greater)) || is_some (next s (Mark GreaterEqual))) ≡ true → Waits next Greater s
greater_waits next s e =
    elim (or_of _ _ e) [
      | inl h ↦ short_waits next s Greater refl h
      | inr h ↦ long_waits next s Greater GreaterEqual 61 refl refl h
    ]

good_wait : {S : Type 0} (next : S → Token → Option S) (s : S) (sign : Sign) (can : Bool) (a : Scanner S) → (can ≡ true → Waits next sign s) → waiting s sign can ≡ Some a → IsGood next a
good_wait next s sign can a w e = let g = guard_is can (at (Half sign) s) a e in good_is next (at (Half sign) s) a g.1 (w g.0)

good_sign : {S : Type 0} (next : S → Token → Option S) (s : S) (sign : Sign) (a : Scanner S) → feed_sign next s sign ≡ Some a → IsGood next a
good_sign next s Colon a e = good_wait next s Colon _ a (colon_waits next s) e
good_sign next s Less a e = good_wait next s Less _ a (less_waits next s) e
good_sign next s Greater a e = good_wait next s Greater _ a (greater_waits next s) e
good_sign next s sign a e = good_after next (next s (Mark sign)) a e

good_word : {S : Type 0} (next : S → Token → Option S) (s : S) (w : List ℕ) (a : Scanner S) → cond (begins next s w) (Some (at (InWord w) s)) None ≡ Some a → IsGood next a
good_word next s w a e = let g = guard_is (begins next s w) (at (InWord w) s) a e in good_is next (at (InWord w) s) a g.1 g.0

good_gap : {S : Type 0} (next : S → Token → Option S) (s : S) (b : ℕ) (a : Scanner S) → feed_gap next s b ≡ Some a → IsGood next a
unfolding feed_gap
good_gap next s b a e =
    elim (guard_of (is_blank b) _ _ a e) [
      | inl h ↦ good_is next (at Gap s) a (some_inj _ _ h.1) tt
      | inr h ↦ elim (guard_of (eqb b 35) _ _ a h.1) [
        | inl i ↦ good_is next (at Comment s) a (some_inj _ _ i.1) tt
        | inr i ↦ elim (guard_of (is_name_byte b) _ _ a i.1) [
          | inl j ↦ good_word next s (b ∷ []) a j.1
          | inr j ↦ let k = then_of (sign_of b) (feed_sign next s) a j.1 in good_sign next s k.0 a k.2
        ]
      ]
    ]

good_comment : {S : Type 0} (next : S → Token → Option S) (s : S) (v : Bool) (a : Scanner S) → Some (at (cond v Gap Comment) s) ≡ Some a → IsGood next a
good_comment next s true a e = good_is next (at Gap s) a (some_inj _ _ e) tt
good_comment next s false a e = good_is next (at Comment s) a (some_inj _ _ e) tt

good_half : {S : Type 0} (next : S → Token → Option S) (s : S) (o : Option Sign) (sign : Sign) (b : ℕ) (a : Scanner S) → feed_half next o sign s b ≡ Some a → IsGood next a
good_half next s (Some long) sign b a e = good_after next (next s (Mark long)) a e
good_half next s None sign b a e = let k = then_of (finish next (Half sign) s) (λ n. feed_gap next n b) a e in good_gap next k.0 b a k.2

good_fed : {S : Type 0} (next : S → Token → Option S) (l : Lex) (s : S) (b : ℕ) (a : Scanner S) → feed next l s b ≡ Some a → IsGood next a
unfolding feed
good_fed next Gap s b a e = good_gap next s b a e
good_fed next Comment s b a e = good_comment next s (eqb b 10) a e
good_fed next (Half sign) s b a e = good_half next s (longer sign b) sign b a e
good_fed next (InWord w) s b a e =
    elim (guard_of (is_name_byte b) _ _ a e) [
      | inl j ↦ good_word next s (w ++ (b ∷ [])) a j.1
      | inr j ↦ let k = then_of (finish next (InWord w) s) (λ n. feed_gap next n b) a j.1 in good_gap next k.0 b a k.2
    ]

pub good_feeds : {S : Type 0} (next : S → Token → Option S) (bytes : List ℕ) (l : Lex) (s : S) (a : Scanner S) → Good next l s → feeds next l s bytes ≡ Some a → Good next a.lex a.machine
unfolding feeds
good_feeds next [] l s a g e = good_is next (at l s) a (some_inj _ _ e) g
good_feeds next (b ∷ bs) l s a g e =
    let k = then_of (feed next l s b) (λ a. feeds next a.lex a.machine bs) a e in
    good_feeds next bs k.0.lex k.0.machine a (good_fed next l s b k.0 k.1) k.2
