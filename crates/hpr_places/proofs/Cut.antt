-- Where the tokens of a text stand, one after the other.
use Rattle.std.proofs.Common.{◌≡◌, ℕ, ◌+◌, ◌≤◌, min, List, [], ◌∷◌, ◌++◌, length, drop, Bool, true, false, refl, sym, ap, subst, ◌∙◌, append_assoc, arith}
use Rattle.std.specs.List.{prefix_len}
use Rattle.std.specs.Str.{bytes_eq}
use Rattle.std.proofs.lemmas.List.{append-nil, map-append, length-append, length-drop}
use Rattle.hpr_terms.specs.declared.token.Token.{Token}
use Rattle.hpr_terms.specs.Names.{is_name_byte}
use Rattle.hpr_terms.specs.Tokens.{IsToken, is_word, Text, ending, token}
use Rattle.hpr_scan.proofs.Words.{IsSmall}
use Rattle.hpr_places.specs.declared.scan.Before.TheVariants.{Gap}
use Rattle.hpr_places.specs.Places.{Located, located, behind, TextAt, tokens_of, first_of, end_of}
use Rattle.hpr_places.specs.Places as text_at
use Rattle.hpr_places.specs.Private.Walk.{gap_len, word, content_len, skip, opened, closed, signed, next_is}
use Rattle.hpr_places.proofs.Bytes.{drop_on, blanks_gap, token_gap, NoWord, text_no_word, word_len_is, word_of, word_all}
use Rattle.hpr_places.proofs.Content.{blanks_pass, token_pass, token_ends, is_closer}

-- ---- the tokens of a text have places

pub record Tokens (w : Bool) (n : ℕ) (bytes : List ℕ) (ts : List Token) : Type 0 where
  pub all : List Located
  pub are : tokens_of all ≡ ts
  pub text : TextAt w n bytes all

pub located_tokens : {w : Bool} {bytes : List ℕ} {ts : List Token} → Text w bytes ts → (n : ℕ) → Tokens w n bytes ts
located_tokens (ending e) n = record { all = []; are = refl; text = text_at.ending e }
located_tokens (token blanks text {t = t} k h a more) n =
    let r = located_tokens more (n + length blanks + length text) in
    record { all = located t (n + length blanks) (length text) ∷ r.all; are = ap (λ ts. t ∷ ts) r.are; text = text_at.token blanks text k h a r.text }

-- ---- some tokens from a byte on

-- the tokens ts stand from the byte n on, and the others from the byte m on
pub record Cut (bytes : List ℕ) (w : Bool) (n : ℕ) (ts : List Token) (m : ℕ) (us : List Token) : Type 0 where
  pub all : List Located
  pub are : tokens_of all ≡ ts
  pub word : Bool
  pub more : Text word (drop m bytes) us
  pub joins : (vs : List Located) → TextAt word m (drop m bytes) vs → TextAt w n (drop n bytes) (all ++ vs)
  pub ends : (x : Located) (xs : List Located) → end_of (x ∷ xs) ≡ n → end_of (x ∷ (xs ++ all)) ≡ m

pub end_last : (x : Located) (xs : List Located) (y : Located) (ys : List Located) → end_of (x ∷ (xs ++ (y ∷ ys))) ≡ end_of (y ∷ ys)
end_last x [] y ys = refl
end_last x (z ∷ xs) y ys = end_last z xs y ys

unfoldable pub cut_to : (bytes : List ℕ) (w : Bool) (n m k : ℕ) (ts ss us : List Token) → Cut bytes w n ts m us → ts ≡ ss → m ≡ k → Cut bytes w n ss k us
cut_to bytes w n m k ts ss us x same e = record {
  all = x.all;
  are = x.are ∙ same;
  word = x.word;
  more = subst (λ j. Text x.word (drop j bytes) us) e x.more;
  joins = λ vs y. x.joins vs (subst (λ j. TextAt x.word j (drop j bytes) vs) (sym e) y);
  ends = λ y ys h. x.ends y ys h ∙ e;
}

unfoldable pub cut_none : (bytes : List ℕ) (w : Bool) (n : ℕ) (us : List Token) → Text w (drop n bytes) us → Cut bytes w n [] n us
cut_none bytes w n us x = record { all = []; are = refl; word = w; more = x; joins = λ vs y. y; ends = λ y ys h. ap (λ zs. end_of (y ∷ zs)) (append-nil ys) ∙ h }

unfoldable pub cut_then : (bytes : List ℕ) (w : Bool) (n m k : ℕ) (ts us vs : List Token) (x : Cut bytes w n ts m (us ++ vs)) → Cut bytes x.word m us k vs → Cut bytes w n (ts ++ us) k vs
cut_then bytes w n m k ts us vs x y = record {
  all = x.all ++ y.all;
  are = map-append (λ (t : Located). t.token) x.all y.all ∙ ap (λ a. a ++ tokens_of y.all) x.are ∙ ap (λ b. ts ++ b) y.are;
  word = y.word;
  more = y.more;
  joins = λ zs z. subst (TextAt w n (drop n bytes)) (sym (append_assoc x.all y.all zs)) (x.joins (y.all ++ zs) (y.joins zs z));
  ends = λ z zs h. ap (λ rest. end_of (z ∷ rest)) (sym (append_assoc zs x.all y.all)) ∙ y.ends z (zs ++ x.all) (x.ends z zs h);
}

-- ---- the next token

pub record Next (bytes : List ℕ) (w : Bool) (n : ℕ) (t : Token) (us : List Token) : Type 0 where
  pub first : ℕ
  pub text : List ℕ
  pub skips : skip bytes n ≡ first
  pub grows : n ≤ first
  pub is : IsToken text t
  pub here : drop first bytes ≡ text ++ drop (first + length text) bytes
  pub more : Text (is_word t) (drop (first + length text) bytes) us
  pub gap : n + content_len Gap (drop n bytes) ≡ first + content_len Gap (drop first bytes)
  pub joins : (vs : List Located) → TextAt (is_word t) (first + length text) (drop (first + length text) bytes) vs
      → TextAt w n (drop n bytes) (located t first (length text) ∷ vs)

skip_is : (bytes : List ℕ) (n k : ℕ) → gap_len false (drop n bytes) ≡ k → skip bytes n ≡ n + k
unfolding skip
skip_is bytes n k e = ap (λ m. n + m) e

next_at : (bytes : List ℕ) (w : Bool) (n : ℕ) (t : Token) (us : List Token) (bs : List ℕ) → Text w bs (t ∷ us) → drop n bytes ≡ bs → IsSmall t → Next bytes w n t us
next_at bytes w n t us _ (token blanks text {rest = rest} k h a more) e s =
    let first = n + length blanks in
    let gone : gap_len false (drop n bytes) ≡ length blanks = ap (gap_len false) e ∙ blanks_gap k (text ++ rest) ∙ (let z = token_gap t text rest h s in omega (arith, z)) in
    let here : drop first bytes ≡ text ++ rest = drop_on n bytes blanks (text ++ rest) e in
    let left : drop (first + length text) bytes ≡ rest = drop_on first bytes text rest here in
    let same = ap (content_len Gap) e ∙ blanks_pass k (text ++ rest) ∙ ap (λ bs. length blanks + content_len Gap bs) (sym here) in
    record {
      first = first;
      text = text;
      skips = skip_is bytes n (length blanks) gone;
      grows = omega arith;
      is = h;
      here = here ∙ ap (λ b. text ++ b) (sym left);
      more = subst (λ b. Text (is_word t) b us) (sym left) more;
      gap = omega (arith, same);
      joins = λ vs x. subst (λ b. TextAt w n b (located t first (length text) ∷ vs)) (sym e)
          (text_at.token blanks text k h a (subst (λ b. TextAt (is_word t) (first + length text) b vs) left x));
    }

pub next_token : (bytes : List ℕ) (w : Bool) (n : ℕ) (t : Token) (us : List Token) → IsSmall t → Text w (drop n bytes) (t ∷ us) → Next bytes w n t us
next_token bytes w n t us s x = next_at bytes w n t us (drop n bytes) x refl s

unfoldable pub cut_one : (bytes : List ℕ) (w : Bool) (n : ℕ) (t : Token) (us : List Token) (x : Next bytes w n t us) → Cut bytes w n (t ∷ []) (x.first + length x.text) us
cut_one bytes w n t us x = record { all = located t x.first (length x.text) ∷ []; are = refl; word = is_word t; more = x.more; joins = x.joins; ends = λ y ys h. end_last y ys (located t x.first (length x.text)) [] }

-- ---- words and signs

no_word_next : (b : Bool) (bytes : List ℕ) (us : List Token) → b ≡ true → Text b bytes us → NoWord bytes
no_word_next b bytes us e x = text_no_word (subst (λ c. Text c bytes us) e x)

pub closed_is : (bytes : List ℕ) (w : Bool) (n : ℕ) (t : Token) (us : List Token) (x : Next bytes w n t us) → is_word t ≡ true → IsSmall t → closed bytes n ≡ x.first + length x.text
unfolding closed
closed_is bytes w n t us x one s =
    let rest = drop (x.first + length x.text) bytes in
    let long = word_len_is x.text rest (word_all t x.text x.is one s) (no_word_next (is_word t) rest us one x.more) in
    ap (λ k. k + prefix_len is_name_byte (drop k bytes)) x.skips ∙ ap (λ k. x.first + k) (ap (prefix_len is_name_byte) x.here ∙ long)

pub word_is_next : (bytes : List ℕ) (w : Bool) (n : ℕ) (t : Token) (us : List Token) (x : Next bytes w n t us) → is_word t ≡ true → IsSmall t → (v : List ℕ) → next_is bytes n v ≡ bytes_eq x.text v
unfolding next_is
word_is_next bytes w n t us x one s v =
    let rest = drop (x.first + length x.text) bytes in
    let same = word_of x.text rest (word_all t x.text x.is one s) (no_word_next (is_word t) rest us one x.more) in
    ap (λ k. bytes_eq (word (drop k bytes)) v) x.skips ∙ ap (λ b. bytes_eq (word b) v) x.here ∙ ap (λ b. bytes_eq b v) same

pub signed_is : (bytes : List ℕ) (w : Bool) (n : ℕ) (t : Token) (us : List Token) (x : Next bytes w n t us) → length x.text ≡ 1 → signed bytes n ≡ x.first + length x.text
unfolding signed
signed_is bytes w n t us x one =
    let rest = drop (x.first + length x.text) bytes in
    let long = ap length x.here ∙ length-append x.text rest in
    ap (λ k. min (k + 1) (length bytes)) x.skips ∙ omega (arith, long, one, length-drop x.first bytes)

-- ---- what a part says

abbrev pub Passes : Token → Type 0
Passes t = IsSmall t × (is_closer t ≡ false)

abbrev pub AllPass : List Token → Type 0
AllPass [] = Unit {0}
AllPass (t ∷ ts) = Passes t × AllPass ts

-- the tokens c and the token z, from the byte n on, up to the byte m
pub record Said (bytes : List ℕ) (w : Bool) (n : ℕ) (c : List Token) (z : Token) (m : ℕ) (us : List Token) : Type 0 where
  pub head : Located
  pub tail : List Located
  pub are : tokens_of (head ∷ tail) ≡ c ++ (z ∷ [])
  pub begins : head.place.first ≡ skip bytes n
  pub ends : end_of (head ∷ tail) ≡ m
  pub grows : n ≤ m
  pub goes : n + content_len Gap (drop n bytes) ≡ m
  pub opens : opened bytes n ≡ m
  pub starts : skip bytes n ≤ m
  pub more : Text (is_word z) (drop m bytes) us
  pub joins : (vs : List Located) → TextAt (is_word z) m (drop m bytes) vs → TextAt w n (drop n bytes) ((head ∷ tail) ++ vs)

opens_by : (bytes : List ℕ) (n first m : ℕ) → skip bytes n ≡ first → first + content_len Gap (drop first bytes) ≡ m → opened bytes n ≡ m
unfolding opened
opens_by bytes n first m e h = ap (λ k. k + content_len Gap (drop k bytes)) e ∙ h

pub said : (bytes : List ℕ) (w : Bool) (n : ℕ) (c : List Token) (z : Token) (us : List Token) → AllPass c → is_closer z ≡ true → IsSmall z → Text w (drop n bytes) (c ++ (z ∷ us))
    → (m : ℕ) × Said bytes w n c z m us
said bytes w n [] z us p closes small x =
    let a = next_token bytes w n z us small x in
    let rest = drop (a.first + length a.text) bytes in
    let len = ap (content_len Gap) a.here ∙ token_ends z a.text rest us a.is closes a.more in
    let goes : a.first + content_len Gap (drop a.first bytes) ≡ a.first + length a.text = ap (λ k. a.first + k) len in
    let grown = a.grows in (
      a.first + length a.text,
      record {
        head = located z a.first (length a.text);
        tail = [];
        are = refl;
        begins = sym a.skips;
        ends = refl;
        grows = omega arith;
        goes = a.gap ∙ goes;
        opens = opens_by bytes n a.first (a.first + length a.text) a.skips goes;
        starts = omega (arith, a.skips);
        more = a.more;
        joins = a.joins;
      },
    )
said bytes w n (t ∷ c) z us p closes small x =
    let a = next_token bytes w n t (c ++ (z ∷ us)) p.0.0 x in
    let r = said bytes (is_word t) (a.first + length a.text) c z us p.1 closes small a.more in
    let rest = drop (a.first + length a.text) bytes in
    let len = ap (content_len Gap) a.here ∙ token_pass t a.text rest (c ++ (z ∷ us)) a.is p.0.0 p.0.1 a.more in
    let on = r.1.goes in
    let goes : a.first + content_len Gap (drop a.first bytes) ≡ r.0 = omega (arith, len, on) in
    let grown = a.grows in
    let later = r.1.grows in (
      r.0,
      record {
        head = located t a.first (length a.text);
        tail = r.1.head ∷ r.1.tail;
        are = ap (λ ts. t ∷ ts) r.1.are;
        begins = sym a.skips;
        ends = r.1.ends;
        grows = omega arith;
        goes = a.gap ∙ goes;
        opens = opens_by bytes n a.first r.0 a.skips goes;
        starts = omega (arith, a.skips, later);
        more = r.1.more;
        joins = λ vs y. a.joins ((r.1.head ∷ r.1.tail) ++ vs) (r.1.joins vs y);
      },
    )
