-- Words: their bytes, their tokens and their fronts.
use Rattle.std.proofs.Common.{◌≡◌, ◌^◌, ℕ, zero, suc, ◌+◌, ◌-◌, ◌*◌, ◌≤◌, ◌<◌, List, [], ◌∷◌, ◌++◌, length, get_or, Bool, true, false, not, cond, ltb, leb, eqb, ◌&&◌, Option, Some, None, Err, refl, sym, ap, subst, ◌∙◌, arith, inl, inr, ◌⊎◌, rules}
use Rattle.std.specs.Option.{is_some, is_none}
use Rattle.std.specs.List.{find, list_all, list_any, starts_with}
use Rattle.std.specs.Str.{bytes_eq}
use Rattle.std.specs.Fmt.{decimal}
use Rattle.std.proofs.lemmas.Bool.{eq-eqb, ltb-true, lt-ltb, leb-true, le-leb, and_parts, and_from, not-true}
use Rattle.std.proofs.lemmas.Bool.Decides.{nat_tests}
use Rattle.std.proofs.lemmas.List.{length-append}
use Rattle.std.proofs.lemmas.List.Folds.{list_any_at}
use Rattle.std.proofs.lemmas.Slice.Eq.{bytes_eq-Decides}
use Rattle.std.proofs.lemmas.Str.Parse.{IsNumeralModel, numerals_by_fold}
use Rattle.std.proofs.lemmas.Fmt.{digits_decimal, digits_value-decimal, decimal-digits_value, decimal_nonempty, first_decimal, decimal_digit}
use Rattle.hpr_terms.specs.declared.limits.TheConstants.{MAX_NAME}
use Rattle.hpr_terms.specs.declared.keyword.Keyword.{Keyword}
use Rattle.hpr_terms.specs.declared.keyword.Keyword.TheVariants.{Program, Issued, If, Then, Else, Fi, While, Do, Od, End, And, Or, Not, Write, Out}
use Rattle.hpr_terms.specs.declared.token.Token.{Token}
use Rattle.hpr_terms.specs.declared.token.Token.TheVariants.{Word, Name, Number, Mark}
use Rattle.hpr_terms.specs.Keywords.{keyword_text, keywords, keyword_of}
use Rattle.hpr_terms.specs.Names.{is_name_like, is_name_byte, begins_with_digit, is_name, IsName}
use Rattle.hpr_terms.specs.Tokens.{IsToken, is_word}
use Rattle.hpr_terms.proofs.Facts.{or_right, or_left, some_inj}
use Rattle.hpr_scan.specs.declared.machine.Fault.{Fault}
use Rattle.hpr_scan.specs.declared.machine.Fault.TheVariants.{Refused, Memory}
use Rattle.hpr_scan.specs.Machine.{IsTokenMachine}
use Rattle.hpr_scan.specs.Steps.{and_then, Steps}
use Rattle.hpr_scan.specs.Private.Advance.{keyword_or_number}
use Rattle.hpr_scan.specs.Words.{is_digit, value_after, is_numeral, number_token, other_token, keyword_or, word_token, IsNoToken, ReadsWord, begins_keyword, begins}

-- ---- what a machine takes

pub none_some : {A : Type 0} {x : A} → None ≡ Some x → ⊥
none_some e = absurd cc

pub some_takes : {A : Type 0} (o : Option A) (x : A) → o ≡ Some x → is_some o ≡ true
some_takes o x e = rw e refl

-- a number that is below 2 ^ 64, or another token
abbrev pub IsSmall : Token → Type 0
IsSmall (Number n) = n < 2 ^ 64
IsSmall t = Unit {0}

pub small : {S : Type 0} (next : S → Token → Option S) → IsTokenMachine next → (s n : S) (t : Token) → next s t ≡ Some n → IsSmall t
small next laws s n (Number k) e = at_size (leb (2 ^ 64) k) refl
  where
    at_size : (v : Bool) → leb (2 ^ 64) k ≡ v → k < 2 ^ 64
    at_size true h = absurd (none_some (sym (laws.bounded s k (leb-true (2 ^ 64) k h)) ∙ e))
    at_size false h = grind (arith, nat_tests)
small next laws s n (Word k) e = tt
small next laws s n (Name x) e = tt
small next laws s n (Mark x) e = tt

-- no machine takes a number from 2 ^ 64 on
pub no_token_stops : {S : Type 0} (next : S → Token → Option S) → IsTokenMachine next → (s : S) (o : Option Token) → IsNoToken o → and_then o (next s) ≡ None
no_token_stops next laws s None h = refl
no_token_stops next laws s (Some (Number n)) h = laws.bounded s n h
no_token_stops next laws s (Some (Word k)) h = absurd h
no_token_stops next laws s (Some (Name x)) h = absurd h
no_token_stops next laws s (Some (Mark x)) h = absurd h

pub fault_stops : {S : Type 0} (next : S → Token → Option S) → IsTokenMachine next → (s : S) (o : Option Token) (fault : Fault) → ReadsWord o (Err fault) → Steps (and_then o (next s)) (Err fault)
fault_stops next laws s o Refused h = no_token_stops next laws s o h
fault_stops next laws s o Memory h = tt

pub large_not_taken : {S : Type 0} (next : S → Token → Option S) → IsTokenMachine next → (s : S) (n : ℕ) → 2 ^ 64 ≤ n → false ≡ is_some (next s (Number n))
large_not_taken next laws s n h = rw (laws.bounded s n h) refl

-- ---- the bytes of words

digit_byte : (b : ℕ) → is_digit b ≡ true → is_name_byte b ≡ true
unfolding is_digit is_name_byte
digit_byte b e = rw e refl

digit_bytes : (bs : List ℕ) → list_all is_digit bs ≡ true → list_all is_name_byte bs ≡ true
digit_bytes [] e = refl
digit_bytes (b ∷ bs) e = let t = and_parts (is_digit b) (list_all is_digit bs) e in and_from (is_name_byte b) (list_all is_name_byte bs) (digit_byte b t.0) (digit_bytes bs t.1)

pub keyword_bytes : (k : Keyword) → list_all is_name_byte (keyword_text k) ≡ true
unfolding is_name_byte
keyword_bytes Program = refl
keyword_bytes Issued = refl
keyword_bytes If = refl
keyword_bytes Then = refl
keyword_bytes Else = refl
keyword_bytes Fi = refl
keyword_bytes While = refl
keyword_bytes Do = refl
keyword_bytes Od = refl
keyword_bytes End = refl
keyword_bytes And = refl
keyword_bytes Or = refl
keyword_bytes Not = refl
keyword_bytes Write = refl
keyword_bytes Out = refl

keyword_long : (k : Keyword) → leb 1 (length (keyword_text k)) ≡ true
keyword_long Program = refl
keyword_long Issued = refl
keyword_long If = refl
keyword_long Then = refl
keyword_long Else = refl
keyword_long Fi = refl
keyword_long While = refl
keyword_long Do = refl
keyword_long Od = refl
keyword_long End = refl
keyword_long And = refl
keyword_long Or = refl
keyword_long Not = refl
keyword_long Write = refl
keyword_long Out = refl

-- the parts of being like a name
record NameLike (w : List ℕ) : Type 0 where
  long : leb 1 (length w) ≡ true
  short : leb (length w) MAX_NAME ≡ true
  bytes : list_all is_name_byte w ≡ true
  first : not (begins_with_digit w) ≡ true

name_parts : (w : List ℕ) → is_name_like w ≡ true → NameLike w
unfolding is_name_like
name_parts w e =
    let p = and_parts (leb 1 (length w) && leb (length w) MAX_NAME && list_all is_name_byte w) (not (begins_with_digit w)) e in
    let q = and_parts (leb 1 (length w) && leb (length w) MAX_NAME) (list_all is_name_byte w) p.0 in
    let r = and_parts (leb 1 (length w)) (leb (length w) MAX_NAME) q.0 in
    record { long = r.0; short = r.1; bytes = q.1; first = p.1 }

name_whole : (w : List ℕ) → NameLike w → is_name_like w ≡ true
unfolding is_name_like
name_whole w h =
    and_from (leb 1 (length w) && leb (length w) MAX_NAME && list_all is_name_byte w) (not (begins_with_digit w))
    (and_from (leb 1 (length w) && leb (length w) MAX_NAME) (list_all is_name_byte w) (and_from (leb 1 (length w)) (leb (length w) MAX_NAME) h.long h.short) h.bytes) h.first

no_keyword : (o : Option Keyword) → is_none o ≡ true → o ≡ None
no_keyword None e = refl
no_keyword (Some k) e = absurd cc

pub name_like : (w : List ℕ) → is_name w ≡ true → (is_name_like w ≡ true) × (keyword_of w ≡ None)
unfolding is_name is_name_like
name_like w e =
    let p = and_parts (leb 1 (length w) && leb (length w) MAX_NAME && list_all is_name_byte w && not (begins_with_digit w)) (is_none (keyword_of w)) e in
    (p.0, no_keyword (keyword_of w) p.1)

-- a word has a first byte, and bytes of words alone
pub record WordBytes (w : List ℕ) : Type 0 where
  pub first : ℕ
  pub rest : List ℕ
  pub is : w ≡ first ∷ rest
  pub begins : is_name_byte first ≡ true
  pub goes_on : list_all is_name_byte rest ≡ true

bytes_of : (w : List ℕ) → leb 1 (length w) ≡ true → list_all is_name_byte w ≡ true → WordBytes w
bytes_of [] long e = absurd cc
bytes_of (b ∷ bs) long e = let p = and_parts (is_name_byte b) (list_all is_name_byte bs) e in record { first = b; rest = bs; is = refl; begins = p.0; goes_on = p.1 }

-- ---- numbers

pub own : IsNumeralModel (λ ds. list_all is_digit ds ≡ true) (value_after 0)
unfolding is_digit
own = numerals_by_fold _ (search rules) value_after (search rules)

numeral_digits : (w : List ℕ) → is_numeral w ≡ true → list_all is_digit w ≡ true
numeral_digits [] e = refl
numeral_digits (b ∷ []) e = and_from (is_digit b) true e refl
numeral_digits (b ∷ c ∷ bs) e =
    let p = and_parts (is_digit b && ltb 48 b) (list_all is_digit (c ∷ bs)) e in
    let q = and_parts (is_digit b) (ltb 48 b) p.0 in
    and_from (is_digit b) (list_all is_digit (c ∷ bs)) q.0 p.1

numeral_long : (w : List ℕ) → is_numeral w ≡ true → 0 < length w
numeral_long [] e = absurd cc
numeral_long (b ∷ bs) e = omega arith

numeral_first : (w : List ℕ) → is_numeral w ≡ true → get_or w 0 0 ≡ 48 → length w ≡ 1
numeral_first [] e h = absurd cc
numeral_first (b ∷ []) e h = refl
numeral_first (b ∷ c ∷ bs) e h =
    let p = and_parts (is_digit b && ltb 48 b) (list_all is_digit (c ∷ bs)) e in
    let q = and_parts (is_digit b) (ltb 48 b) p.0 in
    absurd (omega (arith, ltb-true 48 b q.1, h))

numeral_from : (w : List ℕ) → list_all is_digit w ≡ true → 0 < length w → 48 < get_or w 0 0 → is_numeral w ≡ true
numeral_from [] e long first = absurd (omega arith)
numeral_from (b ∷ []) e long first = (and_parts (is_digit b) true e).0
numeral_from (b ∷ c ∷ bs) e long first =
    let p = and_parts (is_digit b) (list_all is_digit (c ∷ bs)) e in
    and_from (is_digit b && ltb 48 b) (list_all is_digit (c ∷ bs)) (and_from (is_digit b) (ltb 48 b) p.0 (lt-ltb 48 b first)) p.1

zero_numeral : is_numeral (decimal 0) ≡ true
unfolding is_digit
zero_numeral = rw (decimal_digit 0 (omega arith)) refl

decimal_numeral : (n : ℕ) → n < 2 ^ 64 → is_numeral (decimal n) ≡ true
decimal_numeral zero h = zero_numeral
decimal_numeral (suc n) h = numeral_from (decimal (suc n)) (digits_decimal own (suc n) h) (decimal_nonempty (suc n) h) (first_decimal (suc n) (omega arith) h)

-- the word of a number below 2 ^ 64 is its decimal text
pub number_text : (w : List ℕ) → is_numeral w ≡ true → value_after 0 w < 2 ^ 64 → w ≡ decimal (value_after 0 w)
number_text w e h = sym (decimal-digits_value own w (numeral_digits w e) (numeral_long w e) (numeral_first w e) h)

-- ---- keywords

pub find_passes : {A : Type 0} (p : A → Bool) (xs : List A) (x : A) → find p xs ≡ Some x → p x ≡ true
find_passes p [] x e = absurd cc
find_passes p (y ∷ xs) x e = at_test (p y) refl e (find_passes p xs x)
  where
    at_test : (v : Bool) → p y ≡ v → cond v (Some y) (find p xs) ≡ Some x → (find p xs ≡ Some x → p x ≡ true) → p x ≡ true
    at_test true h e later = subst (λ z. p z ≡ true) (some_inj y x e) h
    at_test false h e later = later e

pub keyword_is : (w : List ℕ) (k : Keyword) → keyword_of w ≡ Some k → w ≡ keyword_text k
unfolding keyword_of
keyword_is w k e = sym ((bytes_eq-Decides (keyword_text k) w).0 (find_passes (λ k. bytes_eq (keyword_text k) w) keywords k e))

keyword_found : (k : Keyword) → keyword_of (keyword_text k) ≡ Some k
unfolding keyword_of
keyword_found Program = refl
keyword_found Issued = refl
keyword_found If = refl
keyword_found Then = refl
keyword_found Else = refl
keyword_found Fi = refl
keyword_found While = refl
keyword_found Do = refl
keyword_found Od = refl
keyword_found End = refl
keyword_found And = refl
keyword_found Or = refl
keyword_found Not = refl
keyword_found Write = refl
keyword_found Out = refl

pub true_false : {b : Bool} → b ≡ true → b ≡ false → ⊥
true_false p q = absurd cc

numeral_begins : (w : List ℕ) → is_numeral w ≡ true → begins_with_digit w ≡ true
unfolding is_digit
numeral_begins [] e = absurd cc
numeral_begins (b ∷ bs) e = (and_parts (is_digit b) (list_all is_digit bs) (numeral_digits (b ∷ bs) e)).0

-- ---- a word that begins with a digit is a number, or nothing

keyword_no_digit : (k : Keyword) → begins_with_digit (keyword_text k) ≡ false
keyword_no_digit Program = refl
keyword_no_digit Issued = refl
keyword_no_digit If = refl
keyword_no_digit Then = refl
keyword_no_digit Else = refl
keyword_no_digit Fi = refl
keyword_no_digit While = refl
keyword_no_digit Do = refl
keyword_no_digit Od = refl
keyword_no_digit End = refl
keyword_no_digit And = refl
keyword_no_digit Or = refl
keyword_no_digit Not = refl
keyword_no_digit Write = refl
keyword_no_digit Out = refl

digit_no_keyword : (w : List ℕ) (o : Option Keyword) → keyword_of w ≡ o → begins_with_digit w ≡ true → keyword_of w ≡ None
digit_no_keyword w None h d = h
digit_no_keyword w (Some k) h d = absurd (true_false (sym (ap begins_with_digit (keyword_is w k h)) ∙ d) (keyword_no_digit k))

digit_no_name : (w : List ℕ) → begins_with_digit w ≡ true → is_name w ≡ false
digit_no_name w d = at_test (is_name w) refl
  where
    at_test : (v : Bool) → is_name w ≡ v → v ≡ false
    at_test true h = absurd (true_false d (not-true (begins_with_digit w) (name_parts w (name_like w h).0).first))
    at_test false h = refl

-- a name is no other token, and another word is no name
pub named_word : (w : List ℕ) → IsName w → word_token w ≡ Some (Name w)
unfolding word_token
named_word w n =
    let e : is_name w ≡ true = n in
    rw ((name_like w e).1, e) refl

pub unnamed_word : (w : List ℕ) → (¬ IsName w) → word_token w ≡ keyword_or_number (keyword_of w) w
unfolding word_token
unnamed_word w n = at_keyword (keyword_of w)
  where
    no : (v : Bool) → is_name w ≡ v → v ≡ false
    no true e = absurd (n e)
    no false e = refl

    at_keyword : (o : Option Keyword) → keyword_or o w ≡ keyword_or_number o w
    at_keyword (Some k) = refl
    at_keyword None = rw (no (is_name w) refl) refl

pub digit_word : (w : List ℕ) → begins_with_digit w ≡ true → word_token w ≡ number_token w
unfolding word_token
digit_word w d = rw (digit_no_keyword w (keyword_of w) refl d, digit_no_name w d) refl

-- ---- words and their tokens

-- a word has a first byte, and bytes of words alone
pub word_bytes : (text : List ℕ) (t : Token) → IsToken text t → is_word t ≡ true → IsSmall t → WordBytes text
word_bytes text (Word k) h w s = subst WordBytes (sym h) (bytes_of (keyword_text k) (keyword_long k) (keyword_bytes k))
word_bytes text (Name x) h w s = let p = name_parts x (name_like x h.1).0 in subst WordBytes (sym h.0) (bytes_of x p.long p.bytes)
word_bytes text (Number n) h w s =
    let e = decimal_numeral n s in
    subst WordBytes (sym h) (bytes_of (decimal n) (le-leb 1 (length (decimal n)) (omega (arith, decimal_nonempty n s))) (digit_bytes (decimal n) (numeral_digits (decimal n) e)))
word_bytes text (Mark x) h w s = absurd cc

number_value : (text : List ℕ) (n : ℕ) → text ≡ decimal n → n < 2 ^ 64 → (is_numeral text ≡ true) × (value_after 0 text ≡ n)
number_value text n h s = (ap is_numeral h ∙ decimal_numeral n s, ap (value_after 0) h ∙ digits_value-decimal own n s)

-- a word is read as its token
pub word_is : (text : List ℕ) (t : Token) → IsToken text t → is_word t ≡ true → IsSmall t → word_token text ≡ Some t
unfolding word_token
word_is text (Word k) h w s = rw (h, keyword_found k) refl
word_is text (Name x) h w s = rw (h.0, (name_like x h.1).1, h.1) refl
word_is text (Number n) h w s =
    let v = number_value text n h s in
    rw (digit_no_keyword text (keyword_of text) refl (numeral_begins text v.0), digit_no_name text (numeral_begins text v.0), v.0, v.1) refl
word_is text (Mark x) h w s = absurd cc

abbrev IsWord : List ℕ → Token → Type 0
IsWord w t = IsToken w t × (is_word t ≡ true)

number_word : (w : List ℕ) (t : Token) → number_token w ≡ Some t → IsSmall t → IsWord w t
number_word w t e s = at_test (is_numeral w) refl e
  where
    at_test : (v : Bool) → is_numeral w ≡ v → cond v (Some (Number (value_after 0 w))) None ≡ Some t → IsWord w t
    at_test true h e =
        let same = some_inj (Number (value_after 0 w)) t e in
        let made : IsWord w (Number (value_after 0 w)) = (number_text w h (subst IsSmall (sym same) s), refl) in
        subst (IsWord w) same made
    at_test false h e = absurd cc

other_word : (w : List ℕ) (t : Token) → other_token w ≡ Some t → IsSmall t → IsWord w t
other_word w t e s = at_test (is_name w) refl e
  where
    at_test : (v : Bool) → is_name w ≡ v → cond v (Some (Name w)) (number_token w) ≡ Some t → IsWord w t
    at_test true h e = let made : IsWord w (Name w) = ((refl, h), refl) in subst (IsWord w) (some_inj (Name w) t e) made
    at_test false h e = number_word w t e s

-- what is read as a token is its text
pub token_is : (text : List ℕ) (t : Token) → word_token text ≡ Some t → IsSmall t → IsToken text t × (is_word t ≡ true)
unfolding word_token
token_is text t e s = token_at (keyword_of text) refl e
  where
    token_at : (o : Option Keyword) → keyword_of text ≡ o → keyword_or o text ≡ Some t → IsWord text t
    token_at (Some k) h e = let made : IsWord text (Word k) = (keyword_is text k h, refl) in subst (IsWord text) (some_inj (Word k) t e) made
    token_at None h e = other_word text t e s

-- ---- fronts of words

all_front : (p : ℕ → Bool) (u v : List ℕ) (b : ℕ) → list_all p (u ++ (b ∷ v)) ≡ true → list_all p (u ++ (b ∷ [])) ≡ true
all_front p [] v b e = let t = and_parts (p b) (list_all p v) e in and_from (p b) true t.0 refl
all_front p (c ∷ u) v b e = let t = and_parts (p c) (list_all p (u ++ (b ∷ v))) e in and_from (p c) (list_all p (u ++ (b ∷ []))) t.0 (all_front p u v b t.1)

starts_front : (u v : List ℕ) (b : ℕ) → starts_with eqb (u ++ (b ∷ v)) (u ++ (b ∷ [])) ≡ true
starts_front [] v b = and_from (eqb b b) true (eq-eqb b b refl) refl
starts_front (c ∷ u) v b = and_from (eqb c c) (starts_with eqb (u ++ (b ∷ v)) (u ++ (b ∷ []))) (eq-eqb c c refl) (starts_front u v b)

digit_front : (u v : List ℕ) (b : ℕ) → begins_with_digit (u ++ (b ∷ [])) ≡ begins_with_digit (u ++ (b ∷ v))
digit_front [] v b = refl
digit_front (c ∷ u) v b = refl

name_front : (u v : List ℕ) (b : ℕ) → is_name_like (u ++ (b ∷ v)) ≡ true → is_name_like (u ++ (b ∷ [])) ≡ true
name_front u v b e =
    let p = name_parts (u ++ (b ∷ v)) e in
    let long : 1 ≤ length (u ++ (b ∷ [])) = omega (arith, length-append u (b ∷ [])) in
    let short : length (u ++ (b ∷ [])) ≤ MAX_NAME = omega (arith, leb-true (length (u ++ (b ∷ v))) MAX_NAME p.short, length-append u (b ∷ v), length-append u (b ∷ [])) in
    name_whole (u ++ (b ∷ [])) (record {
      long = le-leb 1 (length (u ++ (b ∷ []))) long;
      short = le-leb (length (u ++ (b ∷ []))) MAX_NAME short;
      bytes = all_front is_name_byte u v b p.bytes;
      first = ap not (digit_front u v b) ∙ p.first;
    })

pub value_grows : (n : ℕ) (bs : List ℕ) → n ≤ value_after n bs
value_grows n [] = omega arith
value_grows n (b ∷ bs) = omega (arith, value_grows (10 * n + (b - 48)) bs)

value_front : (n : ℕ) (u v : List ℕ) (b : ℕ) → value_after n (u ++ (b ∷ [])) ≤ value_after n (u ++ (b ∷ v))
value_front n [] v b = value_grows (10 * n + (b - 48)) v
value_front n (c ∷ u) v b = value_front (10 * n + (c - 48)) u v b

-- the front of a number is a number: the whole of it, or one from 1 on
record NumberFront (u v : List ℕ) (b : ℕ) : Type 0 where
  is : is_numeral (u ++ (b ∷ [])) ≡ true
  large : (v ≡ []) ⊎ (1 ≤ value_after 0 (u ++ (b ∷ [])))

number_front : (u v : List ℕ) (b : ℕ) → is_numeral (u ++ (b ∷ v)) ≡ true → NumberFront u v b
number_front [] [] b e = record { is = e; large = inl refl }
number_front [] (c ∷ v) b e =
    let p = and_parts (is_digit b && ltb 48 b) (list_all is_digit (c ∷ v)) e in
    let q = and_parts (is_digit b) (ltb 48 b) p.0 in
    let more = ltb-true 48 b q.1 in
    record { is = q.0; large = inr (omega (arith, more)) }
number_front (a ∷ []) v b e =
    let p = and_parts (is_digit a && ltb 48 a) (list_all is_digit (b ∷ v)) e in
    let q = and_parts (is_digit a) (ltb 48 a) p.0 in
    let r = and_parts (is_digit b) (list_all is_digit v) p.1 in
    let more = ltb-true 48 a q.1 in
    record { is = and_from (is_digit a && ltb 48 a) (is_digit b && true) p.0 (and_from (is_digit b) true r.0 refl); large = inr (omega (arith, more)) }
number_front (a ∷ c ∷ u) v b e =
    let p = and_parts (is_digit a && ltb 48 a) (list_all is_digit (c ∷ (u ++ (b ∷ v)))) e in
    let q = and_parts (is_digit a) (ltb 48 a) p.0 in
    let more = ltb-true 48 a q.1 in
    record {
      is = and_from (is_digit a && ltb 48 a) (list_all is_digit (c ∷ (u ++ (b ∷ [])))) p.0 (all_front is_digit (c ∷ u) v b p.1);
      large = inr (omega (arith, more, value_grows (10 * 0 + (a - 48)) (c ∷ (u ++ (b ∷ [])))));
    }

-- ---- every front of a word that is taken begins a word

any_keyword : (p : Keyword → Bool) (k : Keyword) → p k ≡ true → list_any p keywords ≡ true
any_keyword p Program e = list_any_at p keywords 0 Program (omega arith) e
any_keyword p Issued e = list_any_at p keywords 1 Program (omega arith) e
any_keyword p If e = list_any_at p keywords 2 Program (omega arith) e
any_keyword p Then e = list_any_at p keywords 3 Program (omega arith) e
any_keyword p Else e = list_any_at p keywords 4 Program (omega arith) e
any_keyword p Fi e = list_any_at p keywords 5 Program (omega arith) e
any_keyword p While e = list_any_at p keywords 6 Program (omega arith) e
any_keyword p Do e = list_any_at p keywords 7 Program (omega arith) e
any_keyword p Od e = list_any_at p keywords 8 Program (omega arith) e
any_keyword p End e = list_any_at p keywords 9 Program (omega arith) e
any_keyword p And e = list_any_at p keywords 10 Program (omega arith) e
any_keyword p Or e = list_any_at p keywords 11 Program (omega arith) e
any_keyword p Not e = list_any_at p keywords 12 Program (omega arith) e
any_keyword p Write e = list_any_at p keywords 13 Program (omega arith) e
any_keyword p Out e = list_any_at p keywords 14 Program (omega arith) e

name_begins : {S : Type 0} (next : S → Token → Option S) (s : S) (w : List ℕ) → is_name_like w ≡ true → is_some (next s (Name w)) ≡ true → begins next s w ≡ true
unfolding begins
name_begins next s w e f = or_left _ _ (or_left _ _ (and_from (is_name_like w) (is_some (next s (Name w))) e f))

number_begins : {S : Type 0} (next : S → Token → Option S) (s : S) (w : List ℕ) → is_numeral w ≡ true → is_some (next s (Number (value_after 0 w))) ≡ true → begins next s w ≡ true
unfolding begins
number_begins next s w e f = or_left _ _ (or_right _ _ (and_from (is_numeral w) (is_some (next s (Number (value_after 0 w)))) e f))

keyword_begins : {S : Type 0} (next : S → Token → Option S) (s : S) (w : List ℕ) (k : Keyword) → begins_keyword next s w k ≡ true → begins next s w ≡ true
unfolding begins
keyword_begins next s w k e = or_right _ _ (any_keyword (begins_keyword next s w) k e)

number_fronts : {S : Type 0} (next : S → Token → Option S) → IsTokenMachine next → (s n : S) (x : ℕ) (u v : List ℕ) (b : ℕ) → is_numeral (u ++ (b ∷ v)) ≡ true → value_after 0 (u ++ (b ∷ v)) ≡ x → NumberFront u v b → next s (Number x) ≡ Some n → begins next s (u ++ (b ∷ [])) ≡ true
number_fronts next laws s n x u v b e h f q =
    elim f.large [
      | inl z ↦ let same : value_after 0 (u ++ (b ∷ [])) ≡ x = ap (λ v. value_after 0 (u ++ (b ∷ v))) (sym z) ∙ h in
          number_begins next s (u ++ (b ∷ [])) f.is (some_takes _ n (ap (λ m. next s (Number m)) same ∙ q))
      | inr low ↦ number_begins next s (u ++ (b ∷ [])) f.is (laws.smaller s (value_after 0 (u ++ (b ∷ []))) x low (omega (arith, value_front 0 u v b, h)) (some_takes _ n q))
    ]

pub fronts_begin : {S : Type 0} (next : S → Token → Option S) → IsTokenMachine next → (s n : S) (t : Token) (u v : List ℕ) (b : ℕ) → IsToken (u ++ (b ∷ v)) t → is_word t ≡ true → next s t ≡ Some n → begins next s (u ++ (b ∷ [])) ≡ true
fronts_begin next laws s n (Word k) u v b h w e =
    let f : starts_with eqb (keyword_text k) (u ++ (b ∷ [])) ≡ true = ap (λ x. starts_with eqb x (u ++ (b ∷ []))) (sym h) ∙ starts_front u v b in
    keyword_begins next s (u ++ (b ∷ [])) k (and_from (is_some (next s (Word k))) (starts_with eqb (keyword_text k) (u ++ (b ∷ []))) (some_takes _ n e) f)
fronts_begin next laws s n (Name x) u v b h w e =
    let whole : is_name_like (u ++ (b ∷ v)) ≡ true = ap is_name_like h.0 ∙ (name_like x h.1).0 in
    name_begins next s (u ++ (b ∷ [])) (name_front u v b whole) (laws.names s (u ++ (b ∷ [])) x ∙ some_takes _ n e)
fronts_begin next laws s n (Number x) u v b h w e =
    let k = number_value (u ++ (b ∷ v)) x h (small next laws s n (Number x) e) in
    number_fronts next laws s n x u v b k.0 k.1 (number_front u v b k.0) e
fronts_begin next laws s n (Mark x) u v b h w e = absurd cc
