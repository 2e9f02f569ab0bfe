-- Runs of bytes at which the machine waits: blanks, the bytes of a comment, and words.
use Rattle.std.proofs.Common.{◌≡◌, ℕ, zero, suc, ◌+◌, ◌-◌, ◌≤◌, ◌<◌, List, [], ◌∷◌, ◌++◌, length, get_or, take, drop, Bool, true, false, cond, eqb, Option, Some, Result, Ok, Err, refl, sym, ap, subst, ◌∙◌, append_assoc, arith}
use Rattle.std.specs.List.{list_all, prefix_len, take_while}
use Rattle.std.proofs.lemmas.Bool.{and_parts, and_from, not-true}
use Rattle.std.proofs.Math.Seq.{take-add}
use Rattle.std.proofs.lemmas.List.{append-nil, length-take-le, length-drop, take_all, get_or-drop}
use Rattle.std.proofs.lemmas.List.Elements.{All-take}
use Rattle.std.proofs.lemmas.List.Sums.{AllPass-from_list_all, list_all-from_AllPass, take_while-cons, prefix_len-le-length, prefix_len_stops}
use Rattle.hpr_terms.specs.declared.token.Token.{Token}
use Rattle.hpr_terms.specs.Names.{is_name_byte}
use Rattle.hpr_terms.specs.Tokens.{IsToken, is_blank}
use Rattle.hpr_scan.specs.declared.machine.Fault.{Fault}
use Rattle.hpr_scan.specs.declared.machine.Fault.TheVariants.{Refused, Memory}
use Rattle.hpr_scan.specs.declared.scanner.Lex.{Lex}
use Rattle.hpr_scan.specs.declared.scanner.Lex.TheVariants.{Gap, Comment, InWord}
use Rattle.hpr_scan.specs.declared.scanner.Scanner.{Scanner}
use Rattle.hpr_scan.specs.Machine.{IsTokenMachine}
use Rattle.hpr_scan.specs.Steps.{Moves}
use Rattle.hpr_scan.specs.Words.{begins, IsFirstWord}
use Rattle.hpr_scan.specs.Scanner.{at, feed_gap, feed, feeds, goes_on_comment, Waits}
use Rattle.hpr_scan.specs.Private.Advance.{IsNextWord, Takes, advanced, Advances}
use Rattle.hpr_scan.proofs.Words.{fronts_begin}
use Rattle.hpr_scan.proofs.WholeText.{word_no_blank, word_no_comment}
use Rattle.hpr_scan.proofs.Live.{completes}
use Rattle.hpr_scan.proofs.Loop.{feeds_then}

-- ---- bytes that leave what has begun as it is

passes : (p : ℕ → Bool) (bytes : List ℕ) → list_all p (take (prefix_len p bytes) bytes) ≡ true
passes p [] = refl
passes p (b ∷ bs) = subst (λ (x : List ℕ). list_all p x ≡ true) (sym (take_while-cons p b bs)) (at_test (p b) refl (passes p bs))
  where
    at_test : (v : Bool) → p b ≡ v → list_all p (take_while p bs) ≡ true → list_all p (cond v (b ∷ take_while p bs) []) ≡ true
    at_test true e later = and_from (p b) (list_all p (take_while p bs)) e later
    at_test false e later = refl

all_take : (p : ℕ → Bool) (m : ℕ) (bytes : List ℕ) → list_all p bytes ≡ true → list_all p (take m bytes) ≡ true
all_take p m bytes e = list_all-from_AllPass p (take m bytes) (All-take (λ b. p b ≡ true) m bytes (AllPass-from_list_all p bytes e))

-- each byte that passes p leaves l as it is
abbrev Stays : {S : Type 0} → (S → Token → Option S) → Lex → S → (ℕ → Bool) → Type 0
Stays next l s p = (b : ℕ) → p b ≡ true → feed next l s b ≡ Some (at l s)

stays_feeds : {S : Type 0} (next : S → Token → Option S) (l : Lex) (s : S) (p : ℕ → Bool) → Stays next l s p → (bytes : List ℕ) → list_all p bytes ≡ true → feeds next l s bytes ≡ Some (at l s)
unfolding feeds
stays_feeds next l s p f [] e = refl
stays_feeds next l s p f (b ∷ bs) e =
    let t = and_parts (p b) (list_all p bs) e in
    rw (f b t.0) (stays_feeds next l s p f bs t.1)

blank_stays : {S : Type 0} (next : S → Token → Option S) (s : S) → Stays next Gap s is_blank
unfolding feed feed_gap
blank_stays next s b e = rw e refl

comment_stays : {S : Type 0} (next : S → Token → Option S) (s : S) → Stays next Comment s goes_on_comment
unfolding feed
comment_stays next s b e = rw (not-true (eqb b 10) e) refl

run_feeds : {S : Type 0} (next : S → Token → Option S) (l : Lex) (s : S) (p : ℕ → Bool) → Stays next l s p → (bytes : List ℕ) → feeds next l s (take (prefix_len p bytes) bytes) ≡ Some (at l s)
run_feeds next l s p f bytes = stays_feeds next l s p f (take (prefix_len p bytes) bytes) (passes p bytes)

run_waits : {S : Type 0} (next : S → Token → Option S) (l : Lex) (s : S) (p : ℕ → Bool) → Stays next l s p → (bytes : List ℕ) → Waits next l s (take (prefix_len p bytes) bytes)
run_waits next l s p f bytes = λ m. (l, stays_feeds next l s p f _ (all_take p m _ (passes p bytes)))

-- what has begun is l, and the machine takes it from l
pub blanks_feed : {S : Type 0} (next : S → Token → Option S) (l : Lex) (s : S) (bytes : List ℕ) → l ≡ Gap → feeds next l s (take (prefix_len is_blank bytes) bytes) ≡ Some (at l s)
blanks_feed next l s bytes e = rw e (run_feeds next Gap s is_blank (blank_stays next s) bytes)

pub blanks_wait : {S : Type 0} (next : S → Token → Option S) (l : Lex) (s : S) (bytes : List ℕ) → l ≡ Gap → Waits next l s (take (prefix_len is_blank bytes) bytes)
blanks_wait next l s bytes e = rw e (run_waits next Gap s is_blank (blank_stays next s) bytes)

pub comment_feeds : {S : Type 0} (next : S → Token → Option S) (l : Lex) (s : S) (bytes : List ℕ) → l ≡ Comment → feeds next l s (take (prefix_len goes_on_comment bytes) bytes) ≡ Some (at l s)
comment_feeds next l s bytes e = rw e (run_feeds next Comment s goes_on_comment (comment_stays next s) bytes)

pub comment_waits : {S : Type 0} (next : S → Token → Option S) (l : Lex) (s : S) (bytes : List ℕ) → l ≡ Comment → Waits next l s (take (prefix_len goes_on_comment bytes) bytes)
comment_waits next l s bytes e = rw e (run_waits next Comment s goes_on_comment (comment_stays next s) bytes)

pub nothing_waits : {S : Type 0} (next : S → Token → Option S) (l : Lex) (s : S) (bytes : List ℕ) → Waits next l s (take 0 bytes)
unfolding feeds
nothing_waits next l s bytes zero = (l, refl)
nothing_waits next l s bytes (suc m) = (l, refl)

-- ---- words

-- a front of what begins a word begins one
front_begins : {S : Type 0} (next : S → Token → Option S) → IsTokenMachine next → (s : S) (u v : List ℕ) (b : ℕ) → begins next s (u ++ (b ∷ v)) ≡ true → begins next s (u ++ (b ∷ [])) ≡ true
front_begins next laws s u v b e =
    let c = completes next laws s (u ++ (b ∷ v)) e in
    fronts_begin next laws s c.end c.token u (v ++ c.more) b (subst (λ (x : List ℕ). IsToken x c.token) (append_assoc u (b ∷ v) c.more) c.is) c.is_word c.takes

longer_begins : {S : Type 0} (next : S → Token → Option S) (s : S) (u v : List ℕ) (b : ℕ) → begins next s (u ++ (b ∷ v)) ≡ true → begins next s ((u ++ (b ∷ [])) ++ v) ≡ true
longer_begins next s u v b e = subst (λ (x : List ℕ). begins next s x ≡ true) (sym (append_assoc u (b ∷ []) v)) e

grown_feeds : {S : Type 0} (next : S → Token → Option S) (s : S) (u x : List ℕ) (b : ℕ) → is_name_byte b ≡ true → begins next s (u ++ (b ∷ [])) ≡ true → feeds next (InWord u) s (b ∷ x) ≡ feeds next (InWord (u ++ (b ∷ []))) s x
unfolding feeds feed
grown_feeds next s u x b e h = rw (e, h) refl

grows : {S : Type 0} (next : S → Token → Option S) → IsTokenMachine next → (s : S) (u v : List ℕ) → list_all is_name_byte v ≡ true → begins next s (u ++ v) ≡ true → feeds next (InWord u) s v ≡ Some (at (InWord (u ++ v)) s)
unfolding feeds
grows next laws s u [] al e = ap (λ (x : List ℕ). Some (at (InWord x) s)) (sym (append-nil u))
grows next laws s u (b ∷ v) al e =
    let two = and_parts (is_name_byte b) (list_all is_name_byte v) al in
    grown_feeds next s u v b two.0 (front_begins next laws s u v b e) ∙ grows next laws s (u ++ (b ∷ [])) v two.1 (longer_begins next s u v b e)
    ∙ ap (λ (x : List ℕ). Some (at (InWord x) s)) (append_assoc u (b ∷ []) v)

grows_waiting : {S : Type 0} (next : S → Token → Option S) → IsTokenMachine next → (s : S) (u v : List ℕ) → list_all is_name_byte v ≡ true → begins next s (u ++ v) ≡ true → Waits next (InWord u) s v
unfolding feeds
grows_waiting next laws s u v al e zero = (InWord u, refl)
grows_waiting next laws s u [] al e (suc m) = (InWord u, refl)
grows_waiting next laws s u (b ∷ v) al e (suc m) =
    let two = and_parts (is_name_byte b) (list_all is_name_byte v) al in
    let more = grows_waiting next laws s (u ++ (b ∷ [])) v two.1 (longer_begins next s u v b e) m in
    (more.0, grown_feeds next s u (take m v) b two.0 (front_begins next laws s u v b e) ∙ more.1)

first_feeds : {S : Type 0} (next : S → Token → Option S) → IsTokenMachine next → (s : S) (b : ℕ) (v x : List ℕ) → is_name_byte b ≡ true → begins next s (b ∷ v) ≡ true → feeds next Gap s (b ∷ x) ≡ feeds next (InWord (b ∷ [])) s x
unfolding feeds feed feed_gap
first_feeds next laws s b v x e h = rw (word_no_blank b e, word_no_comment b e, e, front_begins next laws s [] v b h) refl

whole_feeds : {S : Type 0} (next : S → Token → Option S) → IsTokenMachine next → (s : S) (w : List ℕ) → 1 ≤ length w → list_all is_name_byte w ≡ true → begins next s w ≡ true → feeds next Gap s w ≡ Some (at (InWord w) s)
whole_feeds next laws s [] long al e = absurd (omega (arith, long))
whole_feeds next laws s (b ∷ v) long al e =
    let two = and_parts (is_name_byte b) (list_all is_name_byte v) al in
    first_feeds next laws s b v v two.0 e ∙ grows next laws s (b ∷ []) v two.1 e

whole_waits : {S : Type 0} (next : S → Token → Option S) → IsTokenMachine next → (s : S) (w : List ℕ) → list_all is_name_byte w ≡ true → begins next s w ≡ true → Waits next Gap s w
unfolding feeds
whole_waits next laws s w al e zero = (Gap, refl)
whole_waits next laws s [] al e (suc m) = (Gap, refl)
whole_waits next laws s (b ∷ v) al e (suc m) =
    let two = and_parts (is_name_byte b) (list_all is_name_byte v) al in
    let more = grows_waiting next laws s (b ∷ []) v two.1 e m in
    (more.0, first_feeds next laws s b v (take m v) two.0 e ∙ more.1)

pub word_feeds : {S : Type 0} (next : S → Token → Option S) → IsTokenMachine next → (l : Lex) (s : S) (bytes w : List ℕ) (n : ℕ) → l ≡ Gap → IsFirstWord next s bytes w n → feeds next l s (take n bytes) ≡ Some (at (InWord w) s)
word_feeds next laws l s bytes w n e h =
    let long : 1 ≤ length w = subst (λ (x : List ℕ). 1 ≤ length x) (sym h.front) (omega (arith, h.long, h.within, length-take-le n bytes h.within)) in
    rw (e, sym h.front) (whole_feeds next laws s w long h.letters h.begun)

pub word_waits : {S : Type 0} (next : S → Token → Option S) → IsTokenMachine next → (l : Lex) (s : S) (bytes w : List ℕ) (n : ℕ) → l ≡ Gap → IsFirstWord next s bytes w n → Waits next l s (take n bytes)
word_waits next laws l s bytes w n e h = rw (e, sym h.front) (whole_waits next laws s w h.letters h.begun)

-- what the letters at the front of the bytes are
pub first_word : {S : Type 0} (next : S → Token → Option S) (s : S) (bytes w : List ℕ) (n : ℕ) → n ≡ prefix_len is_name_byte bytes → 1 ≤ n → w ≡ take n bytes → begins next s w ≡ true → IsFirstWord next s bytes w n
first_word next s bytes w n e long front h = record {
  within = omega (arith, e, prefix_len-le-length is_name_byte bytes);
  long = long;
  front = front;
  letters = subst (λ (x : List ℕ). list_all is_name_byte x ≡ true) (sym front) (subst (λ (k : ℕ). list_all is_name_byte (take k bytes) ≡ true) (sym e) (passes is_name_byte bytes));
  begun = h;
}

-- the same where another byte stands behind it
pub next_word_is : {S : Type 0} (next : S → Token → Option S) (s : S) (bytes w : List ℕ) (n : ℕ) → n ≡ prefix_len is_name_byte bytes → 1 ≤ n → n < length bytes → w ≡ take n bytes → begins next s w ≡ true → IsNextWord next s bytes w
next_word_is next s bytes w n e long more front h =
    let same : n ≡ length w = sym (ap length front ∙ length-take-le n bytes (omega arith)) in
    let first : IsFirstWord next s bytes w n = first_word next s bytes w n e long front h in
    let stops : is_name_byte (get_or bytes n 0) ≡ false =
    subst (λ (k : ℕ). is_name_byte (get_or bytes k 0) ≡ false) (sym e) (prefix_len_stops is_name_byte bytes 0 (omega (arith, e, more))) in
    record {
      first = subst (λ (k : ℕ). IsFirstWord next s bytes w k) same first;
      more = subst (λ (k : ℕ). k < length bytes) same more;
      outside = subst (λ (k : ℕ). is_name_byte (get_or bytes k 0) ≡ false) same stops;
    }

-- ---- a byte behind bytes at which the machine waits

pub word_taken : {S : Type 0} (next : S → Token → Option S) → IsTokenMachine next → (a : Scanner S) (bytes w : List ℕ) (P : Option (Scanner S) → Type 0) → a.lex ≡ Gap → IsNextWord next a.machine bytes w → P (feed next (InWord w) a.machine (get_or bytes (length w) 0)) → Takes next a bytes (length w) P
word_taken next laws a bytes w P e h p = record {
  begun = InWord w;
  within = h.more;
  fed = word_feeds next laws a.lex a.machine bytes w (length w) e h.first;
  waits = word_waits next laws a.lex a.machine bytes w (length w) e h.first;
  taken = p;
}

pub byte_taken : {S : Type 0} (next : S → Token → Option S) (a : Scanner S) (bytes : List ℕ) (P : Option (Scanner S) → Type 0) → 1 ≤ length bytes → P (feed next a.lex a.machine (get_or bytes 0 0)) → Takes next a bytes 0 P
unfolding feeds
byte_taken next a bytes P long p = record { begun = a.lex; within = omega (arith, long); fed = refl; waits = nothing_waits next a.lex a.machine bytes; taken = p }

pub took_by : {S A : Type 0} (next : S → Token → Option S) (a b : Scanner S) (bytes : List ℕ) (n : ℕ) (step : Result A Fault) → Takes next a bytes n (λ o. Moves o b step) → Advances next a bytes b (advanced n step)
took_by next a b bytes n (Ok x) h = h
took_by next a b bytes n (Err Refused) h = h
took_by next a b bytes n (Err Memory) h = h

-- ---- in a longer run of bytes

-- the bytes behind the first i
abbrev pub rest : ℕ → List ℕ → List ℕ
rest i bytes = take (length bytes - i) (drop i bytes)

pub rest_is : (i : ℕ) (bytes : List ℕ) → rest i bytes ≡ drop i bytes
rest_is i bytes = take_all (length bytes - i) (drop i bytes) (omega (arith, length-drop i bytes))

pub within_rest : (i n : ℕ) (bytes : List ℕ) → i ≤ length bytes → n ≤ length (rest i bytes) → i + n ≤ length bytes
within_rest i n bytes le h =
    let long : length (rest i bytes) ≡ length bytes - i = ap length (rest_is i bytes) ∙ length-drop i bytes in
    omega (arith, le, h, long)

-- n bytes behind the first i
pub passed_on : {S : Type 0} (next : S → Token → Option S) (s : S) (bytes : List ℕ) (i n : ℕ) (a b : Scanner S) → feeds next Gap s (take i bytes) ≡ Some a → feeds next a.lex a.machine (take n (rest i bytes)) ≡ Some b → feeds next Gap s (take (i + n) bytes) ≡ Some b
passed_on next s bytes i n a b e f = rw (take-add i n bytes) (feeds_then next (take i bytes) (take n (drop i bytes)) Gap s a b e (subst (λ (x : List ℕ). feeds next a.lex a.machine (take n x) ≡ Some b) (rest_is i bytes) f))

-- the first j bytes lead to a place where the machine is m, and P of where the next byte leads
pub record Stands {S : Type 0} (next : S → Token → Option S) (s : S) (bytes : List ℕ) (j : ℕ) (m : S) (P : Option (Scanner S) → Type 0) : Type 0 where
  pub begun : Lex
  pub within : j < length bytes
  pub front : feeds next Gap s (take j bytes) ≡ Some (at begun m)
  pub taken : P (feed next begun m (get_or bytes j 0))

-- a byte behind n bytes behind the first i
pub stands_at : {S : Type 0} (next : S → Token → Option S) (s : S) (bytes : List ℕ) (i n : ℕ) (a : Scanner S) (P : Option (Scanner S) → Type 0) → i ≤ length bytes → feeds next Gap s (take i bytes) ≡ Some a → Takes next a (rest i bytes) n P → Stands next s bytes (i + n) a.machine P
stands_at next s bytes i n a P le e h =
    let long : length (rest i bytes) ≡ length bytes - i = ap length (rest_is i bytes) ∙ length-drop i bytes in
    let same : get_or (rest i bytes) n 0 ≡ get_or bytes (i + n) 0 = ap (λ (x : List ℕ). get_or x n 0) (rest_is i bytes) ∙ get_or-drop i bytes n 0 in
    record {
      begun = h.begun;
      within = omega (arith, le, long, h.within);
      front = passed_on next s bytes i n a (at h.begun a.machine) e h.fed;
      taken = subst (λ (b : ℕ). P (feed next h.begun a.machine b)) same h.taken;
    }
