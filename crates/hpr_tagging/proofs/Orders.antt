-- Lexemes, and what is put in, stand in the order of the text.
use Rattle.std.proofs.Common.{◌≡◌, ℕ, suc, ◌+◌, ◌≤◌, ◌||◌, cond, eqb, Bool, true, false, List, [], ◌∷◌, ◌++◌, length, Option, Some, None, refl, sym, ap, subst, arith}
use Rattle.std.specs.List.{prefix_len}
use Rattle.std.proofs.lemmas.List.{length-take-le}
use Rattle.std.proofs.lemmas.List.Sums.{prefix_len-le-length}
use Rattle.hpr_terms.specs.Names.{is_name_byte}
use Rattle.hpr_terms.specs.Tokens.{is_blank}
use Rattle.hpr_scan.proofs.WholeText.{word_no_comment}
use Rattle.hpr_tagging.specs.declared.lexemes.Kind.{Kind}
use Rattle.hpr_tagging.specs.declared.lexemes.Kind.TheVariants.{Other}
use Rattle.hpr_tagging.specs.declared.lexemes.Begun.{Begun}
use Rattle.hpr_tagging.specs.declared.lexemes.Begun.TheVariants.{Nothing, Comment, InWord}
use Rattle.hpr_tagging.specs.declared.lexemes.Lexeme.{Lexeme}
use Rattle.hpr_tagging.specs.declared.counts.Numbering.{Numbering}
use Rattle.hpr_tagging.specs.declared.changes.Put.{Put}
use Rattle.hpr_tagging.specs.declared.changes.Put.TheVariants.{Label, Raised, Pair}
use Rattle.hpr_tagging.specs.declared.changes.Change.{Change}
use Rattle.hpr_tagging.specs.Lexemes.{beside, after, word, sign_kind, sign_at, word_at, lexeme_by, some_of, lexemes}
use Rattle.hpr_tagging.specs.Tagging.{lacking, numbering_of, put_at, change_by, changes, changes_in}
use Rattle.hpr_tagging.specs.Laws.{AreInOrder}

-- ---- lexemes

abbrev Ordered : ℕ → List Lexeme → ℕ → Type 0
Ordered n [] m = n ≤ m
Ordered n (l ∷ ls) m = (n ≤ l.first) × (l.first ≤ l.end) × Ordered l.end ls m

earlier : (k n : ℕ) (ls : List Lexeme) (m : ℕ) → k ≤ n → Ordered n ls m → Ordered k ls m
earlier k n [] m le h = omega (arith, le, h)
earlier k n (l ∷ ls) m le h = (omega (arith, le, h.0), h.1, h.2)

later : (n : ℕ) (ls : List Lexeme) (m k : ℕ) → m ≡ k → Ordered n ls m → Ordered n ls k
later n ls m k e h = subst (Ordered n ls) e h

sign_by : (v : Bool) (k : Kind) (n : ℕ) (ls : List Lexeme) (m : ℕ) → Ordered (n + 1) ls m
    → Ordered n (some_of (cond v None (Some (record { first = n; end = n + 1; kind = k }))) ++ ls) m
sign_by true k n ls m h = earlier n (n + 1) ls m (omega arith) h
sign_by false k n ls m h = (omega arith, omega arith, h)

sign_ordered : (n b : ℕ) (ls : List Lexeme) (m : ℕ) → Ordered (n + 1) ls m → Ordered n (some_of (sign_at n b) ++ ls) m
sign_ordered n b ls m h = sign_by (is_blank b || eqb b 35) (sign_kind b) n ls m h

-- how many bytes of the word that has begun are left
abbrev left : Begun → List ℕ → ℕ
left Nothing bytes = 0
left Comment bytes = 0
left InWord bytes = prefix_len is_name_byte bytes

-- a byte that is none of a word
gap_ordered : (s : Begun) (n b : ℕ) (bs : List ℕ) (more : List Lexeme) (k m : ℕ) → is_name_byte b ≡ false → n + 1 ≤ k → Ordered k more m
    → Ordered n (some_of (lexeme_by s n b (b ∷ bs)) ++ more) m
gap_ordered Comment n b bs more k m e le h = earlier n k more m (omega (arith, le)) h
gap_ordered InWord n b bs more k m e le h = rw e (sign_ordered n b more m (earlier (n + 1) k more m le h))
gap_ordered Nothing n b bs more k m e le h = rw e (sign_ordered n b more m (earlier (n + 1) k more m le h))

-- the first byte of a word
word_ordered : (n b : ℕ) (bs : List ℕ) (more : List Lexeme) (m : ℕ) → is_name_byte b ≡ true → Ordered (n + 1 + prefix_len is_name_byte bs) more m
    → Ordered n (word_at n (word (b ∷ bs)) ∷ more) m
unfolding word_at
word_ordered n b bs more m e h =
    let whole : prefix_len is_name_byte (b ∷ bs) ≡ 1 + prefix_len is_name_byte bs = rw e refl in
    let long : length (word (b ∷ bs))
    ≡ prefix_len is_name_byte (b ∷ bs) = length-take-le (prefix_len is_name_byte (b ∷ bs)) (b ∷ bs) (prefix_len-le-length is_name_byte (b ∷ bs)) in
    (omega arith, omega arith, earlier (n + length (word (b ∷ bs))) (n + 1 + prefix_len is_name_byte bs) more m (omega (arith, whole, long)) h)

named : (b : ℕ) → is_name_byte b ≡ true → beside b ≡ InWord
named b e = rw (word_no_comment b e, e) refl

byte_ordered : (s : Begun) (n b : ℕ) (bs : List ℕ) (more : List Lexeme) (m : ℕ) (v : Bool) → is_name_byte b ≡ v → Ordered (n + 1 + left (after s b) bs) more m
    → Ordered (n + left s (b ∷ bs)) (some_of (lexeme_by s n b (b ∷ bs)) ++ more) m
byte_ordered Comment n b bs more m v e h = earlier (n + 0) (n + 1 + left (after Comment b) bs) more m (omega arith) h
byte_ordered InWord n b bs more m true e h =
    let begun : left (after InWord b) bs ≡ prefix_len is_name_byte bs = ap (λ (t : Begun). left t bs) (named b e) in
    let whole : prefix_len is_name_byte (b ∷ bs) ≡ 1 + prefix_len is_name_byte bs = rw e refl in
    let h' : Ordered (n + prefix_len is_name_byte (b ∷ bs)) more m =
    earlier (n + prefix_len is_name_byte (b ∷ bs)) (n + 1 + left (after InWord b) bs) more m (omega (arith, begun, whole)) h in
    subst (λ (w : Bool). Ordered (n + prefix_len is_name_byte (b ∷ bs)) (some_of (cond w None (sign_at n b)) ++ more) m) (sym e) h'
byte_ordered InWord n b bs more m false e h =
    let none : prefix_len is_name_byte (b ∷ bs) ≡ 0 = rw e refl in
    earlier (n + prefix_len is_name_byte (b ∷ bs)) n (some_of (lexeme_by InWord n b (b ∷ bs)) ++ more) m (omega (arith, none))
    (gap_ordered InWord n b bs more (n + 1 + left (after InWord b) bs) m e (omega arith) h)
byte_ordered Nothing n b bs more m true e h =
    let begun : left (after Nothing b) bs ≡ prefix_len is_name_byte bs = ap (λ (t : Begun). left t bs) (named b e) in
    let h' : Ordered (n + 1 + prefix_len is_name_byte bs) more m =
    earlier (n + 1 + prefix_len is_name_byte bs) (n + 1 + left (after Nothing b) bs) more m (omega (arith, begun)) h in
    let word' : Ordered (n + 0) (word_at n (word (b ∷ bs)) ∷ more) m =
    earlier (n + 0) n (word_at n (word (b ∷ bs)) ∷ more) m (omega arith) (word_ordered n b bs more m e h') in
    subst (λ (w : Bool). Ordered (n + 0) (some_of (cond w (Some (word_at n (word (b ∷ bs)))) (sign_at n b)) ++ more) m) (sym e) word'
byte_ordered Nothing n b bs more m false e h =
    earlier (n + 0) n (some_of (lexeme_by Nothing n b (b ∷ bs)) ++ more) m (omega arith)
    (gap_ordered Nothing n b bs more (n + 1 + left (after Nothing b) bs) m e (omega arith) h)

lexemes_ordered : (s : Begun) (n : ℕ) (bytes : List ℕ) → Ordered (n + left s bytes) (lexemes s n bytes) (n + length bytes)
unfolding lexemes
lexemes_ordered Nothing n [] = omega arith
lexemes_ordered Comment n [] = omega arith
lexemes_ordered InWord n [] = omega arith
lexemes_ordered s n (b ∷ bs) =
    let last : n + 1 + length bs ≡ n + suc (length bs) = omega arith in
    let more = later (n + 1 + left (after s b) bs) (lexemes (after s b) (n + 1) bs) (n + 1 + length bs) (n + suc (length bs)) last
    (lexemes_ordered (after s b) (n + 1) bs) in
    byte_ordered s n b bs (lexemes (after s b) (n + 1) bs) (n + suc (length bs)) (is_name_byte b) refl more

-- ---- changes

within : (n : ℕ) (ls : List Lexeme) (m : ℕ) → Ordered n ls m → n ≤ m
within n [] m h = h
within n (l ∷ ls) m h = omega (arith, h.0, h.1, within l.end ls m h.2)

sooner : (k n : ℕ) (cs : List Change) (m : ℕ) → k ≤ n → AreInOrder n cs m → AreInOrder k cs m
sooner k n [] m le h = omega (arith, le, h)
sooner k n (c ∷ cs) m le h = (omega (arith, le, h.0), h.1, h.2)

one_ordered : (o : Option Put) (l : Lexeme) (n m : ℕ) (more : List Change) → n ≤ l.first → l.first ≤ l.end → AreInOrder l.end more m
    → AreInOrder n (some_of (change_by o l) ++ more) m
one_ordered None l n m more first end h = sooner n l.end more m (omega (arith, first, end)) h
one_ordered (Some (Raised k)) l n m more first end h = (first, end, h)
one_ordered (Some (Label k)) l n m more first end h = (first, omega arith, sooner l.first l.end more m end h)
one_ordered (Some (Pair k)) l n m more first end h = (first, omega arith, sooner l.first l.end more m end h)

changes_from : (m : Numbering) (k : ℕ) (x y : Kind) (n : ℕ) (ls : List Lexeme) (last : ℕ) → Ordered n ls last → AreInOrder n (changes m k x y ls) last
changes_from m k x y n [] last h = h
changes_from m k x y n (l ∷ ls) last h =
    one_ordered (put_at m k x y l.kind) l n last (changes m (k + lacking x y l.kind) y l.kind ls) h.0 h.1
    (changes_from m (k + lacking x y l.kind) y l.kind l.end ls last h.2)

some_changes : (v : Bool) (cs : List Change) (n m : ℕ) → n ≤ m → AreInOrder n cs m → AreInOrder n (cond v [] cs) m
some_changes true cs n m le h = le
some_changes false cs n m le h = h

pub changes_ordered : (a : ℕ) (bytes : List ℕ) → AreInOrder 0 (changes_in a bytes) (length bytes)
unfolding changes_in
changes_ordered a bytes =
    let ls = lexemes Nothing 0 bytes in
    let m = numbering_of a ls in
    let last : 0 + length bytes ≡ length bytes = omega arith in
    let h = later 0 ls (0 + length bytes) (length bytes) last (earlier 0 (0 + 0) ls (0 + length bytes) (omega arith) (lexemes_ordered Nothing 0 bytes)) in
    some_changes (eqb m.greatest m.last) (changes m m.greatest Other Other ls) 0 (length bytes) (omega arith)
    (changes_from m m.greatest Other Other 0 ls (length bytes) h)
