-- The reader of a script's bytes against the machine of bytes: where it goes on, that goes on alike, and where it stops, nothing leads to an end.
use Rattle.std.proofs.Common.{◌≡◌, ℕ, ◌<◌, ◌≤◌, ◌^◌, List, [], ◌∷◌, ◌++◌, length, length-append, take, Bool, true, false, not, cond, eqb, ◌||◌, ◌&&◌, Option, Some, None, is_some, refl, sym, ap, subst, ◌∙◌, append_assoc, arith, inl, inr, ◌⊎◌}
use Rattle.std.specs.List.{list_all, list_any, starts_with}
use Rattle.std.specs.Str.{bytes_eq}
use Rattle.std.proofs.lemmas.Bool.{and_parts, and_from, eq-eqb, not-true}
use Rattle.std.proofs.lemmas.List.Folds.{list_any_at}
use Rattle.std.proofs.lemmas.Slice.Eq.{bytes_eq-Decides}
use Rattle.std.proofs.lemmas.Fmt.{digits_decimal}
use Rattle.hpr_terms.specs.declared.keyword.Keyword.{Keyword}
use Rattle.hpr_terms.specs.declared.keyword.Keyword.TheVariants.{Out}
use Rattle.hpr_terms.specs.declared.token.Sign.{Sign}
use Rattle.hpr_terms.specs.declared.token.Sign.TheVariants.{Colon, Becomes, Dot, Comma, Semicolon, Open, Close, OpenSquare, CloseSquare, Plus, Minus, Star, Slash, Percent, Equal, Differ, Less, LessEqual, Greater, GreaterEqual}
use Rattle.hpr_terms.specs.declared.token.Token.{Token}
use Rattle.hpr_terms.specs.declared.token.Token.TheVariants.{Word, Name, Number, Mark}
use Rattle.hpr_terms.specs.Keywords.{keyword_text, keywords, keyword_of}
use Rattle.hpr_terms.specs.Names.{is_name_byte, is_name_like, is_name, begins_with_digit, stream}
use Rattle.hpr_terms.specs.Tokens.{IsToken, is_word, is_blank}
use Rattle.hpr_terms.proofs.Facts.{or_right, or_left, some_inj}
use Rattle.hpr_scan.specs.declared.scanner.Lex.{Lex}
use Rattle.hpr_scan.specs.declared.scanner.Lex.TheVariants as lex
use Rattle.hpr_scan.specs.declared.scanner.Scanner.{Scanner}
use Rattle.hpr_scan.specs.Steps.{and_then, runs}
use Rattle.hpr_scan.specs.Words as words
use Rattle.hpr_scan.specs.Words.{is_digit, is_numeral, value_after, keyword_or, begins_keyword, word_token}
use Rattle.hpr_scan.specs.Scanner.{at, sign_of, after_sign, feed_sign, feed_gap, finish, feed, scan, feeds}
use Rattle.hpr_scan.proofs.Words.{none_some, some_takes, true_false, small, own, find_passes, fronts_begin}
use Rattle.hpr_scan.proofs.Live.{or_of, taken, front_of}
use Rattle.hpr_scan.proofs.WholeText.{run_parts}
use Rattle.hpr_scan.proofs.SoundText.{guard_of, guard_is, scan_from}
use Rattle.hpr_script.specs.declared.found.Found.{Found}
use Rattle.hpr_script.specs.declared.stage.Stage.{Stage}
use Rattle.hpr_script.specs.declared.stage.Stage.TheVariants.{AtCommand, AtTag, AfterAuthor, AfterDot, AtPlace, AfterAt, AfterParent, AtCount, AtNames, AfterOpen, AfterName, AfterNameOpen, AfterFinal, AfterComma, AtEnd}
use Rattle.hpr_script.specs.declared.stage.Turn.{Turn}
use Rattle.hpr_script.specs.declared.stage.Turn.TheVariants as turn
use Rattle.hpr_script.specs.declared.word.ScriptWord.{ScriptWord}
use Rattle.hpr_script.specs.declared.word.ScriptWord.TheVariants as script
use Rattle.hpr_script.specs.declared.scanner.Begun.{Begun}
use Rattle.hpr_script.specs.declared.scanner.Begun.TheVariants.{Gap, Comment, InWord}
use Rattle.hpr_script.specs.declared.scanner.Reader.{Reader}
use Rattle.hpr_script.specs.ScriptWords.{script_text, script_words, script_word}
use Rattle.hpr_script.specs.Stages.{word_stage, wants_word, takes_name, number_turn}
use Rattle.hpr_script.specs.Machine.{State, head, lost, turned, at_head, at_turn, turns_to, word_turn, variable_turn, name_turn, keyword_turn, number_after, sign_after, with_last, or_lost, name_next, next, is_end}
use Rattle.hpr_script.specs.Reading.{reader, begins_word, begins_number, begins, grown, finished_by, finished, settled, signed, gap_next, inner, IsInner, lex_of, scanner_of, IsSound}
use Rattle.hpr_script.proofs.MachineLaws.{lost_some, number_some, script_is_token_machine}

-- ---- Booleans

guard_none : {A : Type 0} (b : Bool) (x : A) (o : Option A) → cond b (Some x) o ≡ None → (b ≡ false) × (o ≡ None)
guard_none true x o e = absurd cc
guard_none false x o e = (refl, e)

-- ---- words of scripts

word_name : (k : ScriptWord) → is_name (script_text k) ≡ true
unfolding is_name is_name_like is_name_byte keyword_of
word_name script.Insert = refl
word_name script.Delete = refl
word_name script.Move = refl
word_name script.Set = refl
word_name script.Wrap = refl
word_name script.Unwrap = refl
word_name script.Finals = refl
word_name script.At = refl
word_name script.Top = refl
word_name script.True = refl
word_name script.False = refl

pub word_is_name : (k : ScriptWord) → is_name (script_text k) ≡ true
word_is_name k = word_name k

pub word_found : (k : ScriptWord) → script_word (script_text k) ≡ Some k
unfolding script_word
word_found script.Insert = refl
word_found script.Delete = refl
word_found script.Move = refl
word_found script.Set = refl
word_found script.Wrap = refl
word_found script.Unwrap = refl
word_found script.Finals = refl
word_found script.At = refl
word_found script.Top = refl
word_found script.True = refl
word_found script.False = refl

pub word_is : (w : List ℕ) (k : ScriptWord) → script_word w ≡ Some k → w ≡ script_text k
unfolding script_word
word_is w k e = sym ((bytes_eq-Decides (script_text k) w).0 (find_passes (λ k. bytes_eq (script_text k) w) script_words k e))

any_word : (p : ScriptWord → Bool) (k : ScriptWord) → p k ≡ true → list_any p script_words ≡ true
any_word p script.Insert e = list_any_at p script_words 0 script.Insert (omega arith) e
any_word p script.Delete e = list_any_at p script_words 1 script.Insert (omega arith) e
any_word p script.Move e = list_any_at p script_words 2 script.Insert (omega arith) e
any_word p script.Set e = list_any_at p script_words 3 script.Insert (omega arith) e
any_word p script.Wrap e = list_any_at p script_words 4 script.Insert (omega arith) e
any_word p script.Unwrap e = list_any_at p script_words 5 script.Insert (omega arith) e
any_word p script.Finals e = list_any_at p script_words 6 script.Insert (omega arith) e
any_word p script.At e = list_any_at p script_words 7 script.Insert (omega arith) e
any_word p script.Top e = list_any_at p script_words 8 script.Insert (omega arith) e
any_word p script.True e = list_any_at p script_words 9 script.Insert (omega arith) e
any_word p script.False e = list_any_at p script_words 10 script.Insert (omega arith) e

pub some_word : (p : ScriptWord → Bool) (ks : List ScriptWord) → list_any p ks ≡ true → (k : ScriptWord) × (p k ≡ true)
some_word p [] e = absurd cc
some_word p (k ∷ ks) e =
    elim (or_of (p k) (list_any p ks) e) [
      | inl h ↦ (k, h)
      | inr h ↦ some_word p ks h
    ]

starts_front : (w v : List ℕ) → starts_with eqb (w ++ v) w ≡ true
starts_front [] v = refl
starts_front (c ∷ w) v = and_from (eqb c c) (starts_with eqb (w ++ v) w) (eq-eqb c c refl) (starts_front w v)

-- ---- what a head takes

pub wants_some : (s : Stage) (k : ScriptWord) → is_some (word_stage s k) ≡ true → wants_word s ≡ true
unfolding word_stage wants_word
wants_some AtCommand k e = refl
wants_some (AtPlace p) k e = refl
wants_some (AfterAt p) k e = refl
wants_some (AfterParent p t) k e = refl
wants_some (AtTag a) k e = absurd cc
wants_some (AfterAuthor a n) k e = absurd cc
wants_some (AfterDot a n) k e = absurd cc
wants_some (AtCount p q) k e = absurd cc
wants_some AtNames k e = absurd cc
wants_some AfterOpen k e = absurd cc
wants_some AfterName k e = absurd cc
wants_some AfterNameOpen k e = absurd cc
wants_some AfterFinal k e = absurd cc
wants_some AfterComma k e = absurd cc
wants_some (AtEnd p) k e = absurd cc

pub takes_only : (s : Stage) → takes_name s ≡ true → wants_word s ≡ false
unfolding takes_name wants_word
takes_only AfterOpen e = refl
takes_only AfterComma e = refl
takes_only AtCommand e = absurd cc
takes_only (AtPlace p) e = absurd cc
takes_only (AfterAt p) e = absurd cc
takes_only (AfterParent p t) e = absurd cc
takes_only (AtTag a) e = absurd cc
takes_only (AfterAuthor a n) e = absurd cc
takes_only (AfterDot a n) e = absurd cc
takes_only (AtCount p q) e = absurd cc
takes_only AtNames e = absurd cc
takes_only AfterName e = absurd cc
takes_only AfterNameOpen e = absurd cc
takes_only AfterFinal e = absurd cc
takes_only (AtEnd p) e = absurd cc

lenient_word : (f : Found) (s : Stage) (x : List ℕ) → wants_word s ≡ true → is_some (next (head f s) (Name x)) ≡ true
unfolding next
lenient_word f s x e = rw e (lost_some _)

lenient_name : (f : Found) (s : Stage) (x : List ℕ) → takes_name s ≡ true → is_some (next (head f s) (Name x)) ≡ true
unfolding next name_turn
lenient_name f s x e = rw (takes_only s e, e) refl

lenient_number : (f : Found) (s : Stage) (n : ℕ) → is_some (next (head f s) (Number n)) ≡ is_some (number_turn s n)
unfolding next
lenient_number f s n = number_some f s n

-- ---- fronts of words

name_part : (f : Found) (s : Stage) (w : List ℕ) → (takes_name s && is_name_like w) ≡ true → words.begins next (head f s) w ≡ true
unfolding words.begins
name_part f s w e =
    let p = and_parts (takes_name s) (is_name_like w) e in
    or_left _ _ (or_left _ _ (and_from (is_name_like w) (is_some (next (head f s) (Name w))) p.1 (lenient_name f s w p.0)))

number_part : (f : Found) (s : Stage) (w : List ℕ) → begins_number s w ≡ true → words.begins next (head f s) w ≡ true
unfolding words.begins
number_part f s w e =
    let p = and_parts (is_numeral w) (is_some (number_turn s (value_after 0 w))) e in
    or_left _ _ (or_right _ _ (and_from (is_numeral w) (is_some (next (head f s) (Number (value_after 0 w)))) p.0 (lenient_number f s (value_after 0 w) ∙ p.1)))

word_part : (f : Found) (s : Stage) (u : List ℕ) (b : ℕ) (k : ScriptWord) → begins_word s (u ++ (b ∷ [])) k ≡ true → words.begins next (head f s) (u ++ (b ∷ [])) ≡ true
word_part f s u b k e =
    let p = and_parts (is_some (word_stage s k)) (starts_with eqb (script_text k) (u ++ (b ∷ []))) e in
    let m = front_of (script_text k) (u ++ (b ∷ [])) p.1 in
    let n = taken (next (head f s) (Name (script_text k))) (lenient_word f s (script_text k) (wants_some s k p.0)) in
    let text : u ++ (b ∷ m.0) ≡ script_text k = sym (m.1 ∙ append_assoc u (b ∷ []) m.0) in
    fronts_begin next script_is_token_machine (head f s) n.0 (Name (script_text k)) u m.0 b (text, word_is_name k) refl n.1

pub begins_alike : (f : Found) (s : Stage) (u : List ℕ) (b : ℕ) → begins s (u ++ (b ∷ [])) ≡ true → words.begins next (head f s) (u ++ (b ∷ [])) ≡ true
unfolding begins
begins_alike f s u b e =
    let w = u ++ (b ∷ []) in
    elim (or_of ((takes_name s && is_name_like w) || begins_number s w) (list_any (begins_word s w) script_words) e) [
      | inl h ↦ elim (or_of (takes_name s && is_name_like w) (begins_number s w) h) [
        | inl i ↦ name_part f s w i
        | inr i ↦ number_part f s w i
      ]
      | inr h ↦ let k = some_word (begins_word s w) script_words h in word_part f s u b k.0 k.1
    ]

-- a front of the stream's word is like a name
stream_like : (w more : List ℕ) → 1 ≤ length w → keyword_text Out ≡ w ++ more → is_name_like w ≡ true
unfolding is_name_like is_name_byte
stream_like [] more long e = absurd (omega (arith, long))
stream_like (a ∷ []) more long e = subst (λ (x : List ℕ). is_name_like x ≡ true) (ap (take 1) e) refl
stream_like (a ∷ b ∷ []) more long e = subst (λ (x : List ℕ). is_name_like x ≡ true) (ap (take 2) e) refl
stream_like (a ∷ b ∷ c ∷ []) more long e = subst (λ (x : List ℕ). is_name_like x ≡ true) (ap (take 3) e) refl
stream_like (a ∷ b ∷ c ∷ d ∷ w) more long e = absurd (omega (arith, ap length e))

-- a keyword that a head takes is the stream's word
keyword_like : (f : Found) (s : Stage) (u : List ℕ) (b : ℕ) → begins_keyword next (head f s) (u ++ (b ∷ [])) Out ≡ true → is_name_like (u ++ (b ∷ [])) ≡ true
keyword_like f s u b e =
    let w = u ++ (b ∷ []) in
    let m = front_of (keyword_text Out) w (and_parts (is_some (next (head f s) (Word Out))) (starts_with eqb (keyword_text Out) w) e).1 in
    stream_like w m.0 (omega (arith, length-append u (b ∷ []))) m.1

-- what a head takes is like a name, or a number
begins_parts : (f : Found) (s : Stage) (u : List ℕ) (b : ℕ) → words.begins next (head f s) (u ++ (b ∷ [])) ≡ true
    → (is_name_like (u ++ (b ∷ [])) ≡ true) ⊎ (begins_number s (u ++ (b ∷ [])) ≡ true)
unfolding words.begins next keyword_turn
begins_parts f s u b e =
    let w = u ++ (b ∷ []) in
    elim (or_of (words.begins_name next (head f s) w || words.begins_number next (head f s) w) (list_any (begins_keyword next (head f s) w) keywords) e) [
      | inl h ↦ elim (or_of (words.begins_name next (head f s) w) (words.begins_number next (head f s) w) h) [
        | inl i ↦ inl (and_parts (is_name_like w) (is_some (next (head f s) (Name w))) i).0
        | inr i ↦ let p = and_parts (is_numeral w) (is_some (next (head f s) (Number (value_after 0 w)))) i in
            inr (and_from (is_numeral w) (is_some (number_turn s (value_after 0 w))) p.0 (sym (lenient_number f s (value_after 0 w)) ∙ p.1))
      ]
      | inr h ↦ elim (or_of (begins_keyword next (head f s) w Out) false h) [
        | inl i ↦ inl (keyword_like f s u b i)
        | inr i ↦ absurd cc
      ]
    ]

-- ---- signs

sign_fed : (f : Found) (s : Stage) (sign : Sign) → feed_sign next (head f s) sign ≡ after_sign (at_head (sign_after f sign s))
unfolding next sign_after
sign_fed f s Colon = refl
sign_fed f s Becomes = refl
sign_fed f s Dot = refl
sign_fed f s Comma = refl
sign_fed f s Semicolon = refl
sign_fed f s Open = refl
sign_fed f s Close = refl
sign_fed f s OpenSquare = refl
sign_fed f s CloseSquare = refl
sign_fed f s Plus = refl
sign_fed f s Minus = refl
sign_fed f s Star = refl
sign_fed f s Slash = refl
sign_fed f s Percent = refl
sign_fed f s Equal = refl
sign_fed f s Differ = refl
sign_fed f s Less = refl
sign_fed f s LessEqual = refl
sign_fed f s Greater = refl
sign_fed f s GreaterEqual = refl

settled_some : (p : Option (Found × Stage)) (r : Reader) → settled p ≡ Some r → after_sign (at_head p) ≡ Some (scanner_of r)
settled_some None r e = absurd cc
settled_some (Some p) r e = ap (λ (x : Reader). Some (scanner_of x)) (some_inj _ _ e)

settled_none : (p : Option (Found × Stage)) → settled p ≡ None → after_sign (at_head p) ≡ None
settled_none None e = refl
settled_none (Some p) e = absurd cc

sign_some : (f : Found) (s : Stage) (o : Option Sign) (r : Reader) → settled (and_then o (λ sign. sign_after f sign s)) ≡ Some r → and_then o (feed_sign next (head f s)) ≡ Some (scanner_of r)
sign_some f s None r e = absurd cc
sign_some f s (Some sign) r e = sign_fed f s sign ∙ settled_some (sign_after f sign s) r e

sign_none : (f : Found) (s : Stage) (o : Option Sign) → settled (and_then o (λ sign. sign_after f sign s)) ≡ None → and_then o (feed_sign next (head f s)) ≡ None
sign_none f s None e = refl
sign_none f s (Some sign) e = sign_fed f s sign ∙ settled_none (sign_after f sign s) e

-- ---- one byte, where the reader goes on

grown_some : (f : Found) (s : Stage) (u : List ℕ) (b : ℕ) (r : Reader) → grown f s (u ++ (b ∷ [])) ≡ Some r
    → (cond (words.begins next (head f s) (u ++ (b ∷ []))) (Some (at (lex.InWord (u ++ (b ∷ []))) (head f s))) None ≡ Some (scanner_of r)) × IsSound r
grown_some f s u b r e =
    let g = guard_is (begins s (u ++ (b ∷ []))) (reader (InWord (u ++ (b ∷ []))) f s) r e in
    (rw (begins_alike f s u b g.0) (ap (λ (x : Reader). Some (scanner_of x)) g.1), subst IsSound g.1 g.0)

pub gap_some : (f : Found) (s : Stage) (b : ℕ) (r : Reader) → gap_next f s b ≡ Some r → (feed_gap next (head f s) b ≡ Some (scanner_of r)) × IsSound r
unfolding gap_next feed_gap signed
gap_some f s b r e =
    elim (guard_of (is_blank b) _ _ r e) [
      | inl h ↦ (rw h.0 (ap (λ (x : Reader). Some (scanner_of x)) (some_inj _ _ h.1)), subst IsSound (some_inj (reader Gap f s) r h.1) tt)
      | inr h ↦ elim (guard_of (eqb b 35) _ _ r h.1) [
        | inl i ↦ (rw (h.0, i.0) (ap (λ (x : Reader). Some (scanner_of x)) (some_inj _ _ i.1)), subst IsSound (some_inj (reader Comment f s) r i.1) tt)
        | inr i ↦ elim (guard_of (is_name_byte b) _ _ r i.1) [
          | inl j ↦ let g = grown_some f s [] b r j.1 in (rw (h.0, i.0, j.0) g.0, g.1)
          | inr j ↦ (rw (h.0, i.0, j.0) (sign_some f s (sign_of b) r j.1), settled_sound (and_then (sign_of b) (λ sign. sign_after f sign s)) j.1)
        ]
      ]
    ]
  where
    settled_sound : (p : Option (Found × Stage)) → settled p ≡ Some r → IsSound r
    settled_sound None e = absurd cc
    settled_sound (Some p) e = subst IsSound (some_inj (reader Gap p.0 p.1) r e) tt

comment_some : (f : Found) (s : Stage) (v : Bool) (r : Reader) → Some (reader (cond v Gap Comment) f s) ≡ Some r → (Some (at (cond v lex.Gap lex.Comment) (head f s)) ≡ Some (scanner_of r)) × IsSound r
comment_some f s true r e = (ap (λ (x : Reader). Some (scanner_of x)) (some_inj _ _ e), subst IsSound (some_inj (reader Gap f s) r e) tt)
comment_some f s false r e = (ap (λ (x : Reader). Some (scanner_of x)) (some_inj _ _ e), subst IsSound (some_inj (reader Comment f s) r e) tt)

pub inner_some : (begun : Begun) (f : Found) (s : Stage) (b : ℕ) (r : Reader) → IsInner begun b → inner begun f s b ≡ Some r → (feed next (lex_of begun) (head f s) b ≡ Some (scanner_of r)) × IsSound r
unfolding feed
inner_some Gap f s b r i e = gap_some f s b r e
inner_some Comment f s b r i e = comment_some f s (eqb b 10) r e
inner_some (InWord w) f s b r i e = let g = grown_some f s w b r e in (rw i g.0, g.1)

-- ---- behind a word

name_some : (b : Bool) (p : Found × Turn) → name_next b (at_turn (Some p)) ≡ Some (turned p.0 p.1)
name_some true p = refl
name_some false p = refl

token_some : (f : Found) (s : Stage) (w : List ℕ) (p : Found × Turn) → name_turn f s w ≡ Some p → next (head f s) (Name w) ≡ Some (turned p.0 p.1)
unfolding next
token_some f s w p e = ap (λ (o : Option (Found × Turn)). name_next (wants_word s) (at_turn o)) e ∙ name_some (wants_word s) p

other_some : (f : Found) (s : Stage) (w : List ℕ) (p : Found × Turn) (name numeral : Bool)
    → cond name (name_turn f s w) (cond numeral (number_after f s (value_after 0 w)) None) ≡ Some p
    → and_then (cond name (Some (Name w)) (cond numeral (Some (Number (value_after 0 w))) None)) (next (head f s)) ≡ Some (turned p.0 p.1)
unfolding next
other_some f s w p true numeral e = token_some f s w p e
other_some f s w p false true e = ap at_turn e
other_some f s w p false false e = absurd cc

keyword_some : (f : Found) (s : Stage) (k : Keyword) (p : Found × Turn) → keyword_turn f s k ≡ Some p → next (head f s) (Word k) ≡ Some (turned p.0 p.1)
unfolding next
keyword_some f s k p e = ap at_turn e

finished_at : (f : Found) (s : Stage) (w : List ℕ) (p : Found × Turn) (o : Option Keyword) → finished_by o f s w ≡ Some p → and_then (keyword_or o w) (next (head f s)) ≡ Some (turned p.0 p.1)
finished_at f s w p None e = other_some f s w p (is_name w) (is_numeral w) e
finished_at f s w p (Some k) e = keyword_some f s k p e

pub finished_some : (f : Found) (s : Stage) (w : List ℕ) (p : Found × Turn) → finished f s w ≡ Some p → finish next (lex.InWord w) (head f s) ≡ Some (turned p.0 p.1)
unfolding finish finished word_token
finished_some f s w p e = finished_at f s w p (keyword_of w) e

abbrev Fails : Option State → Type 0
Fails o = (o ≡ None) ⊎ (o ≡ Some lost)

name_none : (f : Found) (s : Stage) (w : List ℕ) (b : Bool) → wants_word s ≡ b → name_turn f s w ≡ None → Fails (next (head f s) (Name w))
unfolding next
name_none f s w true h e = inr (ap (λ (o : Option (Found × Turn)). name_next (wants_word s) (at_turn o)) e ∙ ap (λ (v : Bool). name_next v None) h)
name_none f s w false h e = inl (ap (λ (o : Option (Found × Turn)). name_next (wants_word s) (at_turn o)) e ∙ ap (λ (v : Bool). name_next v None) h)

other_none : (f : Found) (s : Stage) (w : List ℕ) (name numeral : Bool) → cond name (name_turn f s w) (cond numeral (number_after f s (value_after 0 w)) None) ≡ None
    → Fails (and_then (cond name (Some (Name w)) (cond numeral (Some (Number (value_after 0 w))) None)) (next (head f s)))
unfolding next
other_none f s w true numeral e = name_none f s w (wants_word s) refl e
other_none f s w false true e = inl (ap at_turn e)
other_none f s w false false e = inl refl

finished_fails : (f : Found) (s : Stage) (w : List ℕ) (o : Option Keyword) → finished_by o f s w ≡ None → Fails (and_then (keyword_or o w) (next (head f s)))
unfolding next
finished_fails f s w None e = other_none f s w (is_name w) (is_numeral w) e
finished_fails f s w (Some k) e = inl (ap at_turn e)

pub finished_none : (f : Found) (s : Stage) (w : List ℕ) → finished f s w ≡ None → Fails (finish next (lex.InWord w) (head f s))
unfolding finish finished word_token
finished_none f s w e = finished_fails f s w (keyword_of w) e

-- ---- what leads to no end

-- no bytes lead from s, where l has begun, to an end
abbrev pub Doomed : Lex → State → List ℕ → Type 0
Doomed l s bytes = (g : Found) → scan next l s bytes ≡ Some (head g AtCommand) → ⊥

lost_runs : (ts : List Token) (g : Found) → runs next lost ts ≡ Some (head g AtCommand) → ⊥
unfolding next
lost_runs [] g e = true_false (ap is_end (some_inj _ _ e)) refl
lost_runs (t ∷ ts) g e = none_some e

lost_doomed : (bytes : List ℕ) → Doomed lex.Gap lost bytes
lost_doomed bytes g e = let k = scan_from next script_is_token_machine bytes lex.Gap lost (head g AtCommand) e in lost_runs k.0 g k.2

digit_first : (u : List ℕ) (b : ℕ) (v : List ℕ) → list_all is_digit ((u ++ (b ∷ [])) ++ v) ≡ true → begins_with_digit (u ++ (b ∷ [])) ≡ true
unfolding is_digit
digit_first [] b v e = (and_parts (is_digit b) (list_all is_digit v) e).0
digit_first (c ∷ u) b v e = (and_parts (is_digit c) (list_all is_digit ((u ++ (b ∷ [])) ++ v)) e).0

no_digit : (w : List ℕ) → is_name_like w ≡ true → begins_with_digit w ≡ false
unfolding is_name_like
no_digit w e = not-true (begins_with_digit w) (and_parts _ (not (begins_with_digit w)) e).1

abbrev Stopped : Stage → List ℕ → Type 0
Stopped s w = begins s w ≡ false

by_name : (s : Stage) (w : List ℕ) → takes_name s ≡ true → is_name_like w ≡ true → Stopped s w → ⊥
unfolding begins
by_name s w e h stop = true_false (or_left _ _ (or_left _ _ (and_from (takes_name s) (is_name_like w) e h))) stop

by_number : (s : Stage) (w : List ℕ) → begins_number s w ≡ true → Stopped s w → ⊥
unfolding begins
by_number s w e stop = true_false (or_left _ _ (or_right _ _ e)) stop

by_word : (s : Stage) (w : List ℕ) (k : ScriptWord) → begins_word s w k ≡ true → Stopped s w → ⊥
unfolding begins
by_word s w k e stop = true_false (or_right _ _ (any_word (begins_word s w) k e)) stop

-- a token with the front w, and what follows it
record Goes (f : Found) (s : Stage) (u : List ℕ) (b : ℕ) (t : Token) (g : Found) : Type 0 where
  more : List ℕ
  others : List Token
  end : State
  is : IsToken ((u ++ (b ∷ [])) ++ more) t
  word : is_word t ≡ true
  step : next (head f s) t ≡ Some end
  runs : runs next end others ≡ Some (head g AtCommand)

longer : (u v : List ℕ) (b : ℕ) (t : Token) → IsToken ((u ++ (b ∷ [])) ++ v) t → IsToken (u ++ (b ∷ v)) t
longer u v b t h = subst (λ (x : List ℕ). IsToken x t) (append_assoc u (b ∷ []) v) h

script_goes : (s : Stage) (w v x : List ℕ) (o : Option ScriptWord) (q : Stage) → script_word x ≡ o → and_then o (word_stage s) ≡ Some q → x ≡ w ++ v → Stopped s w → ⊥
script_goes s w v x None q h e same stop = none_some e
script_goes s w v x (Some k) q h e same stop =
    let text : script_text k ≡ w ++ v = sym (word_is x k h) ∙ same in
    by_word s w k (and_from (is_some (word_stage s k)) (starts_with eqb (script_text k) w) (some_takes _ q e) (ap (λ (y : List ℕ). starts_with eqb y w) text ∙ starts_front w v)) stop

lost_or : (f : Found) (s : Stage) (x : List ℕ) (o : Option Stage) (n : State) (others : List Token) (g : Found) → or_lost (at_turn (turns_to f o)) ≡ Some n → runs next n others ≡ Some (head g AtCommand) → (q : Stage) × (o ≡ Some q)
lost_or f s x None n others g e r = absurd (lost_runs others g (subst (λ (m : State). runs next m others ≡ Some (head g AtCommand)) (sym (some_inj lost n e)) r))
lost_or f s x (Some q) n others g e r = (q, refl)

variable_goes : (f : Found) (s : Stage) (u : List ℕ) (b : ℕ) (t : Token) (g : Found) → takes_name s ≡ true → Goes f s u b t g → Stopped s (u ++ (b ∷ [])) → ⊥
variable_goes f s u b t g e k stop =
    let w = u ++ (b ∷ []) in
    elim (begins_parts f s u b (fronts_begin next script_is_token_machine (head f s) k.end t u k.more b (longer u k.more b t k.is) k.word k.step)) [
      | inl i ↦ by_name s w e i stop
      | inr i ↦ by_number s w i stop
    ]

name_goes : (f : Found) (s : Stage) (u : List ℕ) (b : ℕ) (x : List ℕ) (g : Found) (v : Bool) → wants_word s ≡ v → Goes f s u b (Name x) g → Stopped s (u ++ (b ∷ [])) → ⊥
unfolding next name_turn
name_goes f s u b x g true h k stop =
    let step : or_lost (at_turn (word_turn f s x)) ≡ Some k.end = ap (λ (c : Bool). name_next c (at_turn (cond c (word_turn f s x) (variable_turn f s x AfterName)))) (sym h) ∙ k.step in
    let q = lost_or f s x (and_then (script_word x) (word_stage s)) k.end k.others g step k.runs in
    script_goes s (u ++ (b ∷ [])) k.more x (script_word x) q.0 refl q.1 (sym k.is.0) stop
name_goes f s u b x g false h k stop =
    let step : at_turn (variable_turn f s x AfterName) ≡ Some k.end = ap (λ (c : Bool). name_next c (at_turn (cond c (word_turn f s x) (variable_turn f s x AfterName)))) (sym h) ∙ k.step in
    at_test (takes_name s) refl step
  where
    at_test : (c : Bool) → takes_name s ≡ c → at_turn (cond c (Some (with_last x f, turn.Head AfterName)) None) ≡ Some k.end → ⊥
    at_test true e step = variable_goes f s u b (Name x) g e k stop
    at_test false e step = none_some step

number_goes : (f : Found) (s : Stage) (u : List ℕ) (b m : ℕ) (g : Found) → Goes f s u b (Number m) g → Stopped s (u ++ (b ∷ [])) → ⊥
number_goes f s u b m g k stop =
    let w = u ++ (b ∷ []) in
    let low : m < 2 ^ 64 = small next script_is_token_machine (head f s) k.end (Number m) k.step in
    let digits : list_all is_digit (w ++ k.more) ≡ true = ap (list_all is_digit) k.is ∙ digits_decimal own m low in
    elim (begins_parts f s u b (fronts_begin next script_is_token_machine (head f s) k.end (Number m) u k.more b (longer u k.more b (Number m) k.is) refl k.step)) [
      | inl i ↦ true_false (digit_first u b k.more digits) (no_digit w i)
      | inr i ↦ by_number s w i stop
    ]

keyword_takes : (f : Found) (s : Stage) (k : Keyword) (n : State) → at_turn (keyword_turn f s k) ≡ Some n → takes_name s ≡ true
unfolding keyword_turn
keyword_takes f s Out n e = at_test (takes_name s) refl e
  where
    at_test : (c : Bool) → takes_name s ≡ c → at_turn (cond c (Some (with_last stream f, turn.Head AfterFinal)) None) ≡ Some n → takes_name s ≡ true
    at_test true h e = h
    at_test false h e = absurd (none_some e)
keyword_takes f s k n e = absurd cc

token_goes : (f : Found) (s : Stage) (u : List ℕ) (b : ℕ) (t : Token) (g : Found) → Goes f s u b t g → Stopped s (u ++ (b ∷ [])) → ⊥
unfolding next
token_goes f s u b (Word k) g h stop = variable_goes f s u b (Word k) g (keyword_takes f s k h.end h.step) h stop
token_goes f s u b (Name x) g h stop = name_goes f s u b x g (wants_word s) refl h stop
token_goes f s u b (Number m) g h stop = number_goes f s u b m g h stop
token_goes f s u b (Mark sign) g h stop = true_false h.word refl

word_doomed : (f : Found) (s : Stage) (u : List ℕ) (b : ℕ) (bytes : List ℕ) → Stopped s (u ++ (b ∷ [])) → Doomed (lex.InWord (u ++ (b ∷ []))) (head f s) bytes
word_doomed f s u b bytes stop g e =
    let k = scan_from next script_is_token_machine bytes (lex.InWord (u ++ (b ∷ []))) (head f s) (head g AtCommand) e in
    let w = k.1 in
    let r = run_parts next (head f s) (head g AtCommand) w.first w.others (ap (runs next (head f s)) (sym w.tokens_are) ∙ k.2) in
    token_goes f s u b w.first g (record { more = w.more; others = w.others; end = r.0; is = w.is; word = w.is_word; step = r.1; runs = r.2 }) stop

-- ---- one byte, where the reader stops

scan_by : (l : Lex) (s : State) (b : ℕ) (more : List ℕ) (o : Option (Scanner State)) → feed next l s b ≡ o → scan next l s (b ∷ more) ≡ and_then o (λ a. scan next a.lex a.machine more)
unfolding scan
scan_by l s b more o e = ap (λ (o : Option (Scanner State)). and_then o (λ a. scan next a.lex a.machine more)) e

grown_doomed : (l : Lex) (f : Found) (s : Stage) (u : List ℕ) (b : ℕ) (more : List ℕ) (v : Bool) → words.begins next (head f s) (u ++ (b ∷ [])) ≡ v
    → feed next l (head f s) b ≡ cond (words.begins next (head f s) (u ++ (b ∷ []))) (Some (at (lex.InWord (u ++ (b ∷ []))) (head f s))) None
    → grown f s (u ++ (b ∷ [])) ≡ None → Doomed l (head f s) (b ∷ more)
grown_doomed l f s u b more true h e stop g q =
    let p = guard_none (begins s (u ++ (b ∷ []))) _ None stop in
    let here = e ∙ ap (λ (c : Bool). cond c (Some (at (lex.InWord (u ++ (b ∷ []))) (head f s))) None) h in
    word_doomed f s u b more p.0 g (sym (scan_by l (head f s) b more _ here) ∙ q)
grown_doomed l f s u b more false h e stop g q =
    let here = e ∙ ap (λ (c : Bool). cond c (Some (at (lex.InWord (u ++ (b ∷ []))) (head f s))) None) h in
    none_some (sym (scan_by l (head f s) b more None here) ∙ q)

pub gap_doomed : (f : Found) (s : Stage) (b : ℕ) (more : List ℕ) → gap_next f s b ≡ None → Doomed lex.Gap (head f s) (b ∷ more)
unfolding gap_next signed feed feed_gap
gap_doomed f s b more e =
    let h = guard_none (is_blank b) _ _ e in
    let i = guard_none (eqb b 35) _ _ h.1 in
    at_byte (is_name_byte b) refl h.0 i.0 i.1
  where
    at_byte : (v : Bool) → is_name_byte b ≡ v → is_blank b ≡ false → eqb b 35 ≡ false → cond v (grown f s (b ∷ [])) (settled (signed f s b)) ≡ None → Doomed lex.Gap (head f s) (b ∷ more)
    at_byte true n h i e = grown_doomed lex.Gap f s [] b more (words.begins next (head f s) (b ∷ [])) refl (rw (h, i, n) refl) e
    at_byte false n h i e =
        let stop : feed next lex.Gap (head f s) b ≡ None = rw (h, i, n) (sign_none f s (sign_of b) e) in
        λ g q. none_some (sym (scan_by lex.Gap (head f s) b more None stop) ∙ q)

pub inner_doomed : (begun : Begun) (f : Found) (s : Stage) (b : ℕ) (more : List ℕ) → IsInner begun b → inner begun f s b ≡ None → Doomed (lex_of begun) (head f s) (b ∷ more)
unfolding feed
inner_doomed Gap f s b more i e = gap_doomed f s b more e
inner_doomed Comment f s b more i e = absurd (none_some (sym e))
inner_doomed (InWord w) f s b more i e = grown_doomed (lex.InWord w) f s w b more (words.begins next (head f s) (w ++ (b ∷ []))) refl (rw i refl) e

-- ---- a byte behind a word

pub word_ends : (s n : State) (w : List ℕ) (b : ℕ) (more : List ℕ) → is_name_byte b ≡ false → finish next (lex.InWord w) s ≡ Some n → scan next (lex.InWord w) s (b ∷ more) ≡ scan next lex.Gap n (b ∷ more)
unfolding scan feed
word_ends s n w b more out e = rw (out, e) refl

pub word_feeds : (s n : State) (w : List ℕ) (b : ℕ) (more : List ℕ) → is_name_byte b ≡ false → finish next (lex.InWord w) s ≡ Some n → feeds next (lex.InWord w) s (b ∷ more) ≡ feeds next lex.Gap n (b ∷ more)
unfolding feeds feed
word_feeds s n w b more out e = rw (out, e) refl

word_stops : (s : State) (w : List ℕ) (b : ℕ) (more : List ℕ) → is_name_byte b ≡ false → finish next (lex.InWord w) s ≡ None → scan next (lex.InWord w) s (b ∷ more) ≡ None
unfolding scan feed
word_stops s w b more out e = rw (out, e) refl

pub finished_doomed : (f : Found) (s : Stage) (w : List ℕ) (b : ℕ) (more : List ℕ) → is_name_byte b ≡ false → finished f s w ≡ None → Doomed (lex.InWord w) (head f s) (b ∷ more)
finished_doomed f s w b more out e g q =
    elim (finished_none f s w e) [
      | inl h ↦ none_some (sym (word_stops (head f s) w b more out h) ∙ q)
      | inr h ↦ lost_doomed (b ∷ more) g (sym (word_ends (head f s) lost w b more out h) ∙ q)
    ]
