-- A text that tells with its last byte that it has ended, at the front of bytes.
use Rattle.std.proofs.Common.{◌≡◌, ℕ, ◌+◌, ◌-◌, ◌<◌, ◌≤◌, leb, eqb, List, [], ◌∷◌, ◌++◌, length, take, drop, get_or, Bool, true, false, Option, Some, None, Err, refl, sym, ap, subst, ◌∙◌, arith, inl, inr, ◌⊎◌}
use Rattle.std.proofs.Math.Seq.{take-length, take-append-add, take-add}
use Rattle.std.proofs.lemmas.Bool.Decides.{nat_tests}
use Rattle.std.proofs.lemmas.List.{take_all, length-take-le, take-take}
use Rattle.std.proofs.lemmas.Grind.{common_steps}
use Rattle.hpr_terms.specs.declared.token.Sign.{Sign}
use Rattle.hpr_terms.specs.declared.token.Sign.TheVariants.{Colon, Less, Greater}
use Rattle.hpr_terms.specs.declared.token.Token.{Token}
use Rattle.hpr_terms.specs.declared.token.Token.TheVariants.{Word, Name, Number, Mark}
use Rattle.hpr_terms.specs.Names.{is_name_byte}
use Rattle.hpr_terms.specs.Tokens.{is_word, is_blank}
use Rattle.hpr_terms.proofs.Facts.{some_inj}
use Rattle.hpr_scan.specs.declared.reader.Refusal.{Refusal}
use Rattle.hpr_scan.specs.declared.reader.Refusal.TheVariants.{Stuck, Memory}
use Rattle.hpr_scan.specs.declared.scanner.Lex.{Lex}
use Rattle.hpr_scan.specs.declared.scanner.Lex.TheVariants.{Gap, Comment, InWord, Half}
use Rattle.hpr_scan.specs.declared.scanner.Scanner.{Scanner}
use Rattle.hpr_scan.specs.Machine.{IsTokenMachine, Live, EndsAtOnce}
use Rattle.hpr_scan.specs.Place.{IsViable, IsPlace, BeginsWith, Accepts, IfStuck}
use Rattle.hpr_scan.specs.Steps.{IsReading}
use Rattle.hpr_scan.specs.Words.{word_token, begins}
use Rattle.hpr_scan.specs.Scanner.{at, sign_of, longer, after_sign, feed_sign, feed_gap, finish, feed_half, feed, feeds, FeedsAt, Waits}
use Rattle.hpr_scan.proofs.Words.{small, token_is, true_false}
use Rattle.hpr_scan.proofs.SoundText.{guard_of, guard_is, then_of}
use Rattle.hpr_scan.proofs.Live.{is_front, Good, good_feeds}
use Rattle.hpr_scan.proofs.Loop.{feeds_then, feeds_more, scan_end, scan_reads}
use Rattle.hpr_scan.proofs.Runs.{rest, rest_is}
use Rattle.hpr_scan.proofs.Place.{end_place, stuck_place, accepts_scan, feeds_viable, stuck_stops}

-- only a sign that no byte makes a longer one leads to an end
abbrev pub Fronts : {S : Type 0} → (S → Token → Option S) → (S → Bool) → Type 0
Fronts {S} next may_end = (s n : S) (t : Token) → next s t ≡ Some n → may_end n ≡ true → EndsAtOnce t

word_goes_on : (t : Token) → is_word t ≡ true → EndsAtOnce t → ⊥
word_goes_on (Word k) e h = h
word_goes_on (Name x) e h = h
word_goes_on (Number n) e h = h
word_goes_on (Mark sign) e h = absurd cc

front_goes_on : (sign : Sign) → is_front sign ≡ true → EndsAtOnce (Mark sign) → ⊥
front_goes_on Colon e h = h
front_goes_on Less e h = h
front_goes_on Greater e h = h
front_goes_on _ e h = absurd cc

false_by : (b : Bool) → (b ≡ true → ⊥) → b ≡ false
false_by true f = absurd (f refl)
false_by false f = refl

-- what has begun leads to no end
finish_goes_on : {S : Type 0} (next : S → Token → Option S) (may_end : S → Bool) → IsTokenMachine next → Fronts next may_end → (l : Lex) (s m : S) → Good next l s → may_end s ≡ false → finish next l s ≡ Some m → may_end m ≡ false
unfolding finish
finish_goes_on next may_end laws fronts Gap s m g e f = ap may_end (sym (some_inj _ _ f)) ∙ e
finish_goes_on next may_end laws fronts Comment s m g e f = ap may_end (sym (some_inj _ _ f)) ∙ e
finish_goes_on next may_end laws fronts (InWord w) s m g e f =
    let k = then_of (word_token w) (next s) m f in
    let t = token_is w k.0 k.1 (small next laws s m k.0 k.2) in
    false_by (may_end m) (λ h. word_goes_on k.0 t.1 (fronts s m k.0 k.2 h))
finish_goes_on next may_end laws fronts (Half sign) s m g e f = false_by (may_end m) (λ h. front_goes_on sign g.front (fronts s m (Mark sign) f h))

-- where a text may end, nothing has begun
abbrev Settled : {S : Type 0} → (S → Bool) → Scanner S → Type 0
Settled may_end a = may_end a.machine ≡ true → a.lex ≡ Gap

waits_settled : {S : Type 0} (may_end : S → Bool) (l : Lex) (s : S) (a : Scanner S) → may_end s ≡ false → at l s ≡ a → Settled may_end a
waits_settled {S = S} may_end l s a e f = subst (Settled {S = S} may_end) f (λ h. absurd (true_false h e))

after_settled : {S : Type 0} (may_end : S → Bool) (o : Option S) (a : Scanner S) → after_sign o ≡ Some a → Settled may_end a
after_settled may_end None a e = absurd cc
after_settled {S = S} may_end (Some n) a e = subst (Settled {S = S} may_end) (some_inj (at Gap n) a e) (λ h. refl)

sign_settled : {S : Type 0} (next : S → Token → Option S) (may_end : S → Bool) (s : S) (sign : Sign) (a : Scanner S) → may_end s ≡ false → feed_sign next s sign ≡ Some a → Settled may_end a
sign_settled next may_end s Colon a e f = waits_settled may_end (Half Colon) s a e (guard_is _ (at (Half Colon) s) a f).1
sign_settled next may_end s Less a e f = waits_settled may_end (Half Less) s a e (guard_is _ (at (Half Less) s) a f).1
sign_settled next may_end s Greater a e f = waits_settled may_end (Half Greater) s a e (guard_is _ (at (Half Greater) s) a f).1
sign_settled next may_end s sign a e f = after_settled may_end (next s (Mark sign)) a f

gap_settled : {S : Type 0} (next : S → Token → Option S) (may_end : S → Bool) (s : S) (b : ℕ) (a : Scanner S) → may_end s ≡ false → feed_gap next s b ≡ Some a → Settled may_end a
unfolding feed_gap
gap_settled next may_end s b a e f =
    elim (guard_of (is_blank b) _ _ a f) [
      | inl h ↦ waits_settled may_end Gap s a e (some_inj _ _ h.1)
      | inr h ↦ elim (guard_of (eqb b 35) _ _ a h.1) [
        | inl i ↦ waits_settled may_end Comment s a e (some_inj _ _ i.1)
        | inr i ↦ elim (guard_of (is_name_byte b) _ _ a i.1) [
          | inl j ↦ waits_settled may_end (InWord (b ∷ [])) s a e (guard_is (begins next s (b ∷ [])) (at (InWord (b ∷ [])) s) a j.1).1
          | inr j ↦ let k = then_of (sign_of b) (feed_sign next s) a j.1 in sign_settled next may_end s k.0 a e k.2
        ]
      ]
    ]

half_settled : {S : Type 0} (next : S → Token → Option S) (may_end : S → Bool) → IsTokenMachine next → Fronts next may_end → (s : S) (o : Option Sign) (sign : Sign) (b : ℕ) (a : Scanner S) → Good next (Half sign) s → may_end s ≡ false → feed_half next o sign s b ≡ Some a → Settled may_end a
half_settled next may_end laws fronts s (Some long) sign b a g e f = after_settled may_end (next s (Mark long)) a f
half_settled next may_end laws fronts s None sign b a g e f =
    let k = then_of (finish next (Half sign) s) (λ n. feed_gap next n b) a f in
    gap_settled next may_end k.0 b a (finish_goes_on next may_end laws fronts (Half sign) s k.0 g e k.1) k.2

fed_settled : {S : Type 0} (next : S → Token → Option S) (may_end : S → Bool) → IsTokenMachine next → Fronts next may_end → (l : Lex) (s : S) (b : ℕ) (a : Scanner S) → Good next l s → may_end s ≡ false → feed next l s b ≡ Some a → Settled may_end a
unfolding feed
fed_settled next may_end laws fronts Gap s b a g e f = gap_settled next may_end s b a e f
fed_settled next may_end laws fronts Comment s b a g e f = waits_settled may_end _ s a e (some_inj _ _ f)
fed_settled next may_end laws fronts (Half sign) s b a g e f = half_settled next may_end laws fronts s (longer sign b) sign b a g e f
fed_settled next may_end laws fronts (InWord w) s b a g e f =
    elim (guard_of (is_name_byte b) _ _ a f) [
      | inl j ↦ waits_settled may_end (InWord (w ++ (b ∷ []))) s a e (guard_is (begins next s (w ++ (b ∷ []))) (at (InWord (w ++ (b ∷ []))) s) a j.1).1
      | inr j ↦ let k = then_of (finish next (InWord w) s) (λ n. feed_gap next n b) a j.1 in
          gap_settled next may_end k.0 b a (finish_goes_on next may_end laws fronts (InWord w) s k.0 g e k.1) k.2
    ]

-- ---- fronts that are no texts

-- no front of at most i bytes is a text
abbrev pub NoFront : {S : Type 0} → (S → Token → Option S) → (S → Bool) → S → List ℕ → ℕ → Type 0
NoFront next may_end s bytes i = (n : ℕ) → n ≤ i → Accepts next may_end s (take n bytes) → ⊥

no_text : {S : Type 0} (next : S → Token → Option S) (may_end : S → Bool) → IsTokenMachine next → Fronts next may_end → (s : S) (bytes : List ℕ) (a : Scanner S) → feeds next Gap s bytes ≡ Some a → may_end a.machine ≡ false → Accepts next may_end s bytes → ⊥
no_text next may_end laws fronts s bytes a e f h =
    let k = accepts_scan next may_end laws s bytes h in
    let goes = good_feeds next bytes Gap s a tt e in
    true_false k.2 (finish_goes_on next may_end laws fronts a.lex a.machine k.0 goes f (sym (scan_end next bytes s a e) ∙ k.1))

at_or_below : (n i : ℕ) → n ≤ i + 1 → (n ≤ i) ⊎ (n ≡ i + 1)
at_or_below n i le = at_test (leb n i) refl
  where
    at_test : (v : Bool) → leb n i ≡ v → (n ≤ i) ⊎ (n ≡ i + 1)
    at_test true e = inl (grind (arith, nat_tests))
    at_test false e = inr (grind (arith, nat_tests))

pub no_front_more : {S : Type 0} (next : S → Token → Option S) (may_end : S → Bool) → IsTokenMachine next → Fronts next may_end → (s : S) (bytes : List ℕ) (i : ℕ) (a : Scanner S) → feeds next Gap s (take (i + 1) bytes) ≡ Some a → may_end a.machine ≡ false → NoFront next may_end s bytes i → NoFront next may_end s bytes (i + 1)
no_front_more next may_end laws fronts s bytes i a e f before n le h =
    elim (at_or_below n i le) [
      | inl low ↦ before n low h
      | inr same ↦ no_text next may_end laws fronts s (take (i + 1) bytes) a e f (subst (λ (m : ℕ). Accepts next may_end s (take m bytes)) same h)
    ]

split_front : (i n j : ℕ) (bytes : List ℕ) → i ≤ j → j ≤ i + n → take j bytes ≡ take i bytes ++ take (j - i) (take n (drop i bytes))
split_front i n j bytes low le =
    let parts : i + (j - i) ≡ j = omega (arith, low) in
    let behind : take (j - i) (take n (drop i bytes)) ≡ take (j - i) (drop i bytes) = take-take (j - i) n (drop i bytes) (omega (arith, le)) in
    ap (λ (k : ℕ). take k bytes) (sym parts) ∙ take-add i (j - i) bytes ∙ ap (λ (x : List ℕ). take i bytes ++ x) (sym behind)

-- n bytes more, at which the machine waits
pub no_front_waits : {S : Type 0} (next : S → Token → Option S) (may_end : S → Bool) → IsTokenMachine next → Fronts next may_end → (s : S) (bytes : List ℕ) (i n : ℕ) (a : Scanner S) → feeds next Gap s (take i bytes) ≡ Some a → may_end a.machine ≡ false → Waits next a.lex a.machine (take n (rest i bytes)) → NoFront next may_end s bytes i → NoFront next may_end s bytes (i + n)
no_front_waits next may_end laws fronts s bytes i n a e f waits before j le h = at_test (leb j i) refl
  where
    at_test : (v : Bool) → leb j i ≡ v → ⊥
    at_test true q = before j (grind (arith, nat_tests)) h
    at_test false q =
        let behind = subst (λ (x : List ℕ). Waits next a.lex a.machine (take n x)) (rest_is i bytes) waits in
        let w = behind (j - i) in
        let front = take (j - i) (take n (drop i bytes)) in
        no_text next may_end laws fronts s (take i bytes ++ front) (at w.0 a.machine) (feeds_then next (take i bytes) front Gap s a (at w.0 a.machine) e w.1) f
        (subst (Accepts next may_end s) (split_front i n j bytes (grind (arith, nat_tests)) le) h)

pub no_front_first : {S : Type 0} (next : S → Token → Option S) (may_end : S → Bool) → IsTokenMachine next → Fronts next may_end → (s : S) (bytes : List ℕ) → may_end s ≡ false → NoFront next may_end s bytes 0
unfolding feeds
no_front_first next may_end laws fronts s bytes e n le h =
    let none : n ≡ 0 = omega arith in
    no_text next may_end laws fronts s [] (at Gap s) refl e (subst (λ (m : ℕ). Accepts next may_end s (take m bytes)) none h)

-- ---- the answers

-- the front that is a text
pub front_reads : {S : Type 0} (next : S → Token → Option S) (may_end : S → Bool) → IsTokenMachine next → Fronts next may_end → (s : S) (bytes : List ℕ) (i : ℕ) (l a : Scanner S) → i < length bytes → feeds next Gap s (take i bytes) ≡ Some l → may_end l.machine ≡ false → feed next l.lex l.machine (get_or bytes i 0) ≡ Some a → may_end a.machine ≡ true → IsReading next s (take (i + 1) bytes) a.machine
unfolding finish
front_reads next may_end laws fronts s bytes i l a lt e f step h =
    let settled = fed_settled next may_end laws fronts l.lex l.machine (get_or bytes i 0) a (good_feeds next (take i bytes) Gap s l tt e) f step h in
    let whole = feeds_more next s bytes i l a lt e step in
    let ended : finish next a.lex a.machine ≡ Some a.machine = ap (λ (x : Lex). finish next x a.machine) settled in
    scan_reads next laws s a.machine (take (i + 1) bytes) (scan_end next (take (i + 1) bytes) s a whole ∙ ended)

-- bytes that can be completed to a text can be completed to bytes that begin with one
begins_viable : (L : List ℕ → Type 0) (bytes : List ℕ) → IsViable L bytes → IsViable (BeginsWith L) bytes
begins_viable L bytes v = (v.0, (length (bytes ++ v.0), subst L (sym (take-length (bytes ++ v.0))) v.1))

behind : (n k : ℕ) (bytes rest : List ℕ) → n < length bytes → n < k → take k (take n bytes ++ rest) ≡ take n bytes ++ take (k - n) rest
behind n k bytes rest lt up =
    let whole : k ≡ length (take n bytes) + (k - n) = omega (arith, length-take-le n bytes (omega arith)) in
    ap (λ (m : ℕ). take m (take n bytes ++ rest)) whole ∙ take-append-add (take n bytes) rest (k - n)

first_behind : (k : ℕ) (b : ℕ) (more : List ℕ) → 0 < k → take k (b ∷ more) ≡ b ∷ take (k - 1) more
first_behind k b more up = grind (arith, common_steps)

before_is : (n k : ℕ) (bytes rest : List ℕ) → n < length bytes → k ≤ n → take k (take n bytes ++ rest) ≡ take k bytes
before_is n k bytes rest lt le = grind (arith, common_steps)

pub front_stuck : {S : Type 0} (next : S → Token → Option S) (may_end : S → Bool) → IsTokenMachine next → ((s : S) → Live next may_end s) → (s : S) (bytes : List ℕ) (n : ℕ) (a : Scanner S) → n < length bytes → feeds next Gap s (take n bytes) ≡ Some a → feed next a.lex a.machine (get_or bytes n 0) ≡ None → NoFront next may_end s bytes n → IsPlace (BeginsWith (Accepts next may_end s)) bytes n
front_stuck next may_end laws live s bytes n a lt e stop before =
    stuck_place (BeginsWith (Accepts next may_end s)) bytes n lt (begins_viable (Accepts next may_end s) (take n bytes) (feeds_viable next may_end laws live s (take n bytes) a e))
    (λ more h. at_test more h.0 h.1 (leb h.0 n) refl)
  where
    at_test : (more : List ℕ) (k : ℕ) → Accepts next may_end s (take k (take n bytes ++ (get_or bytes n 0 ∷ more))) → (v : Bool) → leb k n ≡ v → ⊥
    at_test more k h true q =
        before k (grind (arith, nat_tests)) (subst (Accepts next may_end s) (before_is n k bytes (get_or bytes n 0 ∷ more) lt (grind (arith, nat_tests))) h)
    at_test more k h false q =
        let up : n < k = grind (arith, nat_tests) in
        let same = behind n k bytes (get_or bytes n 0 ∷ more) lt up ∙ ap (λ (x : List ℕ). take n bytes ++ x) (first_behind (k - n) (get_or bytes n 0) more (omega arith)) in
        stuck_stops next may_end laws s (take n bytes) a (get_or bytes n 0) (take (k - n - 1) more) e stop (subst (Accepts next may_end s) same h)

-- all bytes lead on, and no front of them is a text
pub front_unended : {S : Type 0} (next : S → Token → Option S) (may_end : S → Bool) → IsTokenMachine next → ((s : S) → Live next may_end s) → (s : S) (bytes : List ℕ) (i : ℕ) (a : Scanner S) → length bytes ≤ i → feeds next Gap s (take i bytes) ≡ Some a → NoFront next may_end s bytes i → IsPlace (BeginsWith (Accepts next may_end s)) bytes (length bytes)
front_unended next may_end laws live s bytes i a le e before =
    end_place (BeginsWith (Accepts next may_end s)) bytes (λ h. at_test h.0 h.1 (leb h.0 i) refl)
    (begins_viable (Accepts next may_end s) bytes (feeds_viable next may_end laws live s bytes a (subst (λ (x : List ℕ). feeds next Gap s x ≡ Some a) (take_all i bytes le) e)))
  where
    at_test : (k : ℕ) → Accepts next may_end s (take k bytes) → (v : Bool) → leb k i ≡ v → ⊥
    at_test k h true q = before k (grind (arith, nat_tests)) h
    at_test k h false q =
        let same : take k bytes ≡ take i bytes = take_all k bytes (grind (arith, nat_tests)) ∙ sym (take_all i bytes le) in
        before i (omega arith) (subst (Accepts next may_end s) same h)

-- the answer where a byte cannot stand
pub front_refused : {S : Type 0} (next : S → Token → Option S) (may_end : S → Bool) → IsTokenMachine next → ((s : S) → Live next may_end s) → (s : S) (bytes : List ℕ) (n : ℕ) (a : Scanner S) (refusal : Refusal) → n < length bytes → feeds next Gap s (take n bytes) ≡ Some a → FeedsAt (feed next a.lex a.machine (get_or bytes n 0)) n (Err refusal) → NoFront next may_end s bytes n → IfStuck {A = S × ℕ} (Err refusal) (λ m. IsPlace (BeginsWith (Accepts next may_end s)) bytes m)
front_refused next may_end laws live s bytes n a (Stuck m) lt e h before =
    subst (IsPlace (BeginsWith (Accepts next may_end s)) bytes) (sym h.1) (front_stuck next may_end laws live s bytes n a lt e h.0 before)
front_refused next may_end laws live s bytes n a Memory lt e h before = tt
