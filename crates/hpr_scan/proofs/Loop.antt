-- What the reader answers, from where the machine of bytes comes.
use Rattle.std.proofs.Common.{◌≡◌, ℕ, suc, ◌+◌, ◌<◌, List, [], ◌∷◌, ◌++◌, length, take, drop, get_or, Option, Some, None, Err, refl, sym, ap, subst, ◌∙◌, drop-cons, add-one}
use Rattle.std.proofs.Math.Seq.{take-suc}
use Rattle.std.proofs.lemmas.List.{append-nil, take-append-drop}
use Rattle.hpr_terms.specs.declared.token.Token.{Token}
use Rattle.hpr_terms.proofs.Facts.{some_inj}
use Rattle.hpr_scan.specs.declared.machine.Fault.{Fault}
use Rattle.hpr_scan.specs.declared.machine.Fault.TheVariants as fault
use Rattle.hpr_scan.specs.declared.reader.Refusal.{Refusal}
use Rattle.hpr_scan.specs.declared.reader.Refusal.TheVariants.{Stuck, Memory}
use Rattle.hpr_scan.specs.declared.scanner.Lex.{Lex}
use Rattle.hpr_scan.specs.declared.scanner.Lex.TheVariants.{Gap}
use Rattle.hpr_scan.specs.declared.scanner.Scanner.{Scanner}
use Rattle.hpr_scan.specs.Machine.{IsTokenMachine}
use Rattle.hpr_scan.specs.Steps.{Steps, IsReading}
use Rattle.hpr_scan.specs.Scanner.{at, feed, feeds, scan, finish, refusal_at, FeedsAt, IsStuck, Scans}
use Rattle.hpr_scan.proofs.WholeText.{text_scan}
use Rattle.hpr_scan.proofs.SoundText.{then_of, scan_from}

-- ---- the loop

pub start_feeds : {S : Type 0} (next : S → Token → Option S) (s : S) (a : Scanner S) → a ≡ at Gap s → feeds next Gap s [] ≡ Some a
unfolding feeds
start_feeds next s a e = ap Some (sym e)

feeds_push : {S : Type 0} (next : S → Token → Option S) (x : List ℕ) (b : ℕ) (l : Lex) (s : S) (a n : Scanner S) → feeds next l s x ≡ Some a → feed next a.lex a.machine b ≡ Some n → feeds next l s (x ++ b ∷ []) ≡ Some n
unfolding feeds
feeds_push {S = S} next [] b l s a n e f = rw (subst (λ (y : Scanner S). feed next y.lex y.machine b ≡ Some n) (sym (some_inj _ _ e)) f) refl
feeds_push next (c ∷ x) b l s a n e f =
    let k = then_of (feed next l s c) (λ a. feeds next a.lex a.machine x) a e in
    rw k.1 (feeds_push next x b k.0.lex k.0.machine a n k.2 f)

-- bytes behind bytes
pub feeds_then : {S : Type 0} (next : S → Token → Option S) (x y : List ℕ) (l : Lex) (s : S) (a n : Scanner S) → feeds next l s x ≡ Some a → feeds next a.lex a.machine y ≡ Some n → feeds next l s (x ++ y) ≡ Some n
unfolding feeds
feeds_then {S = S} next [] y l s a n e f = subst (λ (m : Scanner S). feeds next m.lex m.machine y ≡ Some n) (sym (some_inj _ _ e)) f
feeds_then next (c ∷ x) y l s a n e f =
    let k = then_of (feed next l s c) (λ a. feeds next a.lex a.machine x) a e in
    rw k.1 (feeds_then next x y k.0.lex k.0.machine a n k.2 f)

-- one byte more
pub feeds_more : {S : Type 0} (next : S → Token → Option S) (s : S) (bytes : List ℕ) (i : ℕ) (a n : Scanner S) → i < length bytes → feeds next Gap s (take i bytes) ≡ Some a → feed next a.lex a.machine (get_or bytes i 0) ≡ Some n → feeds next Gap s (take (i + 1) bytes) ≡ Some n
feeds_more next s bytes i a n lt e f = rw (add-one, take-suc bytes i 0 lt) (feeds_push next (take i bytes) (get_or bytes i 0) Gap s a n e f)

-- ---- from the machine of bytes to readings

pub feeds_scan : {S : Type 0} (next : S → Token → Option S) (x y : List ℕ) (l : Lex) (s : S) (a : Scanner S) → feeds next l s x ≡ Some a → scan next l s (x ++ y) ≡ scan next a.lex a.machine y
unfolding feeds scan
feeds_scan {S = S} next [] y l s a e = ap (λ (b : Scanner S). scan next b.lex b.machine y) (some_inj _ _ e)
feeds_scan next (b ∷ x) y l s a e =
    let k = then_of (feed next l s b) (λ a. feeds next a.lex a.machine x) a e in
    rw k.1 (feeds_scan next x y k.0.lex k.0.machine a k.2)

pub scan_end : {S : Type 0} (next : S → Token → Option S) (bytes : List ℕ) (s : S) (a : Scanner S) → feeds next Gap s bytes ≡ Some a → scan next Gap s bytes ≡ finish next a.lex a.machine
unfolding scan
scan_end next bytes s a e = ap (scan next Gap s) (sym (append-nil bytes)) ∙ feeds_scan next bytes [] Gap s a e

pub scan_stops : {S : Type 0} (next : S → Token → Option S) (l : Lex) (s : S) (b : ℕ) (more : List ℕ) → feed next l s b ≡ None → scan next l s (b ∷ more) ≡ None
unfolding scan
scan_stops next l s b more e = rw e refl

-- what the machine of bytes reads
pub scan_reads : {S : Type 0} (next : S → Token → Option S) → IsTokenMachine next → (s m : S) (bytes : List ℕ) → scan next Gap s bytes ≡ Some m → IsReading next s bytes m
scan_reads next laws s m bytes e =
    let k = scan_from next laws bytes Gap s m e in
    record { tokens = k.0; text = k.1; leads = k.2; only = λ ts n t r. some_inj n m (sym (text_scan next laws t s n r) ∙ e) }

pub split_at : (bytes : List ℕ) (n : ℕ) → n < length bytes → bytes ≡ take n bytes ++ (get_or bytes n 0 ∷ drop (suc n) bytes)
split_at bytes n lt = sym (take-append-drop n bytes) ∙ ap (λ (x : List ℕ). take n bytes ++ x) (drop-cons bytes n 0 lt)

-- the answer at a byte that cannot stand
pub fed_stops : {S : Type 0} (next : S → Token → Option S) (s : S) (bytes : List ℕ) (n : ℕ) (a : Scanner S) (refusal : Refusal) → n < length bytes → feeds next Gap s (take n bytes) ≡ Some a → FeedsAt (feed next a.lex a.machine (get_or bytes n 0)) n (Err refusal) → Scans next s bytes (Err refusal)
fed_stops next s bytes n a (Stuck m) lt e h = subst (IsStuck next s bytes) (sym h.1) (record { place = a; within = lt; front = e; stops = h.0 })
fed_stops next s bytes n a Memory lt e h = tt

-- a fault at a byte
pub fault_at : {S : Type 0} (o : Option (Scanner S)) (n : ℕ) (f : Fault) → Steps o (Err f) → FeedsAt o n (Err (refusal_at n f))
fault_at o n fault.Refused h = (h, refl)
fault_at o n fault.Memory h = tt
