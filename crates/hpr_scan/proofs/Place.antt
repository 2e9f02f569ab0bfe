-- Exact places, in general and of the machine of bytes.
use Rattle.std.proofs.Common.{◌≡◌, ℕ, suc, ◌<◌, ◌≤◌, ltb, List, ◌∷◌, ◌++◌, length, take, drop, get_or, Bool, true, false, Option, Some, None, Err, refl, sym, ap, subst, ◌∙◌, append_assoc, arith}
use Rattle.std.proofs.lemmas.Bool.{ltb-true}
use Rattle.std.proofs.lemmas.Bool.Decides.{nat_tests}
use Rattle.std.proofs.lemmas.List.{take-take, length-take, get_or-take}
use Rattle.std.proofs.lemmas.Grind.{common_steps}
use Rattle.hpr_terms.specs.declared.token.Token.{Token}
use Rattle.hpr_terms.proofs.Facts.{some_inj}
use Rattle.hpr_scan.specs.declared.machine.Fault.{Fault}
use Rattle.hpr_scan.specs.declared.machine.Fault.TheVariants as fault
use Rattle.hpr_scan.specs.declared.reader.Refusal.{Refusal}
use Rattle.hpr_scan.specs.declared.reader.Refusal.TheVariants.{Stuck, Memory}
use Rattle.hpr_scan.specs.declared.scanner.Lex.TheVariants.{Gap}
use Rattle.hpr_scan.specs.declared.scanner.Scanner.{Scanner}
use Rattle.hpr_scan.specs.Machine.{IsTokenMachine, Live}
use Rattle.hpr_scan.specs.Place.{IsViable, IsPlace, Accepts, IfStuck}
use Rattle.hpr_scan.specs.Steps.{Steps}
use Rattle.hpr_scan.specs.Scanner.{feed, feeds, scan, finish, refusal_at, IsStuck, Scans}
use Rattle.hpr_scan.proofs.Words.{none_some, true_false}
use Rattle.hpr_scan.proofs.WholeText.{text_scan}
use Rattle.hpr_scan.proofs.SoundText.{scan_from}
use Rattle.hpr_scan.proofs.Live.{completed, good_feeds}
use Rattle.hpr_scan.proofs.Loop.{feeds_scan, scan_end, scan_stops, split_at}

-- ---- places in general

-- places of the same texts are the same
pub same_place : (A B : List ℕ → Type 0) → ((bs : List ℕ) → A bs → B bs) → ((bs : List ℕ) → B bs → A bs) → (bytes : List ℕ) (n : ℕ) → IsPlace A bytes n → IsPlace B bytes n
same_place A B f g bytes n h = record {
  unspelled = λ b. h.unspelled (g bytes b);
  within = h.within;
  viable = (h.viable.0, f _ h.viable.1);
  longest = λ m le v. h.longest m le (v.0, g _ v.1);
}

-- all of the bytes can be completed, and are no text
pub end_place : (L : List ℕ → Type 0) (bytes : List ℕ) → (L bytes → ⊥) → IsViable L bytes → IsPlace L bytes (length bytes)
end_place L bytes f v = record {
  unspelled = f;
  within = omega arith;
  viable = subst (IsViable L) (sym take_all) v;
  longest = λ m le w. le;
}
  where
    take_all : take (length bytes) bytes ≡ bytes
    take_all = grind (arith, common_steps)

take_further : (bytes : List ℕ) (n m : ℕ) → n < m → m ≤ length bytes → take m bytes ≡ take n bytes ++ (get_or bytes n 0 ∷ drop (suc n) (take m bytes))
take_further bytes n m lt le =
    let long : n < length (take m bytes) = omega (arith, length-take m bytes) in
    let here = split_at (take m bytes) n long in
    let front : take n (take m bytes) ≡ take n bytes = take-take n m bytes (omega arith) in
    let byte : get_or (take m bytes) n 0 ≡ get_or bytes n 0 = get_or-take m bytes n 0 lt in
    here ∙ ap (λ (x : List ℕ). x ++ (get_or (take m bytes) n 0 ∷ drop (suc n) (take m bytes))) front ∙ ap (λ (b : ℕ). take n bytes ++ (b ∷ drop (suc n) (take m bytes))) byte

-- the first n bytes can be completed, and not with the byte behind them
pub stuck_place : (L : List ℕ → Type 0) (bytes : List ℕ) (n : ℕ) → n < length bytes → IsViable L (take n bytes) → ((more : List ℕ) → L (take n bytes ++ (get_or bytes n 0 ∷ more)) → ⊥) → IsPlace L bytes n
stuck_place L bytes n lt v f = record {
  unspelled = λ h. f (drop (suc n) bytes) (subst L (split_at bytes n lt) h);
  within = omega (arith, lt);
  viable = v;
  longest = λ m le w. not_longer m le w (ltb n m) refl;
}
  where
    further : (m : ℕ) → n < m → m ≤ length bytes → IsViable L (take m bytes) → ⊥
    further m up le w =
        let whole : take m bytes ++ w.0 ≡ take n bytes ++ (get_or bytes n 0 ∷ (drop (suc n) (take m bytes) ++ w.0)) =
        ap (λ (x : List ℕ). x ++ w.0) (take_further bytes n m up le) ∙ append_assoc (take n bytes) (get_or bytes n 0 ∷ drop (suc n) (take m bytes)) w.0 in
        f (drop (suc n) (take m bytes) ++ w.0) (subst L whole w.1)

    not_longer : (m : ℕ) → m ≤ length bytes → IsViable L (take m bytes) → (v : Bool) → ltb n m ≡ v → m ≤ n
    not_longer m le w true e = absurd (further m (ltb-true n m e) le w)
    not_longer m le w false e = grind (arith, nat_tests)

-- ---- texts that a machine takes

-- what the machine of bytes takes
pub scan_accepts : {S : Type 0} (next : S → Token → Option S) (may_end : S → Bool) → IsTokenMachine next → (s m : S) (bytes : List ℕ) → scan next Gap s bytes ≡ Some m → may_end m ≡ true → Accepts next may_end s bytes
scan_accepts next may_end laws s m bytes e f =
    let k = scan_from next laws bytes Gap s m e in
    record { tokens = k.0; last = m; text = k.1; leads = k.2; ends = f }

pub accepts_scan : {S : Type 0} (next : S → Token → Option S) (may_end : S → Bool) → IsTokenMachine next → (s : S) (bytes : List ℕ) → Accepts next may_end s bytes → (m : S) × (scan next Gap s bytes ≡ Some m) × (may_end m ≡ true)
accepts_scan next may_end laws s bytes h = (h.last, text_scan next laws h.text s h.last h.leads, h.ends)

-- bytes that lead somewhere can be completed
pub feeds_viable : {S : Type 0} (next : S → Token → Option S) (may_end : S → Bool) → IsTokenMachine next → ((s : S) → Live next may_end s) → (s : S) (bytes : List ℕ) (a : Scanner S) → feeds next Gap s bytes ≡ Some a → IsViable (Accepts next may_end s) bytes
feeds_viable next may_end laws live s bytes a e =
    let k = completed next may_end laws live a.lex a.machine (good_feeds next bytes Gap s a tt e) in
    (k.more, scan_accepts next may_end laws s k.last (bytes ++ k.more) (feeds_scan next bytes k.more Gap s a e ∙ k.run) k.ends)

-- no text goes on with a byte that leads nowhere
pub stuck_stops : {S : Type 0} (next : S → Token → Option S) (may_end : S → Bool) → IsTokenMachine next → (s : S) (bytes : List ℕ) (a : Scanner S) (b : ℕ) (more : List ℕ) → feeds next Gap s bytes ≡ Some a → feed next a.lex a.machine b ≡ None → Accepts next may_end s (bytes ++ (b ∷ more)) → ⊥
stuck_stops next may_end laws s bytes a b more e stop h =
    let k = accepts_scan next may_end laws s (bytes ++ (b ∷ more)) h in
    none_some (sym (scan_stops next a.lex a.machine b more stop) ∙ sym (feeds_scan next bytes (b ∷ more) Gap s a e) ∙ k.1)

-- ---- the answers of the reader

stuck_is : {S : Type 0} (next : S → Token → Option S) (may_end : S → Bool) → IsTokenMachine next → ((s : S) → Live next may_end s) → (s : S) (bytes : List ℕ) (n : ℕ) → IsStuck next s bytes n → IsPlace (Accepts next may_end s) bytes n
stuck_is next may_end laws live s bytes n h =
    stuck_place (Accepts next may_end s) bytes n h.within (feeds_viable next may_end laws live s (take n bytes) h.place h.front)
    (λ more k. stuck_stops next may_end laws s (take n bytes) h.place (get_or bytes n 0) more h.front h.stops k)

pub refusal_is : {S : Type 0} (next : S → Token → Option S) (may_end : S → Bool) → IsTokenMachine next → ((s : S) → Live next may_end s) → (s : S) (bytes : List ℕ) (refusal : Refusal) → Scans next s bytes (Err refusal) → IfStuck {A = S} (Err refusal) (λ n. IsPlace (Accepts next may_end s) bytes n)
refusal_is next may_end laws live s bytes (Stuck n) h = stuck_is next may_end laws live s bytes n h
refusal_is next may_end laws live s bytes Memory h = tt

-- nothing ends behind all of the bytes
unended_is : {S : Type 0} (next : S → Token → Option S) (may_end : S → Bool) → IsTokenMachine next → ((s : S) → Live next may_end s) → (s : S) (bytes : List ℕ) (a : Scanner S) → feeds next Gap s bytes ≡ Some a → finish next a.lex a.machine ≡ None → IsPlace (Accepts next may_end s) bytes (length bytes)
unended_is next may_end laws live s bytes a e f =
    end_place (Accepts next may_end s) bytes
    (λ h. let k = accepts_scan next may_end laws s bytes h in none_some (sym f ∙ sym (scan_end next bytes s a e) ∙ k.1))
    (feeds_viable next may_end laws live s bytes a e)

-- a fault behind all of the bytes
pub fault_behind : {S : Type 0} (next : S → Token → Option S) (may_end : S → Bool) → IsTokenMachine next → ((s : S) → Live next may_end s) → (s : S) (bytes : List ℕ) (a : Scanner S) (f : Fault) → feeds next Gap s bytes ≡ Some a → Steps (finish next a.lex a.machine) (Err f) → IfStuck {A = S} (Err (refusal_at (length bytes) f)) (λ n. IsPlace (Accepts next may_end s) bytes n)
fault_behind next may_end laws live s bytes a fault.Refused e h = unended_is next may_end laws live s bytes a e h
fault_behind next may_end laws live s bytes a fault.Memory e h = tt

-- a text may not end at the machine behind all of the bytes
pub too_early_is : {S : Type 0} (next : S → Token → Option S) (may_end : S → Bool) → IsTokenMachine next → ((s : S) → Live next may_end s) → (s m : S) (bytes : List ℕ) (a : Scanner S) → feeds next Gap s bytes ≡ Some a → finish next a.lex a.machine ≡ Some m → may_end m ≡ false → IsPlace (Accepts next may_end s) bytes (length bytes)
too_early_is next may_end laws live s m bytes a e f h =
    end_place (Accepts next may_end s) bytes
    (λ k. ends_elsewhere k)
    (feeds_viable next may_end laws live s bytes a e)
  where
    ends_elsewhere : Accepts next may_end s bytes → ⊥
    ends_elsewhere k =
        let r = accepts_scan next may_end laws s bytes k in
        let same : r.0 ≡ m = some_inj r.0 m (sym r.1 ∙ scan_end next bytes s a e ∙ f) in
        true_false (sym (ap may_end same) ∙ r.2) h
