-- Lists of issued numbers: what a raise keeps, and where an author stands.
use Rattle.std.proofs.Common.{◌≡◌, ℕ, zero, suc, ◌+◌, ◌<◌, ◌≤◌, max, Bool, true, false, cond, eqb, ltb, leb, [], ◌∷◌, length, get_or, refl, ap, sym, ◌∙◌, subst, arith, add-one}
use Rattle.std.proofs.Math.ListN.{set}
use Rattle.std.specs.List.{insert}
use Rattle.std.proofs.lemmas.Bool.{eqb-true, eqb-false, eq-eqb, ne_eqb, ltb-true, ltb-false, lt-ltb, le-ltb, leb-true, leb-false, le-leb, lt-leb}
use Rattle.std.proofs.lemmas.List.{set-get_or}
use Rattle.hpr_terms.specs.declared.tag.Tag.{Tag}
use Rattle.hpr_syntax.specs.Issued.{Issued, AscendsFrom, IsIssued, issued_to, raised, place_of}
use Rattle.hpr_syntax.specs.Shape.{is_unissued}

abbrev pub author_at : Issued → ℕ → ℕ
author_at rows i = (get_or rows i (0, 0)).0

abbrev pub serial_at : Issued → ℕ → ℕ
serial_at rows i = (get_or rows i (0, 0)).1

-- where an author stands
lowest : (low : ℕ) (rows : Issued) (i : ℕ) → AscendsFrom low rows → i < length rows → low ≤ author_at rows i
lowest low [] i h k = absurd (omega arith)
lowest low (p ∷ ps) zero h k = h.0
lowest low (p ∷ ps) (suc i) h k = omega (arith, h.0, lowest (p.0 + 1) ps i h.2 (omega arith))

pub place_above : (low a : ℕ) (rows : Issued) (i : ℕ) → AscendsFrom low rows → i < length rows → author_at rows i < a → i < place_of a rows
place_above low a [] i h k lt = absurd (omega arith)
place_above low a (p ∷ ps) zero h k lt = rw (lt-leb a p.0 lt) (omega arith)
place_above low a (p ∷ ps) (suc i) h k lt =
    let above : p.0 + 1 ≤ author_at ps i = lowest (p.0 + 1) ps i h.2 (omega arith) in
    rw (lt-leb a p.0 (omega (arith, above, lt))) (omega (arith, place_above (p.0 + 1) a ps i h.2 (omega arith) lt))

below_if : (b : Bool) (a i n : ℕ) (p : ℕ × ℕ) → leb a p.0 ≡ b → n ≤ i → cond b 0 (n + 1) ≤ suc i
below_if true a i n p e h = omega arith
below_if false a i n p e h = omega (arith, h)

pub place_within : (a : ℕ) (rows : Issued) (i : ℕ) → i < length rows → a ≤ author_at rows i → place_of a rows ≤ i
place_within a [] i k le = absurd (omega arith)
place_within a (p ∷ ps) zero k le = rw (le-leb a p.0 le) (omega arith)
place_within a (p ∷ ps) (suc i) k le = below_if (leb a p.0) a i (place_of a ps) p refl (place_within a ps i (omega arith) le)

pub place_end : (a : ℕ) (rows : Issued) → place_of a rows ≤ length rows
place_end a [] = omega arith
place_end a (p ∷ ps) = below_if (leb a p.0) a (length ps) (place_of a ps) p refl (place_end a ps)

abbrev pub Stands : ℕ → Issued → ℕ → Type 0
Stands a rows i = (i < length rows) × (author_at rows i ≡ a)

stands_more : (a : ℕ) (p : ℕ × ℕ) (ps : Issued) (i : ℕ) → Stands a ps i → Stands a (p ∷ ps) (i + 1)
stands_more a p ps i h = rw add-one (omega (arith, h.0), h.1)

-- what stands at an author's place
pub issued_low : (low a : ℕ) (rows : Issued) → AscendsFrom low rows → a < low → issued_to a rows ≡ 0
issued_low low a [] h lt = refl
issued_low low a (p ∷ ps) h lt = rw (ne_eqb p.0 a (λ e. omega (arith, h.0, lt, e))) (issued_low (p.0 + 1) a ps h.2 (omega (arith, h.0)))

none_if : (b : Bool) (low a : ℕ) (p : ℕ × ℕ) (ps : Issued) → leb a p.0 ≡ b → AscendsFrom low (p ∷ ps) → (Stands a (p ∷ ps) (cond b 0 (place_of a ps + 1)) → ⊥)
    → ((Stands a ps (place_of a ps) → ⊥) → issued_to a ps ≡ 0) → issued_to a (p ∷ ps) ≡ 0
none_if true low a p ps e h miss ih =
    let le : a ≤ p.0 = leb-true a p.0 e in
    let ne : p.0 ≡ a → ⊥ = λ q. miss (omega arith, q) in
    rw (ne_eqb p.0 a ne) (issued_low (p.0 + 1) a ps h.2 (omega (arith, le)))
none_if false low a p ps e h miss ih =
    let lt : p.0 < a = leb-false a p.0 e in
    rw (ne_eqb p.0 a (λ q. omega (arith, lt, q))) (ih (λ s. miss (stands_more a p ps (place_of a ps) s)))

pub issued_none : (low a : ℕ) (rows : Issued) → AscendsFrom low rows → (Stands a rows (place_of a rows) → ⊥) → issued_to a rows ≡ 0
issued_none low a [] h miss = refl
issued_none low a (p ∷ ps) h miss = none_if (leb a p.0) low a p ps refl h miss (issued_none (p.0 + 1) a ps h.2)

here_if : (b : Bool) (a : ℕ) (p : ℕ × ℕ) (ps : Issued) → leb a p.0 ≡ b → Stands a (p ∷ ps) (cond b 0 (place_of a ps + 1))
    → (Stands a ps (place_of a ps) → issued_to a ps ≡ serial_at ps (place_of a ps)) → issued_to a (p ∷ ps) ≡ serial_at (p ∷ ps) (cond b 0 (place_of a ps + 1))
here_if true a p ps e s ih = rw (eq-eqb p.0 a s.1) refl
here_if false a p ps e s ih =
    let lt : p.0 < a = leb-false a p.0 e in
    let r : Stands a (p ∷ ps) (suc (place_of a ps)) = rw add-one at s in
    rw (ne_eqb p.0 a (λ q. omega (arith, lt, q)), add-one) (ih (omega (arith, r.0), r.1))

pub issued_here : (a : ℕ) (rows : Issued) → Stands a rows (place_of a rows) → issued_to a rows ≡ serial_at rows (place_of a rows)
issued_here a [] s = absurd (omega arith)
issued_here a (p ∷ ps) s = here_if (leb a p.0) a p ps refl s (issued_here a ps)

-- a raise by place
insert_if : (b : Bool) (a n : ℕ) (p : ℕ × ℕ) (ps : Issued) → leb a p.0 ≡ b → (Stands a (p ∷ ps) (cond b 0 (place_of a ps + 1)) → ⊥)
    → ((Stands a ps (place_of a ps) → ⊥) → raised a n ps ≡ insert ps (place_of a ps) (a, n)) → raised a n (p ∷ ps) ≡ insert (p ∷ ps) (cond b 0 (place_of a ps + 1)) (a, n)
insert_if true a n p ps e miss ih =
    let le : a ≤ p.0 = leb-true a p.0 e in
    let ne : p.0 ≡ a → ⊥ = λ q. miss (omega arith, q) in
    let lt : a < p.0 = grind (arith, ne, le) in
    rw (lt-ltb a p.0 lt) refl
insert_if false a n p ps e miss ih =
    let lt : p.0 < a = leb-false a p.0 e in
    rw (le-ltb a p.0 (omega (arith, lt)), ne_eqb p.0 a (λ q. omega (arith, lt, q)), add-one) (ap (λ r. p ∷ r) (ih (λ s. miss (stands_more a p ps (place_of a ps) s))))

pub raised_insert : (a n : ℕ) (rows : Issued) → (Stands a rows (place_of a rows) → ⊥) → raised a n rows ≡ insert rows (place_of a rows) (a, n)
raised_insert a n [] miss = refl
raised_insert a n (p ∷ ps) miss = insert_if (leb a p.0) a n p ps refl miss (raised_insert a n ps)

set_if : (b : Bool) (a n : ℕ) (p : ℕ × ℕ) (ps : Issued) → leb a p.0 ≡ b → Stands a (p ∷ ps) (cond b 0 (place_of a ps + 1))
    → (Stands a ps (place_of a ps) → raised a n ps ≡ set ps (place_of a ps) (a, max (serial_at ps (place_of a ps)) n))
    → raised a n (p ∷ ps) ≡ set (p ∷ ps) (cond b 0 (place_of a ps + 1)) (a, max (serial_at (p ∷ ps) (cond b 0 (place_of a ps + 1))) n)
set_if true a n p ps e s ih = rw (le-ltb a p.0 (omega (arith, s.1)), eq-eqb p.0 a s.1) refl
set_if false a n p ps e s ih =
    let lt : p.0 < a = leb-false a p.0 e in
    let r : Stands a (p ∷ ps) (suc (place_of a ps)) = rw add-one at s in
    rw (le-ltb a p.0 (omega (arith, lt)), ne_eqb p.0 a (λ q. omega (arith, lt, q)), add-one) (ap (λ r. p ∷ r) (ih (omega (arith, r.0), r.1)))

pub raised_set : (a n : ℕ) (rows : Issued) → Stands a rows (place_of a rows) → raised a n rows ≡ set rows (place_of a rows) (a, max (serial_at rows (place_of a rows)) n)
raised_set a n [] s = absurd (omega arith)
raised_set a n (p ∷ ps) s = set_if (leb a p.0) a n p ps refl s (raised_set a n ps)

-- a raise to no more than what stands
pub raised_same : (a n : ℕ) (rows : Issued) → Stands a rows (place_of a rows) → n ≤ serial_at rows (place_of a rows) → raised a n rows ≡ rows
raised_same a n rows s le =
    let m : max (serial_at rows (place_of a rows)) n ≡ serial_at rows (place_of a rows) = omega (arith, le) in
    let p : (a, max (serial_at rows (place_of a rows)) n) ≡ get_or rows (place_of a rows) (0, 0) = λ i. (sym s.1 i, m i) in
    raised_set a n rows s ∙ ap (set rows (place_of a rows)) p ∙ set-get_or rows (place_of a rows) (0, 0)

-- what a raise keeps
keeps_if : (b c : Bool) (low a n : ℕ) (p : ℕ × ℕ) (ps : Issued) → ltb a p.0 ≡ b → eqb p.0 a ≡ c → low ≤ a → 1 ≤ n → AscendsFrom low (p ∷ ps)
    → (p.0 + 1 ≤ a → AscendsFrom (p.0 + 1) (raised a n ps)) → AscendsFrom low (raised a n (p ∷ ps))
keeps_if true c low a n p ps e f le one h ih = rw e (le, one, (omega (arith, ltb-true a p.0 e), h.1, h.2))
keeps_if false true low a n p ps e f le one h ih = rw (e, f) (le, omega (arith, h.1), subst (λ x. AscendsFrom (x + 1) ps) (eqb-true p.0 a f) h.2)
keeps_if false false low a n p ps e f le one h ih =
    let ne : p.0 ≡ a → ⊥ = eqb-false p.0 a f in
    let ge : p.0 ≤ a = ltb-false a p.0 e in
    let lt : p.0 + 1 ≤ a = grind (arith, ne, ge) in
    rw (e, f) (h.0, h.1, ih lt)

keeps_from : (low a n : ℕ) (rows : Issued) → low ≤ a → 1 ≤ n → AscendsFrom low rows → AscendsFrom low (raised a n rows)
keeps_from low a n [] le one h = (le, one, tt)
keeps_from low a n (p ∷ ps) le one h = keeps_if (ltb a p.0) (eqb p.0 a) low a n p ps refl refl le one h (λ lt. keeps_from (p.0 + 1) a n ps lt one h.2)

pub raised_keeps : (a n : ℕ) (rows : Issued) → 1 ≤ n → IsIssued rows → IsIssued (raised a n rows)
raised_keeps a n rows one h = keeps_from 0 a n rows (omega arith) one h

-- what a raise says
greater_if : (b c : Bool) (low a n : ℕ) (p : ℕ × ℕ) (ps : Issued) → ltb a p.0 ≡ b → eqb p.0 a ≡ c → AscendsFrom low (p ∷ ps)
    → issued_to a (raised a n ps) ≡ max (issued_to a ps) n → issued_to a (raised a n (p ∷ ps)) ≡ max (issued_to a (p ∷ ps)) n
greater_if true c low a n p ps e f h ih =
    let lt : a < p.0 = ltb-true a p.0 e in
    let z : issued_to a (p ∷ ps) ≡ 0 = issued_low (a + 1) a (p ∷ ps) (omega (arith, lt), h.1, h.2) (omega arith) in
    let m : max (issued_to a (p ∷ ps)) n ≡ n = omega (arith, z) in
    rw (e, eq-eqb a a refl) (sym m)
greater_if false true low a n p ps e f h ih = rw (e, f, eq-eqb a a refl) refl
greater_if false false low a n p ps e f h ih = rw (e, f) (rw f ih)

greater_from : (low a n : ℕ) (rows : Issued) → AscendsFrom low rows → issued_to a (raised a n rows) ≡ max (issued_to a rows) n
greater_from low a n [] h = rw (eq-eqb a a refl) (omega arith)
greater_from low a n (p ∷ ps) h = greater_if (ltb a p.0) (eqb p.0 a) low a n p ps refl refl h (greater_from (p.0 + 1) a n ps h.2)

pub raised_greater : (a n : ℕ) (rows : Issued) → IsIssued rows → issued_to a (raised a n rows) ≡ max (issued_to a rows) n
raised_greater a n rows h = greater_from 0 a n rows h

others_if : (b c : Bool) (a n other : ℕ) (p : ℕ × ℕ) (ps : Issued) → ltb a p.0 ≡ b → eqb p.0 a ≡ c → (other ≡ a → ⊥)
    → issued_to other (raised a n ps) ≡ issued_to other ps → issued_to other (raised a n (p ∷ ps)) ≡ issued_to other (p ∷ ps)
others_if true c a n other p ps e f ne ih = rw (e, ne_eqb a other (λ q. ne (sym q))) refl
others_if false true a n other p ps e f ne ih =
    let same : p.0 ≡ a = eqb-true p.0 a f in
    rw (e, f, ne_eqb a other (λ q. ne (sym q)), ne_eqb p.0 other (λ q. ne (sym q ∙ same))) refl
others_if false false a n other p ps e f ne ih = rw (e, f) (ap (λ r. cond (eqb p.0 other) p.1 r) ih)

pub raised_others : (a n : ℕ) (rows : Issued) (other : ℕ) → (other ≡ a → ⊥) → issued_to other (raised a n rows) ≡ issued_to other rows
raised_others a n [] other ne = rw (ne_eqb a other (λ q. ne (sym q))) refl
raised_others a n (p ∷ ps) other ne = others_if (ltb a p.0) (eqb p.0 a) a n other p ps refl refl ne (raised_others a n ps other ne)

-- what lies within the issued numbers was issued
pub bounds_issued : (issued : Issued) (t : Tag) → 1 ≤ t.serial → t.serial ≤ issued_to t.author issued → is_unissued issued t ≡ false
bounds_issued issued t h k = rw (ne_eqb t.serial 0 (λ e. omega (arith, h, e)), le-ltb (issued_to t.author issued) t.serial k) refl
