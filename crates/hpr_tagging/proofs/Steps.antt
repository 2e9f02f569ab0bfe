-- The steps over bytes, lexemes and changes, as the code takes them.
use Rattle.std.proofs.Common.{◌≡◌, ℕ, ◌+◌, ◌-◌, ◌^◌, ◌≤◌, ◌<◌, max, cond, ltb, List, [], ◌++◌, length, get_or, take, drop, Option, append_assoc, sym, ap, ◌∙◌, arith}
use Rattle.std.proofs.lemmas.List.{length-drop, at_drop_more, at_drop_all}
use Rattle.std.proofs.Math.Seq.{take-length}
use Rattle.std.proofs.lemmas.Bool.Decides.{nat_tests}
use Rattle.hpr_tagging.specs.declared.lexemes.Kind.{Kind}
use Rattle.hpr_tagging.specs.declared.lexemes.Begun.{Begun}
use Rattle.hpr_tagging.specs.declared.lexemes.Lexeme.{Lexeme}
use Rattle.hpr_tagging.specs.declared.counts.Numbering.{Numbering}
use Rattle.hpr_tagging.specs.declared.changes.Put.{Put}
use Rattle.hpr_tagging.specs.declared.changes.Change.{Change}
use Rattle.hpr_tagging.specs.Lexemes.{after, lexeme_by, some_of, lexemes}
use Rattle.hpr_tagging.specs.Tagging.{serial_in, greatest_in, lacking, untagged, put_at, change_by, changes, put_text, changed, place_back}

-- what is left of the bytes from one on
pub all_left : (bytes : List ℕ) (i : ℕ) → take (length bytes - i) (drop i bytes) ≡ drop i bytes
all_left bytes i = ap (λ k. take k (drop i bytes)) (sym (length-drop i bytes)) ∙ take-length (drop i bytes)

-- ---- lexemes

lexemes_next : (s : Begun) (bytes : List ℕ) (i : ℕ) → i < length bytes
    → lexemes s i (drop i bytes)
    ≡ some_of (lexeme_by s i (get_or bytes i 0) (drop i bytes)) ++ lexemes (after s (get_or bytes i 0)) (i + 1) (drop (i + 1) bytes)
unfolding lexemes
lexemes_next s bytes i h =
    let b = get_or bytes i 0 in
    let more = lexemes (after s b) (i + 1) (drop (i + 1) bytes) in
    at_drop_more (lexemes s i) bytes i 0 h ∙ ap (λ (x : List ℕ). some_of (lexeme_by s i b x) ++ more) (sym (at_drop_more (λ (x : List ℕ). x) bytes i 0 h))

-- one byte more
pub lexemes_turn : (s t : Begun) (bytes : List ℕ) (i : ℕ) (o : Option Lexeme) (old new : List Lexeme) → i < length bytes
    → o ≡ lexeme_by s i (get_or bytes i 0) (drop i bytes)
    → t ≡ after s (get_or bytes i 0) → new ≡ old ++ some_of o → new ++ lexemes t (i + 1) (drop (i + 1) bytes) ≡ old ++ lexemes s i (drop i bytes)
lexemes_turn s t bytes i o old new h o_is t_is new_is =
    let b = get_or bytes i 0 in
    let rest = drop (i + 1) bytes in
    let more = lexemes (after s b) (i + 1) rest in
    ap (λ (u : Begun). new ++ lexemes u (i + 1) rest) t_is ∙ ap (λ (xs : List Lexeme). xs ++ more) new_is ∙ append_assoc old (some_of o) more
    ∙ ap (λ (p : Option Lexeme). old ++ (some_of p ++ more)) o_is ∙ ap (λ (xs : List Lexeme). old ++ xs) (sym (lexemes_next s bytes i h))

pub lexemes_over : (s : Begun) (bytes : List ℕ) (i : ℕ) → length bytes ≤ i → lexemes s i (drop i bytes) ≡ []
unfolding lexemes
lexemes_over s bytes i h = at_drop_all (lexemes s i) bytes i h

-- ---- counts

pub greatest_turn : (a : ℕ) (x y : Kind) (ls : List Lexeme) (i : ℕ) (l : Lexeme) (m n : ℕ) → i < length ls → n ≡ max (serial_in a x y (get_or ls i l).kind) m
    → max n (greatest_in a y (get_or ls i l).kind (drop (i + 1) ls)) ≡ max m (greatest_in a x y (drop i ls))
greatest_turn a x y ls i l m n h n_is =
    let z = (get_or ls i l).kind in
    let e : greatest_in a x y (drop i ls) ≡ max (serial_in a x y z) (greatest_in a y z (drop (i + 1) ls)) = at_drop_more (greatest_in a x y) ls i l h in
    omega (arith, e, n_is)

pub greatest_over : (a : ℕ) (x y : Kind) (ls : List Lexeme) (i m : ℕ) → length ls ≤ i → max m (greatest_in a x y (drop i ls)) ≡ m
greatest_over a x y ls i m h =
    let e : greatest_in a x y (drop i ls) ≡ 0 = at_drop_all (greatest_in a x y) ls i h in
    omega (arith, e)

-- the parts without a tag from a lexeme on
pub untagged_next : (x y : Kind) (ls : List Lexeme) (i : ℕ) (l : Lexeme) → i < length ls
    → untagged x y (drop i ls) ≡ lacking x y (get_or ls i l).kind + untagged y (get_or ls i l).kind (drop (i + 1) ls)
untagged_next x y ls i l h = at_drop_more (untagged x y) ls i l h

-- the serials of these parts fit
pub fits_here : (x y : Kind) (ls : List Lexeme) (i : ℕ) (l : Lexeme) (n : ℕ) → i < length ls → n + untagged x y (drop i ls) < 2 ^ 32
    → n + lacking x y (get_or ls i l).kind < 2 ^ 32
fits_here x y ls i l n h fits =
    let e = untagged_next x y ls i l h in
    omega (arith, e, fits)

pub fits_add : (x y : Kind) (ls : List Lexeme) (i : ℕ) (l : Lexeme) (n k : ℕ) → i < length ls → k ≡ lacking x y (get_or ls i l).kind
    → n + untagged x y (drop i ls) < 2 ^ 32 → n + k < 2 ^ 32
fits_add x y ls i l n k h k_is fits =
    let e = fits_here x y ls i l n h fits in
    omega (arith, e, k_is)

pub fits_next : (x y : Kind) (ls : List Lexeme) (i : ℕ) (l : Lexeme) (n k : ℕ) → i < length ls → k ≡ n + lacking x y (get_or ls i l).kind
    → n + untagged x y (drop i ls) < 2 ^ 32 → k + untagged y (get_or ls i l).kind (drop (i + 1) ls) < 2 ^ 32
fits_next x y ls i l n k h k_is fits =
    let e = untagged_next x y ls i l h in
    omega (arith, e, k_is, fits)

-- ---- changes

-- one lexeme more
pub changes_turn : (m : Numbering) (n k : ℕ) (x y : Kind) (ls : List Lexeme) (i : ℕ) (l : Lexeme) (p : Option Put) (o : Option Change)
    (old new : List Change) → i < length ls
    → p ≡ put_at m n x y (get_or ls i l).kind → o ≡ change_by p (get_or ls i l) → k ≡ n + lacking x y (get_or ls i l).kind → new ≡ old ++ some_of o
    → new ++ changes m k y (get_or ls i l).kind (drop (i + 1) ls) ≡ old ++ changes m n x y (drop i ls)
changes_turn m n k x y ls i l p o old new h p_is o_is k_is new_is =
    let here = get_or ls i l in
    let z = here.kind in
    let rest = drop (i + 1) ls in
    let more = changes m (n + lacking x y z) y z rest in
    ap (λ (j : ℕ). new ++ changes m j y z rest) k_is ∙ ap (λ (xs : List Change). xs ++ more) new_is ∙ append_assoc old (some_of o) more
    ∙ ap (λ (q : Option Change). old ++ (some_of q ++ more)) o_is ∙ ap (λ (q : Option Put). old ++ (some_of (change_by q here) ++ more)) p_is
    ∙ ap (λ (xs : List Change). old ++ xs) (sym (at_drop_more (changes m n x y) ls i l h))

pub changes_over : (m : Numbering) (n : ℕ) (x y : Kind) (ls : List Lexeme) (i : ℕ) → length ls ≤ i → changes m n x y (drop i ls) ≡ []
changes_over m n x y ls i h = at_drop_all (changes m n x y) ls i h

-- ---- the changed text

-- one change more
pub changed_turn : (a : ℕ) (bytes : List ℕ) (n : ℕ) (cs : List Change) (i : ℕ) (d : Change) (u out new : List ℕ) → i < length cs
    → u ≡ take ((get_or cs i d).first - n) (drop n bytes)
    → new ≡ (out ++ u) ++ put_text a (get_or cs i d).put → new ++ changed a bytes (get_or cs i d).end (drop (i + 1) cs) ≡ out ++ changed a bytes n (drop i cs)
changed_turn a bytes n cs i d u out new h u_is new_is =
    let c = get_or cs i d in
    let text = put_text a c.put in
    let more = changed a bytes c.end (drop (i + 1) cs) in
    ap (λ (xs : List ℕ). xs ++ more) new_is ∙ append_assoc (out ++ u) text more ∙ append_assoc out u (text ++ more)
    ∙ ap (λ (v : List ℕ). out ++ (v ++ (text ++ more))) u_is
    ∙ ap (λ (xs : List ℕ). out ++ xs) (sym (append_assoc (take (c.first - n) (drop n bytes)) text more))
    ∙ ap (λ (xs : List ℕ). out ++ xs) (sym (at_drop_more (changed a bytes n) cs i d h))

pub changed_over : (a : ℕ) (bytes : List ℕ) (n : ℕ) (cs : List Change) (i : ℕ) → length cs ≤ i → changed a bytes n (drop i cs) ≡ drop n bytes
changed_over a bytes n cs i h = at_drop_all (changed a bytes n) cs i h

-- ---- places led back

place_next : (a n : ℕ) (cs : List Change) (i : ℕ) (d : Change) (k : ℕ) → i < length cs
    → place_back a n (drop i cs) k
    ≡ cond (ltb k ((get_or cs i d).first - n)) (n + k)
    (cond (ltb (k - ((get_or cs i d).first - n)) (length (put_text a (get_or cs i d).put))) (get_or cs i d).first
    (place_back a (get_or cs i d).end (drop (i + 1) cs) (k - ((get_or cs i d).first - n) - length (put_text a (get_or cs i d).put))))
place_next a n cs i d k h = at_drop_more (λ (xs : List Change). place_back a n xs k) cs i d h

-- in front of a change, where u bytes are unchanged
pub place_before : (a n : ℕ) (cs : List Change) (i : ℕ) (d : Change) (k u : ℕ) → i < length cs → u ≡ (get_or cs i d).first - n → k < u
    → place_back a n (drop i cs) k ≡ n + k
place_before a n cs i d k u h u_is before =
    let e = place_next a n cs i d k h in
    grind (arith, nat_tests, e)

-- in what is put in
pub place_inside : (a n : ℕ) (cs : List Change) (i : ℕ) (d : Change) (k u : ℕ) (text : List ℕ) → i < length cs → u ≡ (get_or cs i d).first - n
    → text ≡ put_text a (get_or cs i d).put → u ≤ k → k - u < length text → place_back a n (drop i cs) k ≡ (get_or cs i d).first
place_inside a n cs i d k u text h u_is text_is behind inside =
    let e = place_next a n cs i d k h in
    let long = ap length text_is in
    grind (arith, nat_tests, e, long)

-- behind it
pub place_behind : (a n : ℕ) (cs : List Change) (i : ℕ) (d : Change) (k u : ℕ) (text : List ℕ) → i < length cs → u ≡ (get_or cs i d).first - n
    → text ≡ put_text a (get_or cs i d).put → u ≤ k → length text ≤ k - u
    → place_back a (get_or cs i d).end (drop (i + 1) cs) (k - u - length text) ≡ place_back a n (drop i cs) k
place_behind a n cs i d k u text h u_is text_is behind outside =
    let e = place_next a n cs i d k h in
    let long = ap length text_is in
    grind (arith, nat_tests, e, long)

pub place_over : (a n : ℕ) (cs : List Change) (i k : ℕ) → length cs ≤ i → place_back a n (drop i cs) k ≡ n + k
place_over a n cs i k h = at_drop_all (λ (xs : List Change). place_back a n xs k) cs i h
