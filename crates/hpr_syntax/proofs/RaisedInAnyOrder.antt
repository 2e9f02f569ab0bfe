-- Raises come to the same in whatever order they are carried out.
use Rattle.std.proofs.Common.{◌≡◌, ℕ, ◌+◌, ◌<◌, ◌≤◌, max, List, [], ◌∷◌, ◌++◌, Bool, true, false, eqb, refl, sym, ap, ◌∙◌, subst, arith}
use Rattle.std.specs.Prelude.{All}
use Rattle.std.specs.List.{AllByRecursion}
use Rattle.std.specs.List.Sorted.{IsPermutation}
use Rattle.std.proofs.lemmas.Bool.{eqb-true, eqb-false, eq-eqb, ne_eqb}
use Rattle.std.proofs.lemmas.List.Elements.{recursion_from_All, All-from_recursion}
use Rattle.std.proofs.lemmas.List.Sorted.{All-permutation, IsPermutation-sym}
use Rattle.hpr_syntax.specs.Issued.{Issued, AscendsFrom, IsIssued, issued_to, raised, raised_by}
use Rattle.hpr_syntax.proofs.IssuedLemmas.{raised_greater, raised_others, raised_keeps, issued_low}
use Rattle.hpr_syntax.proofs.Raises.{HasNumbers, raises_keep, raises_more}

-- one more raise behind others
pub raised_last : (ps : List (ℕ × ℕ)) (a n : ℕ) (rows : Issued) → raised_by (ps ++ (a, n) ∷ []) rows ≡ raised a n (raised_by ps rows)
raised_last [] a n rows = refl
raised_last (p ∷ ps) a n rows = raised_last ps a n (raised p.0 p.1 rows)

-- no pair is above what the rows say
abbrev AreBelow : Issued → List (ℕ × ℕ) → Type 0
AreBelow rows ps = AllByRecursion (λ p. p.1 ≤ issued_to p.0 rows) ps

abbrev IsBelow : Issued → Issued → Type 0
IsBelow low high = (x : ℕ) → issued_to x low ≤ issued_to x high

-- each pair is reached
are_reached : (ps rows : Issued) → HasNumbers ps → IsIssued rows → AreBelow (raised_by ps rows) ps
are_reached [] rows n h = tt
are_reached (p ∷ ps) rows n h =
    let next : IsIssued (raised p.0 p.1 rows) = raised_keeps p.0 p.1 rows n.0 h in
    let here : issued_to p.0 (raised p.0 p.1 rows) ≡ max (issued_to p.0 rows) p.1 = raised_greater p.0 p.1 rows h in
    let more : issued_to p.0 (raised p.0 p.1 rows) ≤ issued_to p.0 (raised_by ps (raised p.0 p.1 rows)) = raises_more p.0 ps (raised p.0 p.1 rows) n.1 next in
    (omega (arith, here, more), are_reached ps (raised p.0 p.1 rows) n.1 next)

-- and nothing beyond them
one_below : (b : Bool) (x a n : ℕ) (rows high : Issued) → eqb x a ≡ b → IsIssued rows → n ≤ issued_to a high → IsBelow rows high → issued_to x (raised a n rows) ≤ issued_to x high
one_below true x a n rows high e h le below =
    let same : x ≡ a = eqb-true x a e in
    let g : issued_to a (raised a n rows) ≡ max (issued_to a rows) n = raised_greater a n rows h in
    let k : issued_to a (raised a n rows) ≤ issued_to a high = omega (arith, g, le, below a) in
    subst (λ y. issued_to y (raised a n rows) ≤ issued_to y high) (sym same) k
one_below false x a n rows high e h le below =
    let o : issued_to x (raised a n rows) ≡ issued_to x rows = raised_others a n rows x (eqb-false x a e) in
    omega (arith, o, below x)

all_below : (ps rows high : Issued) → HasNumbers ps → IsIssued rows → AreBelow high ps → IsBelow rows high → IsBelow (raised_by ps rows) high
all_below [] rows high n h k below = below
all_below (p ∷ ps) rows high n h k below =
    all_below ps (raised p.0 p.1 rows) high n.1 (raised_keeps p.0 p.1 rows n.0 h) k.1 (λ x. one_below (eqb x p.0) x p.0 p.1 rows high refl h k.0 below)

-- rows that say the same are the same
says_first : (p : ℕ × ℕ) (ps : Issued) → issued_to p.0 (p ∷ ps) ≡ p.1
says_first p ps = rw (eq-eqb p.0 p.0 refl) refl

says_rest : (b : Bool) (x low : ℕ) (p q : ℕ × ℕ) (ps qs : Issued) → eqb p.0 x ≡ b → p.0 ≡ q.0 → low ≤ p.0 → AscendsFrom (p.0 + 1) ps → AscendsFrom (q.0 + 1) qs
    → issued_to x (p ∷ ps) ≡ issued_to x (q ∷ qs) → issued_to x ps ≡ issued_to x qs
says_rest true x low p q ps qs e same le h k says =
    let is : p.0 ≡ x = eqb-true p.0 x e in
    issued_low (p.0 + 1) x ps h (omega (arith, is)) ∙ sym (issued_low (q.0 + 1) x qs k (omega (arith, is, same)))
says_rest false x low p q ps qs e same le h k says =
    let ne : p.0 ≡ x → ⊥ = eqb-false p.0 x e in
    rw (ne_eqb p.0 x ne, ne_eqb q.0 x (λ r. ne (same ∙ r))) at says

-- which of two first authors is lower
same_first : (low : ℕ) (p q : ℕ × ℕ) (ps qs : Issued) → AscendsFrom low (p ∷ ps) → AscendsFrom low (q ∷ qs) → ((x : ℕ) → issued_to x (p ∷ ps) ≡ issued_to x (q ∷ qs)) → p.0 < q.0 → ⊥
same_first low p q ps qs h k says lt =
    let z : issued_to p.0 (q ∷ qs) ≡ 0 = issued_low q.0 p.0 (q ∷ qs) (omega arith, k.1, k.2) lt in
    let s : issued_to p.0 (p ∷ ps) ≡ p.1 = says_first p ps in
    omega (arith, z, s, says p.0, h.1)

same_rows : (low : ℕ) (ps qs : Issued) → AscendsFrom low ps → AscendsFrom low qs → ((x : ℕ) → issued_to x ps ≡ issued_to x qs) → ps ≡ qs
same_rows low [] [] h k says = refl
same_rows low [] (q ∷ qs) h k says = let s : issued_to q.0 (q ∷ qs) ≡ q.1 = says_first q qs in absurd (omega (arith, s, says q.0, k.1))
same_rows low (p ∷ ps) [] h k says = let s : issued_to p.0 (p ∷ ps) ≡ p.1 = says_first p ps in absurd (omega (arith, s, says p.0, h.1))
same_rows low (p ∷ ps) (q ∷ qs) h k says =
    let not_below : p.0 < q.0 → ⊥ = same_first low p q ps qs h k says in
    let not_above : q.0 < p.0 → ⊥ = same_first low q p qs ps k h (λ x. sym (says x)) in
    let same : p.0 ≡ q.0 = grind (arith, not_below, not_above) in
    let serial : p.1 ≡ q.1 = sym (says_first p ps) ∙ says p.0 ∙ ap (λ x. issued_to x (q ∷ qs)) same ∙ says_first q qs in
    let behind : AscendsFrom (p.0 + 1) qs = subst (λ x. AscendsFrom (x + 1) qs) (sym same) k.2 in
    let rest : ps ≡ qs = same_rows (p.0 + 1) ps qs h.2 behind (λ x. says_rest (eqb p.0 x) x low p q ps qs refl same h.0 h.2 k.2 (says x)) in
    λ i. (same i, serial i) ∷ rest i

pub raised_in_any_order : (ps qs : List (ℕ × ℕ)) → All (λ p. 1 ≤ p.1) ps → IsPermutation ps qs → raised_by ps [] ≡ raised_by qs []
raised_in_any_order ps qs numbers moved =
    let n : HasNumbers ps = recursion_from_All (λ p. 1 ≤ p.1) ps numbers in
    let m : HasNumbers qs = recursion_from_All (λ p. 1 ≤ p.1) qs (All-permutation (λ p. 1 ≤ p.1) ps qs moved numbers) in
    let rows : Issued = raised_by ps [] in
    let others : Issued = raised_by qs [] in
    let at_others : AreBelow rows qs = recursion_from_All (λ p. p.1 ≤ issued_to p.0 rows) qs
    (All-permutation (λ p. p.1 ≤ issued_to p.0 rows) ps qs moved (All-from_recursion (λ p. p.1 ≤ issued_to p.0 rows) ps (are_reached ps [] n tt))) in
    let at_rows : AreBelow others ps = recursion_from_All (λ p. p.1 ≤ issued_to p.0 others) ps
    (All-permutation (λ p. p.1 ≤ issued_to p.0 others) qs ps (IsPermutation-sym ps qs moved) (All-from_recursion (λ p. p.1 ≤ issued_to p.0 others) qs (are_reached qs [] m tt))) in
    let low : IsBelow rows others = all_below ps [] others n tt at_rows (λ x. omega arith) in
    let high : IsBelow others rows = all_below qs [] rows m tt at_others (λ x. omega arith) in
    same_rows 0 rows others (raises_keep ps [] n tt) (raises_keep qs [] m tt) (λ x. let l = low x in let g = high x in omega (arith, l, g))
