-- A tree with the body and the names of a program, and issued numbers raised, is a program.
use Rattle.std.proofs.Common.{◌≡◌, ℕ, ◌+◌, ◌<◌, ◌≤◌, max, List, [], ◌∷◌, Bool, true, false, nat_lt, eqb, ◌==◌, ◌||◌, if◌then◌else◌, Option, Some, None, refl, sym, ◌∙◌, subst, inl, inr, ◌⊎◌, ◌^◌, arith}
use Rattle.std.specs.List.{AllByRecursion, IsDistinct, list_any}
use Rattle.std.specs.List.Sorted.{IsPermutation}
use Rattle.std.specs.Str.{bytes_eq}
use Rattle.std.proofs.lemmas.Bool.{eqb-true, eqb-false}
use Rattle.std.proofs.lemmas.Bool.Decides.{nat_tests}
use Rattle.std.proofs.lemmas.Cmp.{nat_list_eq_equiv}
use Rattle.std.proofs.lemmas.List.Elements.{recursion_from_All, All-from_recursion}
use Rattle.std.proofs.lemmas.List.Sorted.{All-permutation}
use Rattle.std.proofs.lemmas.Map.Keys.{IsDistinct-IsPermutation}
use Rattle.hpr_terms.specs.declared.limits.TheConstants.{MAX_LEVELS}
use Rattle.hpr_terms.specs.declared.tag.Tag.{Tag}
use Rattle.hpr_terms.specs.Names.{IsVariable}
use Rattle.hpr_terms.proofs.Facts.{or_false, neither, if_none}
use Rattle.hpr_syntax.specs.Body.{part_count}
use Rattle.hpr_syntax.specs.Parts.{tags_of}
use Rattle.hpr_syntax.specs.Issued.{Issued, AscendsFrom, IsIssued, issued_to, raised, raised_by}
use Rattle.hpr_syntax.specs.Proper.{IsProperPair, IsProperBody}
use Rattle.hpr_syntax.specs.Shape.{first_repeated_tag, is_unissued, first_unissued, first_deep, says_large, is_wrong, first_where, too_many, first_repeated, IsProgram}
use Rattle.hpr_syntax.specs.Tree.{Tree}
use Rattle.hpr_syntax.specs.Grammar.{tagged}
use Rattle.hpr_syntax.specs.Spelling.{Spells}
use Rattle.hpr_syntax.specs.Print.{text}
use Rattle.hpr_syntax.proofs.TextSpells.{text_spells}
use Rattle.hpr_syntax.proofs.IssuedLemmas.{raised_keeps, raised_greater, raised_others}
use Rattle.hpr_syntax.proofs.NoRefusal.{no_refusal, shaped}

-- ---- issued numbers

-- each number is at least 1
abbrev pub HasNumbers : Issued → Type 0
HasNumbers ps = AllByRecursion (λ p. 1 ≤ p.1) ps

has_numbers : (low : ℕ) (ps : Issued) → AscendsFrom low ps → HasNumbers ps
has_numbers low [] h = tt
has_numbers low (p ∷ ps) h = (h.1, has_numbers (p.0 + 1) ps h.2)

-- raises keep the order
pub raises_keep : (ps rows : Issued) → HasNumbers ps → IsIssued rows → IsIssued (raised_by ps rows)
raises_keep [] rows n h = h
raises_keep (p ∷ ps) rows n h = raises_keep ps (raised p.0 p.1 rows) n.1 (raised_keeps p.0 p.1 rows n.0 h)

-- raises keep the numbers in range
abbrev Within : ℕ → Issued → Type 0
Within most ps = AllByRecursion (λ p. (p.0 < most) × (p.1 < most)) ps

raised_within_if : (b c : Bool) (most a n : ℕ) (p : ℕ × ℕ) (ps : Issued) → a < most → n < most → Within most (p ∷ ps) → Within most (raised a n ps)
    → Within most (if b then (a, n) ∷ p ∷ ps else if c then (a, max p.1 n) ∷ ps else p ∷ raised a n ps)
raised_within_if true c most a n p ps la ln h ih = ((la, ln), h)
raised_within_if false true most a n p ps la ln h ih = let k : p.1 < most = h.0.1 in ((la, omega arith), h.1)
raised_within_if false false most a n p ps la ln h ih = (h.0, ih)

raised_within : (most a n : ℕ) (ps : Issued) → a < most → n < most → Within most ps → Within most (raised a n ps)
raised_within most a n [] la ln h = ((la, ln), tt)
raised_within most a n (p ∷ ps) la ln h = raised_within_if (nat_lt a p.0) (p.0 == a) most a n p ps la ln h (raised_within most a n ps la ln h.1)

raises_within : (most : ℕ) (ps rows : Issued) → Within most ps → Within most rows → Within most (raised_by ps rows)
raises_within most [] rows h k = k
raises_within most (p ∷ ps) rows h k = raises_within most ps (raised p.0 p.1 rows) h.1 (raised_within most p.0 p.1 rows h.0.0 h.0.1 k)

-- no number falls
raised_more_if : (b : Bool) (x a n : ℕ) (rows : Issued) → eqb x a ≡ b → IsIssued rows → issued_to x rows ≤ issued_to x (raised a n rows)
raised_more_if true x a n rows e h =
    let same : x ≡ a = eqb-true x a e in
    let g : issued_to a (raised a n rows) ≡ max (issued_to a rows) n = raised_greater a n rows h in
    let le : issued_to a rows ≤ issued_to a (raised a n rows) = omega (arith, g) in
    subst (λ y. issued_to y rows ≤ issued_to y (raised a n rows)) (sym same) le
raised_more_if false x a n rows e h =
    let o : issued_to x (raised a n rows) ≡ issued_to x rows = raised_others a n rows x (eqb-false x a e) in
    omega (arith, o)

raised_more : (x a n : ℕ) (rows : Issued) → IsIssued rows → issued_to x rows ≤ issued_to x (raised a n rows)
raised_more x a n rows h = raised_more_if (eqb x a) x a n rows refl h

pub raises_more : (x : ℕ) (ps rows : Issued) → HasNumbers ps → IsIssued rows → issued_to x rows ≤ issued_to x (raised_by ps rows)
raises_more x [] rows n h = omega arith
raises_more x (p ∷ ps) rows n h =
    let one : issued_to x rows ≤ issued_to x (raised p.0 p.1 rows) = raised_more x p.0 p.1 rows h in
    let more : issued_to x (raised p.0 p.1 rows) ≤ issued_to x (raised_by ps (raised p.0 p.1 rows)) = raises_more x ps (raised p.0 p.1 rows) n.1 (raised_keeps p.0 p.1 rows n.0 h) in
    omega (arith, one, more)

-- each pair is reached
reached_if : (b : Bool) (x : ℕ) (p : ℕ × ℕ) (ps rows : Issued) → eqb p.0 x ≡ b → HasNumbers (p ∷ ps) → IsIssued rows
    → issued_to x ps ≤ issued_to x (raised_by ps (raised p.0 p.1 rows)) → (if b then p.1 else issued_to x ps) ≤ issued_to x (raised_by ps (raised p.0 p.1 rows))
reached_if true x p ps rows e n h ih =
    let same : p.0 ≡ x = eqb-true p.0 x e in
    let g : issued_to p.0 (raised p.0 p.1 rows) ≡ max (issued_to p.0 rows) p.1 = raised_greater p.0 p.1 rows h in
    let le : p.1 ≤ issued_to p.0 (raised p.0 p.1 rows) = omega (arith, g) in
    let here : p.1 ≤ issued_to x (raised p.0 p.1 rows) = subst (λ y. p.1 ≤ issued_to y (raised p.0 p.1 rows)) same le in
    let more : issued_to x (raised p.0 p.1 rows) ≤ issued_to x (raised_by ps (raised p.0 p.1 rows)) = raises_more x ps (raised p.0 p.1 rows) n.1 (raised_keeps p.0 p.1 rows n.0 h) in
    omega (arith, here, more)
reached_if false x p ps rows e n h ih = ih

reached : (x : ℕ) (ps rows : Issued) → HasNumbers ps → IsIssued rows → issued_to x ps ≤ issued_to x (raised_by ps rows)
reached x [] rows n h = omega arith
reached x (p ∷ ps) rows n h = reached_if (eqb p.0 x) x p ps rows refl n h (reached x ps (raised p.0 p.1 rows) n.1 (raised_keeps p.0 p.1 rows n.0 h))

-- ---- parts

still_issued : (s m n : ℕ) → m ≤ n → ((s == 0) || nat_lt m s) ≡ false → ((s == 0) || nat_lt n s) ≡ false
still_issued s m n le h = grind (arith, nat_tests)

none_if : (b : Bool) (t : Tag) (o : Option Tag) → b ≡ false → o ≡ None → (if b then Some t else o) ≡ None
none_if false t o h k = k
none_if true t o h k = absurd cc

-- where no number falls, no part is unissued
issued_more : (low high : Issued) → ((x : ℕ) → issued_to x low ≤ issued_to x high) → (ts : List Tag) → first_unissued low ts ≡ None → first_unissued high ts ≡ None
issued_more low high le [] h = refl
issued_more low high le (t ∷ ts) h =
    let e : (is_unissued low t ≡ false) × (first_unissued low ts ≡ None) = if_none (is_unissued low t) t (first_unissued low ts) h in
    none_if (is_unissued high t) t (first_unissued high ts) (still_issued t.serial (issued_to t.author low) (issued_to t.author high) (le t.author) e.0)
    (issued_more low high le ts e.1)

-- ---- names

-- no name stands earlier, and none stands among the others
abbrev Differ : List (List ℕ) → List (List ℕ) → Type 0
Differ earlier names = AllByRecursion (λ x. list_any (bytes_eq x) earlier ≡ false) names

differ_more : (x : List ℕ) (earlier names : List (List ℕ)) → Differ (x ∷ earlier) names → Differ earlier names × AllByRecursion (λ y. bytes_eq x y ≡ false) names
differ_more x earlier [] h = (tt, tt)
differ_more x earlier (y ∷ ys) h =
    let e = or_false (bytes_eq y x) (list_any (bytes_eq y) earlier) h.0 in
    let r = differ_more x earlier ys h.1 in
    ((e.1, r.0), (nat_list_eq_equiv.symm x y ∙ e.0, r.1))

more_differ : (x : List ℕ) (earlier names : List (List ℕ)) → Differ earlier names → AllByRecursion (λ y. bytes_eq x y ≡ false) names → Differ (x ∷ earlier) names
more_differ x earlier [] h k = tt
more_differ x earlier (y ∷ ys) h k = (neither (bytes_eq y x) (list_any (bytes_eq y) earlier) (nat_list_eq_equiv.symm y x ∙ k.0) h.0, more_differ x earlier ys h.1 k.1)

distinct_names : (earlier names : List (List ℕ)) → first_repeated bytes_eq earlier names ≡ None → Differ earlier names × IsDistinct bytes_eq names
unfolding IsDistinct
distinct_names earlier [] h = (tt, tt)
distinct_names earlier (x ∷ xs) h =
    let e : (list_any (bytes_eq x) earlier ≡ false) × (first_repeated bytes_eq (x ∷ earlier) xs ≡ None)
    = if_none (list_any (bytes_eq x) earlier) x (first_repeated bytes_eq (x ∷ earlier) xs) h in
    let r = distinct_names (x ∷ earlier) xs e.1 in
    let d = differ_more x earlier xs r.0 in
    ((e.0, d.0), (d.1, r.1))

names_distinct : (earlier names : List (List ℕ)) → Differ earlier names → IsDistinct bytes_eq names → first_repeated bytes_eq earlier names ≡ None
unfolding IsDistinct
names_distinct earlier [] h k = refl
names_distinct earlier (x ∷ xs) h k =
    name_if (list_any (bytes_eq x) earlier) x (first_repeated bytes_eq (x ∷ earlier) xs) h.0 (names_distinct (x ∷ earlier) xs (more_differ x earlier xs h.1 k.0) k.1)
  where
    name_if : (b : Bool) (y : List ℕ) (o : Option (List ℕ)) → b ≡ false → o ≡ None → (if b then Some y else o) ≡ None
    name_if false y o e f = f
    name_if true y o e f = absurd cc

none_earlier : (names : List (List ℕ)) → Differ [] names
none_earlier [] = tt
none_earlier (x ∷ xs) = (refl, none_earlier xs)

-- names in another order differ as they did
names_permuted : (xs ys : List (List ℕ)) → IsPermutation xs ys → first_repeated bytes_eq [] xs ≡ None → first_repeated bytes_eq [] ys ≡ None
names_permuted xs ys p h =
    names_distinct [] ys (none_earlier ys) (IsDistinct-IsPermutation bytes_eq nat_list_eq_equiv.symm xs ys p (distinct_names [] xs h).1)

-- ---- programs

-- a program's body and names, and issued numbers that are in range and not below its own
program_raised : (other m : Tree) → IsProgram other → IsIssued m.issued → Within (2 ^ 32) m.issued → ((x : ℕ) → issued_to x other.issued ≤ issued_to x m.issued)
    → other.body ≡ m.body → IsPermutation other.finals m.finals → IsProgram m
program_raised other m h ascending numbers le same permuted =
    let s = no_refusal other h.shape in
    let issued : first_unissued m.issued (tags_of other.body []) ≡ None = issued_more other.issued m.issued le (tags_of other.body []) s.issued in
    record {
      proper = record {
        ascending = ascending;
        numbers = All-from_recursion IsProperPair m.issued numbers;
        body = subst IsProperBody same h.proper.body;
        finals = All-permutation IsVariable other.finals m.finals permuted h.proper.finals;
      };
      shape = shaped m (record {
        tags = subst (λ b. first_repeated_tag b ≡ None) same s.tags;
        issued = subst (λ b. first_unissued m.issued (tags_of b []) ≡ None) same issued;
        levels = subst (λ b. first_deep MAX_LEVELS b ≡ None) same s.levels;
        expressions = subst (λ b. first_where says_large b ≡ None) same s.expressions;
        variables = subst (λ b. first_where is_wrong b ≡ None) same s.variables;
        parts = subst (λ b. too_many (part_count b) ≡ None) same s.parts;
        names = names_permuted other.finals m.finals permuted s.names;
      });
    }

within : (p : Tree) → IsProgram p → Within (2 ^ 32) p.issued
within p h = recursion_from_All IsProperPair p.issued h.proper.numbers

numbered : (p : Tree) → IsProgram p → HasNumbers p.issued
numbered p h = has_numbers 0 p.issued h.proper.ascending

-- one of two variants, with its names in any order and the greatest issued numbers of three programs
variant_raised : (base a b other m : Tree) → IsProgram base → IsProgram a → IsProgram b → (other ≡ a) ⊎ (other ≡ b)
    → m.issued ≡ raised_by b.issued (raised_by a.issued base.issued) → other.body ≡ m.body → IsPermutation other.finals m.finals → IsProgram m
variant_raised base a b other m hbase ha hb which e same permuted =
    let by_a : Issued = raised_by a.issued base.issued in
    let by_b : Issued = raised_by b.issued by_a in
    let first : IsIssued by_a = raises_keep a.issued base.issued (numbered a ha) hbase.proper.ascending in
    let ascending : IsIssued by_b = raises_keep b.issued by_a (numbered b hb) first in
    let numbers : Within (2 ^ 32) by_b = raises_within (2 ^ 32) b.issued by_a (within b hb) (raises_within (2 ^ 32) a.issued base.issued (within a ha) (within base hbase)) in
    let above_a : (x : ℕ) → issued_to x a.issued ≤ issued_to x by_b =
    λ x.
    let one : issued_to x a.issued ≤ issued_to x by_a = reached x a.issued base.issued (numbered a ha) hbase.proper.ascending in
    let more : issued_to x by_a ≤ issued_to x by_b = raises_more x b.issued by_a (numbered b hb) first in
    omega (arith, one, more) in
    let above_b : (x : ℕ) → issued_to x b.issued ≤ issued_to x by_b = λ x. reached x b.issued by_a (numbered b hb) first in
    let program : (o : Tree) → other ≡ o → IsProgram o → ((x : ℕ) → issued_to x o.issued ≤ issued_to x by_b) → IsProgram m =
    λ o is ho le.
    program_raised o m ho (subst IsIssued (sym e) ascending) (subst (Within (2 ^ 32)) (sym e) numbers) (subst (λ i. (x : ℕ) → issued_to x o.issued ≤ issued_to x i) (sym e) le)
    (subst (λ t. t.body ≡ m.body) is same) (subst (λ t. IsPermutation t.finals m.finals) is permuted) in
    elim which [ inl is ↦ program a is ha above_a | inr is ↦ program b is hb above_b ]

-- such a program's canonical text spells it
pub one_side_spelled : (base a b other m : Tree) → IsProgram base → IsProgram a → IsProgram b → (other ≡ a) ⊎ (other ≡ b)
    → m.issued ≡ raised_by b.issued (raised_by a.issued base.issued) → other.body ≡ m.body → IsPermutation other.finals m.finals → IsProgram m × Spells tagged (text m) m
one_side_spelled base a b other m hbase ha hb which e same permuted =
    let h : IsProgram m = variant_raised base a b other m hbase ha hb which e same permuted in
    (h, text_spells m h)
