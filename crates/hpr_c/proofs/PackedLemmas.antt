-- Packed texts, and files that stand one after another, are read in one way.
use Rattle.std.proofs.Common.{◌≡◌, ◌∙◌, ◌++◌, ◌+◌, ◌<◌, ◌≤◌, ℕ, suc, Bool, true, false, List, [], ◌∷◌, Some, None, add-one, ap, ap₂, append_assoc, arith, length, length-append, refl, subst, sym, take, drop}
use Rattle.std.proofs.lemmas.Bool.{eqb-true, eqb-false, lt-ltb, ltb-true, ne_eqb}
use Rattle.std.proofs.lemmas.List.{append-nil, take_at}
use Rattle.std.proofs.lemmas.Option.{cond_some}
use Rattle.std.specs.Prelude.{cond, not, nat_lt, ◌==◌}
use Rattle.std.specs.List.{AllByRecursion, position, position_or_len}
use Rattle.std.specs.Str.{IsUtf8}
use Rattle.hpr_io.specs.Files.{Files}
use Rattle.hpr_words.specs.Request.{Text}
use Rattle.hpr_c.specs.Packed.{AreFiles, IsCall, IsFirst, IsPacked, IsText, contents_of, lengths_of, names_of, packed}

abbrev pub AreNotZero : List ℕ → Type 0
AreNotZero xs = AllByRecursion (λ byte. 0 < byte) xs

-- what stands before a zero byte is not nothing
no_first : (xs r : List ℕ) → xs ++ 0 ∷ r ≡ [] → ⊥
no_first [] r e = absurd cc
no_first (x ∷ xs) r e = absurd cc

-- two texts before a zero byte are one
pub same_front : (xs ys r s : List ℕ) → AreNotZero xs → AreNotZero ys → xs ++ 0 ∷ r ≡ ys ++ 0 ∷ s → (xs ≡ ys) × (r ≡ s)
same_front [] [] r s _ _ e = (refl, cc)
same_front [] (y ∷ ys) r s _ low e = let z : 0 ≡ y = cc in absurd (omega (arith, z, low.0))
same_front (x ∷ xs) [] r s high _ e = let z : x ≡ 0 = cc in absurd (omega (arith, z, high.0))
same_front (x ∷ xs) (y ∷ ys) r s high low e =
    let one : x ≡ y = cc in
    let tails : xs ++ 0 ∷ r ≡ ys ++ 0 ∷ s = cc in
    let rest = same_front xs ys r s high.1 low.1 tails in
    (ap₂ (λ z zs. z ∷ zs) one rest.0, rest.1)

-- two parts of one length before others are one
same_part : (xs ys r s : List ℕ) → length xs ≡ length ys → xs ++ r ≡ ys ++ s → (xs ≡ ys) × (r ≡ s)
same_part [] [] r s _ e = (refl, e)
same_part [] (y ∷ ys) r s l e = absurd (omega (arith, l))
same_part (x ∷ xs) [] r s l e = absurd (omega (arith, l))
same_part (x ∷ xs) (y ∷ ys) r s l e =
    let one : x ≡ y = cc in
    let tails : xs ++ r ≡ ys ++ s = cc in
    let rest = same_part xs ys r s (omega (arith, l)) tails in
    (ap₂ (λ z zs. z ∷ zs) one rest.0, rest.1)

first_packed : (t : Text) (ts : List Text) (rest : List ℕ) → packed (t ∷ ts) ++ rest ≡ t ++ 0 ∷ (packed ts ++ rest)
first_packed t ts rest = append_assoc (t ++ 0 ∷ []) (packed ts) rest ∙ append_assoc t (0 ∷ []) (packed ts ++ rest)

pub first_of_all : (t : Text) (ts : List Text) → packed (t ∷ ts) ≡ t ++ 0 ∷ packed ts
first_of_all t ts = append_assoc t (0 ∷ []) (packed ts)

-- what begins packed texts are their first ones
pub packed_front : (ts : List Text) (rest : List ℕ) (us : List Text) → AllByRecursion IsText ts → AllByRecursion IsText us
    → packed ts ++ rest ≡ packed us → (more : List Text) × (us ≡ ts ++ more) × IsPacked rest more
packed_front [] rest us _ all e = (us, refl, (all, e))
packed_front (t ∷ ts) rest [] are all e = absurd (no_first t (packed ts ++ rest) (sym (first_packed t ts rest) ∙ e))
packed_front (t ∷ ts) rest (u ∷ us) are all e =
    let one = same_front t u (packed ts ++ rest) (packed us) are.0.1 all.0.1 (sym (first_packed t ts rest) ∙ (e ∙ first_of_all u us)) in
    let next = packed_front ts rest us are.1 all.1 one.1 in
    (next.0, ap₂ (λ z zs. z ∷ zs) (sym one.0) next.1, next.2)

-- where there are bytes left, packed texts have a first one
pub packed_first : (bytes : List ℕ) (ts : List Text) → (bytes ≡ [] → ⊥) → IsPacked bytes ts → (t : Text) × (rest : List ℕ) × IsFirst bytes t rest
packed_first bytes [] some is = absurd (some is.1)
packed_first bytes (t ∷ ts) some is = (t, packed ts, (is.0.0, is.1 ∙ first_of_all t ts))

nothing_more : (ts more : List Text) → IsPacked [] more → ts ++ more ≡ ts
nothing_more ts [] is = append-nil ts
nothing_more ts (t ∷ more) is = absurd (no_first t (packed more) (sym (is.1 ∙ first_of_all t more)))

-- the texts of some bytes are determined
pub one_packing : (bytes : List ℕ) (ts us : List Text) → IsPacked bytes ts → IsPacked bytes us → us ≡ ts
one_packing bytes ts us is also =
    let front = packed_front ts [] us is.0 also.0 (append-nil (packed ts) ∙ (sym is.1 ∙ also.1)) in
    front.1 ∙ nothing_more ts front.0 front.2

-- what begins files are the first ones
pub files_front : (fs : Files) (names lengths bytes : List ℕ) (gs : Files) → AllByRecursion IsText (names_of fs) → AllByRecursion IsText (names_of gs)
    → packed (names_of fs) ++ names ≡ packed (names_of gs) → lengths_of fs ++ lengths ≡ lengths_of gs → contents_of fs ++ bytes ≡ contents_of gs
    → (more : Files) × (gs ≡ fs ++ more) × AreFiles names lengths bytes more
files_front [] names lengths bytes gs _ all e l b = (gs, refl, ((all, e), l, b))
files_front (f ∷ fs) names lengths bytes [] are all e l b =
    absurd (no_first f.0 (packed (names_of fs) ++ names) (sym (first_packed f.0 (names_of fs) names) ∙ e))
files_front (f ∷ fs) names lengths bytes (g ∷ gs) are all e l b =
    let name = same_front f.0 g.0 (packed (names_of fs) ++ names) (packed (names_of gs)) are.0.1 all.0.1
    (sym (first_packed f.0 (names_of fs) names) ∙ (e ∙ first_of_all g.0 (names_of gs))) in
    let one : length f.1 ≡ length g.1 = cc in
    let tails : lengths_of fs ++ lengths ≡ lengths_of gs = cc in
    let part = same_part f.1 g.1 (contents_of fs ++ bytes) (contents_of gs) one (sym (append_assoc f.1 (contents_of fs) bytes) ∙ b) in
    let next = files_front fs names lengths bytes gs are.1 all.1 name.1 tails part.1 in
    let same : f ≡ g = ap₂ (λ (x y : List ℕ). (x, y)) name.0 part.0 in
    (next.0, ap₂ (λ (z : List ℕ × List ℕ) zs. z ∷ zs) (sym same) next.1, next.2)

no_more_files : (fs more : Files) → AreFiles [] [] [] more → fs ++ more ≡ fs
no_more_files fs [] are = append-nil fs
no_more_files fs (f ∷ more) are = absurd cc

-- the files of some names, lengths and bytes are determined
pub one_filing : (names lengths bytes : List ℕ) (fs gs : Files) → AreFiles names lengths bytes fs → AreFiles names lengths bytes gs → gs ≡ fs
one_filing names lengths bytes fs gs are also =
    let front = files_front fs [] [] [] gs are.0.0 also.0.0 (append-nil (packed (names_of fs)) ∙ (sym are.0.1 ∙ also.0.1))
    (append-nil (lengths_of fs) ∙ (sym are.1 ∙ also.1)) (append-nil (contents_of fs) ∙ (sym are.2 ∙ also.2)) in
    front.1 ∙ no_more_files fs front.0 front.2

-- one more file follows the first ones
--
-- Filed .. == the files are the first of all, and these names, lengths and bytes are left
pub record Filed (names lengths bytes : List ℕ) (fs : Files) (more_names more_lengths rest : List ℕ) : Type 0 where
  pub texts : AllByRecursion IsText (names_of fs)
  pub names_are : names ≡ packed (names_of fs) ++ more_names
  pub lengths_are : lengths ≡ lengths_of fs ++ more_lengths
  pub bytes_are : bytes ≡ contents_of fs ++ rest

-- what is left of files behind the first ones
pub filed_rest : (names lengths bytes : List ℕ) (fs : Files) (more_names more_lengths rest : List ℕ) → Filed names lengths bytes fs more_names more_lengths rest
    → (gs : Files) → AreFiles names lengths bytes gs → (more : Files) × AreFiles more_names more_lengths rest more
filed_rest names lengths bytes fs more_names more_lengths rest is gs are =
    let front = files_front fs more_names more_lengths rest gs is.texts are.0.0 (sym is.names_are ∙ are.0.1) (sym is.lengths_are ∙ are.1) (sym is.bytes_are ∙ are.2) in
    (front.0, front.2)

-- what is a call is one call
pub one_call : (words names lengths bytes : List ℕ) (ts us : List Text) (fs gs : Files) → IsCall words names lengths bytes ts fs
    → IsCall words names lengths bytes us gs → (us ≡ ts) × (gs ≡ fs)
one_call words names lengths bytes ts us fs gs is also = (one_packing words ts us is.0 also.0, one_filing names lengths bytes fs gs is.1 also.1)

-- where there are lengths left, files have a first one
pub left_file : (names ls rest : List ℕ) (more : Files) (n : ℕ) (ns : List ℕ) → ls ≡ n ∷ ns → AreFiles names ls rest more
    → (name : Text) × (later : List ℕ) × IsFirst names name later × (n ≤ length rest)
left_file names ls rest [] n ns e are = let none : ls ≡ [] = are.1 in absurd cc
left_file names ls rest (f ∷ fs) n ns e are =
    let lengths : ls ≡ length f.1 ∷ lengths_of fs = are.1 in
    let one : n ≡ length f.1 = cc in
    let long : length rest ≡ length f.1 + length (contents_of fs) = ap length are.2 ∙ length-append f.1 (contents_of fs) in
    (f.0, packed (names_of fs), (are.0.0.0, are.0.1 ∙ first_of_all f.0 (names_of fs)), omega (arith, one, long))

-- and where there are none, there is nothing left
pub nothing_left : (names ls rest : List ℕ) (more : Files) → ls ≡ [] → AreFiles names ls rest more → (names ≡ []) × (rest ≡ [])
nothing_left names ls rest [] e are = (are.0.1, are.2)
nothing_left names ls rest (f ∷ fs) e are = let lengths : ls ≡ length f.1 ∷ lengths_of fs = are.1 in absurd cc

abbrev pub is_zero : ℕ → Bool
is_zero byte = byte == 0

not_zero : (x : ℕ) → 0 < x → is_zero x ≡ false
not_zero x high = ne_eqb x 0 (λ e. omega (arith, e, high))

-- what stands before the first zero byte
text_before : (t r : List ℕ) → AreNotZero t → position_or_len is_zero (t ++ 0 ∷ r) ≡ length t
text_before [] r high = refl
text_before (x ∷ t) r high = let next = text_before t r high.1 in let off = not_zero x high.0 in rw off (omega (arith, next))

pub zero_found : (t r : List ℕ) → AreNotZero t → position is_zero (t ++ 0 ∷ r) ≡ Some (length t)
zero_found t r high =
    let at = text_before t r high in
    let long = length-append t (0 ∷ r) in
    rw at (rw (lt-ltb (length t) (length (t ++ 0 ∷ r)) (omega (arith, long))) refl)

abbrev Cut : List ℕ → ℕ → Type 0
Cut xs n = AreNotZero (take n xs) × (xs ≡ take n xs ++ 0 ∷ drop (n + 1) xs)

cut_first : (x : ℕ) (xs : List ℕ) (b : Bool) → is_zero x ≡ b → (position_or_len is_zero xs < length xs → Cut xs (position_or_len is_zero xs))
    → cond (not b) (1 + position_or_len is_zero xs) 0 < length (x ∷ xs) → Cut (x ∷ xs) (cond (not b) (1 + position_or_len is_zero xs) 0)
cut_first x xs true e next l = (tt, ap (λ z. z ∷ xs) (eqb-true x 0 e))
cut_first x xs false e next l =
    let k = position_or_len is_zero xs in
    let rest = next (omega (arith, l)) in
    let off = eqb-false x 0 e in
    let high : 0 < x = omega (arith, off) in
    let one : suc k ≡ 1 + k = omega arith in
    subst (Cut (x ∷ xs)) one ((high, rest.0), ap (λ zs. x ∷ zs) (rest.1 ∙ ap (λ m. take k xs ++ 0 ∷ drop m xs) (add-one k)) ∙ ap (λ m. x ∷ take k xs ++ 0 ∷ drop m (x ∷ xs)) (sym (add-one (suc k))))

cut_at : (xs : List ℕ) → position_or_len is_zero xs < length xs → Cut xs (position_or_len is_zero xs)
cut_at [] l = absurd (omega (arith, l))
cut_at (x ∷ xs) l = cut_first x xs (is_zero x) refl (cut_at xs) l

pub zero_cut : (xs : List ℕ) (n : ℕ) → position is_zero xs ≡ Some n → (n < length xs) × AreNotZero (take n xs) × (xs ≡ take n xs ++ 0 ∷ drop (n + 1) xs)
zero_cut xs n e =
    let found = cond_some (nat_lt (position_or_len is_zero xs) (length xs)) (position_or_len is_zero xs) n e in
    let below = ltb-true (position_or_len is_zero xs) (length xs) found.0 in
    let cut = subst (Cut xs) found.1 (cut_at xs below) in
    let same = found.1 in
    (omega (arith, below, same), cut.0, cut.1)

-- a text that was cut off is the first one
pub is_first : (bytes text : List ℕ) (n : ℕ) → position is_zero bytes ≡ Some n → text ≡ take n bytes → IsUtf8 (take n bytes) → IsFirst bytes text (drop (n + 1) bytes)
is_first bytes text n e is utf8 =
    let cut = zero_cut bytes n e in
    subst (λ (t : List ℕ). IsFirst bytes t (drop (n + 1) bytes)) (sym is) ((utf8, cut.1), cut.2)

-- where none can be cut off, there is no first one
pub no_zero : (bytes text rest : List ℕ) → position is_zero bytes ≡ None → IsFirst bytes text rest → ⊥
no_zero bytes text rest none first =
    let e : None ≡ Some (length text) = sym none ∙ (ap (position is_zero) first.1 ∙ zero_found text rest first.0.1) in absurd cc

pub not_utf8 : (bytes : List ℕ) (n : ℕ) (text rest : List ℕ) → position is_zero bytes ≡ Some n → ¬ (IsUtf8 (take n bytes)) → IsFirst bytes text rest → ⊥
not_utf8 bytes n text rest e other first =
    let same : Some n ≡ Some (length text) = sym e ∙ (ap (position is_zero) first.1 ∙ zero_found text rest first.0.1) in
    let n_is : length text ≡ n = cc in
    let front : take n bytes ≡ text = ap (take n) first.1 ∙ take_at text (0 ∷ rest) n n_is in
    other (subst IsUtf8 (sym front) first.0.0)

pub some_left : (b : Bool) (xs : List ℕ) → b ≡ (length xs == 0) → b ≡ false → xs ≡ [] → ⊥
some_left b xs is off e = eqb-false (length xs) 0 (sym is ∙ off) (ap length e)
