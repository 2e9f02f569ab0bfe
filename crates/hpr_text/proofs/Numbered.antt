-- Parts that get their tags in preorder: the tags are distinct and issued, and the last serial is the number of parts.
use Rattle.std.proofs.Common.{◌≡◌, ℕ, zero, suc, ◌+◌, ◌<◌, ◌≤◌, max, Bool, false, cond, eqb, nat_lt, ◌&&◌, ◌||◌, List, [], ◌∷◌, map, Option, Some, None, refl, ap, sym, subst, ◌∙◌, arith}
use Rattle.std.specs.List.{list_any}
use Rattle.std.proofs.lemmas.Bool.{ne_eqb, eq-eqb, le-ltb, lt-ltb}
use Rattle.hpr_terms.specs.declared.limits.TheConstants.{MAX_PARTS}
use Rattle.hpr_terms.specs.declared.tag.Tag.{Tag}
use Rattle.hpr_terms.specs.declared.token.Token.{Token}
use Rattle.hpr_terms.proofs.Facts.{and_false}
use Rattle.hpr_syntax.specs.declared.shape.ShapeError.TheVariants.{TooManyParts}
use Rattle.hpr_syntax.specs.Body.{Body, part_count}
use Rattle.hpr_syntax.specs.Parts.{same_tag, tags_of}
use Rattle.hpr_syntax.specs.Issued.{Issued, issued_to, raised, raised_by}
use Rattle.hpr_syntax.specs.Tree.{Tree}
use Rattle.hpr_syntax.specs.Shape.{shape, first_repeated, first_unissued, is_unissued, too_many}
use Rattle.hpr_syntax.specs.Grammar as grammar
use Rattle.hpr_syntax.specs.Grammar.{Form, SpellsParts, SpellsHeader, SpellsProgram, untagged, tag_pair, issued_of}
use Rattle.hpr_syntax.specs.Spelling.{Spells}
use Rattle.hpr_text.specs.Spelled.{tags_from, last_issued, IsInOrder}
use Rattle.hpr_text.proofs.Named.{Named, parts_named}
use Rattle.hpr_text.proofs.Shapes.{none_deep, none_large, none_wrong}

-- ---- the parts are counted

pub parts_counted : {f : Form} {l n m : ℕ} {ts : List Token} {b : Body} → SpellsParts f l n m ts b → n + part_count b ≡ m
parts_counted grammar.nothing = omega arith
parts_counted (grammar.assignment is v s) = omega (arith, parts_counted s)
parts_counted (grammar.write is v s) = omega (arith, parts_counted s)
parts_counted (grammar.store x name is both s) = omega (arith, parts_counted s)
parts_counted (grammar.conditional is v s u) = omega (arith, parts_counted s, parts_counted u)
parts_counted (grammar.conditional_else is v s w u) = omega (arith, parts_counted s, parts_counted w, parts_counted u)
parts_counted (grammar.while_loop is v s u) = omega (arith, parts_counted s, parts_counted u)

-- ---- their tags

-- the author's tags from n + 1 to m
abbrev pub Run : ℕ → ℕ → ℕ → List Tag → Type 0
Run a n m [] = n ≡ m
Run a n m (t ∷ ts) = (t ≡ record { author = a; serial = n + 1 }) × Run a (n + 1) m ts

pub tags_run : {a l n k : ℕ} {ts : List Token} {b : Body} → SpellsParts (untagged a) l n k ts b → (m : ℕ) (after : List Tag) → Run a k m after → Run a n m (tags_of b after)
tags_run grammar.nothing m after h = h
tags_run (grammar.assignment grammar.none v s) m after h = (refl, tags_run s m after h)
tags_run (grammar.write grammar.none v s) m after h = (refl, tags_run s m after h)
tags_run (grammar.store x name grammar.none both s) m after h = (refl, tags_run s m after h)
tags_run (grammar.conditional {rest = rest} grammar.none v s u) m after h = (refl, tags_run s m (tags_of rest after) (tags_run u m after h))
tags_run (grammar.conditional_else {no = other} {rest = rest} grammar.none v s w u) m after h =
    (refl, tags_run s m (tags_of other (tags_of rest after)) (tags_run w m (tags_of rest after) (tags_run u m after h)))
tags_run (grammar.while_loop {rest = rest} grammar.none v s u) m after h = (refl, tags_run s m (tags_of rest after) (tags_run u m after h))

run_up : (a n m : ℕ) (ts : List Tag) → Run a n m ts → n ≤ m
run_up a n m [] h = omega (arith, h)
run_up a n m (t ∷ ts) h = omega (arith, run_up a (n + 1) m ts h.1)

serial_is : (a n : ℕ) (t : Tag) → t ≡ record { author = a; serial = n + 1 } → t.serial ≡ n + 1
serial_is a n t e = ap (λ (u : Tag). u.serial) e

author_is : (a n : ℕ) (t : Tag) → t ≡ record { author = a; serial = n + 1 } → t.author ≡ a
author_is a n t e = ap (λ (u : Tag). u.author) e

-- ---- no tag is repeated

-- the serials are at most n
abbrev UpTo : ℕ → List Tag → Type 0
UpTo n [] = Unit {0}
UpTo n (t ∷ ts) = (t.serial ≤ n) × UpTo n ts

up_more : (n m : ℕ) (ts : List Tag) → n ≤ m → UpTo n ts → UpTo m ts
up_more n m [] le h = tt
up_more n m (t ∷ ts) le h = (omega (arith, le, h.0), up_more n m ts le h.1)

differs : (t u : Tag) → u.serial < t.serial → same_tag t u ≡ false
differs t u lt = ap (λ (b : Bool). eqb t.author u.author && b) (ne_eqb t.serial u.serial (λ e. omega (arith, lt, e))) ∙ and_false (eqb t.author u.author)

stands_nowhere : (t : Tag) (n : ℕ) (ts : List Tag) → n < t.serial → UpTo n ts → list_any (same_tag t) ts ≡ false
stands_nowhere t n [] lt h = refl
stands_nowhere t n (u ∷ ts) lt h = ap (λ (b : Bool). b || list_any (same_tag t) ts) (differs t u (omega (arith, lt, h.0))) ∙ stands_nowhere t n ts lt h.1

none_repeated : (a n m : ℕ) (earlier ts : List Tag) → UpTo n earlier → Run a n m ts → first_repeated same_tag earlier ts ≡ None
none_repeated a n m earlier [] up h = refl
none_repeated a n m earlier (t ∷ ts) up h =
    let is : t.serial ≡ n + 1 = serial_is a n t h.0 in
    ap (λ (b : Bool). cond b (Some t) (first_repeated same_tag (t ∷ earlier) ts)) (stands_nowhere t n earlier (omega (arith, is)) up)
    ∙ none_repeated a (n + 1) m (t ∷ earlier) ts (omega (arith, is), up_more n (n + 1) earlier (omega arith) up) h.1

-- ---- each tag is issued

raise_one : (a n : ℕ) → raised a (n + 1) ((a, n) ∷ []) ≡ (a, n + 1) ∷ []
raise_one a n =
    let top : max n (n + 1) ≡ n + 1 = omega arith in
    rw (le-ltb a a (omega arith), eq-eqb a a refl, top) refl

raise_tag : (a n : ℕ) (t : Tag) (is : Issued) → t ≡ record { author = a; serial = n + 1 } → raised t.author t.serial is ≡ raised a (n + 1) is
raise_tag a n t is e = ap (λ (u : Tag). raised u.author u.serial is) e

raised_up : (a n m : ℕ) (ts : List Tag) → Run a n m ts → raised_by (map tag_pair ts) ((a, n) ∷ []) ≡ (a, m) ∷ []
raised_up a n m [] h = ap (λ (k : ℕ). (a, k) ∷ []) h
raised_up a n m (t ∷ ts) h =
    ap (raised_by (map tag_pair ts)) (raise_tag a n t ((a, n) ∷ []) h.0 ∙ raise_one a n) ∙ raised_up a (n + 1) m ts h.1

is_issued : (a n m : ℕ) (t : Tag) → n + 1 ≤ m → t ≡ record { author = a; serial = n + 1 } → is_unissued ((a, m) ∷ []) t ≡ false
is_issued a n m t le e =
    let one : eqb t.serial 0 ≡ false = ne_eqb t.serial 0 (λ q. omega (arith, q, serial_is a n t e)) in
    let own : issued_to t.author ((a, m) ∷ []) ≡ m = rw (eq-eqb a t.author (sym (author_is a n t e))) refl in
    let within : nat_lt m t.serial ≡ false = le-ltb m t.serial (omega (arith, le, serial_is a n t e)) in
    ap (λ (b : Bool). b || nat_lt (issued_to t.author ((a, m) ∷ [])) t.serial) one ∙ ap (λ (k : ℕ). nat_lt k t.serial) own ∙ within

none_unissued : (a n m : ℕ) (ts : List Tag) → Run a n m ts → first_unissued ((a, m) ∷ []) ts ≡ None
none_unissued a n m [] h = refl
none_unissued a n m (t ∷ ts) h =
    ap (λ (b : Bool). cond b (Some t) (first_unissued ((a, m) ∷ []) ts)) (is_issued a n m t (run_up a (n + 1) m ts h.1) h.0) ∙ none_unissued a (n + 1) m ts h.1

all_issued : (a m : ℕ) (ts : List Tag) → Run a 0 m ts → first_unissued (raised_by (map tag_pair ts) []) ts ≡ None
all_issued a m [] h = refl
all_issued a m (t ∷ ts) h =
    let first : raised_by (map tag_pair ts) (raised t.author t.serial []) ≡ (a, m) ∷ [] =
    ap (raised_by (map tag_pair ts)) (raise_tag a 0 t [] h.0) ∙ raised_up a 1 m ts h.1 in
    ap (λ (is : Issued). first_unissued is (t ∷ ts)) first ∙ none_unissued a 0 m (t ∷ ts) h

-- ---- the shape of a long untagged text

no_pairs : {a : ℕ} {ts : List Token} {pairs : Option (List (ℕ × ℕ))} → SpellsHeader (untagged a) ts pairs → pairs ≡ None
no_pairs grammar.none = refl

too_many_is : (n : ℕ) → MAX_PARTS < n → too_many n ≡ Some (TooManyParts n)
too_many_is n lt = ap (λ (b : Bool). cond b (Some (TooManyParts n)) None) (lt-ltb MAX_PARTS n lt)

-- more parts than a program may have are the first refusal
pub many_parts : (a : ℕ) (ts : List Token) (t : Tree) (h : SpellsProgram (untagged a) ts t) → Named ts → MAX_PARTS < h.count → shape t ≡ Some (TooManyParts h.count)
unfolding shape
many_parts a ts t h names lt =
    let run : Run a 0 h.count (tags_of t.body []) = tags_run h.parts_are h.count [] refl in
    let once : first_repeated same_tag [] (tags_of t.body []) ≡ None = none_repeated a 0 h.count [] (tags_of t.body []) tt run in
    let same : t.issued ≡ raised_by (map tag_pair (tags_of t.body [])) [] = h.issued_is ∙ ap (λ ps. issued_of ps t.body) (no_pairs h.header_is) in
    let all : first_unissued t.issued (tags_of t.body []) ≡ None = ap (λ (is : Issued). first_unissued is (tags_of t.body [])) same ∙ all_issued a h.count (tags_of t.body []) run in
    let count : part_count t.body ≡ h.count = omega (arith, parts_counted h.parts_are) in
    rw (once, all, none_deep h.parts_are, none_large h.parts_are, none_wrong h.parts_are (parts_named h names), count, too_many_is h.count lt) refl

-- ---- the tags and the issued numbers, written out

run_list : (a n m k : ℕ) (ts : List Tag) → n + k ≡ m → Run a n m ts → ts ≡ tags_from a (n + 1) k
run_list a n m zero [] e h = refl
run_list a n m (suc k) [] e h = absurd (omega (arith, e, h))
run_list a n m zero (t ∷ ts) e h = absurd (omega (arith, e, run_up a (n + 1) m ts h.1))
run_list a n m (suc k) (t ∷ ts) e h = λ i. h.0 i ∷ run_list a (n + 1) m k ts (omega (arith, e)) h.1 i

last_some : (a m : ℕ) → 1 ≤ m → (a, m) ∷ [] ≡ last_issued a m
last_some a zero le = absurd (omega (arith, le))
last_some a (suc m) le = refl

run_issued : (a m : ℕ) (ts : List Tag) → Run a 0 m ts → raised_by (map tag_pair ts) [] ≡ last_issued a m
run_issued a m [] h = ap (last_issued a) h
run_issued a m (t ∷ ts) h =
    ap (raised_by (map tag_pair ts)) (raise_tag a 0 t [] h.0) ∙ raised_up a 1 m ts h.1 ∙ last_some a m (omega (arith, run_up a 1 m ts h.1))

pub in_order : (a : ℕ) (bytes : List ℕ) (t : Tree) → Spells (untagged a) bytes t → IsInOrder a t
in_order a bytes t s =
    let h = s.program in
    let run : Run a 0 h.count (tags_of t.body []) = tags_run h.parts_are h.count [] refl in
    let count : h.count ≡ part_count t.body = omega (arith, parts_counted h.parts_are) in
    let own : Run a 0 (part_count t.body) (tags_of t.body []) = subst (λ (k : ℕ). Run a 0 k (tags_of t.body [])) count run in
    record {
      tags = run_list a 0 (part_count t.body) (part_count t.body) (tags_of t.body []) (omega arith) own;
      issued = h.issued_is ∙ ap (λ ps. issued_of ps t.body) (no_pairs h.header_is) ∙ run_issued a (part_count t.body) (tags_of t.body []) own;
    }
