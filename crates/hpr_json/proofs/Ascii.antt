-- The canonical text of a program is ASCII.
use Rattle.std.proofs.Common.{◌≡◌, ℕ, zero, suc, ◌+◌, ◌*◌, ◌<◌, ◌^◌, Bool, true, false, nat_lt, nat_le, ◌==◌, ◌||◌, ◌&&◌, if◌then◌else◌, List, [], ◌∷◌, ◌++◌, replicate, map, codes, decimal, IsAscii, IsUtf8, refl, sym, subst, arith}
use Rattle.std.proofs.lemmas.Bool.{ltb-true}
use Rattle.std.proofs.lemmas.Bool.Decides.{nat_tests}
use Rattle.std.proofs.lemmas.Fmt.{IsAscii-decimal}
use Rattle.std.proofs.lemmas.Str.{IsAscii-append, IsUtf8-from_ascii}
use Rattle.std.proofs.lemmas.Str.Ascii.{IsAscii-nil, IsAscii-cons}
use Rattle.std.proofs.lemmas.List.Elements.{recursion_from_All}
use Rattle.std.specs.List.{list_all, AllByRecursion}
use Rattle.hpr_terms.specs.declared.tag.Tag.{Tag}
use Rattle.hpr_terms.specs.declared.expr.Unary.{Unary}
use Rattle.hpr_terms.specs.declared.expr.Unary.TheVariants.{Neg, Not}
use Rattle.hpr_terms.specs.declared.expr.Binary.{Binary}
use Rattle.hpr_terms.specs.declared.expr.Binary.TheVariants.{Or, And, Equal, Differ, Less, LessEqual, Greater, GreaterEqual, Add, Sub, Mul, Div, Rem}
use Rattle.hpr_terms.specs.Names.{is_name_byte, is_name_like, is_name, IsName, is_stream, is_array, base_of, IsVariable}
use Rattle.hpr_terms.specs.Term.{Term, num, var, prefix, infix', element}
use Rattle.hpr_terms.specs.TermOf.{term_of}
use Rattle.hpr_terms.specs.Texts.{tag_text}
use Rattle.hpr_terms.proofs.Facts.{and_both}
use Rattle.hpr_terms.proofs.Plain.{stream_is, plain_name, array_parts}
use Rattle.hpr_syntax.specs.Action.{assigns, writes, stores}
use Rattle.hpr_syntax.specs.Body.{Body, done, action, branch, loop}
use Rattle.hpr_syntax.specs.Issued.{Issued}
use Rattle.hpr_syntax.specs.Print.{sign, level_of_sign, level_of, bracketed, prefix_sign, term_text, element_text, line, is_done, else_text, body_text, pair_text, after_commas, joined, issued_text, text}
use Rattle.hpr_syntax.specs.Shape.{IsProgram}
use Rattle.hpr_syntax.specs.Proper.{IsProperTerm, IsProperTag, IsProperBody, IsProperPair, IsProper}
use Rattle.hpr_syntax.specs.Tree.{Tree}

record Plain (w : List ℕ) : Type 0 where
  ascii : IsAscii w

plain : (w : List ℕ) → IsAscii w → Plain w
plain w h = record { ascii = h }

both : {a b : List ℕ} → Plain a → Plain b → Plain (a ++ b)
both {a} {b} p q = plain (a ++ b) (IsAscii-append a b p.ascii q.ascii)

bytes : (test : ℕ → Bool) → ((b : ℕ) → test b ≡ true → b < 128) → (w : List ℕ) → list_all test w ≡ true → Plain w
bytes test below [] h = plain [] IsAscii-nil
bytes test below (b ∷ bs) h =
    let two = and_both (test b) (list_all test bs) h in
    plain (b ∷ bs) (IsAscii-cons b bs (below b two.0) (bytes test below bs two.1).ascii)

letters : (w : List ℕ) → list_all (λ b. nat_lt b 128) w ≡ true → Plain w
letters = bytes (λ b. nat_lt b 128) (λ b e. ltb-true b 128 e)

number : (n : ℕ) → n < 2 ^ 64 → Plain (decimal n)
number n h = plain (decimal n) (IsAscii-decimal n h)

-- ---- names

name_byte : (b : ℕ) → is_name_byte b ≡ true → b < 128
unfolding is_name_byte
name_byte b h = grind (arith, nat_tests)

name : (x : List ℕ) → IsName x → Plain x
unfolding is_name is_name_like
name x h = bytes is_name_byte name_byte x (and_both _ _ (and_both _ _ (and_both _ _ h).0).0).1

array : (x : List ℕ) → is_array x ≡ true → Plain x
array x a = subst Plain (sym (array_parts x a).0) (both (name (base_of x) (array_parts x a).1) (letters (codes "[]") refl))

variable : (x : List ℕ) → IsVariable x → Plain x
variable x h = go (is_stream x) (is_array x) refl refl
  where
    go : (s a : Bool) → is_stream x ≡ s → is_array x ≡ a → Plain x
    go true a e f = subst Plain (sym (stream_is x e)) (letters (codes "out") refl)
    go false true e f = array x f
    go false false e f = name x (plain_name x h e f)

no_base : (x : List ℕ) → is_array x ≡ false → base_of x ≡ x
unfolding base_of
no_base x f = rw f refl

based : (x : List ℕ) → IsVariable x → Plain (base_of x)
based x h = go (is_array x) refl
  where
    go : (a : Bool) → is_array x ≡ a → Plain (base_of x)
    go true f = name (base_of x) (array_parts x f).1
    go false f = subst Plain (sym (no_base x f)) (variable x h)

-- ---- expressions

signed : (op : Binary) → Plain (sign op)
signed Or = letters (codes "or") refl
signed And = letters (codes "and") refl
signed Equal = letters (codes "=") refl
signed Differ = letters (codes "<>") refl
signed Less = letters (codes "<") refl
signed LessEqual = letters (codes "<=") refl
signed Greater = letters (codes ">") refl
signed GreaterEqual = letters (codes ">=") refl
signed Add = letters (codes "+") refl
signed Sub = letters (codes "-") refl
signed Mul = letters (codes "*") refl
signed Div = letters (codes "/") refl
signed Rem = letters (codes "%") refl

prefixed : (op : Unary) → Plain (prefix_sign op)
prefixed Neg = letters (codes "-") refl
prefixed Not = letters (codes "not ") refl

in_brackets : (b : Bool) {w : List ℕ} → Plain w → Plain (bracketed b w)
in_brackets true p = both (both (letters (codes "(") refl) p) (letters (codes ")") refl)
in_brackets false p = p

in_squares : (x : List ℕ) {index : List ℕ} → IsVariable x → Plain index → Plain (element_text x index)
in_squares x h p = both (both (both (based x h) (letters (codes "[") refl)) p) (letters (codes "]") refl)

term : (t : Term) → IsProperTerm t → Plain (term_text t)
unfolding term_text
term (num n) h = number n (omega arith)
term (var x) h = variable x h
term (prefix op a) h = both (prefixed op) (in_brackets (nat_lt (level_of a) 6) (term a h))
term (infix' op a b) h =
    let blank : Plain (codes " ") = letters (codes " ") refl in
    let left = in_brackets (nat_lt (level_of a) (level_of_sign op) || ((level_of_sign op == 3) && (level_of a == 3))) (term a h.0) in
    let right = in_brackets (nat_le (level_of b) (level_of_sign op)) (term b h.1) in
    both (both (both (both left blank) (signed op)) blank) right
term (element x i) h = in_squares x h.0 (term i h.1)

-- ---- parts

tag : (t : Tag) → IsProperTag t → Plain (tag_text t)
unfolding tag_text
tag t h = both (both (number t.author (omega (arith, h.0))) (letters (codes ".") refl)) (number t.serial (omega (arith, h.1)))

blanks : (n : ℕ) → Plain (replicate n 32)
blanks zero = plain [] IsAscii-nil
blanks (suc n) = plain (32 ∷ replicate n 32) (IsAscii-cons 32 (replicate n 32) (omega arith) (blanks n).ascii)

on_line : (n : ℕ) {w : List ℕ} → Plain w → Plain (line n w)
on_line n p = both (both (blanks (2 * n)) p) (letters (codes "\n") refl)

unless : (b : Bool) {w : List ℕ} → Plain w → Plain (if b then [] else w)
unless true p = plain [] IsAscii-nil
unless false p = p

after_else : (n : ℕ) (b : Body) {shown : List ℕ} → Plain shown → Plain (else_text n b shown)
after_else n b p = unless (is_done b) (both (on_line n (letters (codes "else") refl)) p)

-- the tag of a part and what stands behind it
begun : (t : Tag) (word : List ℕ) → IsProperTag t → list_all (λ b. nat_lt b 128) word ≡ true → Plain (tag_text t ++ word)
begun t word h e = both (tag t h) (letters word e)

-- an expression and the end of its line
closed : (before : List ℕ) (t : Term) (word : List ℕ) → Plain before → IsProperTerm t → list_all (λ b. nat_lt b 128) word ≡ true → Plain (before ++ term_text t ++ word)
closed before t word p h e = both (both p (term t h)) (letters word e)

body : (n : ℕ) (b : Body) → IsProperBody b → Plain (body_text n b)
unfolding body_text
body n done h = plain [] IsAscii-nil
body n (action t (assigns x e) rest) h =
    let named = both (both (begun t (codes ": ") h.0 refl) (variable x h.1)) (letters (codes " := ") refl) in
    both (on_line n (closed _ (term_of e) (codes ";") named h.2 refl)) (body n rest h.3)
body n (action t (writes x e) rest) h = both (on_line n (closed _ (term_of e) (codes ";") (begun t (codes ": write ") h.0 refl) h.2 refl)) (body n rest h.3)
body n (action t (stores x i e) rest) h =
    let stored = both (both (begun t (codes ": ") h.0 refl) (in_squares x h.1 (term (term_of i) h.2))) (letters (codes " := ") refl) in
    both (on_line n (closed _ (term_of e) (codes ";") stored h.3 refl)) (body n rest h.4)
body n (branch t e a b rest) h =
    let first = on_line n (closed _ (term_of e) (codes " then") (begun t (codes ": if ") h.0 refl) h.1 refl) in
    both (both (both (both first (body (n + 1) a h.2)) (after_else n b (body (n + 1) b h.3))) (on_line n (letters (codes "fi") refl))) (body n rest h.4)
body n (loop t e b rest) h =
    let first = on_line n (closed _ (term_of e) (codes " do") (begun t (codes ": while ") h.0 refl) h.1 refl) in
    both (both (both first (body (n + 1) b h.2)) (on_line n (letters (codes "od") refl))) (body n rest h.3)

-- ---- programs

pair : (p : ℕ × ℕ) → IsProperPair p → Plain (pair_text p)
pair p h = both (both (number p.0 (omega (arith, h.0))) (letters (codes ":") refl)) (number p.1 (omega (arith, h.1)))

commas : (texts : List (List ℕ)) → AllByRecursion Plain texts → Plain (after_commas texts)
commas [] h = plain [] IsAscii-nil
commas (x ∷ xs) h = both (both (letters (codes ", ") refl) h.0) (commas xs h.1)

listed : (texts : List (List ℕ)) → AllByRecursion Plain texts → Plain (joined texts)
listed [] h = plain [] IsAscii-nil
listed (x ∷ xs) h = both h.0 (commas xs h.1)

each : {X : Type 0} (P : X → Type 0) (f : X → List ℕ) → ((x : X) → P x → Plain (f x)) → (xs : List X) → AllByRecursion P xs → AllByRecursion Plain (map f xs)
each P f is [] h = h
each P f is (x ∷ xs) h = (is x h.0, each P f is xs h.1)

issued : (ps : Issued) → AllByRecursion IsProperPair ps → Plain (issued_text ps)
issued [] h = plain [] IsAscii-nil
issued (p ∷ ps) h = both (both (letters (codes "issued ") refl) (listed (map pair_text (p ∷ ps)) (each IsProperPair pair_text pair (p ∷ ps) h))) (letters (codes "\n") refl)

names : (xs : List (List ℕ)) → AllByRecursion IsVariable xs → AllByRecursion Plain xs
names [] h = h
names (x ∷ xs) h = (variable x h.0, names xs h.1)

whole : (t : Tree) → IsProper t → Plain (text t)
unfolding text
whole t h =
    let head = both (letters (codes "program\n") refl) (issued t.issued (recursion_from_All IsProperPair t.issued h.numbers)) in
    let ending = both (both head (body 0 t.body h.body)) (letters (codes "end(") refl) in
    both (both ending (listed t.finals (names t.finals (recursion_from_All IsVariable t.finals h.finals)))) (letters (codes ")\n") refl)

pub text_utf8 : (t : Tree) (bytes : List ℕ) → IsProgram t → bytes ≡ text t → IsUtf8 bytes
text_utf8 t bytes h is = subst IsUtf8 (sym is) (IsUtf8-from_ascii (text t) (whole t h.proper).ascii)
