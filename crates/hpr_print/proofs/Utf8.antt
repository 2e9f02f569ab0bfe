-- What is printed of an expression is UTF-8.
use Rattle.std.proofs.Common.{◌≡◌, ℕ, ◌<◌, ◌^◌, List, ◌++◌, Bool, true, false, nat_lt, nat_le, ◌==◌, ◌||◌, ◌&&◌, refl, sym, subst, codes, decimal, IsUtf8}
use lib.Utf8.{encode}
use Rattle.std.proofs.lemmas.Fmt.{IsAscii-decimal}
use Rattle.std.proofs.lemmas.Str.{IsUtf8-append, IsUtf8-from_ascii}
use Rattle.hpr_terms.specs.declared.expr.Unary.{Unary}
use Rattle.hpr_terms.specs.declared.expr.Unary.TheVariants.{Neg, Not}
use Rattle.hpr_terms.specs.declared.expr.Binary.{Binary}
use Rattle.hpr_terms.specs.declared.expr.Binary.TheVariants.{Or, And, Equal, Differ, Less, LessEqual, Greater, GreaterEqual, Add, Sub, Mul, Div, Rem}
use Rattle.hpr_terms.specs.Term.{Term, num, var, prefix, infix', element}
use Rattle.hpr_terms.specs.Names.{base_of}
use Rattle.hpr_syntax.specs.Print.{sign, level_of_sign, level_of, prefix_sign, bracketed, term_text, element_text}

pub number_utf8 : (n : ℕ) → n < 2 ^ 64 → IsUtf8 (decimal n)
number_utf8 n h = IsUtf8-from_ascii (decimal n) (IsAscii-decimal n h)

pub sign_utf8 : (op : Binary) → IsUtf8 (sign op)
unfolding encode
sign_utf8 Or = (codes "or", (refl, refl))
sign_utf8 And = (codes "and", (refl, refl))
sign_utf8 Equal = (codes "=", (refl, refl))
sign_utf8 Differ = (codes "<>", (refl, refl))
sign_utf8 Less = (codes "<", (refl, refl))
sign_utf8 LessEqual = (codes "<=", (refl, refl))
sign_utf8 Greater = (codes ">", (refl, refl))
sign_utf8 GreaterEqual = (codes ">=", (refl, refl))
sign_utf8 Add = (codes "+", (refl, refl))
sign_utf8 Sub = (codes "-", (refl, refl))
sign_utf8 Mul = (codes "*", (refl, refl))
sign_utf8 Div = (codes "/", (refl, refl))
sign_utf8 Rem = (codes "%", (refl, refl))

pub prefix_sign_utf8 : (op : Unary) → IsUtf8 (prefix_sign op)
unfolding encode
prefix_sign_utf8 Neg = (codes "-", (refl, refl))
prefix_sign_utf8 Not = (codes "not ", (refl, refl))

pub bracketed_utf8 : (b : Bool) (text : List ℕ) → IsUtf8 text → IsUtf8 (bracketed b text)
unfolding encode
bracketed_utf8 true text h =
    let open_utf8 : IsUtf8 (codes "(") = (codes "(", (refl, refl)) in
    let close_utf8 : IsUtf8 (codes ")") = (codes ")", (refl, refl)) in
    IsUtf8-append (codes "(" ++ text) (codes ")") (IsUtf8-append (codes "(") text open_utf8 h) close_utf8
bracketed_utf8 false text h = h

-- an expression's text is UTF-8 where the texts of its operands are
pub num_utf8 : (term : Term) (n : ℕ) → term ≡ num n → n < 2 ^ 64 → IsUtf8 (term_text term)
unfolding term_text
num_utf8 term n is h = subst (λ t. IsUtf8 (term_text t)) (sym is) (number_utf8 n h)

pub var_utf8 : (term : Term) (x : List ℕ) → term ≡ var x → IsUtf8 x → IsUtf8 (term_text term)
unfolding term_text
var_utf8 term x is h = subst (λ t. IsUtf8 (term_text t)) (sym is) h

pub prefix_utf8 : (term : Term) (op : Unary) (a : Term) (b : Bool) → term ≡ prefix op a → b ≡ nat_lt (level_of a) 6 → IsUtf8 (bracketed b (term_text a)) → IsUtf8 (term_text term)
unfolding term_text
prefix_utf8 term op a b is brackets h =
    let operand = subst (λ c. IsUtf8 (bracketed c (term_text a))) brackets h in
    subst (λ t. IsUtf8 (term_text t)) (sym is) (IsUtf8-append (prefix_sign op) (bracketed (nat_lt (level_of a) 6) (term_text a)) (prefix_sign_utf8 op) operand)

joined_utf8 : (left : List ℕ) (op : Binary) (right : List ℕ) → IsUtf8 left → IsUtf8 right → IsUtf8 (left ++ codes " " ++ sign op ++ codes " " ++ right)
unfolding encode
joined_utf8 left op right l r =
    let blank : IsUtf8 (codes " ") = (codes " ", (refl, refl)) in
    let front = IsUtf8-append left (codes " ") l blank in
    let signed = IsUtf8-append (left ++ codes " ") (sign op) front (sign_utf8 op) in
    let before = IsUtf8-append (left ++ codes " " ++ sign op) (codes " ") signed blank in
    IsUtf8-append (left ++ codes " " ++ sign op ++ codes " ") right before r

pub infix_utf8 : (term : Term) (op : Binary) (a b : Term) (left right : Bool) → term ≡ infix' op a b
    → left ≡ (nat_lt (level_of a) (level_of_sign op) || ((level_of_sign op == 3) && (level_of a == 3))) → right ≡ nat_le (level_of b) (level_of_sign op)
    → IsUtf8 (bracketed left (term_text a)) → IsUtf8 (bracketed right (term_text b)) → IsUtf8 (term_text term)
unfolding term_text
infix_utf8 term op a b left right is left_is right_is l r =
    let l' = subst (λ c. IsUtf8 (bracketed c (term_text a))) left_is l in
    let r' = subst (λ c. IsUtf8 (bracketed c (term_text b))) right_is r in
    subst (λ t. IsUtf8 (term_text t)) (sym is)
    (joined_utf8 (bracketed (nat_lt (level_of a) (level_of_sign op) || ((level_of_sign op == 3) && (level_of a == 3))) (term_text a)) op
    (bracketed (nat_le (level_of b) (level_of_sign op)) (term_text b)) l' r')

pub element_utf8 : (x index : List ℕ) → IsUtf8 (base_of x) → IsUtf8 index → IsUtf8 (element_text x index)
unfolding encode
element_utf8 x index b i =
    let open_utf8 : IsUtf8 (codes "[") = (codes "[", (refl, refl)) in
    let close_utf8 : IsUtf8 (codes "]") = (codes "]", (refl, refl)) in
    let front = IsUtf8-append (base_of x) (codes "[") b open_utf8 in
    IsUtf8-append (base_of x ++ codes "[" ++ index) (codes "]") (IsUtf8-append (base_of x ++ codes "[") index front i) close_utf8

pub elem_utf8 : (term : Term) (x : List ℕ) (i : Term) → term ≡ element x i → IsUtf8 (element_text x (term_text i)) → IsUtf8 (term_text term)
unfolding term_text
elem_utf8 term x i is h = subst (λ t. IsUtf8 (term_text t)) (sym is) h

-- and so is what a part says
pub assignment_utf8 : (name text : List ℕ) → IsUtf8 name → IsUtf8 text → IsUtf8 (name ++ codes " := " ++ text)
unfolding encode
assignment_utf8 name text n t =
    let sign : IsUtf8 (codes " := ") = (codes " := ", (refl, refl)) in
    IsUtf8-append (name ++ codes " := ") text (IsUtf8-append name (codes " := ") n sign) t

pub if_utf8 : (text : List ℕ) → IsUtf8 text → IsUtf8 (codes "if " ++ text)
unfolding encode
if_utf8 text t = IsUtf8-append (codes "if ") text (codes "if ", (refl, refl)) t

pub while_utf8 : (text : List ℕ) → IsUtf8 text → IsUtf8 (codes "while " ++ text)
unfolding encode
while_utf8 text t = IsUtf8-append (codes "while ") text (codes "while ", (refl, refl)) t

pub write_utf8 : (text : List ℕ) → IsUtf8 text → IsUtf8 (codes "write " ++ text)
unfolding encode
write_utf8 text t = IsUtf8-append (codes "write ") text (codes "write ", (refl, refl)) t
