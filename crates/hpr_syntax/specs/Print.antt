-- The canonical text.
--
-- level_of term          == how tightly the term's outermost sign binds: `or` 1, `and` 2, comparisons 3, `+
--                           -` 4, `* / %` 5, prefixes 6, else 7
-- element_text x index   == an element of the array x: the array's name without its `[]`, and the index
--                           between `[` and `]`
-- term_text term         == the text of an expression, with the brackets that its tree needs and no others
-- expr_text e            == the text of an expression as the program holds it
-- content_text c         == what a part says, without its tag and without the parts that stand in it
-- body_text n body       == the parts of a block, a line each, indented by two times n spaces
-- else_text n b shown     == where the block b isn't empty, the line `else` and the text shown of it
-- issued_text issued     == the line of the issued numbers, or nothing where there are none
-- after_commas texts     == each of the texts after a comma and a space
-- joined texts           == the texts, joined by a comma and a space
-- text tree              == the canonical text of a tree
use Rattle.std.specs.Prelude.{ℕ, ◌+◌, ◌*◌, Bool, true, false, nat_lt, nat_le, ◌==◌, ◌||◌, ◌&&◌, if◌then◌else◌, List, [], ◌∷◌, ◌++◌, map, replicate, codes}
use Rattle.std.specs.Fmt.{decimal}
use Rattle.hpr_terms.specs.declared.expr.Expr.{Expr}
use Rattle.hpr_syntax.specs.declared.rows.Content.{Content}
use Rattle.hpr_syntax.specs.declared.rows.Content.TheVariants.{Assign, If, While, Write, Store}
use Rattle.hpr_terms.specs.Term.{Term, num, var, prefix, infix', element}
use Rattle.hpr_terms.specs.TermOf.{term_of}
use Rattle.hpr_terms.specs.Names.{base_of}
use Rattle.hpr_terms.specs.Texts.{tag_text}
use Rattle.hpr_syntax.specs.Issued.{Issued}
use Rattle.hpr_syntax.specs.Tree.{Tree}
use Rattle.hpr_syntax.specs.Action.{assigns, writes, stores}
use Rattle.hpr_syntax.specs.Body.{Body, done, action, branch, loop}
use Rattle.hpr_terms.specs.declared.expr.Unary.{Unary}
use Rattle.hpr_terms.specs.declared.expr.Unary.TheVariants.{Neg, Not}
use Rattle.hpr_terms.specs.declared.expr.Binary.{Binary}
use Rattle.hpr_terms.specs.declared.expr.Binary.TheVariants.{Or, And, Equal, Differ, Less, LessEqual, Greater, GreaterEqual, Add, Sub, Mul, Div, Rem}

abbrev pub sign : Binary → List ℕ
sign Or = codes "or"
sign And = codes "and"
sign Equal = codes "="
sign Differ = codes "<>"
sign Less = codes "<"
sign LessEqual = codes "<="
sign Greater = codes ">"
sign GreaterEqual = codes ">="
sign Add = codes "+"
sign Sub = codes "-"
sign Mul = codes "*"
sign Div = codes "/"
sign Rem = codes "%"

abbrev pub level_of_sign : Binary → ℕ
level_of_sign Or = 1
level_of_sign And = 2
level_of_sign Add = 4
level_of_sign Sub = 4
level_of_sign Mul = 5
level_of_sign Div = 5
level_of_sign Rem = 5
level_of_sign Equal = 3
level_of_sign Differ = 3
level_of_sign Less = 3
level_of_sign LessEqual = 3
level_of_sign Greater = 3
level_of_sign GreaterEqual = 3

abbrev pub level_of : Term → ℕ
level_of (num n) = 7
level_of (var x) = 7
level_of (prefix op a) = 6
level_of (infix' op a b) = level_of_sign op
level_of (element x i) = 7

abbrev pub bracketed : Bool → List ℕ → List ℕ
bracketed b text = if b then codes "(" ++ text ++ codes ")" else text

abbrev pub prefix_sign : Unary → List ℕ
prefix_sign Neg = codes "-"
prefix_sign Not = codes "not "

abbrev pub element_text : List ℕ → List ℕ → List ℕ
element_text x index = base_of x ++ codes "[" ++ index ++ codes "]"

unfoldable pub term_text : Term → List ℕ
term_text (num n) = decimal n
term_text (var x) = x
term_text (prefix op a) = prefix_sign op ++ bracketed (nat_lt (level_of a) 6) (term_text a)
term_text (infix' op a b) =
    bracketed (nat_lt (level_of a) (level_of_sign op) || ((level_of_sign op == 3) && (level_of a == 3))) (term_text a)
    ++ codes " " ++ sign op ++ codes " " ++ bracketed (nat_le (level_of b) (level_of_sign op)) (term_text b)
term_text (element x i) = element_text x (term_text i)

abbrev pub expr_text : Expr → List ℕ
expr_text e = term_text (term_of e)

abbrev pub content_text : Content → List ℕ
content_text (Assign x e) = x ++ codes " := " ++ expr_text e
content_text (If e) = codes "if " ++ expr_text e
content_text (While e) = codes "while " ++ expr_text e
content_text (Write x e) = codes "write " ++ expr_text e
content_text (Store x i e) = element_text x (expr_text i) ++ codes " := " ++ expr_text e

abbrev pub indent : ℕ → List ℕ
indent n = replicate (2 * n) 32

abbrev pub line : ℕ → List ℕ → List ℕ
line n text = indent n ++ text ++ 10 ∷ []

abbrev pub is_done : Body → Bool
is_done done = true
is_done (action t d r) = false
is_done (branch t e a b r) = false
is_done (loop t e b r) = false

abbrev pub else_text : ℕ → Body → List ℕ → List ℕ
else_text n block shown = if is_done block then [] else (line n (codes "else") ++ shown)

unfoldable pub body_text : ℕ → Body → List ℕ
body_text n done = []
body_text n (action t (assigns x e) rest) = line n (tag_text t ++ codes ": " ++ x ++ codes " := " ++ term_text (term_of e) ++ codes ";") ++ body_text n rest
body_text n (action t (writes x e) rest) = line n (tag_text t ++ codes ": write " ++ term_text (term_of e) ++ codes ";") ++ body_text n rest
body_text n (action t (stores x i e) rest) =
    line n (tag_text t ++ codes ": " ++ element_text x (term_text (term_of i)) ++ codes " := " ++ term_text (term_of e) ++ codes ";") ++ body_text n rest
body_text n (branch t e a b rest) =
    line n (tag_text t ++ codes ": if " ++ term_text (term_of e) ++ codes " then") ++ body_text (n + 1) a
    ++ else_text n b (body_text (n + 1) b) ++ line n (codes "fi") ++ body_text n rest
body_text n (loop t e b rest) =
    line n (tag_text t ++ codes ": while " ++ term_text (term_of e) ++ codes " do") ++ body_text (n + 1) b ++ line n (codes "od") ++ body_text n rest

abbrev pub pair_text : ℕ × ℕ → List ℕ
pair_text p = decimal p.0 ++ codes ":" ++ decimal p.1

abbrev pub after_commas : List (List ℕ) → List ℕ
after_commas [] = []
after_commas (x ∷ xs) = codes ", " ++ x ++ after_commas xs

abbrev pub joined : List (List ℕ) → List ℕ
joined [] = []
joined (x ∷ xs) = x ++ after_commas xs

abbrev pub issued_text : Issued → List ℕ
issued_text [] = []
issued_text (p ∷ ps) = codes "issued " ++ joined (map pair_text (p ∷ ps)) ++ 10 ∷ []

unfoldable pub text : Tree → List ℕ
text t = codes "program\n" ++ issued_text t.issued ++ body_text 0 t.body ++ codes "end(" ++ joined t.finals ++ codes ")\n"
