-- The texts of one more level, of an expression, and of one part before others.
use Rattle.std.proofs.Common.{◌≡◌, ℕ, ◌+◌, ◌*◌, ◌≤◌, List, [], ◌∷◌, ◌++◌, refl, sym, ap, ◌∙◌, arith, max, append_assoc, replicate, ◌<◌, ◌==◌, length, get_or, drop, false, codes, drop_of_length-le, Bool, ◌||◌, ◌&&◌, nat_lt, nat_le, map, suc, drop-cons}
use Rattle.std.proofs.lemmas.List.{replicate-append-replicate, append-nil}
use Rattle.hpr_terms.specs.declared.tag.Tag.{Tag}
use Rattle.hpr_terms.specs.declared.expr.Expr.{Expr}
use Rattle.hpr_terms.specs.declared.expr.Unary.{Unary}
use Rattle.hpr_terms.specs.declared.expr.Binary.{Binary}
use Rattle.hpr_terms.specs.Term.{Term, var, prefix, infix', element}
use Rattle.hpr_terms.specs.TermOf.{term_of}
use Rattle.hpr_terms.specs.Texts.{tag_text}
use Rattle.hpr_syntax.specs.Tree.{Tree}
use Rattle.hpr_syntax.specs.declared.tree.Stmt.{Stmt}
use Rattle.hpr_syntax.specs.declared.tree.Stmt.TheVariants.{If, While, Write}
use Rattle.hpr_syntax.specs.Body.{Body, done, action, branch, loop, depth}
use Rattle.hpr_syntax.specs.BodyOf.{before, body_of}
use Rattle.hpr_syntax.specs.Print.{indent, element_text, body_text, is_done, else_text, line, term_text, bracketed, sign, prefix_sign, level_of, level_of_sign, text, issued_text, pair_text, joined, after_commas}
use Rattle.hpr_syntax.proofs.RowLemmas.{drop_turn}

pub more_indent : (n : ℕ) → indent (n + 1) ≡ indent n ++ (32 ∷ 32 ∷ [])
more_indent n =
    let e : 2 * (n + 1) ≡ 2 * n + 2 = omega arith in
    ap (λ k. replicate k 32) e ∙ sym (replicate-append-replicate (2 * n) 2 32)

pub first_part : (n : ℕ) (s : Stmt) (rest : Body) → body_text n (before s rest) ≡ body_text n (before s done) ++ body_text n rest
unfolding body_text
first_part n (If t e a b) rest = simp (append_assoc, append-nil)
first_part n s rest = simp (append_assoc, append-nil)

no_parts : (n : ℕ) → body_text n done ≡ []
unfolding body_text
no_parts n = refl

depth_positive : (body : Body) → 1 ≤ depth body
depth_positive done = omega arith
depth_positive (action t d rest) = depth_positive rest
depth_positive (branch t e a b rest) = let h = depth_positive rest in omega arith
depth_positive (loop t e b rest) = let h = depth_positive rest in omega arith

-- the depth of a part before others
pub parts_depth : (s : Stmt) (rest : Body) → depth (before s rest) ≡ max (depth (before s done)) (depth rest)
parts_depth (If t e a b) rest = let h = depth_positive rest in omega arith
parts_depth s rest = let h = depth_positive rest in omega arith

-- a part's own depth
pub part_fits : (stmts : List Stmt) (i : ℕ) (s : Stmt) (most : ℕ) → i < length stmts → s ≡ get_or stmts i s → depth (body_of (drop i stmts)) ≤ most
    → (depth (before s done) ≤ most) × (depth (body_of (drop (i + 1) stmts)) ≤ most)
part_fits stmts i s most below here deep =
    let rest : Body = body_of (drop (i + 1) stmts) in
    let e : depth (body_of (drop i stmts)) ≡ depth (before s rest) = ap depth (drop_turn stmts i s below here) in
    let d : depth (before s rest) ≡ max (depth (before s done)) (depth rest) = parts_depth s rest in
    (omega arith, omega arith)

-- a block with parts isn't empty
pub some_parts : (stmts : List Stmt) → (length stmts == 0) ≡ false → is_done (body_of stmts) ≡ false
some_parts [] h = cc
some_parts (If t e a b ∷ rest) h = refl
some_parts (s ∷ rest) h = refl

-- a block with parts has an `else`
pub else_shown : (n : ℕ) (stmts : List Stmt) (shown : List ℕ) → (length stmts == 0) ≡ false → else_text n (body_of stmts) shown ≡ line n (codes "else") ++ shown
else_shown n stmts shown h = let e : is_done (body_of stmts) ≡ false = some_parts stmts h in rw e refl

-- what stands before, and then the text of a variable and of an element
pub var_text : (term : Term) (x out all : List ℕ) → term ≡ var x → all ≡ out ++ x → all ≡ out ++ term_text term
unfolding term_text
var_text term x out all is e = e ∙ ap (λ (t : Term). out ++ term_text t) (sym is)

pub elem_text : (term : Term) (x : List ℕ) (i : Term) (out all : List ℕ) → term ≡ element x i → all ≡ out ++ element_text x (term_text i) → all ≡ out ++ term_text term
unfolding term_text
elem_text term x i out all is e = e ∙ ap (λ (t : Term). out ++ term_text t) (sym is)

-- the line of an assignment or a store, of its three pieces
pub assignment_line : (n : ℕ) (out one two all tag name value : List ℕ) → one ≡ out ++ indent n ++ tag → two ≡ one ++ codes ": " ++ name ++ codes " := "
    → all ≡ two ++ value ++ codes ";" ++ codes "\n" → all ≡ out ++ line n (tag ++ codes ": " ++ name ++ codes " := " ++ value ++ codes ";")
assignment_line n out one two all tag name value e f g = rw (g, f, e) (simp append_assoc)

-- past its last part, a block has no text left
pub no_text : (n : ℕ) (stmts : List Stmt) (i : ℕ) (out : List ℕ) → length stmts ≤ i → out ++ body_text n (body_of (drop i stmts)) ≡ out
no_text n stmts i out past =
    let e : drop i stmts ≡ [] = drop_of_length-le stmts past in
    let f : body_text n (body_of (drop i stmts)) ≡ [] = ap (λ (x : List Stmt). body_text n (body_of x)) e ∙ no_parts n in
    rw f (append-nil out)

-- the line of a write, in a block of its own
pub write_text : (n : ℕ) (s : Stmt) (t : Tag) (x : List ℕ) (e : Expr) → s ≡ Write t x e
    → line n (tag_text t ++ codes ": write " ++ term_text (term_of e) ++ codes ";") ≡ body_text n (before s done)
unfolding body_text
write_text n s t x e is = rw is (sym (append-nil (line n (tag_text t ++ codes ": write " ++ term_text (term_of e) ++ codes ";"))))

-- the text of a conditional, of its four pieces
pub branch_text : (n : ℕ) (s : Stmt) (t : Tag) (e : Expr) (a b : Body) (out one two three all : List ℕ) → s ≡ If t e a b
    → one ≡ out ++ line n (tag_text t ++ codes ": if " ++ term_text (term_of e) ++ codes " then") → two ≡ one ++ body_text (n + 1) a
    → three ≡ two ++ else_text n b (body_text (n + 1) b) → all ≡ three ++ line n (codes "fi") → all ≡ out ++ body_text n (before s done)
unfolding body_text
branch_text n s t e a b out one two three all is f g h k = rw (k, h, g, f, is) (simp (append_assoc, append-nil))

-- the text of a loop, of its three pieces
pub loop_text : (n : ℕ) (s : Stmt) (t : Tag) (e : Expr) (b : Body) (out one two all : List ℕ) → s ≡ While t e b
    → one ≡ out ++ line n (tag_text t ++ codes ": while " ++ term_text (term_of e) ++ codes " do") → two ≡ one ++ body_text (n + 1) b
    → all ≡ two ++ line n (codes "od") → all ≡ out ++ body_text n (before s done)
unfolding body_text
loop_text n s t e b out one two all is f g h = rw (h, g, f, is) (simp (append_assoc, append-nil))

-- the text of an expression behind a prefix, of its two pieces
pub prefix_text : (a : Term) (op : Unary) (inner : Term) (b : Bool) (out one all : List ℕ) → a ≡ prefix op inner → b ≡ nat_lt (level_of inner) 6
    → one ≡ out ++ prefix_sign op → all ≡ one ++ bracketed b (term_text inner) → all ≡ out ++ term_text a
unfolding term_text
prefix_text a op inner b out one all is e f g = rw (g, f, e, is) (simp append_assoc)

-- the text of two expressions around a sign, of its five pieces
pub infix_text : (a : Term) (op : Binary) (first second : Term) (l r : Bool) (out one two three four all : List ℕ) → a ≡ infix' op first second
    → l ≡ (nat_lt (level_of first) (level_of_sign op) || ((level_of_sign op == 3) && (level_of first == 3))) → r ≡ nat_le (level_of second) (level_of_sign op)
    → one ≡ out ++ bracketed l (term_text first) → two ≡ one ++ codes " " → three ≡ two ++ sign op → four ≡ three ++ codes " "
    → all ≡ four ++ bracketed r (term_text second) → all ≡ out ++ term_text a
unfolding term_text
infix_text a op first second l r out one two three four all is left right e f g h k = rw (k, h, g, f, e, left, right, is) (simp append_assoc)

-- the text of an element, of its four pieces
pub element_pieces : (out base one two index three all : List ℕ) → one ≡ out ++ base → two ≡ one ++ codes "[" → three ≡ two ++ index → all ≡ three ++ codes "]"
    → all ≡ out ++ (base ++ codes "[" ++ index ++ codes "]")
element_pieces out base one two index three all e f g h = rw (h, g, f, e) (simp append_assoc)

-- a piece that is known as another
pub piece : (out all a b : List ℕ) → all ≡ out ++ a → a ≡ b → all ≡ out ++ b
piece out all a b e f = rw e (rw f refl)

-- one more text behind a comma
pub commas_step : (xs : List (List ℕ)) (i : ℕ) (x out one two : List ℕ) → i < length xs → x ≡ get_or xs i x → one ≡ out ++ codes ", " → two ≡ one ++ x
    → two ++ after_commas (drop (i + 1) xs) ≡ out ++ after_commas (drop i xs)
commas_step xs i x out one two below is e f =
    let next : suc i ≡ i + 1 = omega arith in
    let d : drop i xs ≡ x ∷ drop (i + 1) xs = drop-cons xs i x below ∙ ap (λ (y : List ℕ). y ∷ drop (suc i) xs) (sym is) ∙ ap (λ (k : ℕ). x ∷ drop k xs) next in
    rw (d, f, e) (simp append_assoc)

-- one more pair behind a comma
pub pairs_step : (ps : List (ℕ × ℕ)) (i : ℕ) (p : ℕ × ℕ) (out one two : List ℕ) → i < length ps → one ≡ out ++ codes ", " → two ≡ one ++ pair_text (get_or ps i p)
    → two ++ after_commas (map pair_text (drop (i + 1) ps)) ≡ out ++ after_commas (map pair_text (drop i ps))
pairs_step ps i p out one two below e f =
    let next : suc i ≡ i + 1 = omega arith in
    let d : drop i ps ≡ get_or ps i p ∷ drop (i + 1) ps = drop-cons ps i p below ∙ ap (λ (k : ℕ). get_or ps i p ∷ drop k ps) next in
    rw (d, f, e) (simp append_assoc)

-- the text of a program, of its first pieces together and the rest
pub program_text : (t : Tree) (out one two three all : List ℕ) → one ≡ ((out ++ codes "program\n") ++ issued_text t.issued) ++ body_text 0 t.body
    → two ≡ one ++ codes "end(" → three ≡ two ++ joined t.finals → all ≡ three ++ codes ")\n" → all ≡ out ++ text t
unfolding text
program_text t out one two three all e f g h = rw (h, g, f, e) (simp append_assoc)
