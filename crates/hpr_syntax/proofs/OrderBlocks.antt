-- The order of blocks against their codes.
use Rattle.std.proofs.Common.{◌≡◌, ℕ, Some, Option, List, [], ◌∷◌, refl, ap, sym, ◌∙◌}
use Rattle.std.specs.Cmp.Lexicographic.{slice_cmp, slice_partial_cmp}
use Rattle.std.specs.Ordering.{nat_cmp, ordering_then, partial_ordering_then}
use Rattle.std.specs.declared.cmp.Ordering.{Ordering}
use Rattle.hpr_terms.specs.declared.tag.Tag.{Tag}
use Rattle.hpr_syntax.specs.declared.tree.Stmt.{Stmt}
use Rattle.hpr_syntax.specs.declared.tree.Stmt.TheVariants.{Assign, If, While, Write, Store}
use Rattle.hpr_terms.specs.declared.expr.Expr.{Expr}
use Rattle.hpr_terms.specs.TermOrder.{name_code, term_code}
use Rattle.hpr_terms.specs.TermOf.{term_of}
use Rattle.hpr_syntax.specs.Action.{assigns, writes, stores}
use Rattle.hpr_syntax.specs.Body.{Body, done, action, branch, loop}
use Rattle.hpr_syntax.specs.BodyOrder.{body_code, block_code}
use Rattle.hpr_syntax.specs.BodyOf.{body_of}
use Rattle.hpr_terms.specs.contracts.expr.ExprOrd.TheImpl as ords
use Rattle.hpr_terms.specs.contracts.expr.ExprPartialOrd.TheImpl as partials
use Rattle.hpr_terms.specs.contracts.tag.TagOrd.TheImpl as tag_ords
use Rattle.hpr_terms.specs.contracts.tag.TagPartialOrd.TheImpl as tag_partials
use Rattle.hpr_syntax.specs.contracts.tree.StmtOrd.TheImpl as stmt_ords
use Rattle.hpr_syntax.specs.contracts.tree.StmtPartialOrd.TheImpl as stmt_partials
use Rattle.hpr_terms.proofs.Compare.{order, then_assoc, partial_then, name_order, term_order, cmp_codes, partial_codes}

expr_part : (e f : Expr) (s t : List ℕ) → order (term_code (term_of e) s) (term_code (term_of f) t) ≡ ordering_then ((ords.ghosts).cmp e f) (order s t)
expr_part e f s t = term_order (term_of e) (term_of f) s t ∙ ap (λ r. ordering_then r (order s t)) (sym (cmp_codes e f))

-- what holds of two codes holds with the same part before each
part : (n : Ordering) (f g : List ℕ → List ℕ) → ((s t : List ℕ) → order (f s) (g t) ≡ ordering_then n (order s t)) → (u v u' v' : List ℕ) (o : Ordering)
    → order u v ≡ ordering_then (order u' v') o → order (f u) (g v) ≡ ordering_then (order (f u') (g v')) o
part n f g m u v u' v' o p =
    m u v ∙ ap (λ r. ordering_then n r) p ∙ sym (then_assoc n (order u' v') o) ∙ ap (λ r. ordering_then r o) (sym (m u' v'))

name_before : (x y u v u' v' : List ℕ) (o : Ordering)
    → order u v ≡ ordering_then (order u' v') o → order (name_code x u) (name_code y v) ≡ ordering_then (order (name_code x u') (name_code y v')) o
name_before x y = part (order x y) (name_code x) (name_code y) (name_order x y)

expr_before : (e f : Expr) (u v u' v' : List ℕ) (o : Ordering) → order u v ≡ ordering_then (order u' v') o
    → order (term_code (term_of e) u) (term_code (term_of f) v) ≡ ordering_then (order (term_code (term_of e) u') (term_code (term_of f) v')) o
expr_before e f = part ((ords.ghosts).cmp e f) (term_code (term_of e)) (term_code (term_of f)) (expr_part e f)

tag_before : (t u : Tag) (p q o : Ordering) → p ≡ ordering_then q o → ordering_then (nat_cmp t.author u.author) (ordering_then (nat_cmp t.serial u.serial) p)
    ≡ ordering_then (ordering_then (nat_cmp t.author u.author) (ordering_then (nat_cmp t.serial u.serial) q)) o
tag_before t u p q o h =
    let a = nat_cmp t.author u.author in
    let b = nat_cmp t.serial u.serial in
    ap (λ r. ordering_then a (ordering_then b r)) h ∙ ap (λ r. ordering_then a r) (sym (then_assoc b q o)) ∙ sym (then_assoc a (ordering_then b q) o)

block_order : (b c : Body) (s t : List ℕ) → order (body_code b s) (body_code c t) ≡ ordering_then (order (block_code b) (block_code c)) (order s t)
block_order done done s t = refl
block_order (action t (assigns x e) r) (action u (assigns y f) q) s s' =
    tag_before t u _ _ _ (name_before x y _ _ _ _ _ (expr_before e f _ _ _ _ _ (block_order r q s s')))
block_order (action t (writes x e) r) (action u (writes y f) q) s s' =
    tag_before t u _ _ _ (name_before x y _ _ _ _ _ (expr_before e f _ _ _ _ _ (block_order r q s s')))
block_order (action t (stores x i e) r) (action u (stores y j f) q) s s' =
    tag_before t u _ _ _ (name_before x y _ _ _ _ _ (expr_before i j _ _ _ _ _ (expr_before e f _ _ _ _ _ (block_order r q s s'))))
block_order (branch t e a b r) (branch u f c d q) s s' =
    tag_before t u _ _ _ (expr_before e f _ _ _ _ _ (part (order (block_code a) (block_code c)) (body_code a) (body_code c) (block_order a c) _ _ _ _ _
    (part (order (block_code b) (block_code d)) (body_code b) (body_code d) (block_order b d) _ _ _ _ _ (block_order r q s s'))))
block_order (loop t e a r) (loop u f c q) s s' =
    tag_before t u _ _ _ (expr_before e f _ _ _ _ _ (part (order (block_code a) (block_code c)) (body_code a) (body_code c) (block_order a c) _ _ _ _ _ (block_order r q s s')))
block_order done (action u (assigns y f) q) s s' = refl
block_order done (action u (writes y f) q) s s' = refl
block_order done (action u (stores y j f) q) s s' = refl
block_order (branch t e a b r) (action u (assigns y f) q) s s' = refl
block_order (branch t e a b r) (action u (writes y f) q) s s' = refl
block_order (branch t e a b r) (action u (stores y j f) q) s s' = refl
block_order (loop t e a r) (action u (assigns y f) q) s s' = refl
block_order (loop t e a r) (action u (writes y f) q) s s' = refl
block_order (loop t e a r) (action u (stores y j f) q) s s' = refl
block_order _ _ s t = refl

-- the order of the parts, and then of what follows, is that of the codes
also : (n rest l : Ordering) (f g : List ℕ → List ℕ) → ((s t : List ℕ) → order (f s) (g t) ≡ ordering_then n (order s t)) → (u v : List ℕ)
    → ordering_then rest l ≡ order u v → ordering_then (ordering_then n rest) l ≡ order (f u) (g v)
also n rest l f g m u v p = then_assoc n rest l ∙ ap (λ r. ordering_then n r) p ∙ sym (m u v)

at_last : (n l : Ordering) (f g : List ℕ → List ℕ) → ((s t : List ℕ) → order (f s) (g t) ≡ ordering_then n (order s t)) → (u v : List ℕ)
    → l ≡ order u v → ordering_then n l ≡ order (f u) (g v)
at_last n l f g m u v p = ap (λ r. ordering_then n r) p ∙ sym (m u v)

exprs_last : (e f : Expr) (l : Ordering) (u v : List ℕ) → l ≡ order u v
    → ordering_then ((ords.ghosts).cmp e f) l ≡ order (term_code (term_of e) u) (term_code (term_of f) v)
exprs_last e f l = at_last ((ords.ghosts).cmp e f) l (term_code (term_of e)) (term_code (term_of f)) (expr_part e f)

exprs_also : (e f : Expr) (rest l : Ordering) (u v : List ℕ) → ordering_then rest l ≡ order u v
    → ordering_then (ordering_then ((ords.ghosts).cmp e f) rest) l ≡ order (term_code (term_of e) u) (term_code (term_of f) v)
exprs_also e f rest l = also ((ords.ghosts).cmp e f) rest l (term_code (term_of e)) (term_code (term_of f)) (expr_part e f)

blocks_last : (b c : Body) (l : Ordering) (u v : List ℕ) → l ≡ order u v → ordering_then (order (block_code b) (block_code c)) l ≡ order (body_code b u) (body_code c v)
blocks_last b c l = at_last (order (block_code b) (block_code c)) l (body_code b) (body_code c) (block_order b c)

tags_first : (t u : Tag) (x l r : Ordering) → ordering_then x l ≡ r
    → ordering_then (ordering_then ((tag_ords.ghosts).cmp t u) x) l ≡ ordering_then (nat_cmp t.author u.author) (ordering_then (nat_cmp t.serial u.serial) r)
tags_first t u x l r p =
    let a = nat_cmp t.author u.author in
    let b = nat_cmp t.serial u.serial in
    then_assoc (ordering_then a b) x l ∙ then_assoc a b (ordering_then x l) ∙ ap (λ k. ordering_then a (ordering_then b k)) p

pub stmts_order : (xs ys : List Stmt) → slice_cmp (stmt_ords.ghosts).cmp xs ys ≡ order (block_code (body_of xs)) (block_code (body_of ys))
stmts_order [] [] = refl
stmts_order [] (Assign u y f ∷ ys) = refl
stmts_order [] (If u f c d ∷ ys) = refl
stmts_order [] (While u f c ∷ ys) = refl
stmts_order [] (Write u y f ∷ ys) = refl
stmts_order [] (Store u y j f ∷ ys) = refl
stmts_order (Assign t x e ∷ xs) (Assign u y f ∷ ys) =
    tags_first t u _ _ _ (also (order x y) _ _ (name_code x) (name_code y) (name_order x y) _ _ (exprs_last e f _ _ _ (stmts_order xs ys)))
stmts_order (If t e a b ∷ xs) (If u f c d ∷ ys) =
    tags_first t u _ _ _ (exprs_also e f _ _ _ _ (also (order (block_code a) (block_code c)) _ _ (body_code a) (body_code c) (block_order a c) _ _
    (blocks_last b d _ _ _ (stmts_order xs ys))))
stmts_order (While t e a ∷ xs) (While u f c ∷ ys) = tags_first t u _ _ _ (exprs_also e f _ _ _ _ (blocks_last a c _ _ _ (stmts_order xs ys)))
stmts_order (Write t x e ∷ xs) (Write u y f ∷ ys) =
    tags_first t u _ _ _ (also (order x y) _ _ (name_code x) (name_code y) (name_order x y) _ _ (exprs_last e f _ _ _ (stmts_order xs ys)))
stmts_order (Store t x i e ∷ xs) (Store u y j f ∷ ys) =
    tags_first t u _ _ _ (also (order x y) _ _ (name_code x) (name_code y) (name_order x y) _ _ (exprs_also i j _ _ _ _ (exprs_last e f _ _ _ (stmts_order xs ys))))
stmts_order _ _ = refl

partial_two : (a b : Option Ordering) (x y : Ordering) → a ≡ Some x → b ≡ Some y → partial_ordering_then a b ≡ Some (ordering_then x y)
partial_two a b x y p q = rw (p, q) (partial_then x y)

expr_partial : (e f : Expr) → (partials.ghosts).partial_cmp e f ≡ Some ((ords.ghosts).cmp e f)
expr_partial e f = partial_codes e f ∙ ap Some (sym (cmp_codes e f))

tag_partial : (t u : Tag) → (tag_partials.ghosts).partial_cmp t u ≡ Some ((tag_ords.ghosts).cmp t u)
tag_partial t u = partial_then (nat_cmp t.author u.author) (nat_cmp t.serial u.serial)

stmt_partial : (s r : Stmt) → (stmt_partials.ghosts).partial_cmp s r ≡ Some ((stmt_ords.ghosts).cmp s r)
stmt_partial (Assign t x e) (Assign u y f) = partial_two _ _ _ _ (tag_partial t u) (partial_two _ _ _ _ refl (expr_partial e f))
stmt_partial (If t e a b) (If u f c d) =
    partial_two _ _ _ _ (tag_partial t u) (partial_two _ _ _ _ (expr_partial e f) (partial_then (order (block_code a) (block_code c)) (order (block_code b) (block_code d))))
stmt_partial (While t e a) (While u f c) = partial_two _ _ _ _ (tag_partial t u) (partial_two _ _ _ _ (expr_partial e f) refl)
stmt_partial (Write t x e) (Write u y f) = partial_two _ _ _ _ (tag_partial t u) (partial_two _ _ _ _ refl (expr_partial e f))
stmt_partial (Store t x i e) (Store u y j f) =
    partial_two _ _ _ _ (tag_partial t u) (partial_two _ _ _ _ refl (partial_two _ _ _ _ (expr_partial i j) (expr_partial e f)))
stmt_partial _ _ = refl

-- what the derived order of stores answers, from the answers at their parts
pub store_partial : (t u : Tag) (x y : List ℕ) (i j e f : Expr) (s r : Stmt) (p q v w : Option Ordering) → s ≡ Store t x i e → r ≡ Store u y j f
    → p ≡ (tag_partials.ghosts).partial_cmp t u → q ≡ partial_ordering_then p (Some (order x y)) → v ≡ partial_ordering_then q ((partials.ghosts).partial_cmp i j)
    → w ≡ partial_ordering_then v ((partials.ghosts).partial_cmp e f) → w ≡ (stmt_partials.ghosts).partial_cmp s r
store_partial t u x y i j e f s r p q v w is is' first second third last =
    let a = (tag_ords.ghosts).cmp t u in
    let b = order x y in
    let c = (ords.ghosts).cmp i j in
    let d = (ords.ghosts).cmp e f in
    let p' : p ≡ Some a = first ∙ tag_partial t u in
    let q' : q ≡ Some (ordering_then a b) = second ∙ partial_two p (Some b) a b p' refl in
    let v' : v ≡ Some (ordering_then (ordering_then a b) c) = third ∙ partial_two q _ _ c q' (expr_partial i j) in
    let w' : w ≡ Some (ordering_then (ordering_then (ordering_then a b) c) d) = last ∙ partial_two v _ _ d v' (expr_partial e f) in
    w' ∙ ap Some (then_assoc (ordering_then a b) c d ∙ then_assoc a b (ordering_then c d)) ∙ sym (stmt_partial (Store t x i e) (Store u y j f))
    ∙ sym (λ k. (stmt_partials.ghosts).partial_cmp (is k) (is' k))

slice_partial : (xs ys : List Stmt) → slice_partial_cmp (stmt_partials.ghosts).partial_cmp xs ys ≡ Some (slice_cmp (stmt_ords.ghosts).cmp xs ys)
slice_partial [] [] = refl
slice_partial (x ∷ xs) (y ∷ ys) = partial_two _ _ _ _ (stmt_partial x y) (slice_partial xs ys)
slice_partial _ _ = refl

pub stmts_partial : (xs ys : List Stmt) → slice_partial_cmp (stmt_partials.ghosts).partial_cmp xs ys ≡ Some (order (block_code (body_of xs)) (block_code (body_of ys)))
stmts_partial xs ys = slice_partial xs ys ∙ ap Some (stmts_order xs ys)
