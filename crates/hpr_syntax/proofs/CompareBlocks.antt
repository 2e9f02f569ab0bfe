-- The comparison of blocks against their codes.
use Rattle.std.proofs.Common.{◌≡◌, ℕ, ◌==◌, ◌&&◌, Bool, true, false, List, [], ◌∷◌, refl, ap, sym, ◌∙◌}
use Rattle.std.specs.Cmp.Lexicographic.{pointwise}
use Rattle.hpr_terms.specs.declared.tag.Tag.{Tag}
use Rattle.hpr_syntax.specs.declared.tree.Stmt.{Stmt}
use Rattle.hpr_syntax.specs.declared.tree.Stmt.TheVariants.{Assign, If, While, Write, Store}
use Rattle.hpr_terms.specs.declared.expr.Expr.{Expr}
use Rattle.hpr_terms.specs.TermOrder.{term_code}
use Rattle.hpr_terms.specs.TermOf.{term_of}
use Rattle.hpr_syntax.specs.Action.{assigns, writes, stores}
use Rattle.hpr_syntax.specs.Body.{Body, done, action, branch, loop}
use Rattle.hpr_syntax.specs.BodyOrder.{body_code, block_code}
use Rattle.hpr_syntax.specs.BodyOf.{body_of}
pub use Rattle.hpr_terms.proofs.Equal.{expr_equal}
use Rattle.hpr_terms.specs.contracts.expr.ExprPartialEq.TheImpl as eqs
use Rattle.hpr_syntax.specs.contracts.tree.StmtPartialEq.TheImpl as stmt_eqs
use Rattle.hpr_terms.proofs.Compare.{same, and_assoc, name_same, term_same, eq_codes}

abbrev tag_eq : Tag → Tag → Bool
tag_eq t u = (t.author == u.author) && (t.serial == u.serial)

abbrev block_eq : Body → Body → Bool
block_eq done done = true
block_eq (action t (assigns x e) r) (action u (assigns y f) q) = tag_eq t u && (same x y && ((eqs.ghosts).eq e f && block_eq r q))
block_eq (action t (writes x e) r) (action u (writes y f) q) = tag_eq t u && (same x y && ((eqs.ghosts).eq e f && block_eq r q))
block_eq (action t (stores x i e) r) (action u (stores y j f) q) = tag_eq t u && (same x y && ((eqs.ghosts).eq i j && ((eqs.ghosts).eq e f && block_eq r q)))
block_eq (branch t e a b r) (branch u f c d q) = tag_eq t u && ((eqs.ghosts).eq e f && (block_eq a c && (block_eq b d && block_eq r q)))
block_eq (loop t e a r) (loop u f c q) = tag_eq t u && ((eqs.ghosts).eq e f && (block_eq a c && block_eq r q))
block_eq _ _ = false

expr_part : (e f : Expr) (s t : List ℕ) → same (term_code (term_of e) s) (term_code (term_of f) t) ≡ (eqs.ghosts).eq e f && same s t
expr_part e f s t = term_same (term_of e) (term_of f) s t ∙ ap (λ r. r && same s t) (sym (eq_codes e f))

-- what holds of two codes holds with the same part before each
part : (n p p' q o : Bool) → p ≡ n && p' → p' ≡ q && o → p ≡ (n && q) && o
part n p p' q o first rest = first ∙ ap (λ r. n && r) rest ∙ sym (and_assoc n q o)

tag_before : (t u : Tag) (p q o : Bool) → p ≡ q && o → (t.author == u.author) && ((t.serial == u.serial) && p) ≡ (tag_eq t u && q) && o
tag_before t u p q o rest =
    let a = t.author == u.author in
    let b = t.serial == u.serial in
    ap (λ r. a && (b && r)) rest ∙ sym (and_assoc a b (q && o)) ∙ sym (and_assoc (a && b) q o)

block_same : (b c : Body) (s t : List ℕ) → same (body_code b s) (body_code c t) ≡ block_eq b c && same s t
block_same done done s t = refl
block_same (action t (assigns x e) r) (action u (assigns y f) q) s s' =
    tag_before t u _ _ _ (part (same x y) _ _ _ _ (name_same x y _ _) (part ((eqs.ghosts).eq e f) _ _ _ _ (expr_part e f _ _) (block_same r q s s')))
block_same (action t (writes x e) r) (action u (writes y f) q) s s' =
    tag_before t u _ _ _ (part (same x y) _ _ _ _ (name_same x y _ _) (part ((eqs.ghosts).eq e f) _ _ _ _ (expr_part e f _ _) (block_same r q s s')))
block_same (action t (stores x i e) r) (action u (stores y j f) q) s s' =
    tag_before t u _ _ _ (part (same x y) _ _ _ _ (name_same x y _ _) (part ((eqs.ghosts).eq i j) _ _ _ _ (expr_part i j _ _)
    (part ((eqs.ghosts).eq e f) _ _ _ _ (expr_part e f _ _) (block_same r q s s'))))
block_same (branch t e a b r) (branch u f c d q) s s' =
    tag_before t u _ _ _ (part ((eqs.ghosts).eq e f) _ _ _ _ (expr_part e f _ _) (part (block_eq a c) _ _ _ _ (block_same a c _ _)
    (part (block_eq b d) _ _ _ _ (block_same b d _ _) (block_same r q s s'))))
block_same (loop t e a r) (loop u f c q) s s' =
    tag_before t u _ _ _ (part ((eqs.ghosts).eq e f) _ _ _ _ (expr_part e f _ _) (part (block_eq a c) _ _ _ _ (block_same a c _ _) (block_same r q s s')))
block_same done (action u (assigns y f) q) s s' = refl
block_same done (action u (writes y f) q) s s' = refl
block_same done (action u (stores y j f) q) s s' = refl
block_same (branch t e a b r) (action u (assigns y f) q) s s' = refl
block_same (branch t e a b r) (action u (writes y f) q) s s' = refl
block_same (branch t e a b r) (action u (stores y j f) q) s s' = refl
block_same (loop t e a r) (action u (assigns y f) q) s s' = refl
block_same (loop t e a r) (action u (writes y f) q) s s' = refl
block_same (loop t e a r) (action u (stores y j f) q) s s' = refl
block_same _ _ s t = refl

and_true' : (a : Bool) → a && true ≡ a
and_true' true = refl
and_true' false = refl

exactly : (a b : Body) → same (block_code a) (block_code b) ≡ block_eq a b
exactly a b = block_same a b [] [] ∙ and_true' (block_eq a b)

regroup_assign : (t x e r r' : Bool) → r ≡ r' → (t && (x && e)) && r ≡ t && (x && (e && r'))
regroup_assign t x e r r' p = and_assoc t (x && e) r ∙ ap (λ k. t && k) (and_assoc x e r ∙ ap (λ k. x && (e && k)) p)

regroup_store : (t x i e r r' : Bool) → r ≡ r' → (t && (x && (i && e))) && r ≡ t && (x && (i && (e && r')))
regroup_store t x i e r r' p = and_assoc t (x && (i && e)) r ∙ ap (λ k. t && k) (regroup_assign x i e r r' p)

regroup_branch : (t e a b r a' b' r' : Bool) → a ≡ a' → b ≡ b' → r ≡ r' → (t && (e && (a && b))) && r ≡ t && (e && (a' && (b' && r')))
regroup_branch t e a b r a' b' r' p q s = regroup_store t e a b r r' s ∙ (λ k. t && (e && (p k && (q k && r'))))

regroup_loop : (t e a r a' r' : Bool) → a ≡ a' → r ≡ r' → (t && (e && a)) && r ≡ t && (e && (a' && r'))
regroup_loop t e a r a' r' p s = regroup_assign t e a r r' s ∙ ap (λ k. t && (e && (k && r'))) p

stmts_eq : (xs ys : List Stmt) → pointwise (stmt_eqs.ghosts).eq xs ys ≡ block_eq (body_of xs) (body_of ys)
stmts_eq [] [] = refl
stmts_eq [] (Assign u y f ∷ ys) = refl
stmts_eq [] (If u f c d ∷ ys) = refl
stmts_eq [] (While u f c ∷ ys) = refl
stmts_eq [] (Write u y f ∷ ys) = refl
stmts_eq [] (Store u y j f ∷ ys) = refl
stmts_eq (Assign t x e ∷ xs) (Assign u y f ∷ ys) = regroup_assign (tag_eq t u) (same x y) ((eqs.ghosts).eq e f) _ _ (stmts_eq xs ys)
stmts_eq (If t e a b ∷ xs) (If u f c d ∷ ys) =
    regroup_branch (tag_eq t u) ((eqs.ghosts).eq e f) _ _ _ _ _ _ (exactly a c) (exactly b d) (stmts_eq xs ys)
stmts_eq (While t e a ∷ xs) (While u f c ∷ ys) = regroup_loop (tag_eq t u) ((eqs.ghosts).eq e f) _ _ _ _ (exactly a c) (stmts_eq xs ys)
stmts_eq (Write t x e ∷ xs) (Write u y f ∷ ys) = regroup_assign (tag_eq t u) (same x y) ((eqs.ghosts).eq e f) _ _ (stmts_eq xs ys)
stmts_eq (Store t x i e ∷ xs) (Store u y j f ∷ ys) =
    regroup_store (tag_eq t u) (same x y) ((eqs.ghosts).eq i j) ((eqs.ghosts).eq e f) _ _ (stmts_eq xs ys)
stmts_eq _ _ = refl

pub blocks_eq : (xs ys : List Stmt) → pointwise (stmt_eqs.ghosts).eq xs ys ≡ same (block_code (body_of xs)) (block_code (body_of ys))
blocks_eq xs ys = stmts_eq xs ys ∙ sym (exactly (body_of xs) (body_of ys))
