-- The tokens of a block's canonical text spell the block.
use Rattle.std.proofs.Common.{◌≡◌, ℕ, zero, suc, ◌+◌, ◌≤◌, List, [], ◌∷◌, ◌++◌, false, not, sym, subst, nat_lt, ◌==◌, ◌||◌, if◌then◌else◌, None, arith}
use Rattle.std.specs.Option.{option_or}
use Rattle.std.proofs.lemmas.Bool.Decides.{nat_tests}
use Rattle.hpr_terms.specs.declared.limits.TheConstants.{MAX_BRACKETS, MAX_OPERATORS}
use Rattle.hpr_terms.specs.declared.tag.Tag.{Tag}
use Rattle.hpr_terms.specs.declared.expr.Expr.{Expr}
use Rattle.hpr_terms.specs.declared.keyword.Keyword.TheVariants as keyword
use Rattle.hpr_terms.specs.declared.token.Sign.TheVariants as sign
use Rattle.hpr_terms.specs.declared.token.Token.{Token}
use Rattle.hpr_terms.specs.declared.token.Token.TheVariants.{Word, Name, Number, Mark}
use Rattle.hpr_terms.specs.Term.{operators}
use Rattle.hpr_terms.specs.TermOf.{term_of}
use Rattle.hpr_terms.specs.Names.{is_name, stream, is_stream, is_array, base_of}
use Rattle.hpr_terms.proofs.Facts.{if_none, not_is, or_false}
use Rattle.hpr_terms.proofs.Plain.{stream_is, array_parts}
use Rattle.hpr_syntax.specs.Action.{assigns, writes, stores}
use Rattle.hpr_syntax.specs.Body.{Body, done, action, branch, loop}
use Rattle.hpr_syntax.specs.Parts.{tags_of}
use Rattle.hpr_syntax.specs.Issued.{Issued, issued_to}
use Rattle.hpr_syntax.specs.Shape.{is_unissued, first_unissued, first_deep, says_large, names_wrong, is_wrong, first_where}
use Rattle.hpr_syntax.specs.Grammar as grammar
use Rattle.hpr_syntax.specs.Grammar.{tagged, IsTag, SpellsExpr, SpellsStore, SpellsParts, nothing, assignment, write, store, conditional, conditional_else, while_loop}
use Rattle.hpr_syntax.specs.Print.{is_done}
use Rattle.hpr_syntax.specs.Proper.{IsProperTerm, IsProperTag, IsProperBody}
use Rattle.hpr_syntax.proofs.NoRefusal.{or_none, none_in_action, none_in_branch, none_in_loop}
use Rattle.hpr_syntax.proofs.Shown.{shown, expr_shown}

abbrev pub label : Tag → List Token
label t = Number t.author ∷ Mark sign.Dot ∷ Number t.serial ∷ Mark sign.Colon ∷ []

abbrev pub shown_expr : Expr → List Token
shown_expr e = shown (term_of e)

-- `else` and the second block's tokens, where the block isn't empty
abbrev pub shown_else : Body → List Token → List Token
shown_else block second = if is_done block then [] else (Word keyword.Else ∷ second)

abbrev pub shown_body : Body → List Token
shown_body done = []
shown_body (action t (assigns x e) rest) = label t ++ (Name x ∷ Mark sign.Becomes ∷ (shown_expr e ++ (Mark sign.Semicolon ∷ shown_body rest)))
shown_body (action t (writes x e) rest) = label t ++ (Word keyword.Write ∷ (shown_expr e ++ (Mark sign.Semicolon ∷ shown_body rest)))
shown_body (action t (stores x i e) rest) =
    label t ++ (Name (base_of x) ∷ Mark sign.OpenSquare ∷ (shown_expr i ++ (Mark sign.CloseSquare ∷ Mark sign.Becomes ∷ (shown_expr e ++ (Mark sign.Semicolon ∷ shown_body rest)))))
shown_body (branch t e a b rest) =
    label t ++ (Word keyword.If ∷ (shown_expr e ++ (Word keyword.Then ∷ (shown_body a ++ (shown_else b (shown_body b) ++ (Word keyword.Fi ∷ shown_body rest))))))
shown_body (loop t e b rest) = label t ++ (Word keyword.While ∷ (shown_expr e ++ (Word keyword.Do ∷ (shown_body b ++ (Word keyword.Od ∷ shown_body rest)))))

-- ---- what the tests of a tree say

-- each part's serial is at least 1
abbrev pub HasSerials : Body → Type 0
HasSerials done = Unit {0}
HasSerials (action t d rest) = (1 ≤ t.serial) × HasSerials rest
HasSerials (branch t e a b rest) = (1 ≤ t.serial) × HasSerials a × HasSerials b × HasSerials rest
HasSerials (loop t e b rest) = (1 ≤ t.serial) × HasSerials b × HasSerials rest

serial_if : (s n : ℕ) → ((s == 0) || nat_lt n s) ≡ false → 1 ≤ s
serial_if s n h = grind (arith, nat_tests)

first_issued : (issued : Issued) (t : Tag) (ts : List Tag) → first_unissued issued (t ∷ ts) ≡ None → (1 ≤ t.serial) × (first_unissued issued ts ≡ None)
first_issued issued t ts h =
    let e : (is_unissued issued t ≡ false) × (first_unissued issued ts ≡ None) = if_none (is_unissued issued t) t (first_unissued issued ts) h in
    (serial_if t.serial (issued_to t.author issued) e.0, e.1)

pub has_serials : (issued : Issued) (body : Body) (after : List Tag) → first_unissued issued (tags_of body after) ≡ None → HasSerials body × (first_unissued issued after ≡ None)
has_serials issued done after h = (tt, h)
has_serials issued (action t d rest) after h =
    let i = first_issued issued t (tags_of rest after) h in
    let r = has_serials issued rest after i.1 in
    ((i.0, r.0), r.1)
has_serials issued (branch t e a b rest) after h =
    let i = first_issued issued t (tags_of a (tags_of b (tags_of rest after))) h in
    let p = has_serials issued a (tags_of b (tags_of rest after)) i.1 in
    let q = has_serials issued b (tags_of rest after) p.1 in
    let r = has_serials issued rest after q.1 in
    ((i.0, p.0, q.0, r.0), r.1)
has_serials issued (loop t e b rest) after h =
    let i = first_issued issued t (tags_of b (tags_of rest after)) h in
    let q = has_serials issued b (tags_of rest after) i.1 in
    let r = has_serials issued rest after q.1 in
    ((i.0, q.0, r.0), r.1)

few_operators : (n most : ℕ) → nat_lt most n ≡ false → n ≤ most
few_operators n most h = grind (arith, nat_tests)

expr_spelled : (e : Expr) → nat_lt MAX_OPERATORS (operators (term_of e)) ≡ false → names_wrong (term_of e) ≡ false → IsProperTerm (term_of e) → SpellsExpr (shown_expr e) e
expr_spelled e small names proper =
    let few : operators (term_of e) ≤ MAX_OPERATORS = few_operators (operators (term_of e)) MAX_OPERATORS small in
    (expr_shown (term_of e) MAX_BRACKETS proper names few, few)

store_spelled : (i e : Expr) → nat_lt MAX_OPERATORS (operators (term_of i) + operators (term_of e)) ≡ false → names_wrong (term_of i) ≡ false
    → names_wrong (term_of e) ≡ false → IsProperTerm (term_of i) → IsProperTerm (term_of e) → SpellsStore (shown_expr i) (shown_expr e) i e
store_spelled i e small in_index in_value h k =
    let few : operators (term_of i) + operators (term_of e) ≤ MAX_OPERATORS = few_operators (operators (term_of i) + operators (term_of e)) MAX_OPERATORS small in
    (expr_shown (term_of i) MAX_BRACKETS h in_index (omega (arith, few)), expr_shown (term_of e) MAX_BRACKETS k in_value (omega (arith, few)), few)

tag_is : (t : Tag) → IsProperTag t → 1 ≤ t.serial → IsTag t
tag_is t h one = (h.0, (one, h.1))

-- ---- parts

-- the block's tokens spell it, whatever number of parts stands before it
record Spelled (l : ℕ) (body : Body) : Type 0 where
  spelled : (n : ℕ) → (m : ℕ) × SpellsParts tagged l n m (shown_body body) body

branch_spelled : (l : ℕ) (t : Tag) (e : Expr) (then_part else_part rest : Body) → IsTag t → SpellsExpr (shown_expr e) e → Spelled l then_part → Spelled l else_part → Spelled (suc l) rest
    → Spelled (suc l) (branch t e then_part else_part rest)
branch_spelled l t e then_part done rest ht he hy hn hr =
    record {
      spelled = λ n.
          let y = hy.spelled (n + 1) in
          let r = hr.spelled y.0 in
          (r.0, conditional (grammar.tag ht) he y.1 r.1);
    }
branch_spelled l t e then_part else_part rest ht he hy hn hr =
    record {
      spelled = λ n.
          let y = hy.spelled (n + 1) in
          let z = hn.spelled y.0 in
          let r = hr.spelled z.0 in
          (r.0, conditional_else (grammar.tag ht) he y.1 z.1 r.1);
    }

parts_spelled : (l : ℕ) (body : Body) → IsProperBody body → HasSerials body → first_deep l body ≡ None → first_where says_large body ≡ None
    → first_where is_wrong body ≡ None → Spelled l body
parts_spelled l done h s deep large wrong = record { spelled = λ n. (n, nothing) }
parts_spelled zero (action t d rest) h s deep large wrong = absurd cc
parts_spelled zero (branch t e a b rest) h s deep large wrong = absurd cc
parts_spelled zero (loop t e b rest) h s deep large wrong = absurd cc
parts_spelled (suc l) (action t (assigns x e) rest) h s deep large wrong =
    let g = none_in_action says_large t (assigns x e) rest large in
    let w = none_in_action is_wrong t (assigns x e) rest wrong in
    let names = or_false (not (is_name x)) (names_wrong (term_of e)) w.0 in
    let more = parts_spelled (suc l) rest h.3 s.1 deep g.1 w.1 in
    record {
      spelled = λ n.
          let r = more.spelled (n + 1) in
          (r.0, assignment (grammar.tag (tag_is t h.0 s.0)) (expr_spelled e g.0 names.1 h.2) r.1);
    }
parts_spelled (suc l) (action t (writes x e) rest) h s deep large wrong =
    let g = none_in_action says_large t (writes x e) rest large in
    let w = none_in_action is_wrong t (writes x e) rest wrong in
    let names = or_false (not (is_stream x)) (names_wrong (term_of e)) w.0 in
    let is : x ≡ stream = stream_is x (not_is (is_stream x) names.0) in
    let more = parts_spelled (suc l) rest h.3 s.1 deep g.1 w.1 in
    record {
      spelled = λ n.
          let r = more.spelled (n + 1) in
          let Told : List ℕ → Type 0 = λ y. SpellsParts tagged (suc l) n r.0 (shown_body (action t (writes x e) rest)) (action t (writes y e) rest) in
          (r.0, subst Told (sym is) (write (grammar.tag (tag_is t h.0 s.0)) (expr_spelled e g.0 names.1 h.2) r.1));
    }
parts_spelled (suc l) (action t (stores x i e) rest) h s deep large wrong =
    let g = none_in_action says_large t (stores x i e) rest large in
    let w = none_in_action is_wrong t (stores x i e) rest wrong in
    let last = or_false (not (is_array x) || names_wrong (term_of i)) (names_wrong (term_of e)) w.0 in
    let names = or_false (not (is_array x)) (names_wrong (term_of i)) last.0 in
    let is = array_parts x (not_is (is_array x) names.0) in
    let more = parts_spelled (suc l) rest h.4 s.1 deep g.1 w.1 in
    record {
      spelled = λ n.
          let r = more.spelled (n + 1) in
          let Told : List ℕ → Type 0 = λ y. SpellsParts tagged (suc l) n r.0 (shown_body (action t (stores x i e) rest)) (action t (stores y i e) rest) in
          (r.0, subst Told (sym is.0) (store (base_of x) is.1 (grammar.tag (tag_is t h.0 s.0)) (store_spelled i e g.0 names.1 last.1 h.2 h.3) r.1));
    }
parts_spelled (suc l) (branch t e a b rest) h s deep large wrong =
    let g = none_in_branch says_large t e a b rest large in
    let w = none_in_branch is_wrong t e a b rest wrong in
    let da = or_none (first_deep l a) (option_or (first_deep l b) (first_deep (suc l) rest)) deep in
    let db = or_none (first_deep l b) (first_deep (suc l) rest) da.1 in
    branch_spelled l t e a b rest (tag_is t h.0 s.0) (expr_spelled e g.0 w.0 h.1) (parts_spelled l a h.2 s.1 da.0 g.1 w.1) (parts_spelled l b h.3 s.2 db.0 g.2 w.2)
    (parts_spelled (suc l) rest h.4 s.3 db.1 g.3 w.3)
parts_spelled (suc l) (loop t e b rest) h s deep large wrong =
    let g = none_in_loop says_large t e b rest large in
    let w = none_in_loop is_wrong t e b rest wrong in
    let db = or_none (first_deep l b) (first_deep (suc l) rest) deep in
    let inner = parts_spelled l b h.2 s.1 db.0 g.1 w.1 in
    let more = parts_spelled (suc l) rest h.3 s.2 db.1 g.2 w.2 in
    record {
      spelled = λ n.
          let y = inner.spelled (n + 1) in
          let r = more.spelled y.0 in
          (r.0, while_loop (grammar.tag (tag_is t h.0 s.0)) (expr_spelled e g.0 w.0 h.1) y.1 r.1);
    }

pub body_spelled : (l n : ℕ) (body : Body) → IsProperBody body → HasSerials body → first_deep l body ≡ None → first_where says_large body ≡ None
    → first_where is_wrong body ≡ None → (m : ℕ) × SpellsParts tagged l n m (shown_body body) body
body_spelled l n body h s deep large wrong = (parts_spelled l body h s deep large wrong).spelled n
