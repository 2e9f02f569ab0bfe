-- What a part says tells the statement of another language that it is, and its meaning gets the statement's number alone.
use Rattle.std.proofs.Common.{◌≡◌, ◌↔◌, ℕ, List, [], ◌∷◌, ◌++◌, Bool, Option, Some, Result, refl, sym, ap, ◌∙◌, append_assoc, append-nil}
use Rattle.hpr_terms.specs.Term.{var}
use Rattle.hpr_terms.specs.TermOf.{term_of}
use Rattle.hpr_terms.specs.Uses.{names_in}
use Rattle.hpr_terms.specs.declared.expr.Binary.TheVariants.{Rem}
use Rattle.hpr_terms.specs.declared.expr.Expr.{Expr}
use Rattle.hpr_terms.specs.declared.expr.Expr.TheVariants.{Infix}
use Rattle.hpr_syntax.specs.declared.rows.Content.{Content}
use Rattle.hpr_syntax.specs.declared.rows.Content.TheVariants.{Assign, If, While, Write, Store}
use Rattle.hpr_syntax.specs.Contents.{used_names}
use Rattle.hpr_syntax.specs.Rows.{assigned, expr_in}
use Rattle.hpr_any.specs.Opaque.{Form, Statement, defines, decides, repeats, with_names, foreign, content_by_form, statement_content, defined_by, number_in, opaque}

number_behind : (e : Expr) (xs : List (List ℕ)) → number_in (term_of (with_names e xs)) ≡ number_in (term_of e)
number_behind e [] = refl
number_behind e (x ∷ xs) = number_behind (Infix Rem (term_of e) (var x)) xs

names_behind : (e : Expr) (xs : List (List ℕ)) → names_in (term_of (with_names e xs)) ≡ names_in (term_of e) ++ xs
names_behind e [] = sym (append-nil (names_in (term_of e)))
names_behind e (x ∷ xs) = names_behind (Infix Rem (term_of e) (var x)) xs ∙ append_assoc (names_in (term_of e)) (x ∷ []) xs

used_by_form : (f : Form) (k : ℕ) (xs : List (List ℕ)) → used_names (content_by_form f (foreign k xs)) ≡ xs
used_by_form (defines x) k xs = names_behind (foreign k []) xs
used_by_form decides k xs = names_behind (foreign k []) xs
used_by_form repeats k xs = names_behind (foreign k []) xs

pub uses_listed : (s : Statement) → used_names (statement_content s) ≡ s.uses
uses_listed s = used_by_form s.form s.number s.uses

defined_as : (f : Form) (e : Expr) → assigned (content_by_form f e) ≡ defined_by f
defined_as (defines x) e = refl
defined_as decides e = refl
defined_as repeats e = refl

pub defines_named : (s : Statement) → assigned (statement_content s) ≡ defined_by s.form
defines_named s = defined_as s.form (foreign s.number s.uses)

said_by_form : (f : Form) (e : Expr) → expr_in (content_by_form f e) ≡ e
said_by_form (defines x) e = refl
said_by_form decides e = refl
said_by_form repeats e = refl

pub number_said : (s : Statement) → number_in (term_of (expr_in (statement_content s))) ≡ Some s.number
number_said s = ap (λ e. number_in (term_of e)) (said_by_form s.form (foreign s.number s.uses)) ∙ number_behind (foreign s.number []) s.uses

-- the form of what a part says
form_in : Content → Form
form_in (Assign x e) = defines x
form_in (If e) = decides
form_in (While e) = repeats
form_in (Write x e) = defines x
form_in (Store x i e) = defines x

form_back : (f : Form) (e : Expr) → form_in (content_by_form f e) ≡ f
unfolding form_in
form_back (defines x) e = refl
form_back decides e = refl
form_back repeats e = refl

one_number : (k l : ℕ) → Some k ≡ Some l → k ≡ l
one_number k l e = cc

same_statement : (s t : Statement) → statement_content s ≡ statement_content t → s ≡ t
same_statement s t p =
    let forms : s.form ≡ t.form = sym (form_back s.form (foreign s.number s.uses)) ∙ ap form_in p ∙ form_back t.form (foreign t.number t.uses) in
    let numbers : s.number ≡ t.number = one_number s.number t.number (sym (number_said s) ∙ ap (λ c. number_in (term_of (expr_in c))) p ∙ number_said t) in
    let uses : s.uses ≡ t.uses = sym (uses_listed s) ∙ ap used_names p ∙ uses_listed t in
    (λ i. record { form = forms i; number = numbers i; uses = uses i })

pub told_apart : (s t : Statement) → (statement_content s ≡ statement_content t) ↔ (s ≡ t)
told_apart s t = (same_statement s t, λ e. ap statement_content e)

pub given_by_number : {V F : Type 0} (gives : Option ℕ → List V → Result V F) (holds : V → Bool) (stable : (v w : V) → ¬ (¬ (v ≡ w)) → v ≡ w) (s : Statement) (values : List V)
    → (opaque gives holds stable).gives (statement_content s) values ≡ gives (Some s.number) values
given_by_number gives holds stable s values = ap (λ k. gives k values) (number_said s)
