-- Statements of another language. A tool numbers their texts: one number for one text with all that gives it
-- its meaning, and no number for two. hpr is handed the number and the names that the text uses, in their
-- order, as an expression: the number, and each name behind a `%`, as `7 % x % y`. What hpr's own operators
-- make of it doesn't matter.
--
-- Form                  == what a statement does: it defines a name, or it decides a conditional or a loop
-- Statement             == the form, the number of the text, and the names that it uses
-- with_names e names    == the expression, and then each of the names behind a `%`
-- foreign k names       == the expression of the text with the number k that uses these names
-- content_by_form f e   == what the part of this form says, by its expression
-- statement_content s   == what the statement's part says
-- defined_by f          == the name that a statement of this form defines, if it defines one
-- number_in t           == the number with which the term begins, if it begins with one
-- opaque gives holds stable == the meaning in which a part gives what its text's number gives of the values
--                              of the names that it uses
use Rattle.std.specs.Prelude.{◌≡◌, ℕ, Bool, List, [], ◌∷◌, Option, Some, None, Result}
use Rattle.hpr_terms.specs.Term.{Term, num, var, infix'}
use Rattle.hpr_terms.specs.TermOf.{term_of}
use Rattle.hpr_terms.specs.declared.expr.Binary.TheVariants.{Rem}
use Rattle.hpr_terms.specs.declared.expr.Expr.{Expr}
use Rattle.hpr_terms.specs.declared.expr.Expr.TheVariants.{Num, Infix}
use Rattle.hpr_syntax.specs.declared.rows.Content.{Content}
use Rattle.hpr_syntax.specs.declared.rows.Content.TheVariants.{Assign, If, While}
use Rattle.hpr_syntax.specs.Rows.{expr_in}
use Rattle.hpr_any.specs.MeaningOf.{MeaningOf}

pub data Form : Type 0 where
  defines : (name : List ℕ) → Form
  decides : Form
  repeats : Form

pub record Statement : Type 0 where
  pub form : Form
  pub number : ℕ
  pub uses : List (List ℕ)

abbrev pub with_names : Expr → List (List ℕ) → Expr
with_names e [] = e
with_names e (x ∷ xs) = with_names (Infix Rem (term_of e) (var x)) xs

abbrev pub foreign : ℕ → List (List ℕ) → Expr
foreign k names = with_names (Num k) names

abbrev pub content_by_form : Form → Expr → Content
content_by_form (defines x) e = Assign x e
content_by_form decides e = If e
content_by_form repeats e = While e

abbrev pub statement_content : Statement → Content
statement_content s = content_by_form s.form (foreign s.number s.uses)

abbrev pub defined_by : Form → Option (List ℕ)
defined_by (defines x) = Some x
defined_by decides = None
defined_by repeats = None

abbrev pub number_in : Term → Option ℕ
number_in (num n) = Some n
number_in (infix' op a b) = number_in a
number_in _ = None

abbrev pub opaque : {V F : Type 0} → (Option ℕ → List V → Result V F) → (V → Bool) → ((v w : V) → ¬ (¬ (v ≡ w)) → v ≡ w) → MeaningOf V F
opaque gives holds stable = record { gives = λ c values. gives (number_in (term_of (expr_in c))) values; holds = holds; stable = stable }
