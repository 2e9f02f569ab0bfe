-- An expression, and the index of a store, goes on where its reading does, and ends where its reading can end.
use Rattle.std.proofs.Common.{◌≡◌, ℕ, Bool, true, false, cond, List, Option, Some, None, is_some, refl, sym}
use Rattle.hpr_terms.specs.declared.tag.Tag.{Tag}
use Rattle.hpr_terms.specs.declared.expr.Expr.{Expr}
use Rattle.hpr_terms.specs.declared.keyword.Keyword.TheVariants.{Then, Do}
use Rattle.hpr_terms.specs.declared.token.Sign.TheVariants.{Semicolon}
use Rattle.hpr_terms.specs.declared.token.Token.{Token}
use Rattle.hpr_terms.specs.declared.token.Token.TheVariants.{Word, Mark}
use Rattle.hpr_terms.specs.Names.{stream}
use Rattle.hpr_syntax.specs.Action.{assigns, writes, stores}
use Rattle.hpr_expressions.specs.Expression.{read, ended}
use Rattle.hpr_expressions.specs.declared.expression.Reading.{Reading}
use Rattle.std.proofs.lemmas.Bool.{false≢true}
use Rattle.hpr_text.specs.declared.found.Found.{Found}
use Rattle.hpr_text.specs.declared.state.Purpose.{Purpose}
use Rattle.hpr_text.specs.declared.state.Purpose.TheVariants.{Assign, Test, Guard, Output, Store}
use Rattle.hpr_text.specs.declared.state.Place.{Place}
use Rattle.hpr_text.specs.declared.state.Place.TheVariants.{AtPart, InExpression}
use Rattle.hpr_text.specs.Machine.{state_at, with_part, in_then, in_loop, goes_on, index_ends, ends_here, expression_next}
use Rattle.hpr_text.specs.Private.EndsAt.{ends_at}

pub goes_on_is_some : (f : Found) (p : Reading → Place) (o : Option Reading) → is_some (goes_on f p o) ≡ is_some o
goes_on_is_some f p None = refl
goes_on_is_some f p (Some r) = refl

pub ends_here_is_some : (l : Option ℕ) (f : Found) (p : Purpose) (o : Option Expr) → is_some (ends_here l f p o) ≡ is_some o
ends_here_is_some l f p None = refl
ends_here_is_some l f (Assign t x) (Some e) = refl
ends_here_is_some l f (Test t) (Some e) = refl
ends_here_is_some l f (Guard t) (Some e) = refl
ends_here_is_some l f (Output t) (Some e) = refl
ends_here_is_some l f (Store t a i) (Some e) = refl

pub index_ends_is_some : (f : Found) (t : Tag) (a : List ℕ) (k : ℕ) (o : Option Expr) → is_some (index_ends f t a k o) ≡ is_some o
index_ends_is_some f t a k None = refl
index_ends_is_some f t a k (Some i) = refl

pub goes_on_within : (l : Option ℕ) (f : Found) (p : Purpose) (r : Reading) (t : Token) → ends_at p t ≡ false → expression_next l f p r t ≡ goes_on f (InExpression p) (read r t)
goes_on_within l f (Assign t x) r (Mark Semicolon) e = absurd (false≢true (sym e))
goes_on_within l f (Test t) r (Word Then) e = absurd (false≢true (sym e))
goes_on_within l f (Guard t) r (Word Do) e = absurd (false≢true (sym e))
goes_on_within l f (Output t) r (Mark Semicolon) e = absurd (false≢true (sym e))
goes_on_within l f (Store t a i) r (Mark Semicolon) e = absurd (false≢true (sym e))
goes_on_within l f p r t e = refl

pub ends_within : (l : Option ℕ) (f : Found) (p : Purpose) (r : Reading) (t : Token) → ends_at p t ≡ true → expression_next l f p r t ≡ ends_here l f p (ended r)
ends_within l f (Assign t x) r (Mark Semicolon) e = refl
ends_within l f (Test t) r (Word Then) e = refl
ends_within l f (Guard t) r (Word Do) e = refl
ends_within l f (Output t) r (Mark Semicolon) e = refl
ends_within l f (Store t a i) r (Mark Semicolon) e = refl
ends_within l f p r t e = absurd (false≢true e)

-- by the answer of a test, the first step or the second
pub either_way : {S P : Type 0} (b : Bool) (o p : Option S) (n : S) → (o ≡ Some n → P) → (p ≡ Some n → P) → cond b o p ≡ Some n → P
either_way true o p n first second e = first e
either_way false o p n first second e = second e

-- ---- an expression ends for what it was read for

pub assignment_ends : (l : Option ℕ) (f g : Found) (p : Purpose) (o : Option Expr) (t : Tag) (x : List ℕ) (e : Expr) → p ≡ Assign t x → o ≡ Some e → g ≡ with_part l t (assigns x e) f
    → ends_here l f p o ≡ Some (state_at g AtPart)
assignment_ends l f g p o t x e is some made = rw (made, is, some) refl

pub test_ends : (l : Option ℕ) (f g : Found) (p : Purpose) (o : Option Expr) (t : Tag) (e : Expr) → p ≡ Test t → o ≡ Some e → g ≡ in_then t e f
    → ends_here l f p o ≡ Some (state_at g AtPart)
test_ends l f g p o t e is some made = rw (made, is, some) refl

pub guard_ends : (l : Option ℕ) (f g : Found) (p : Purpose) (o : Option Expr) (t : Tag) (e : Expr) → p ≡ Guard t → o ≡ Some e → g ≡ in_loop t e f
    → ends_here l f p o ≡ Some (state_at g AtPart)
guard_ends l f g p o t e is some made = rw (made, is, some) refl

pub output_ends : (l : Option ℕ) (f g : Found) (p : Purpose) (o : Option Expr) (t : Tag) (e : Expr) → p ≡ Output t → o ≡ Some e → g ≡ with_part l t (writes stream e) f
    → ends_here l f p o ≡ Some (state_at g AtPart)
output_ends l f g p o t e is some made = rw (made, is, some) refl

pub store_ends : (l : Option ℕ) (f g : Found) (p : Purpose) (o : Option Expr) (t : Tag) (a : List ℕ) (i : Expr) (e : Expr) → p ≡ Store t a i → o ≡ Some e → g ≡ with_part l t (stores a i e) f
    → ends_here l f p o ≡ Some (state_at g AtPart)
store_ends l f g p o t a i e is some made = rw (made, is, some) refl
