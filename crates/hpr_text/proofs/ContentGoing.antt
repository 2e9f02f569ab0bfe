-- A content goes on where its expression does, and an expression ends where it can.
use Rattle.std.proofs.Common.{◌≡◌, ℕ, List, Option, Some, None, is_some, refl}
use Rattle.hpr_terms.specs.declared.expr.Expr.{Expr}
use Rattle.hpr_expressions.specs.declared.expression.Reading.{Reading}
use Rattle.hpr_text.specs.declared.content.Aim.{Aim}
use Rattle.hpr_text.specs.declared.content.ContentState.{ContentState}
use Rattle.hpr_text.specs.ContentMachine.{content_goes_on, content_ends, content_index_ends}

pub content_goes_on_is_some : (state : Reading → ContentState) (o : Option Reading) → is_some (content_goes_on state o) ≡ is_some o
content_goes_on_is_some state None = refl
content_goes_on_is_some state (Some r) = refl

pub content_ends_is_some : (aim : Aim) (o : Option Expr) → is_some (content_ends aim o) ≡ is_some o
content_ends_is_some aim None = refl
content_ends_is_some aim (Some e) = refl

pub content_index_ends_is_some : (a : List ℕ) (k : ℕ) (o : Option Expr) → is_some (content_index_ends a k o) ≡ is_some o
content_index_ends_is_some a k None = refl
content_index_ends_is_some a k (Some i) = refl
