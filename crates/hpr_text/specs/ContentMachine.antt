-- The machine that reads the tokens of a content and of the `;` behind it.
--
-- content_of aim e             == the content that the expression e makes
-- content_ends aim o           == the content ends with this expression, if there is one
-- content_goes_on state o      == an expression goes on, in the state that its reading tells
-- content_index_begins x       == the index of a store into the array of the name x begins
-- content_index_ends array k o == the index of a store ends with this expression, if there is one, which has
--                                 k operators
-- NAME_next t                  == the state after the token t at that place, if the token can stand there
-- content_next s t             == the state after the token, if the token can stand next
-- content_may_end s            == the content and its `;` were read
-- content_read s               == the content, if its `;` was read
use Rattle.std.specs.Prelude.{ℕ, Bool, true, false, if◌then◌else◌, List, Option, Some, None}
use Rattle.hpr_terms.specs.declared.expr.Expr.{Expr}
use Rattle.hpr_terms.specs.declared.keyword.Keyword.TheVariants as keyword
use Rattle.hpr_terms.specs.declared.token.Sign.TheVariants.{Becomes, OpenSquare, CloseSquare, Semicolon}
use Rattle.hpr_terms.specs.declared.token.Token.{Token}
use Rattle.hpr_terms.specs.declared.token.Token.TheVariants.{Word, Name, Mark}
use Rattle.hpr_terms.specs.Names.{stream, is_name, array_of}
use Rattle.hpr_syntax.specs.declared.rows.Content.{Content}
use Rattle.hpr_syntax.specs.declared.rows.Content.TheVariants as content
use Rattle.hpr_expressions.specs.declared.expression.Reading.{Reading}
use Rattle.hpr_text.specs.declared.content.Aim.{Aim}
use Rattle.hpr_text.specs.declared.content.Aim.TheVariants.{Assign, Test, Guard, Output, Store}
use Rattle.hpr_text.specs.declared.content.ContentState.{ContentState}
use Rattle.hpr_text.specs.declared.content.ContentState.TheVariants.{Start, AfterTarget, InIndex, AfterIndex, InExpression, Ended}
use Rattle.hpr_expressions.specs.Expression.{start, start_after, counted_in, read, ended, can_end}

abbrev pub content_of : Aim → Expr → Content
content_of (Assign x) e = content.Assign x e
content_of Test e = content.If e
content_of Guard e = content.While e
content_of Output e = content.Write stream e
content_of (Store a i) e = content.Store a i e

abbrev pub content_ends : Aim → Option Expr → Option ContentState
content_ends aim None = None
content_ends aim (Some e) = Some (Ended (content_of aim e))

abbrev pub content_goes_on : (Reading → ContentState) → Option Reading → Option ContentState
content_goes_on state None = None
content_goes_on state (Some r) = Some (state r)

abbrev pub content_index_begins : List ℕ → Option ContentState
content_index_begins x = if is_name x then Some (InIndex (array_of x) start) else None

abbrev pub content_index_ends : List ℕ → ℕ → Option Expr → Option ContentState
content_index_ends a k None = None
content_index_ends a k (Some i) = Some (AfterIndex a i k)

abbrev pub begin_next : Token → Option ContentState
begin_next (Name x) = Some (AfterTarget x)
begin_next (Word keyword.If) = Some (InExpression Test start)
begin_next (Word keyword.While) = Some (InExpression Guard start)
begin_next (Word keyword.Write) = Some (InExpression Output start)
begin_next _ = None

abbrev pub target_next : List ℕ → Token → Option ContentState
target_next x (Mark Becomes) = Some (InExpression (Assign x) start)
target_next x (Mark OpenSquare) = content_index_begins x
target_next x _ = None

-- a bracket ends the index where none is open in it
abbrev pub in_index_next : List ℕ → Reading → Token → Option ContentState
in_index_next a r (Mark CloseSquare) =
    if can_end r then content_index_ends a (counted_in r) (ended r) else content_goes_on (InIndex a) (read r (Mark CloseSquare))
in_index_next a r t = content_goes_on (InIndex a) (read r t)

abbrev pub index_next : List ℕ → Expr → ℕ → Token → Option ContentState
index_next a i k (Mark Becomes) = Some (InExpression (Store a i) (start_after k))
index_next a i k _ = None

abbrev pub inside_next : Aim → Reading → Token → Option ContentState
inside_next aim r (Mark Semicolon) = content_ends aim (ended r)
inside_next aim r t = content_goes_on (InExpression aim) (read r t)

unfoldable pub content_next : ContentState → Token → Option ContentState
content_next Start t = begin_next t
content_next (AfterTarget x) t = target_next x t
content_next (InIndex a r) t = in_index_next a r t
content_next (AfterIndex a i k) t = index_next a i k t
content_next (InExpression aim r) t = inside_next aim r t
content_next (Ended c) t = None

abbrev pub content_read : ContentState → Option Content
content_read (Ended c) = Some c
content_read _ = None

abbrev pub content_may_end : ContentState → Bool
content_may_end (Ended c) = true
content_may_end _ = false
