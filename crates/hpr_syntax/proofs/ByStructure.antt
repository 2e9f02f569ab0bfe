-- Contents and parts by their structure: what holds of an action holds whatever it does.
--
-- SaysBy c == what a part says is an action, or the test of a conditional or of a loop
use Rattle.std.proofs.Common.{◌≡◌, refl, sym, ap, ◌∙◌}
use Rattle.hpr_terms.specs.declared.tag.Tag.{Tag}
use Rattle.hpr_terms.specs.declared.expr.Expr.{Expr}
use Rattle.hpr_syntax.specs.declared.tree.Stmt.{Stmt}
use Rattle.hpr_syntax.specs.declared.tree.Stmt.TheVariants.{If}
use Rattle.hpr_syntax.specs.declared.rows.Content.{Content}
use Rattle.hpr_syntax.specs.declared.rows.Content.TheVariants as content
use Rattle.hpr_syntax.specs.declared.rows.Structure.TheVariants.{Simple, Conditional, Loop}
use Rattle.hpr_syntax.specs.Action.{Action, assigns, writes, stores}
use Rattle.hpr_syntax.specs.Body.{Body, done, action, branch, loop}
use Rattle.hpr_syntax.specs.BodyOf.{before}
use Rattle.hpr_syntax.specs.Parts.{tag_of}
use Rattle.hpr_syntax.specs.Rows.{content_by, stmt_by, made, structure_of}

pub data SaysBy : Content → Type 0 where
  by_action : (d : Action) → SaysBy (content_by d)
  by_test : (e : Expr) → SaysBy (content.If e)
  by_loop : (e : Expr) → SaysBy (content.While e)

pub says_by : (c : Content) → SaysBy c
says_by (content.Assign x e) = by_action (assigns x e)
says_by (content.If e) = by_test e
says_by (content.While e) = by_loop e
says_by (content.Write x e) = by_action (writes x e)
says_by (content.Store x i e) = by_action (stores x i e)

-- an action has no blocks
pub structure_by : (d : Action) → structure_of (content_by d) ≡ Simple
structure_by (assigns x e) = refl
structure_by (writes x e) = refl
structure_by (stores x i e) = refl

pub no_test : (d : Action) (e : Expr) → ¬ (content_by d ≡ content.If e)
no_test d e is = let no : Simple ≡ Conditional = sym (structure_by d) ∙ ap structure_of is in absurd cc

pub no_loop : (d : Action) (e : Expr) → ¬ (content_by d ≡ content.While e)
no_loop d e is = let no : Simple ≡ Loop = sym (structure_by d) ∙ ap structure_of is in absurd cc

pub content_inj : (d d' : Action) → content_by d ≡ content_by d' → d ≡ d'
content_inj (assigns x e) (assigns y f) is = cc
content_inj (writes x e) (writes y f) is = cc
content_inj (stores x i e) (stores y j f) is = cc
content_inj _ _ is = absurd cc

pub tag_stmt : (t : Tag) (d : Action) → tag_of (stmt_by t d) ≡ t
tag_stmt t (assigns x e) = refl
tag_stmt t (writes x e) = refl
tag_stmt t (stores x i e) = refl

pub before_stmt : (t : Tag) (d : Action) (rest : Body) → before (stmt_by t d) rest ≡ action t d rest
before_stmt t (assigns x e) rest = refl
before_stmt t (writes x e) rest = refl
before_stmt t (stores x i e) rest = refl

pub before_by : (t : Tag) (d : Action) (a b rest : Body) → before (made t (content_by d) a b) rest ≡ action t d rest
before_by t (assigns x e) a b rest = refl
before_by t (writes x e) a b rest = refl
before_by t (stores x i e) a b rest = refl

-- a block with other parts behind its first
abbrev with_rest : Body → Body → Body
with_rest done more = done
with_rest (action t d rest) more = action t d more
with_rest (branch t e a b rest) more = branch t e a b more
with_rest (loop t e b rest) more = loop t e b more

before_rest : (s : Stmt) (rest : Body) → with_rest (before s done) rest ≡ before s rest
before_rest (If t e a b) rest = refl
before_rest s rest = refl

pub same_before : (s r : Stmt) (rest : Body) → before s done ≡ before r done → before s rest ≡ before r rest
same_before s r rest is = sym (before_rest s rest) ∙ ap (λ (b : Body). with_rest b rest) is ∙ before_rest r rest
