-- Pruned programs: a program without what a set of vertices lacks.
--
-- BlockLeft V body rest == rest is the block without each part whose vertex isn't in V, with all that stands
--                          in it
-- NamesLeft V xs ys     == ys are those of the names xs whose Final vertex is in V, in their order
-- IsPruned V p q        == q is the program p without those parts and without those names; issued numbers
--                          stay
-- IsDrawn g v           == v is no Init vertex, or a flow edge of g goes from it
-- without_idle g        == g without each Init vertex, and its control edge, from which no flow edge of g
--                          goes
use Rattle.std.specs.Prelude.{◌≡◌, ℕ, List, [], ◌∷◌}
use Rattle.hpr_terms.specs.declared.tag.Tag.{Tag}
use Rattle.hpr_terms.specs.declared.expr.Expr.{Expr}
use Rattle.hpr_syntax.specs.declared.rows.Content.TheVariants.{If, While}
use Rattle.hpr_syntax.specs.Action.{Action}
use Rattle.hpr_syntax.specs.Rows.{content_by}
use Rattle.hpr_syntax.specs.Body.{Body, done, action, branch, loop}
use Rattle.hpr_syntax.specs.Tree.{Tree}
use Rattle.hpr_graph.specs.declared.vertex.Vertex.{Vertex}
use Rattle.hpr_graph.specs.declared.vertex.Vertex.TheVariants.{Entry, Init, Part, Final}
use Rattle.hpr_graph.specs.declared.edge.Edge.{Edge}
use Rattle.hpr_graph.specs.Graphs.{Graph, restrict_to}
use Rattle.hpr_graph.specs.Slices.{Leads}

pub data BlockLeft (V : Vertex → Type 0) : Body → Body → Type 0 where
  ended : BlockLeft V done done
  action_kept : {t : Tag} {d : Action} {k k' : Body} → V (Part t (content_by d)) → BlockLeft V k k' → BlockLeft V (action t d k) (action t d k')
  action_out : {t : Tag} {d : Action} {k k' : Body} → ¬ V (Part t (content_by d)) → BlockLeft V k k' → BlockLeft V (action t d k) k'
  branch_kept : {t : Tag} {e : Expr} {a a' b b' k k' : Body} → V (Part t (If e)) → BlockLeft V a a' → BlockLeft V b b' → BlockLeft V k k'
      → BlockLeft V (branch t e a b k) (branch t e a' b' k')
  branch_out : {t : Tag} {e : Expr} {a b k k' : Body} → ¬ V (Part t (If e)) → BlockLeft V k k' → BlockLeft V (branch t e a b k) k'
  loop_kept : {t : Tag} {e : Expr} {b b' k k' : Body} → V (Part t (While e)) → BlockLeft V b b' → BlockLeft V k k'
      → BlockLeft V (loop t e b k) (loop t e b' k')
  loop_out : {t : Tag} {e : Expr} {b k k' : Body} → ¬ V (Part t (While e)) → BlockLeft V k k' → BlockLeft V (loop t e b k) k'

pub data NamesLeft (V : Vertex → Type 0) : List (List ℕ) → List (List ℕ) → Type 0 where
  none : NamesLeft V [] []
  name_kept : {x : List ℕ} {xs ys : List (List ℕ)} → V (Final x) → NamesLeft V xs ys → NamesLeft V (x ∷ xs) (x ∷ ys)
  name_out : {x : List ℕ} {xs ys : List (List ℕ)} → ¬ V (Final x) → NamesLeft V xs ys → NamesLeft V (x ∷ xs) ys

pub record IsPruned (V : Vertex → Type 0) (p q : Tree) : Type 0 where
  pub issued : q.issued ≡ p.issued
  pub body : BlockLeft V p.body q.body
  pub finals : NamesLeft V p.finals q.finals

abbrev pub IsDrawn : Graph → Vertex → Type 0
IsDrawn g Entry = Unit {0}
IsDrawn g (Init x) = (e : Edge) × g.edge e × Leads e.kind × (e.from ≡ Init x)
IsDrawn g (Part t c) = Unit {0}
IsDrawn g (Final x) = Unit {0}

abbrev pub without_idle : Graph → Graph
without_idle g = restrict_to g (IsDrawn g)
