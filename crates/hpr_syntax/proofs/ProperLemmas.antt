-- A block's names and numbers are those of its statements.
use Rattle.hpr_terms.specs.declared.tag.Tag.{Tag}
use Rattle.hpr_syntax.specs.declared.tree.Stmt.{Stmt}
use Rattle.hpr_syntax.specs.declared.tree.Stmt.TheVariants.{If, Store}
use Rattle.hpr_syntax.specs.Action.{Action, assigns, writes, stores}
use Rattle.hpr_syntax.specs.Body.{Body, done, action}
use Rattle.hpr_syntax.specs.BodyOf.{before}
use Rattle.hpr_syntax.specs.Rows.{content_by}
use Rattle.hpr_syntax.specs.Proper.{IsProperTag, IsProperContent, IsProperBody}

pub proper_before : (s : Stmt) (rest : Body) → IsProperBody (before s done) → IsProperBody rest → IsProperBody (before s rest)
proper_before (If t e a b) rest h r = (h.0, h.1, h.2, h.3, r)
proper_before (Store t x i e) rest h r = (h.0, h.1, h.2, h.3, r)
proper_before s rest h r = (h.0, h.1, h.2, r)

pub proper_action : (t : Tag) (d : Action) (rest : Body) → IsProperTag t → IsProperContent (content_by d) → IsProperBody rest → IsProperBody (action t d rest)
proper_action t (assigns x e) rest tag said more = (tag, said.0, said.1, more)
proper_action t (writes x e) rest tag said more = (tag, said.0, said.1, more)
proper_action t (stores x i e) rest tag said more = (tag, said.0, said.1, said.2, more)
