-- The rows of a block, cut behind its first part.
use Rattle.std.proofs.Common.{◌≡◌, ℕ, ◌+◌, List, [], ◌∷◌, ◌++◌, refl, append_assoc, ap, arith, drop, drop-cons, get_or, length, suc, sym, ◌<◌, ◌∙◌}
use Rattle.std.proofs.lemmas.List.{append-nil}
use Rattle.hpr_syntax.specs.declared.tree.Stmt.{Stmt}
use Rattle.hpr_syntax.specs.declared.tree.Stmt.TheVariants.{If, While}
use Rattle.hpr_syntax.specs.declared.rows.Row.{Row}
use Rattle.hpr_syntax.specs.Body.{Body, done}
use Rattle.hpr_syntax.specs.BodyOf.{before, body_of}
use Rattle.hpr_syntax.specs.Rows.{Parent, rows_of}

pub rows_before : (p : Parent) (i : ℕ) (s : Stmt) (rest : Body) → rows_of p i (before s rest) ≡ rows_of p i (before s done) ++ rows_of p (i + 1) rest
rows_before p i (If t e a b) rest = simp append_assoc
rows_before p i (While t e b) rest = simp append_assoc
rows_before p i s rest = refl

-- a row, and then the rows of one block, or of two
pub with_one : (old : List Row) (row : Row) (a : List Row) → (old ++ (row ∷ [])) ++ a ≡ old ++ (row ∷ (a ++ []))
with_one old row a = append_assoc old (row ∷ []) a ∙ ap (λ r. old ++ (row ∷ r)) (sym (append-nil a))

pub with_both : (old : List Row) (row : Row) (a b : List Row) → ((old ++ (row ∷ [])) ++ a) ++ b ≡ old ++ (row ∷ (a ++ b ++ []))
with_both old row a b = rw append-nil (simp append_assoc)

-- a list of statements from one place on
pub drop_turn : (stmts : List Stmt) (i : ℕ) (s : Stmt) → i < length stmts → s ≡ get_or stmts i s → body_of (drop i stmts) ≡ before s (body_of (drop (i + 1) stmts))
drop_turn stmts i s l is =
    let next : suc i ≡ i + 1 = omega arith in
    ap body_of (drop-cons stmts i s l ∙ ap (λ (t : Stmt). t ∷ drop (suc i) stmts) (sym is) ∙ ap (λ (k : ℕ). s ∷ drop k stmts) next)
