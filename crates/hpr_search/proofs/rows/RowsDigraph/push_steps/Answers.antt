use Rattle.std.proofs.Common.{◌<◌, List, ℕ, All, length, subst}
use Rattle.hpr_search.specs.Rows.{numbers_at}
use Rattle.hpr_search.proofs.RowLaws.{within_row}
use Rattle.hpr_search.proofs.rows.RowsDigraph.push_steps.Goals as goal

pub returns-clause-within : goal.returns-clause-within
returns-clause-within c =
    subst (λ (rows : List (List ℕ)). All (λ n. n < length rows) (numbers_at rows c.args.point)) c.self.view_is (within_row _ c.args.point c.self.invariant)
