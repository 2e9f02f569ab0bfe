use Rattle.std.proofs.Common.{◌∙◌}
use Rattle.hpr_search.proofs.RowLists.{length_rows}
use Rattle.hpr_search.proofs.rows.Rows.blank.Goals as goal

pub invariant_of-result : goal.invariant_of-result
invariant_of-result c = λ at n h. absurd (c.in_ok-rows.ensures.blank at n h)

pub returns-clause-count : goal.returns-clause-count
returns-clause-count c = length_rows c.in_ok-rows.rows.items ∙ c.in_ok-rows.ensures.count
