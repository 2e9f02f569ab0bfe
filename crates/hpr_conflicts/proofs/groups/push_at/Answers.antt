use Rattle.hpr_search.proofs.RowLaws.{rows_with}
use Rattle.hpr_conflicts.proofs.groups.push_at.Goals as goal

pub returns : goal.returns
returns c = rows_with _ _ _ _ _ c.requires c.index_mut-row.ensures.value c.in_ok-push.ensures.items
