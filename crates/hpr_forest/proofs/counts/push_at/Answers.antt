use Rattle.hpr_forest.proofs.Counted.{row_kept, row_pushed}
use Rattle.hpr_forest.proofs.counts.push_at.Goals as goal

pub returns-clause-here : goal.returns-clause-here
returns-clause-here c = row_pushed c.args.rows.now.items c.args.at c.args.number _ _ c.requires c.index_mut-row.ensures.value c.in_ok-push.ensures.items

pub returns-clause-others : goal.returns-clause-others
returns-clause-others c = λ k ne. row_kept c.args.rows.now.items c.args.at k _ ne
