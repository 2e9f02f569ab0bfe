use Rattle.std.proofs.Common.{arith}
use Rattle.std.proofs.lemmas.Grind.{common_steps}
use Rattle.hpr_graph.proofs.Rows.{rows_pushed}
use Rattle.hpr_graph.proofs.draft.push_with_row.Goals as goal

pub returns-in-Err-clause-err_rows : goal.returns-in-Err-clause-err_rows
returns-in-Err-clause-err_rows c = grind (arith, common_steps)

pub returns-clause-row : goal.returns-clause-row
returns-clause-row c = rows_pushed c.args.links.now.items _ c.new.result c.in_ok-push.ensures.items c.new.ensures.items
