use Rattle.std.proofs.Common.{◌≡◌, arith, rules, set}
use Rattle.hpr_graph.specs.Numbered.{rows_of}
use Rattle.hpr_graph.proofs.Rows.{rows_same, rows_new}
use Rattle.hpr_graph.proofs.draft.push_at.Goals as goal

pub returns-in_err-push-clause-err : goal.returns-in_err-push-clause-err
returns-in_err-push-clause-err c =
    let same : rows_of (set c.args.links.now.items c.args.to c.push.new.self) ≡ rows_of c.args.links.now.items =
    rows_same _ _ _ _ (omega arith) c.index_mut-row.ensures.value c.in_err-push.ensures.items in
    search (rules, same)

pub returns-clause-ok : goal.returns-clause-ok
returns-clause-ok c = rows_new _ _ _ _ _ (omega arith) c.index_mut-row.ensures.value c.in_ok-push.ensures.items
