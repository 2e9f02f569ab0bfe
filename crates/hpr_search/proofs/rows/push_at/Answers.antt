use Rattle.std.proofs.Common.{◌≡◌, rules, set}
use Rattle.hpr_search.specs.Rows.{numbers_of}
use Rattle.hpr_search.proofs.RowLaws.{rows_same, rows_with}
use Rattle.hpr_search.proofs.rows.push_at.Goals as goal

pub returns-in_err-push-clause-err : goal.returns-in_err-push-clause-err
returns-in_err-push-clause-err c =
    let same : numbers_of (set c.args.rows.now.items c.args.at c.push.new.self) ≡ numbers_of c.args.rows.now.items =
    rows_same _ _ _ _ c.requires c.index_mut-row.ensures.value c.in_err-push.ensures.items in
    search (rules, same)

pub returns-clause-ok : goal.returns-clause-ok
returns-clause-ok c = rows_with _ _ _ _ _ c.requires c.index_mut-row.ensures.value c.in_ok-push.ensures.items
