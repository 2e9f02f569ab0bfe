use Rattle.std.proofs.Common.{sym, subst, arith}
use Rattle.hpr_search.specs.Rows.{IsPushed, numbers_of}
use Rattle.hpr_search.proofs.RowLaws.{pushed_at, rows_with}
use Rattle.hpr_search.proofs.RowLists.{length_rows}
use Rattle.hpr_region.proofs.tables.push_at.Goals as goal

pub returns-clause-pushed : goal.returns-clause-pushed
returns-clause-pushed c =
    subst (IsPushed (numbers_of c.args.rows.now.items) c.args.at c.args.number) (sym (rows_with _ _ _ _ _ c.requires c.index_mut-row.ensures.value c.in_ok-push.ensures.items))
    (pushed_at (numbers_of c.args.rows.now.items) c.args.at c.args.number (omega (arith, c.requires, length_rows c.args.rows.now.items)))

pub returns-clause-exact : goal.returns-clause-exact
returns-clause-exact c = rows_with _ _ _ _ _ c.requires c.index_mut-row.ensures.value c.in_ok-push.ensures.items
