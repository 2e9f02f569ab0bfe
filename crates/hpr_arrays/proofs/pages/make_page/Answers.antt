use Rattle.std.proofs.Common.{arith, ◌∙◌}
use Rattle.hpr_arrays.proofs.Rows.{filled_or_not}
use Rattle.hpr_arrays.proofs.pages.make_page.Goals as goal

pub returns-clause-laid_out : goal.returns-clause-laid_out
returns-clause-laid_out c = (filled_or_not c.fill.result c.make_rows.new.pages.items c.args.page c.index_mut.result.now c.fill.new.row (let m = c.in_ok-make_rows.ensures.made in omega (arith, m)) c.index_mut.ensures.value c.fill.ensures.ok c.fill.ensures.err c.make_rows.ensures.laid_out).0

pub returns-clause-same : goal.returns-clause-same
returns-clause-same c = (filled_or_not c.fill.result c.make_rows.new.pages.items c.args.page c.index_mut.result.now c.fill.new.row (let m = c.in_ok-make_rows.ensures.made in omega (arith, m)) c.index_mut.ensures.value c.fill.ensures.ok c.fill.ensures.err c.make_rows.ensures.laid_out).1 ∙ c.make_rows.ensures.same

pub returns-clause-made : goal.returns-clause-made
returns-clause-made c = (filled_or_not c.fill.result c.make_rows.new.pages.items c.args.page c.index_mut.result.now c.fill.new.row (let m = c.in_ok-make_rows.ensures.made in omega (arith, m)) c.index_mut.ensures.value c.fill.ensures.ok c.fill.ensures.err c.make_rows.ensures.laid_out).2
