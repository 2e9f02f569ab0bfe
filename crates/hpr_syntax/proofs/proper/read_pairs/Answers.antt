use Rattle.std.proofs.Common.{subst, arith, get_or}
use Rattle.std.proofs.lemmas.List.{get_or_default}
use borrow.Author.Count.{below_more}
use Rattle.hpr_syntax.specs.Proper.{IsProperPair}
use Rattle.hpr_syntax.proofs.proper.read_pairs.Goals as goal

pub loop-row-preserved : goal.loop-row-preserved
loop-row-preserved c =
    below_more (λ k. IsProperPair (get_or c.args.rows.now k (0, 0))) c.loop-row.row-index c.loop-row.invariant c.read_pair.ensures

pub returns : goal.returns
returns c =
    λ k d h. subst IsProperPair (get_or_default c.args.rows.now k (0, 0) d h) (c.loop-row.invariant k (omega (arith, h, c.loop-row-test.false)))
