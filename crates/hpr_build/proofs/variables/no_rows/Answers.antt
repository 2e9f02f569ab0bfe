use Rattle.std.proofs.Common.{arith}
use Rattle.hpr_build.proofs.NameRows.{rows_blank}
use Rattle.hpr_build.proofs.variables.no_rows.Goals as goal

pub loop-preserved : goal.loop-preserved
loop-preserved c = record {
  len = omega (arith, c.in_ok-push.ensures.len, c.loop.invariant.len);
  none = rows_blank c.loop.rows.items c.push.new.self.items c.new.result c.new.ensures.items c.in_ok-push.ensures.items c.loop.invariant.none;
}
