use Rattle.std.proofs.Common.{inr, refl}
use Rattle.hpr_kit.proofs.EndsLemmas.{said_unwritten}
use Rattle.hpr_kit.proofs.write.rewrite_file.Goals as goal

pub returns-in-Err-Failed : goal.returns-in-Err-Failed
returns-in-Err-Failed g c =
    inr (said_unwritten _ _ c.args.file.now c.unwritten.result c.write_stop.result (rw c.in-Err-Failed.is at c.rewrite.ensures.kept)
    (c.rewrite.ensures.count.rose (rw c.in-Err-Failed.is (rw c.in-Err-Failed.field-0-is refl))) c.unwritten.ensures c.write_stop.ensures.status c.write_stop.ensures.says)
