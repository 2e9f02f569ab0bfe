use Rattle.std.proofs.Common.{arith, ◌∙◌, ap, ap₂, take}
use Rattle.std.proofs.lemmas.List.{take_rest}
use Rattle.std.proofs.lemmas.Grind.{common_steps}
use Rattle.hpr_io.specs.Taken.{taken_then}
use Rattle.hpr_io.proofs.TakenLemmas.{taken_then-next}
use Rattle.hpr_io.proofs.put_all.Goals as goal

pub loop-from-preserved : goal.loop-from-preserved
loop-from-preserved g c =
    let put = c.in_ok-from.ensures in
    record {
      within = grind (arith, common_steps, put.within);
      so_far = put.bytes ∙ ap₂ taken_then c.loop-from.invariant.so_far (ap (take c.in_ok-from.field-0) (take_rest c.args.bytes.now c.loop-from.from))
          ∙ taken_then-next (g.S.Sink.taken c.args.sink.now) c.args.bytes.now c.loop-from.from c.in_ok-from.field-0;
      quiet = grind (arith, common_steps);
    }
