use Rattle.std.proofs.Common.{◌∷◌, [], append_assoc}
use Rattle.hpr_syntax.specs.Print.{indent}
use Rattle.hpr_print.proofs.Texts.{more_indent}
use Rattle.hpr_print.proofs.blocks.put_indent.Goals as goal

pub loop-preserved : goal.loop-preserved
loop-preserved c = cc (c.in_ok-put.ensures, c.loop.invariant, append_assoc c.args.out.now.items (indent c.loop.counter) (32 ∷ 32 ∷ []), more_indent c.loop.counter)
