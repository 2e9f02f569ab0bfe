use Rattle.std.proofs.Common.{ℕ, ◌∷◌, [], append_assoc, replicate}
use Rattle.std.proofs.lemmas.List.{replicate_more}
use Rattle.hpr_kit.proofs.put.put_blanks.Goals as goal

pub loop-preserved : goal.loop-preserved
loop-preserved c = cc (c.in_ok-put.ensures, c.loop.invariant, append_assoc c.args.text.now.items (replicate c.loop.counter 32) (32 ∷ []), replicate_more {X = ℕ} c.loop.counter 32)
