use Rattle.std.proofs.Common.{◌≡◌, reverse, vec_len}
use Rattle.hpr_expressions.specs.Pending as pending
use Rattle.hpr_expressions.proofs.pending.Prefixes.before.Given as goal

abbrev pub invariant-loop-op : goal.invariant-loop-op
invariant-loop-op l = pending.prefixed (reverse l.self-inside.ops.items) l.value ≡ pending.prefixed l.fn.self l.fn.value

abbrev pub decreases-loop-op : goal.decreases-loop-op
decreases-loop-op l = vec_len l.self-inside.ops
