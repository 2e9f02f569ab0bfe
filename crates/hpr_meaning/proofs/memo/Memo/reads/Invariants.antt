use Rattle.std.proofs.Common.{◌≡◌, map}
use Rattle.hpr_meaning.specs.Notes.{read_at}
use Rattle.hpr_meaning.proofs.memo.Memo.reads.Given as goal

abbrev pub invariant-loop-name : goal.invariant-loop-name
invariant-loop-name l = l.reads.items ≡ map (read_at l.state l.self) l.yielded
