use Rattle.std.proofs.Common.{map}
use Rattle.hpr_inputs.proofs.StateLemmas.{Taken}
use Rattle.hpr_inputs.proofs.states.read_state.Given as goal

abbrev pub invariant-loop-word : goal.invariant-loop-word
invariant-loop-word l = Taken (map (λ w. w.now) l.words) l.word-index l.state
