use Rattle.std.proofs.lemmas.Result.{err_from_is_err_and}
use Rattle.hpr_inputs.proofs.StateLemmas.{more_in, refused_in}
use Rattle.hpr_inputs.proofs.states.read_state.Goals as goal

pub returns-in_err-take_word : goal.returns-in_err-take_word
returns-in_err-take_word c =
    let p = err_from_is_err_and c.from_residual.result c.from_residual.ensures.1 in
    rw (p.1, p.2) (refused_in c.args.words.now c.loop-word.word-index _ c.loop-word-test.true c.loop-word.state c.loop-word.invariant _ c.in_err-take_word.ensures)

pub loop-word-preserved : goal.loop-word-preserved
loop-word-preserved c =
    more_in c.args.words.now c.loop-word.word-index _ c.loop-word-test.true c.loop-word.state c.loop-word.invariant c.take_word.new.state c.in_ok-take_word.ensures
