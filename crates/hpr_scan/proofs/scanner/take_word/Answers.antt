use Rattle.std.proofs.lemmas.Result.{err_from_is_err_and}
use Rattle.hpr_scan.specs.Words.{word_token}
use Rattle.hpr_scan.proofs.Words.{fault_stops}
use Rattle.hpr_scan.proofs.scanner.take_word.Goals as goal

pub returns-in_err-token : goal.returns-in_err-token
returns-in_err-token g c =
    let p = err_from_is_err_and c.from_residual.result c.from_residual.ensures.1 in
    rw (p.1, p.2) (fault_stops g.M.TokenMachine.next g.met.M.TokenMachine.laws c.args.machine.now (word_token c.args.word.now) c.in_err-token.field-0.0 c.in_err-token.ensures)
