use Rattle.std.proofs.Common.{◌∙◌, sym}
use Rattle.std.proofs.lemmas.Result.{err_from_is_err_and}
use Rattle.hpr_scan.proofs.Loop.{scan_end, scan_reads}
use Rattle.hpr_scan.proofs.Place.{refusal_is, fault_behind, too_early_is}
use Rattle.hpr_scan.proofs.reader.read.Goals as goal

pub returns-in_err-scanner-clause-place : goal.returns-in_err-scanner-clause-place
returns-in_err-scanner-clause-place g c =
    let m = g.M.TokenMachine in
    let p = err_from_is_err_and c.from_residual.result c.from_residual.ensures.1 in
    rw (p.1, p.2)
    (refusal_is m.next m.may_end g.met.M.TokenMachine.laws g.met.M.TokenMachine.live c.args.machine c.args.bytes.now c.in_err-scanner.field-0.0 c.in_err-scanner.ensures)

pub returns-in-Err-clause-place : goal.returns-in-Err-clause-place
returns-in-Err-clause-place g c =
    let m = g.M.TokenMachine in
    rw c.refused.ensures
    (fault_behind m.next m.may_end g.met.M.TokenMachine.laws g.met.M.TokenMachine.live c.args.machine c.args.bytes.now c.in_ok-scanner.scanner c.in-Err.fault c.in_ok-scanner.ensures c.in-Err.ensures)

pub returns-then-can_end-clause-reads : goal.returns-then-can_end-clause-reads
returns-then-can_end-clause-reads g c =
    let next = g.M.TokenMachine.next in
    scan_reads next g.met.M.TokenMachine.laws c.args.machine c.in-Ok.machine c.args.bytes.now
    (scan_end next c.args.bytes.now c.args.machine c.in_ok-scanner.scanner c.in_ok-scanner.ensures ∙ c.in-Ok.ensures)

pub returns-else-can_end-clause-place : goal.returns-else-can_end-clause-place
returns-else-can_end-clause-place g c =
    let m = g.M.TokenMachine in
    too_early_is m.next m.may_end g.met.M.TokenMachine.laws g.met.M.TokenMachine.live c.args.machine c.in-Ok.machine c.args.bytes.now c.in_ok-scanner.scanner c.in_ok-scanner.ensures
    c.in-Ok.ensures (sym c.can_end.ensures ∙ c.if-can_end.false)
