use Rattle.std.proofs.Common.{◌∙◌, ap, Err, ℕ}
use Rattle.std.proofs.lemmas.Result.{err_from_is_err_and}
use Rattle.hpr_script.specs.declared.scanner.Reader.{Reader}
use Rattle.hpr_script.proofs.Places.{reads_none, reads_more, place_from, err_is, of_err}
use Rattle.hpr_script.proofs.Scripts.{script_place, commands_answer, place_answer}
use Rattle.hpr_script.proofs.reader.read_script.Goals as goal

pub loop-at-init : goal.loop-at-init
loop-at-init c = reads_none c.args.bytes.now c.new.result c.new.ensures

pub returns-in_err-next-clause-syntax : goal.returns-in_err-next-clause-syntax
returns-in_err-next-clause-syntax c =
    let p = err_from_is_err_and c.from_residual.result c.from_residual.ensures.1 in
    err_is _ c.from_residual.result c.in_err-next.field-0.0 (p.1 ∙ ap Err p.2)
    (of_err (Reader × ℕ) _ _ (λ n h. script_place c.args.bytes.now n (place_from c.args.bytes.now c.loop-at.at n c.loop-at.reader c.loop-at.invariant h)) c.in_err-next.field-0.0 c.in_err-next.ensures.syntax)

pub loop-at-preserved : goal.loop-at-preserved
loop-at-preserved c = reads_more c.args.bytes.now c.loop-at.at c.in_ok-next.end c.loop-at.reader c.in_ok-next.next c.loop-at.invariant c.in_ok-next.ensures.leads

pub returns-clause-spelled : goal.returns-clause-spelled
returns-clause-spelled c =
    commands_answer _ c.args.bytes.now c.loop-at.at c.loop-at.reader c.ended.result c.loop-at.invariant c.loop-at-test.false c.ended.ensures.commands c.ended.ensures.ends

pub returns-clause-syntax : goal.returns-clause-syntax
returns-clause-syntax c = place_answer c.args.bytes.now c.loop-at.at c.loop-at.reader c.ended.result c.loop-at.invariant c.loop-at-test.false c.ended.ensures.ends
