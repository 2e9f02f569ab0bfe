use Rattle.hpr_scan.specs.Steps.{Moves}
use Rattle.hpr_scan.proofs.Runs.{word_taken, byte_taken, took_by}
use Rattle.hpr_scan.proofs.scanner.Scanner.advance.Goals as goal

pub returns-in-Some : goal.returns-in-Some
returns-in-Some g c =
    let next = g.M.TokenMachine.next in
    let self = c.args.self.now in
    let w = c.in-Some.word.now in
    rw c.advanced.ensures
    (took_by next self c.feed_word-step.new.self c.args.bytes.now _ c.feed_word-step.result
    (word_taken next g.met.M.TokenMachine.laws self c.args.bytes.now w (λ o. Moves o c.feed_word-step.new.self c.feed_word-step.result) c.in-Some.ensures.gap c.in-Some.ensures.word c.feed_word-step.ensures))

pub returns : goal.returns
returns g c =
    let next = g.M.TokenMachine.next in
    let self = c.args.self.now in
    rw c.advanced-2.ensures
    (took_by next self c.feed-step.new.self c.args.bytes.now 0 c.feed-step.result
    (byte_taken next self c.args.bytes.now (λ o. Moves o c.feed-step.new.self c.feed-step.result) c.requires c.feed-step.ensures))
