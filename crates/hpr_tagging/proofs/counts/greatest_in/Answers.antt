use Rattle.std.proofs.Common.{ℕ, max, sym, ap, ◌∙◌}
use Rattle.hpr_tagging.proofs.Steps.{greatest_turn, greatest_over}
use Rattle.hpr_tagging.proofs.counts.greatest_in.Goals as goal

pub loop-lexeme-preserved : goal.loop-lexeme-preserved
loop-lexeme-preserved c =
    let l = c.loop-lexeme in
    greatest_turn c.args.author l.two_before l.before c.args.lexemes.now l.lexeme-index _ l.most c.max-most.result c.loop-lexeme-test.true
    (c.max-most.ensures ∙ ap (λ (k : ℕ). max k l.most) c.serial_in.ensures)
    ∙ l.invariant

pub returns : goal.returns
returns c =
    let l = c.loop-lexeme in
    sym (greatest_over c.args.author l.two_before l.before c.args.lexemes.now l.lexeme-index l.most c.loop-lexeme-test.false) ∙ l.invariant
