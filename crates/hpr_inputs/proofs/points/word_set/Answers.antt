use Rattle.std.proofs.Common.{map, subst}
use Rattle.std.proofs.lemmas.List.{take_all}
use Rattle.hpr_inputs.specs.ReadsPoints.{AddsText, HasTexts}
use Rattle.hpr_inputs.proofs.PointLemmas.{texts_more_at}
use Rattle.hpr_inputs.proofs.points.word_set.Goals as goal

pub loop-word-preserved : goal.loop-word-preserved
loop-word-preserved c =
    texts_more_at (λ w. w.now) c.args.words.now c.loop-word.set c.insert.new.set c.loop-word.word-index _ c.loop-word-test.true
    c.loop-word.invariant (subst (AddsText c.loop-word.set c.insert.new.set) c.in_ok-from_str.ensures.ok c.in_ok-insert.ensures)

pub returns : goal.returns
returns c = subst (λ ws. HasTexts c.loop-word.set (map (λ w. w.now) ws)) (take_all c.loop-word.word-index c.args.words.now c.loop-word-test.false) c.loop-word.invariant
