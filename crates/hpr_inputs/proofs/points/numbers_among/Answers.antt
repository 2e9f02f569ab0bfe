use Rattle.std.proofs.Common.{◌+◌, List, ℕ, arith, map, string_bytes, subst, sym, ap, ◌∙◌}
use Rattle.std.proofs.lemmas.List.{length-map}
use Rattle.hpr_inputs.specs.Points.{point_text}
use Rattle.hpr_inputs.proofs.PointLemmas.{AreNumbersTo, all_numbers, fails, named_next, text_at, unnamed_next}
use Rattle.hpr_inputs.proofs.points.numbers_among.Goals as goal
use Rattle.hpr_inputs.proofs.points.numbers_among.Goals.{then-has+in_ok-push, else-has}

pub loop-at-preserved : goal.loop-at-preserved
loop-at-preserved c =
    let texts = map point_text c.args.vertices.now in
    let words = map (λ w. w.now) c.args.words.now in
    let i = c.loop-at.at in
    let text = string_bytes c.in_ok-text.text in
    let here = text_at point_text c.args.vertices.now i c.index-vertices-at.result text c.loop-at-test.true c.index-vertices-at.is c.in_ok-text.ensures in
    let tells = c.has.ensures words c.in_ok-named.ensures in
    let P : List ℕ → Type 0 = λ ns. AreNumbersTo texts words ns (i + 1) in
    elim c.if-has.branch [
      | then-has+in_ok-push w ↦ subst P (sym w.in_ok-push.ensures.items ∙ sym (ap (λ v. v.items) w.numbers-is))
          (named_next texts words c.loop-at.numbers.items i text here c.loop-at.invariant (tells.0 w.if-has.true))
      | else-has w ↦ subst P (sym (ap (λ v. v.items) w.numbers-is))
          (unnamed_next texts words c.loop-at.numbers.items i text here c.loop-at.invariant (fails c.has.result _ tells w.if-has.false))
    ]

pub returns : goal.returns
returns c =
    all_numbers (map point_text c.args.vertices.now) (map (λ w. w.now) c.args.words.now) c.loop-at.numbers.items c.loop-at.at
    (omega (arith, c.loop-at-test.false, c.loop-at.auto.at-end, length-map c.args.vertices.now point_text)) c.loop-at.invariant
