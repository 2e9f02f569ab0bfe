use Rattle.std.proofs.Common.{◌≡◌, ◌+◌, ◌∷◌, ◌∙◌, ap, drop, get_or, map, sym, add-one}
use Rattle.std.specs.Prelude.{zip}
use Rattle.hpr_located.specs.Sources.{standing_of}
use Rattle.hpr_interference.specs.Answers.{conflict_data}
use Rattle.hpr_interference.proofs.Listed.{told_all, told_more, zip_done, zip_next}
use Rattle.hpr_interference.proofs.shown.conflict_values.Goals as goal

pub loop-at-preserved : goal.loop-at-preserved
loop-at-preserved c =
    let cs = c.args.conflicts.now in
    let ns = c.args.numbers.now in
    let i = c.loop-at.at in
    let x = c.index-conflicts-at.result in
    let n = get_or ns i 0 in
    let next : drop i (zip cs ns) ≡ (x, n) ∷ drop (i + 1) (zip cs ns) =
    zip_next cs ns i x c.requires c.loop-at-test.true c.index-conflicts-at.is ∙ ap (λ k. (x, n) ∷ drop k (zip cs ns)) (sym (add-one i)) in
    told_more c.loop-at.values.items c.push.new.self.items c.in_ok-value.value c.in_ok-push.ensures.items
    (conflict_data (map standing_of c.args.sources.now)) (zip cs ns)
    (drop i (zip cs ns)) (drop (i + 1) (zip cs ns)) (x, n) next c.loop-at.invariant c.in_ok-value.ensures

pub returns : goal.returns
returns c =
    let cs = c.args.conflicts.now in
    let ns = c.args.numbers.now in
    told_all (conflict_data (map standing_of c.args.sources.now)) (zip cs ns) (drop c.loop-at.at (zip cs ns)) c.loop-at.values.items
    (zip_done cs ns c.loop-at.at c.loop-at-test.false) c.loop-at.invariant
