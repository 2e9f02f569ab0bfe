use Rattle.std.proofs.Common.{◌++◌, ◌∙◌, codes, ap, ap₂, ℕ, List, map}
use Rattle.hpr_conflicts.specs.Sentences.{meaning, points_text, sentence}
use Rattle.hpr_conflicts.proofs.Pieces.{five}
use Rattle.hpr_conflicts.proofs.words.sentence.Goals as goal

pub returns : goal.returns
unfolding sentence
returns c =
    let beside = codes "beside the other changes, and not in " in
    let matters = codes " alone, this matters to " in
    let colon = codes ": " in
    let file = c.args.file.now in
    c.in_ok-format.ensures.ok
    ∙ ap₂ (λ (a b : List ℕ). beside ++ (file ++ (matters ++ (b ++ (colon ++ a))))) c.in_ok-what.ensures c.in_ok-whom.ensures
    ∙ ap (λ (s : List ℕ). beside ++ s) (five file matters (points_text (map (λ p. p.now) c.args.points.now)) colon (meaning c.args.edge.now))
