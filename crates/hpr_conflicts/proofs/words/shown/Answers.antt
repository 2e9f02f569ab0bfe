use Rattle.std.proofs.Common.{◌++◌, ◌∙◌, codes, ap, ℕ, List}
use Rattle.hpr_terms.specs.Texts.{tag_text}
use Rattle.hpr_syntax.specs.Print.{content_text}
use Rattle.hpr_conflicts.specs.Sentences.{shown}
use Rattle.hpr_conflicts.proofs.Pieces.{four}
use Rattle.hpr_conflicts.proofs.words.shown.Goals as goal

pub returns-in_ok-format-in-Part : goal.returns-in_ok-format-in-Part
unfolding shown
returns-in_ok-format-in-Part c =
    let tag = tag_text c.in-Part.tag in
    rw c.in-Part.is
    (c.in_ok-format-in-Part.ensures.ok ∙ ap (λ (s : List ℕ). tag ++ (codes " (" ++ (s ++ codes ")"))) c.in_ok-said-in-Part.ensures
    ∙ four tag (codes " (") (content_text c.in-Part.content) (codes ")"))
