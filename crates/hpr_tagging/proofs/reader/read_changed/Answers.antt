use Rattle.std.proofs.Common.{ℕ, List, subst, ◌∙◌}
use Rattle.hpr_syntax.specs.Grammar.{tagged}
use Rattle.hpr_syntax.specs.Spelling.{Spells}
use Rattle.hpr_scan.specs.Place.{IsPlace}
use Rattle.hpr_text.specs.Answers.{IsText, IsMisshapen}
use Rattle.hpr_tagging.proofs.reader.read_changed.Goals as goal

pub returns-in-Ok-clause-spelled : goal.returns-in-Ok-clause-spelled
returns-in-Ok-clause-spelled c = subst (λ (x : List ℕ). Spells tagged x c.in-Ok.program) (c.deref.ensures.value ∙ c.in_ok-kept.ensures) c.in-Ok.ensures.spelled

pub returns-in-Err-Syntax-clause-syntax : goal.returns-in-Err-Syntax-clause-syntax
returns-in-Err-Syntax-clause-syntax c =
    let refused = rw c.in-Err-Syntax.field-0-is at c.in-Err-Syntax.ensures.syntax in
    record {
      place = c.in-Err-Syntax.place;
      refused = subst (λ (x : List ℕ). IsPlace (IsText tagged) x c.in-Err-Syntax.place) (c.deref.ensures.value ∙ c.in_ok-kept.ensures) refused;
      stands = c.in_ok-place-in-Err-Syntax.ensures;
    }

pub returns-in-Err-Shape-clause-shape : goal.returns-in-Err-Shape-clause-shape
returns-in-Err-Shape-clause-shape c =
    let refused = rw c.in-Err-Shape.field-0-is at c.in-Err-Shape.ensures.shape in
    subst (λ (x : List ℕ). IsMisshapen tagged x c.in-Err-Shape.error) (c.deref.ensures.value ∙ c.in_ok-kept.ensures) refused
