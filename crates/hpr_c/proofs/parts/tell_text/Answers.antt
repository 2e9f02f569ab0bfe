use Rattle.hpr_refusals.specs.declared.files.Refusal.TheVariants as refusal
use Rattle.hpr_c.proofs.PlacesLemmas.{refusal_told}
use Rattle.hpr_c.proofs.parts.tell_text.Goals as goal

pub returns-in-Err-Syntax-clause-refused : goal.returns-in-Err-Syntax-clause-refused
returns-in-Err-Syntax-clause-refused c =
    refusal_told c.refused_line-in-Err-Syntax.result (λ line. line.number) (λ line. line.text.items) c.args.text.now
    (refusal.Syntax c.in-Err-Syntax.place)
    (c.if-text-gt-MAX_FILE.false, (rw c.in-Err-Syntax.field-0-is at c.in-Err-Syntax.ensures.syntax)) c.refused_line-in-Err-Syntax.ensures.text

pub returns-in-Err-Shape-clause-refused : goal.returns-in-Err-Shape-clause-refused
returns-in-Err-Shape-clause-refused c =
    refusal_told c.refused_line-in-Err-Shape.result (λ line. line.number) (λ line. line.text.items) c.args.text.now
    (refusal.Shape c.in-Err-Shape.error)
    (c.if-text-gt-MAX_FILE.false, (rw c.in-Err-Shape.field-0-is at c.in-Err-Shape.ensures.shape)) c.refused_line-in-Err-Shape.ensures.text
