use Rattle.std.proofs.Common.{arith, inl}
use Rattle.std.proofs.lemmas.Result.{IfOk-weaker}
use Rattle.hpr_refusals.specs.declared.files.Refusal.TheVariants.{Shape, Syntax}
use Rattle.hpr_kit.specs.Tags.{Suffices}
use Rattle.hpr_kit.proofs.tag.tag_bytes.Goals as goal

pub returns-in-Err-Syntax : goal.returns-in-Err-Syntax
returns-in-Err-Syntax c =
    let place = rw c.in-Err-Syntax.field-0-is at c.in-Err-Syntax.ensures.syntax in
    let serials = rw c.in-Err-Syntax.field-0-is at c.in-Err-Syntax.ensures.suffice in
    let suffices : Suffices c.args.author c.args.bytes.now = record { short = omega (arith, c.if-bytes-gt-MAX_FILE.false); serials = serials } in
    IfOk-weaker c.refused-in-Err-Syntax.result _ _ (λ reply is. inl (Syntax c.in-Err-Syntax.place, (suffices, place), is)) c.refused-in-Err-Syntax.ensures

pub returns-in-Err-Shape : goal.returns-in-Err-Shape
returns-in-Err-Shape c =
    let shape = rw c.in-Err-Shape.field-0-is at c.in-Err-Shape.ensures.shape in
    let serials = rw c.in-Err-Shape.field-0-is at c.in-Err-Shape.ensures.suffice in
    let suffices : Suffices c.args.author c.args.bytes.now = record { short = omega (arith, c.if-bytes-gt-MAX_FILE.false); serials = serials } in
    IfOk-weaker c.refused-in-Err-Shape.result _ _ (λ reply is. inl (Shape c.in-Err-Shape.error, (suffices, shape), is)) c.refused-in-Err-Shape.ensures
