use Rattle.std.proofs.Common.{◌≡◌, ◌≤◌, Some, ap, sym, refl, ◌∙◌, subst}
use Rattle.std.specs.Option.{unwrap_or}
use Rattle.hpr_syntax.specs.Body.{done}
use Rattle.hpr_syntax.specs.BodyOf.{before}
use Rattle.hpr_syntax.specs.Parts.{find_stmt}
use Rattle.hpr_syntax.specs.Rows.{made}
use Rattle.hpr_edit.specs.Changes.{at_part, wrapped}
use Rattle.hpr_edit.specs.InPlace.{times, placing}
use Rattle.hpr_edit.proofs.Exchanged.{exchanged_again, once_exchanged}
use Rattle.hpr_edit.proofs.put.put_round.Goals as goal

pub replace-requires : goal.replace-requires
replace-requires c =
    let t = c.args.tag in
    let b = c.args.body.now in
    record {
      once = subst (λ x. times t x ≤ 1) (sym c.replace-part.ensures.changed) (once_exchanged t b c.stand_in.result c.requires.once (find_stmt t b) refl c.stand_in.ensures.once);
    }

pub returns : goal.returns
returns c =
    let t = c.args.tag in
    let b = c.args.body.now in
    let d = c.stand_in.result in
    let s = unwrap_or (find_stmt t b) d in
    let whole = c.into_stmt-whole.result in
    let is : whole ≡ made c.args.new c.args.content (before s done) done =
    c.into_stmt-whole.ensures
    ∙ ap (λ x. made c.args.new c.args.content x c.empty.result) (c.alone.ensures ∙ ap (λ p. before p done) c.replace-part.ensures.part)
    ∙ ap (made c.args.new c.args.content (before s done)) c.empty.ensures in
    c.replace.ensures.changed
    ∙ ap (at_part t (placing (Some whole))) c.replace-part.ensures.changed
    ∙ exchanged_again t b d c.requires.once (find_stmt t b) refl (wrapped c.args.new c.args.content) (placing (Some whole)) c.stand_in.ensures.tag (λ r. ap (λ p. before p r) is)
