use Rattle.std.proofs.Common.{◌∙◌, ◌∷◌, ap, ap₂, sym}
use Rattle.hpr_syntax.specs.BodyOf.{before}
use Rattle.hpr_syntax.specs.Issued.{raised}
use Rattle.hpr_edit.specs.Changes.{from}
use Rattle.hpr_sample.specs.Draws.{draw}
use Rattle.hpr_sample.proofs.SamplePrograms.{drawn_program, drawn_variant}
use Rattle.hpr_sample.proofs.variant.with_part.Goals as goal

pub from_parts-requires : goal.from_parts-requires
from_parts-requires c =
    drawn_program c.args.base.now c.args.author c.args.text.now c.args.sign c.args.words.now _ _ _ _ _ _
    (ap (λ n. draw n c.args.words.now) (sym c.places.ensures) ∙ c.draw-place.ensures.drawn) c.draw-left.ensures.drawn c.draw-right.ensures.drawn c.requires _ _ _
    (c.in_ok-issued.ensures ∙ ap (raised c.args.author 1) c.issued.ensures.issued)
    (c.in_ok-body.ensures ∙ ap₂ (λ s b. from c.draw-place.result (before s) b) c.in_ok-part.ensures c.body.ensures.body)
    (c.in_ok-finals.ensures ∙ ap (λ ns. c.args.text.now ∷ ns) c.finals.ensures.finals)

pub returns : goal.returns
returns c =
    drawn_variant c.args.base.now c.args.author c.args.text.now c.args.sign c.args.words.now _ _ _ _ _ _
    (ap (λ n. draw n c.args.words.now) (sym c.places.ensures) ∙ c.draw-place.ensures.drawn) c.draw-left.ensures.drawn c.draw-right.ensures.drawn _ _ _
    (c.in_ok-issued.ensures ∙ ap (raised c.args.author 1) c.issued.ensures.issued)
    (c.in_ok-body.ensures ∙ ap₂ (λ s b. from c.draw-place.result (before s) b) c.in_ok-part.ensures c.body.ensures.body)
    (c.in_ok-finals.ensures ∙ ap (λ ns. c.args.text.now ∷ ns) c.finals.ensures.finals)
    ∙ ap (λ t. record { made = t; words = c.draw-right.new.words }) (sym c.from_parts.ensures)
