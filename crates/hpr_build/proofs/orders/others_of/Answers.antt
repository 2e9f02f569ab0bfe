use Rattle.std.proofs.Common.{◌≡◌, ℕ, ◌-◌, ◌<◌, List, Some, length, get_or, sym, ap, ◌∙◌, arith}
use Rattle.std.proofs.lemmas.Option.{slice_get-get_or}
use Rattle.hpr_build.specs.declared.places.Span.{Span}
use Rattle.hpr_build.specs.Places.{Place, others_at, others_of}
use Rattle.hpr_build.proofs.orders.others_of.Goals as goal

others_read : (places : List Place) (p : ℕ) (x : Place) (others : List Span) → p - 1 < length places → x ≡ get_or places (p - 1) x → others ≡ x.others
    → others ≡ others_at places p
others_read places p x others l is same = same ∙ ap others_of (sym (slice_get-get_or places (p - 1) x l ∙ ap Some (sym is)))

pub returns : goal.returns
returns c =
    others_read c.args.places.now c.args.part c.index-places-part.result c.deref.result.now (omega (arith, c.requires.first, c.requires.last))
    c.index-places-part.is
    (c.deref.ensures.value ∙ ap (λ (x : Place). x.others) c.place.view_is)
