use Rattle.std.proofs.Common.{◌≡◌, ◌-◌, true, false, IsTrue, inl, inr, length, refl, sym, ◌∙◌, arith}
use Rattle.std.proofs.lemmas.Option.{slice_get_read}
use Rattle.hpr_order.proofs.ManyRanks.{base_more, first_at}
use Rattle.hpr_order.proofs.ranking.first_changed.Goals as goal

pub returns-then-not-is_same : goal.returns-then-not-is_same
returns-then-not-is_same c =
    let variants = c.args.variants.now in
    first_at c.args.base.now variants c.loop-variant.variant-index c.variant-item.result c.loop-variant.invariant
    (slice_get_read variants _ c.loop-variant.variant-index c.variant-item.result refl c.loop-variant-test.true c.variant-item.is)
    (inl (λ same. (let is : IsTrue c.is_same.result = c.is_same.ensures.1 same in let no : true ≡ false = sym is ∙ c.if-not-is_same.true in cc)))

pub loop-variant-preserved : goal.loop-variant-preserved
loop-variant-preserved c =
    let variants = c.args.variants.now in
    base_more c.args.base.now variants c.loop-variant.variant-index c.variant-item.result c.loop-variant.invariant
    (slice_get_read variants _ c.loop-variant.variant-index c.variant-item.result refl c.loop-variant-test.true c.variant-item.is)
    (c.is_same.ensures.0 c.if-not-is_same.false)

pub returns : goal.returns
returns c =
    let variants = c.args.variants.now in
    let last = c.index-variants-variants.result in
    first_at c.args.base.now variants (length variants - 1) last
    (λ k w l is. c.loop-variant.invariant k w (omega (arith, l, c.requires, c.loop-variant-test.false)) is)
    (slice_get_read variants _ (length variants - 1) last refl (omega (arith, c.requires)) c.index-variants-variants.is)
    (inr (omega (arith, c.requires)))
