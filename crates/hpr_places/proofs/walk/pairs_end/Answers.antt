use Rattle.std.proofs.Common.{◌≡◌, true, sym, ap, subst, ◌∙◌}
use Rattle.hpr_places.specs.Private.Walk.{after_pair, has_comma, PairsEnd, last, more}
use Rattle.hpr_places.proofs.walk.pairs_end.Goals as goal

pub loop-comma-preserved : goal.loop-comma-preserved
loop-comma-preserved c =
    let bytes = c.args.bytes.now in
    let so : has_comma bytes c.loop-comma.at ≡ true = sym c.has_comma.ensures.comma ∙ c.loop-comma-test.true in
    let e = c.after_pair-at.ensures.place ∙ ap (after_pair bytes) c.signed-comma.ensures.place in
    (c.after_pair-at.ensures.within, λ m h. c.loop-comma.invariant.1 m (more so (subst (λ k. PairsEnd bytes k m) e h)))

pub returns-clause-pairs : goal.returns-clause-pairs
returns-clause-pairs c = c.loop-comma.invariant.1 c.loop-comma.at (last (sym c.has_comma.ensures.comma ∙ c.loop-comma-test.false))
