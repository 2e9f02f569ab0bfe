use Rattle.std.proofs.Common.{◌∷◌, get_or, arith}
use Rattle.std.proofs.lemmas.Grind.{common_steps}
use Rattle.hpr_terms.specs.declared.tag.Tag.{Tag}
use Rattle.hpr_syntax.proofs.SetLemmas.{with_tag}
use Rattle.hpr_syntax.proofs.shape.first_repeated.Goals as goal

pub loop-tag-preserved : goal.loop-tag-preserved
loop-tag-preserved c =
    let earlier = c.loop-tag.invariant.0 in
    let same = c.loop-tag.invariant.1 in
    let had = c.loop-tag.invariant.2 in
    let t : Tag = get_or c.args.tags.now c.loop-tag.tag-index (record { author = 0; serial = 0 }) in
    let h = had t in
    (t ∷ earlier, grind (arith, common_steps, same, h), λ u. with_tag t u _ _ earlier (c.in_ok-insert.ensures.updates.0 u) (had u))
