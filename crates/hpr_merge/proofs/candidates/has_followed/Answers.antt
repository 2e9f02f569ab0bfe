use Rattle.std.proofs.Common.{Contains, get_or, refl}
use Rattle.hpr_slice.specs.Neighbours.{Follows}
use Rattle.hpr_merge.proofs.NewLinks.{no_link, followed_next, followed_whole}
use Rattle.hpr_merge.proofs.candidates.has_followed.Goals as goal
use Rattle.hpr_merge.proofs.candidates.has_followed.Goals.{else-is_followed-via-then-is_followed+else-not-has_sorted, else-is_followed-via-else-is_followed}

pub loop-link-preserved : goal.loop-link-preserved
loop-link-preserved c =
    let ls = c.args.links.now in
    let known = c.args.known.now in
    let i = c.loop-link.link-index in
    let one : Follows (get_or ls i no_link).kind → Contains known (get_or ls i no_link) = elim c.else-is_followed.branch [
      | else-is_followed-via-then-is_followed+else-not-has_sorted x ↦ λ f. x.has_sorted.ensures.0 x.if-not-has_sorted.false
      | else-is_followed-via-else-is_followed x ↦ λ f. absurd (let t = c.is_followed.ensures in let n = x.if-is_followed.false in cc)
    ] in
    followed_next ls known i no_link c.loop-link-test.true c.loop-link.invariant one

pub returns : goal.returns
returns c = (λ t. followed_whole c.args.links.now c.args.known.now c.loop-link.link-index c.loop-link-test.false c.loop-link.invariant, λ h. refl)
