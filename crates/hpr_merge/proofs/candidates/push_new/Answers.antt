use Rattle.std.proofs.Common.{◌≡◌, ◌++◌, ◌∷◌, [], Contains, get_or, sym, ap, ◌∙◌}
use Rattle.hpr_slice.specs.Neighbours.{Follows}
use Rattle.hpr_merge.proofs.NewLinks.{no_link, pushed_put, pushed_skip, pushed_whole}
use Rattle.hpr_merge.proofs.candidates.push_new.Goals as goal
use Rattle.hpr_merge.proofs.candidates.push_new.Goals.{then-is_followed+then-not-has_sorted+in_ok-push, else-is_followed}
use Rattle.hpr_merge.proofs.candidates.push_new.Goals.{else-is_followed-via-then-is_followed+else-not-has_sorted, else-is_followed-via-else-is_followed}

pub loop-link-preserved : goal.loop-link-preserved
loop-link-preserved c =
    let ls = c.args.links.now in
    let known = c.args.known.now in
    let i = c.loop-link.link-index in
    let old = c.args.into.now.items in
    let now = c.loop-link.into.items in
    elim c.if-is_followed.branch [
      | then-is_followed+then-not-has_sorted+in_ok-push w ↦
          let into : c.if-is_followed.into.items ≡ now ++ (get_or ls i no_link).from ∷ [] = ap (λ o. o.items) w.into-is ∙ w.in_ok-push.ensures.items in
          let follows : Follows (get_or ls i no_link).kind = sym c.is_followed.ensures ∙ w.if-is_followed.true in
          rw into (pushed_put ls known i no_link c.loop-link-test.true old now c.loop-link.invariant follows
          (λ h. (let t = w.has_sorted.ensures.1 h in let f = w.if-not-has_sorted.true in cc)))
      | else-is_followed w ↦
          let into : c.if-is_followed.into.items ≡ now = ap (λ o. o.items) w.into-is in
          let one : Follows (get_or ls i no_link).kind → Contains known (get_or ls i no_link) = elim w.else-is_followed.branch [
            | else-is_followed-via-then-is_followed+else-not-has_sorted x ↦ λ f. x.has_sorted.ensures.0 x.if-not-has_sorted.false
            | else-is_followed-via-else-is_followed x ↦ λ f. absurd (let t = c.is_followed.ensures in let n = x.if-is_followed.false in cc)
          ] in
          rw into (pushed_skip ls known i no_link c.loop-link-test.true old now c.loop-link.invariant one)
    ]

pub returns-clause-only : goal.returns-clause-only
returns-clause-only c = (pushed_whole c.args.links.now c.args.known.now c.loop-link.link-index c.args.into.now.items c.loop-link.into.items
    c.loop-link-test.false c.loop-link.invariant).only

pub returns-clause-all : goal.returns-clause-all
returns-clause-all c = (pushed_whole c.args.links.now c.args.known.now c.loop-link.link-index c.args.into.now.items c.loop-link.into.items
    c.loop-link-test.false c.loop-link.invariant).all
