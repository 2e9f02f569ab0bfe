use Rattle.hpr_reach.proofs.Lives.{used_of_mark, mark_of_used}
use Rattle.hpr_reach.proofs.live.undefined_names.Goals as goal

pub returns : goal.returns
returns c = λ x. (
  (λ h.
      let b = (c.in_ok-push_marked.ensures x).0 h in
      (used_of_mark c.args.succ.now x b.0 ((c.in_ok-row.ensures.exact b.0).0 b.2.0) b.2.1, b.2.2)),
  (λ (used, free).
      let m = mark_of_used c.args.succ.now x c.in_ok-row.row c.in_ok-row.ensures.exact used in
      (c.in_ok-push_marked.ensures x).1 (m.0, m.1, (m.2, m.3, free))),
)
