use Rattle.std.proofs.Common.{◌≡◌, ◌++◌, ◌∙◌, ℕ, List, Contains, sym, ap, subst}
use Rattle.hpr_search.specs.Rows.{numbers_at}
use Rattle.hpr_reach.proofs.Lives.{live_of_mark, mark_of_live}
use Rattle.hpr_reach.proofs.live.is_live.Goals as goal

pub returns : goal.returns
returns c =
    let s = c.args.succ.now in
    let x = c.args.name.now in
    let points = c.deref.result.now in
    let users : List ℕ = numbers_at c.args.users.now c.args.at in
    let are : points ≡ users = c.deref.ensures.value ∙ c.in_ok-push_steps.ensures.pushed ∙ ap (λ (ps : List ℕ). ps ++ users) c.new-points.ensures.items in (
      (λ t.
          let (u, has, m) = c.has_any.ensures.0 t in
          live_of_mark s x u ((c.in_ok-row.ensures.exact u).0 m) ((c.requires.users u).0 (subst (λ (ps : List ℕ). Contains ps u) are has))),
      (λ live.
          let (u, within, m, used) = mark_of_live s x c.in_ok-row.row c.in_ok-row.ensures.exact live in
          c.has_any.ensures.1 (u, subst (λ (ps : List ℕ). Contains ps u) (sym are) ((c.requires.users u).1 used), m)),
    )
