use Rattle.std.proofs.Common.{◌+◌, ◌∙◌, ℕ, List, [], ◌∷◌, ◌++◌, ap, sym, subst, arith}
use Rattle.std.proofs.lemmas.List.{append-nil, drop_all}
use Rattle.hpr_graph.specs.Numbered.{Numbered, HasVertex}
use Rattle.hpr_graph.proofs.Lists.{never}
use Rattle.hpr_prune.proofs.Lists.{AreLeftTo, all_names, names_more, names_same}
use Rattle.hpr_prune.proofs.left.names_left.Goals as goal
use Rattle.hpr_prune.proofs.left.names_left.Goals.{then-branch+in_ok-copy+in_ok-push, else-branch}

abbrev AreLeft : Numbered → List (List ℕ) → ℕ → List (List ℕ) → Type 0
AreLeft g names i left = AreLeftTo (HasVertex g) names i left

pub loop-name-preserved : goal.loop-name-preserved
loop-name-preserved c =
    elim c.if-branch.branch [
      | then-branch+in_ok-copy+in_ok-push w ↦
          subst (AreLeft c.args.slice.now c.args.names.now (c.loop-name.name-index + 1))
          (ap (λ x. c.loop-name.left.items ++ x ∷ []) (sym w.in_ok-copy.ensures) ∙ sym (w.in_ok-push.ensures.items) ∙ sym (ap (λ v. v.items) w.left-is))
          (names_more (HasVertex c.args.slice.now) c.args.names.now c.loop-name.name-index c.name-item.result c.loop-name.left.items c.loop-name-test.true c.name-item.is
          c.loop-name.invariant (c.in_ok-has_final.ensures.0 w.if-branch.true))
      | else-branch w ↦
          subst (AreLeft c.args.slice.now c.args.names.now (c.loop-name.name-index + 1)) (sym (ap (λ v. v.items) w.left-is))
          (names_same (HasVertex c.args.slice.now) c.args.names.now c.loop-name.name-index c.name-item.result c.loop-name.left.items c.loop-name-test.true c.name-item.is
          c.loop-name.invariant (λ has. never _ (c.in_ok-has_final.ensures.1 has) w.if-branch.false))
    ]

pub returns : goal.returns
returns c =
    all_names (HasVertex c.args.slice.now) c.args.names.now c.loop-name.name-index c.loop-name.left.items
    (drop_all c.loop-name.name-index c.args.names.now (omega (arith, c.loop-name-test.false))) (append-nil c.loop-name.left.items) c.loop-name.invariant
