use Rattle.std.proofs.Common.{◌++◌, ◌∷◌, [], ◌<◌, ◌+◌, ℕ, List, All, Contains, sym, subst, below_more}
use Rattle.std.proofs.lemmas.List.Elements.{All-push, Contains-push, Contains-append_left}
use Rattle.hpr_impact.proofs.impact.numbers_below.Goals as goal

pub loop-number-preserved : goal.loop-number-preserved
loop-number-preserved c =
    let old = c.loop-number.numbers.items in
    let n = c.loop-number.number in
    record {
      within = subst (All (λ k. k < c.args.count)) (sym c.in_ok-push.ensures.items) (All-push (λ k. k < c.args.count) old n c.loop-number.invariant.within c.loop-number-test.true);
      all =
          subst (λ (xs : List ℕ). (k : ℕ) → k < n + 1 → Contains xs k) (sym c.in_ok-push.ensures.items)
          (below_more (Contains (old ++ n ∷ [])) n (λ k l. Contains-append_left old (n ∷ []) k (c.loop-number.invariant.all k l)) (Contains-push old n));
    }
