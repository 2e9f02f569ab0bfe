use Rattle.std.proofs.Common.{◌≡◌, ℕ, zero, suc, Bool, true, false, Some, None, List, [], ◌∷◌, ◌++◌, slice_get, refl, ap, ◌∙◌, arith}
use Rattle.hpr_forest.specs.Trees.{Slot}
use Rattle.hpr_order.specs.declared.building.Branches.{Branches}
use Rattle.hpr_order.specs.declared.building.Pending.{Pending}
use Rattle.hpr_order.specs.Building.{row_in, row_at}
use Rattle.hpr_order.proofs.building.Pending.new.Goals as goal

blank_more : (bs more : List Branches) (both : Branches) → both.first.items ≡ [] → both.second.items ≡ [] → more ≡ bs ++ both ∷ [] → ((c : ℕ) (b : Bool) → row_in (slice_get bs c) b ≡ []) → (c : ℕ) (b : Bool) → row_in (slice_get more c) b ≡ []
blank_more bs more both first second is before c b = ap (λ (xs : List Branches). row_in (slice_get xs c) b) is ∙ go bs c b before
  where
    go : (xs : List Branches) (k : ℕ) (f : Bool) → ((c : ℕ) (b : Bool) → row_in (slice_get xs c) b ≡ []) → row_in (slice_get (xs ++ both ∷ []) k) f ≡ []
    go [] zero true blank = first
    go [] zero false blank = second
    go [] (suc k) f blank = refl
    go (x ∷ xs) zero f blank = blank 0 f
    go (x ∷ xs) (suc k) f blank = go xs k f (λ c b. blank (suc c) b)

nowhere : (p : Pending) → p.top.items ≡ [] → ((c : ℕ) (b : Bool) → row_in (slice_get p.branches.items c) b ≡ []) → (v : Slot) → row_at p v ≡ []
nowhere p top inside None = top
nowhere p top inside (Some (c, b)) = inside c b

pub loop-preserved : goal.loop-preserved
loop-preserved c = record {
  len = omega (arith, c.in_ok-push.ensures.len, c.loop.invariant.len);
  none = blank_more c.loop.branches.items c.push.new.self.items (record { first = c.new.result; second = c.new-in-loop.result }) c.new.ensures.items c.new-in-loop.ensures.items c.in_ok-push.ensures.items c.loop.invariant.none;
}

pub returns-clause-none : goal.returns-clause-none
returns-clause-none c = nowhere (record { top = c.new-2.result; branches = c.loop.branches }) c.new-2.ensures.items c.loop.invariant.none
