-- Going up from items to those under which they stand.
use Rattle.std.proofs.Common.{◌≡◌, ℕ, ◌+◌, ◌<◌, ◌⊎◌, inl, inr, Bool, Some, None, List, [], ◌∷◌, ◌++◌, length, sym, ap, subst}
use Rattle.hpr_forest.specs.Trees.{Slot, above}
use Rattle.hpr_order.specs.declared.item.Item.{Item}
use Rattle.hpr_order.specs.Items.{AreSlots, slot_at}
use Rattle.hpr_order.specs.Lifting.{AreLevels, LevelUnder, LeadsTo, IsUnder, IsBelow, IsPairOver, level_of, parent_in}

module _ (items : List Item) where
  slot_of_parent : (v : Slot) (p : ℕ) → above v ≡ Some p → (b : Bool) × (v ≡ Some (p, b))
  slot_of_parent None p e = absurd cc
  slot_of_parent (Some (q, b)) p e = let same : q ≡ p = cc in (b, ap (λ z. Some (z, b)) same)

  pub up_within : AreSlots items → (k p : ℕ) → k < length items → parent_in items k ≡ Some p → p < length items
  up_within slots k p lt e = let (b, is) = slot_of_parent (slot_at items k) p e in slots k p b lt is

  pub up_level : (levels : List ℕ) → AreLevels items levels → (k p : ℕ) → k < length items → parent_in items k ≡ Some p → level_of levels k ≡ level_of levels p + 1
  up_level levels are k p lt e = subst (LevelUnder levels (level_of levels k)) e (are.under k lt)

  pub up_under : (at p k : ℕ) → parent_in items at ≡ Some p → IsUnder items at k → IsUnder items p k
  up_under at p k e (via, h) = (at ∷ via, (e, h))

  leads_then : (a b c : ℕ) (via more : List ℕ) → LeadsTo items a via b → LeadsTo items b more c → LeadsTo items a (via ++ more) c
  leads_then a b c [] more h k = subst (λ z. LeadsTo items z more c) (sym h) k
  leads_then a b c (x ∷ via) more (e, h) k = (e, leads_then x b c via more h k)

  pub under_then : (a b c : ℕ) → IsUnder items a b → IsUnder items b c → IsUnder items a c
  under_then a b c (via, h) (more, k) = (via ++ more, leads_then a b c via more h k)

  pub under_cases : (a k : ℕ) → IsUnder items a k → (a ≡ k) ⊎ IsBelow items a k
  under_cases a k ([], h) = inl h
  under_cases a k (c ∷ via, h) = inr (c, via, h)

  pub pair_first : (a b s t u : ℕ) → IsPairOver items a b s t → IsUnder items s u → IsPairOver items a b u t
  pair_first a b s t u p under = record { first = p.first; second = p.second; differ = p.differ; parents = p.parents; under_first = under_then a s u p.under_first under; under_second = p.under_second }

  pub pair_second : (a b s t u : ℕ) → IsPairOver items a b s t → IsUnder items t u → IsPairOver items a b s u
  pair_second a b s t u p under = record { first = p.first; second = p.second; differ = p.differ; parents = p.parents; under_first = p.under_first; under_second = under_then b t u p.under_second under }
