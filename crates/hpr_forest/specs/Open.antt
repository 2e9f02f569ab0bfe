-- The quick test of which item may be placed next, by the one item that is open.
--
-- same_parent a b           == whether both are the same item, or both the top
-- or_this full x found      == the item found, else x unless it is full
-- open_in f placed xs       == the last of xs under which something is left to be placed
-- can_under f placed open c == whether c may be placed next, where `open` is the last placed item under which
--                              something is left, or the top
use Rattle.std.specs.Prelude.{ℕ, Bool, true, false, cond, eqb, ltb, Option, Some, None, List, [], ◌∷◌}
use Rattle.hpr_forest.specs.Forest.{Forest, is_in, all_in}

abbrev pub same_parent : Option ℕ → Option ℕ → Bool
same_parent None None = true
same_parent None (Some b) = false
same_parent (Some a) None = false
same_parent (Some a) (Some b) = eqb a b

abbrev pub or_this : Bool → ℕ → Option ℕ → Option ℕ
or_this full x (Some y) = Some y
or_this true x None = None
or_this false x None = Some x

module _ (f : Forest) where
  abbrev pub open_in : List ℕ → List ℕ → Option ℕ
  open_in placed [] = None
  open_in placed (x ∷ xs) = or_this (all_in placed (f.children x)) x (open_in placed xs)

  abbrev pub can_under : List ℕ → Option ℕ → ℕ → Bool
  can_under placed under c = cond (ltb c f.count) (cond (is_in placed c) false (cond (same_parent under (f.parent c)) (all_in placed (f.before c)) false)) false
