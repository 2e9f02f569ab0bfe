-- What a search keeps of the items placed so far, so that a judgement need not look at all of them.
--
-- or_else o p           == o, and p where that is none
-- last_of t v items     == the last of these items that defines the variable v
-- is_reached_by t o c   == whether the item o, the last placed one that defines a variable which c uses,
--                          reaches c without an independent flow edge
-- some_reach t last c vs == whether c is so reached by the last definition of one of these variables; `last`
--                           has that of each
-- IsSized t s           == there is a place for each variable, and one for each item
-- IsSummary t placed s  == `last` has the last placed definition of each variable, and `earlier`, for each
--                          placed definition, the one before it
use Rattle.std.specs.Prelude.{◌≡◌, ℕ, Bool, true, false, cond, Option, Some, None, List, [], ◌∷◌, ◌++◌, vec_len, get_or}
use Rattle.hpr_forest.specs.Marks.{is_in}
use Rattle.hpr_region.specs.declared.flows.Flows.{Flows}
use Rattle.hpr_region.specs.declared.summary.Summary.{Summary}
use Rattle.hpr_region.specs.Flows.{readers_of, same_block, same_variable, variable_of}

abbrev pub or_else : Option ℕ → Option ℕ → Option ℕ
or_else None p = p
or_else (Some x) p = Some x

module _ (t : Flows) where
  abbrev pub last_of : ℕ → List ℕ → Option ℕ
  last_of v [] = None
  last_of v (k ∷ items) = or_else (last_of v items) (cond (same_variable (Some v) (variable_of t k)) (Some k) None)

  abbrev pub is_reached_by : Option ℕ → ℕ → Bool
  is_reached_by None c = false
  is_reached_by (Some d) c = cond (same_block t d c) (cond (is_in (readers_of t d) c) false true) false

  abbrev pub some_reach : List (Option ℕ) → ℕ → List ℕ → Bool
  some_reach last c [] = false
  some_reach last c (v ∷ vs) = cond (is_reached_by (get_or last v None) c) true (some_reach last c vs)

pub record IsSized (t : Flows) (s : Summary) : Type 0 where
  pub names : vec_len s.last ≡ t.names
  pub items : vec_len s.earlier ≡ vec_len t.slots

pub record IsSummary (t : Flows) (placed : List ℕ) (s : Summary) : Type 0 where
  pub sized : IsSized t s
  pub last : (v : ℕ) → get_or s.last.items v None ≡ last_of t v placed
  pub earlier : (front back : List ℕ) (k v : ℕ) → placed ≡ front ++ k ∷ back → variable_of t k ≡ Some v → get_or s.earlier.items k None ≡ last_of t v front
