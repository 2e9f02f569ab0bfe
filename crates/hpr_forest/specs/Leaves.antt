-- The tree of all choices. A front is a list of numbers each of which may stand next behind those before it;
-- a leaf is a whole list.
--
-- when test xs              == xs where the test holds, else nothing
-- branch below may from k   == what is below the children from, from + 1, .. that may stand next, k of them
--                              looked at
-- leaves can n k q          == the lists of k more numbers that begin with the front q, in order
-- level can n q from        == the leaves that begin with q and whose next number is at least `from`
-- later can n pre rest      == the leaves that begin with pre, after all those that begin with pre and the
--                              rest
-- below can n q             == the leaves that begin with q
-- after can n q             == the leaves that come after all those that begin with q
-- from_here can n q         == the leaves from the first that begins with q on
use Rattle.std.specs.Prelude.{ℕ, zero, suc, ◌+◌, ◌-◌, Bool, true, false, List, [], ◌∷◌, ◌++◌, length}

abbrev pub when : {X : Type 0} → Bool → List X → List X
when true xs = xs
when false xs = []

abbrev pub branch : (ℕ → List (List ℕ)) → (ℕ → Bool) → ℕ → ℕ → List (List ℕ)
branch below may from zero = []
branch below may from (suc count) = when (may from) (below from) ++ branch below may (from + 1) count

module _ (can : List ℕ → ℕ → Bool) (n : ℕ) where
  abbrev pub leaves : ℕ → List ℕ → List (List ℕ)
  leaves zero q = q ∷ []
  leaves (suc k) q = branch (λ c. leaves k (q ++ c ∷ [])) (can q) 0 n

  abbrev pub level : List ℕ → ℕ → List (List ℕ)
  level q from = branch (λ c. leaves (n - (length q + 1)) (q ++ c ∷ [])) (can q) from (n - from)

  abbrev pub later : List ℕ → List ℕ → List (List ℕ)
  later pre [] = []
  later pre (c ∷ rest) = later (pre ++ c ∷ []) rest ++ level pre (c + 1)

  abbrev pub below : List ℕ → List (List ℕ)
  below q = leaves (n - length q) q

  abbrev pub after : List ℕ → List (List ℕ)
  after q = later [] q

  abbrev pub from_here : List ℕ → List (List ℕ)
  from_here q = below q ++ after q
