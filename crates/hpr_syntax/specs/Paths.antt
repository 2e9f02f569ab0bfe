-- Paths of a program, and the undisturbed ones.
--
-- Path R Stops a z marks         == a list of at least one step of R from a to z, with the marks of its
--                                   steps; no point strictly between stops it
-- IsPath body a z marks          == a path of the program: each two neighbours are a pair
-- DefinesAt body x p             == the point p is a part that defines x
-- IsUndisturbed body x a z marks == a path of the program on which no point strictly between a and z defines
--                                   x
use Rattle.std.specs.Prelude.{◌≡◌, ℕ, List, [], ◌∷◌, Option, Some}
use Rattle.hpr_terms.specs.declared.tag.Tag.{Tag}
use Rattle.hpr_syntax.specs.declared.rows.Content.{Content}
use Rattle.hpr_syntax.specs.Rows.{assigned}
use Rattle.hpr_syntax.specs.Body.{Body}
use Rattle.hpr_syntax.specs.Skeleton.{Point, at}
use Rattle.hpr_syntax.specs.Pairs.{IsPair}
use Rattle.hpr_syntax.specs.Nests.{Says}

pub data Path {P M : Type 0} (R : P → P → M → Type 0) (Stops : P → Type 0) : P → P → List M → Type 0 where
  one : {a z : P} {m : M} → R a z m → Path R Stops a z (m ∷ [])
  step : {a b z : P} {m : M} {ms : List M} → R a b m → ¬ Stops b → Path R Stops b z ms → Path R Stops a z (m ∷ ms)

abbrev pub IsPath : Body → Point → Point → List (Option Tag) → Type 0
IsPath p a z marks = Path (IsPair p) (λ _. ⊥) a z marks

abbrev pub DefinesAt : Body → List ℕ → Point → Type 0
DefinesAt p x a = (t : Tag) × (c : Content) × (a ≡ at t) × Says p t c × (assigned c ≡ Some x)

abbrev pub IsUndisturbed : Body → List ℕ → Point → Point → List (Option Tag) → Type 0
IsUndisturbed p x a z marks = Path (IsPair p) (DefinesAt p x) a z marks
