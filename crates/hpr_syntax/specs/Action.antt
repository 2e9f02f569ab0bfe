-- What a part without blocks does.
--
-- Action == an assignment of the value of an expression to a name, a write of it to the stream that the name
--           tells, or a store of it into the element of the array that the name tells, at the index that a
--           first expression gives
use Rattle.std.specs.Prelude.{ℕ, List}
use Rattle.hpr_terms.specs.declared.expr.Expr.{Expr}

pub data Action : Type 0 where
  assigns : (name : List ℕ) → (value : Expr) → Action
  writes : (name : List ℕ) → (value : Expr) → Action
  stores : (name : List ℕ) → (index value : Expr) → Action
