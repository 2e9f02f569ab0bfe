-- What a part gives, by the number of its expression.
--
-- given c s z     == what the part that says c, and is no store, gives in the state s, where its expression
--                    is worth z: a write all that is written then, any other the number
-- given_of c s r  == the same, or the fault, of what the code answers
-- stored_of es r  == what a store gives where its array has the elements es, or the fault, of the index and
--                    the number that the code answers
use Rattle.std.specs.Prelude.{ℕ, ℤ, [], ◌∷◌, ◌++◌, Result, Ok, Err}
use Rattle.hpr_arrays.specs.Elements.{Elements, with_element}
use Rattle.hpr_syntax.specs.declared.rows.Content.{Content}
use Rattle.hpr_syntax.specs.declared.rows.Content.TheVariants.{Write}
use Rattle.hpr_syntax.specs.declared.value.Value.{Value}
use Rattle.hpr_syntax.specs.declared.value.Value.TheVariants as value
use Rattle.hpr_syntax.specs.Contents.{Given}
use Rattle.hpr_syntax.specs.Values.{Values, written_in, value_at}
use Rattle.hpr_run.specs.declared.values.Fault.{Fault}
use Rattle.hpr_run.specs.Faults.{fault_of}

abbrev pub given : Content → Values → ℤ → Value
given (Write y e) s z = value.List (written_in (value_at s y) ++ z ∷ [])
given _ s z = value.Number z

abbrev pub given_of : Content → Values → Result ℤ Fault → Given
given_of c s (Ok z) = Ok (given c s z)
given_of c s (Err f) = Err (fault_of f)

abbrev pub stored_of : Elements → Result (ℕ × ℤ) Fault → Given
stored_of es (Ok r) = Ok (value.Array (with_element es r.0 r.1))
stored_of es (Err f) = Err (fault_of f)
