-- States.
--
-- number_in v  == the number that a value is; 0 of another value
-- written_in v == the numbers that were written; none of another value
-- elements_in v == the elements of an array that aren't 0; none of another value
-- blank x      == what the name x is worth where nothing was put under it: 0, of the stream the empty list,
--                 of an array no element but 0
-- Values       == a state: a finite map from names to values
-- value_at s x == the value of the name x in the state s
-- put s x v    == the state s, where the name x has the value v now
use Rattle.std.specs.Prelude.{ℕ, ℤ, pos, List, [], if◌then◌else◌, unwrap_or}
use Rattle.std.specs.Ordering.{nat_cmp}
use Rattle.std.specs.Cmp.Lexicographic.{slice_cmp}
use Rattle.std.specs.FinMap.{FinMap, empty, get, insert}
use Rattle.hpr_arrays.specs.Elements.{Elements}
use Rattle.hpr_terms.specs.Names.{is_stream, is_array}
use Rattle.hpr_syntax.specs.declared.value.Value.{Value}
use Rattle.hpr_syntax.specs.declared.value.Value.TheVariants as value

abbrev pub number_in : Value → ℤ
number_in (value.Number z) = z
number_in (value.List zs) = pos 0
number_in (value.Array es) = pos 0

abbrev pub written_in : Value → List ℤ
written_in (value.Number z) = []
written_in (value.List zs) = zs
written_in (value.Array es) = []

abbrev pub elements_in : Value → Elements
elements_in (value.Number z) = empty
elements_in (value.List zs) = empty
elements_in (value.Array es) = es

abbrev pub blank : List ℕ → Value
blank x = if is_stream x then value.List [] else (if is_array x then value.Array empty else value.Number (pos 0))

abbrev pub Values : Type 0
Values = FinMap {K = List ℕ} (slice_cmp nat_cmp) Value

abbrev pub value_at : Values → List ℕ → Value
value_at s x = unwrap_or (get s x) (blank x)

abbrev pub put : Values → List ℕ → Value → Values
put s x v = insert s x v
