-- What a part does in a state, and which names it uses. The laws see what a part says through these alone,
-- and through the name that it defines.
--
-- UsesIn c x       == the part that says c uses the name x: its expressions do, or it is the stream that it
--                     writes or the array into which it stores
-- used_names c     == these names: those of its expressions from left to right, and then the stream or the
--                     array
-- Given            == what a part gives, or its fault
-- appended a l     == the numbers l and the number a behind them, where there is room for it, else
--                     output_full
-- stored i a es    == the elements es with the number a at the index i: the fault of i, else that of a, else
--                     index_range
-- answer_of c s    == what the part that says c gives in the state s: its number, of a write all that is
--                     written then, of a store its array then
-- next_state c v s == the state behind the part that says c, where it gave v in the state s
-- holds v          == what a predicate gave is true
-- shown_of c s     == the number by which a step in the state s is shown: the one that it assigned, wrote,
--                     stored or decided by
use Rattle.std.specs.Prelude.{ℕ, ℤ, pos, ◌⊎◌, ◌≡◌, Bool, nat_lt, if◌then◌else◌, List, [], ◌∷◌, ◌++◌, length, Result, Ok, Err}
use Rattle.hpr_arrays.specs.Elements.{Elements, with_element}
use Rattle.hpr_terms.specs.TermOf.{term_of}
use Rattle.hpr_terms.specs.Uses.{Uses, names_in}
use Rattle.hpr_terms.specs.declared.limits.TheConstants.{MAX_WRITTEN}
use Rattle.hpr_syntax.specs.declared.rows.Content.{Content}
use Rattle.hpr_syntax.specs.declared.rows.Content.TheVariants.{Assign, If, While, Write, Store}
use Rattle.hpr_syntax.specs.Rows.{expr_in}
use Rattle.hpr_syntax.specs.Values.{number_in, written_in, elements_in, Values, value_at, put}
use Rattle.hpr_syntax.specs.declared.value.Value.{Value}
use Rattle.hpr_syntax.specs.declared.value.Value.TheVariants.{Number}
use Rattle.hpr_syntax.specs.declared.value.Value.TheVariants as value
use Rattle.hpr_syntax.specs.Value.{Fault, output_full, Answer, is_true, as_index, with_index}
use Rattle.hpr_syntax.specs.Value as worth

abbrev pub UsesIn : Content → List ℕ → Type 0
UsesIn (Assign y e) x = Uses e x
UsesIn (If e) x = Uses e x
UsesIn (While e) x = Uses e x
UsesIn (Write y e) x = Uses e x ⊎ (x ≡ y)
UsesIn (Store y i e) x = Uses i x ⊎ (Uses e x ⊎ (x ≡ y))

abbrev pub used_names : Content → List (List ℕ)
used_names (Assign y e) = names_in (term_of e)
used_names (If e) = names_in (term_of e)
used_names (While e) = names_in (term_of e)
used_names (Write y e) = names_in (term_of e) ++ y ∷ []
used_names (Store y i e) = names_in (term_of i) ++ (names_in (term_of e) ++ y ∷ [])

abbrev pub Given : Type 0
Given = Result Value Fault

abbrev pub as_number : Answer → Given
as_number (Ok z) = Ok (Number z)
as_number (Err f) = Err f

abbrev pub appended : Answer → List ℤ → Given
appended (Ok z) zs = if nat_lt (length zs) MAX_WRITTEN then Ok (value.List (zs ++ z ∷ [])) else Err output_full
appended (Err f) zs = Err f

abbrev pub stored : Answer → Answer → Elements → Given
stored (Err f) a es = Err f
stored (Ok i) (Err f) es = Err f
stored (Ok i) (Ok z) es = with_index (as_index i) (λ n. Ok (value.Array (with_element es n z)))

abbrev pub answer_of : Content → Values → Given
answer_of (Assign y e) s = as_number (worth.value e s)
answer_of (If e) s = as_number (worth.value e s)
answer_of (While e) s = as_number (worth.value e s)
answer_of (Write y e) s = appended (worth.value e s) (written_in (value_at s y))
answer_of (Store y i e) s = stored (worth.value i s) (worth.value e s) (elements_in (value_at s y))

abbrev pub next_state : Content → Value → Values → Values
next_state (Assign y e) v s = put s y v
next_state (If e) v s = s
next_state (While e) v s = s
next_state (Write y e) v s = put s y v
next_state (Store y i e) v s = put s y v

abbrev pub holds : Value → Bool
holds v = is_true (number_in v)

-- the number, or 0 at a fault
abbrev pub number_or_zero : Answer → ℤ
number_or_zero (Ok z) = z
number_or_zero (Err f) = pos 0

abbrev pub shown_of : Content → Values → ℤ
shown_of c s = number_or_zero (worth.value (expr_in c) s)
