-- What an expression is worth in a state.
--
-- Fault              == overflow, where a result leaves the range of i64; zero_divide, where a right operand
--                       of `/` or `%` is 0; output_full, where as many numbers were written as may be;
--                       index_range, where an index isn't 0 to 65535
-- Answer             == a number or a fault
-- exact z            == the number z where it lies within i64, else overflow
-- is_true z          == a number is true where it is not 0
-- apply_unary op x   == what the prefix makes of a number
-- apply_binary op x y == what the sign makes of two numbers
-- as_index z         == the index that the number z is, if it is 0 to 65535
-- element_at z es    == the number of the elements es at the index z, else index_range
-- term_value e s     == the value of a term: both operands always, the left one first; an element after its
--                       index
-- value e s          == the value of an expression
use Rattle.std.specs.Prelude.{◌^◌, ℤ, pos, negsuc, ◌+ℤ◌, ◌-ℤ◌, ◌*ℤ◌, neg_ℤ, int_div, int_rem, int_lt, int_le, Bool, not, ◌&&◌, ◌||◌, if◌then◌else◌, nat_lt, ℕ, Option, Some, None, Result, Ok, Err}
use Rattle.std.specs.Ordering.{int_eq}
use Rattle.hpr_arrays.specs.Elements.{Elements, element}
use Rattle.hpr_terms.specs.declared.limits.TheConstants.{ELEMENTS}
use Rattle.hpr_terms.specs.Term.{Term, num, var, prefix, infix'}
use Rattle.hpr_terms.specs.Term as term
use Rattle.hpr_terms.specs.TermOf.{term_of}
use Rattle.hpr_terms.specs.declared.expr.Unary.{Unary}
use Rattle.hpr_terms.specs.declared.expr.Unary.TheVariants.{Neg, Not}
use Rattle.hpr_terms.specs.declared.expr.Binary.{Binary}
use Rattle.hpr_terms.specs.declared.expr.Binary.TheVariants.{Or, And, Equal, Differ, Less, LessEqual, Greater, GreaterEqual, Add, Sub, Mul, Div, Rem}
use Rattle.hpr_terms.specs.declared.expr.Expr.{Expr}
use Rattle.hpr_syntax.specs.Values.{Values, number_in, elements_in, value_at}

pub data Fault : Type 0 where
  overflow : Fault
  zero_divide : Fault
  output_full : Fault
  index_range : Fault

abbrev pub Answer : Type 0
Answer = Result ℤ Fault

-- whether a number lies within i64
abbrev pub in_range : ℤ → Bool
in_range (pos n) = nat_lt n (2 ^ 63)
in_range (negsuc n) = nat_lt n (2 ^ 63)

abbrev pub exact : ℤ → Answer
exact z = if in_range z then Ok z else Err overflow

abbrev pub truth : Bool → Answer
truth b = Ok (if b then pos 1 else pos 0)

abbrev pub is_true : ℤ → Bool
is_true z = not (int_eq z (pos 0))

abbrev pub apply_unary : Unary → ℤ → Answer
apply_unary Neg x = exact (neg_ℤ x)
apply_unary Not x = truth (not (is_true x))

-- z, a quotient or a remainder of x and y, where y is not 0 and the quotient is in range
abbrev pub divided : ℤ → ℤ → ℤ → Answer
divided x y z = if is_true y then (if in_range (int_div x y) then Ok z else Err overflow) else Err zero_divide

abbrev pub apply_binary : Binary → ℤ → ℤ → Answer
apply_binary Or x y = truth (is_true x || is_true y)
apply_binary And x y = truth (is_true x && is_true y)
apply_binary Equal x y = truth (int_eq x y)
apply_binary Differ x y = truth (not (int_eq x y))
apply_binary Less x y = truth (int_lt x y)
apply_binary LessEqual x y = truth (int_le x y)
apply_binary Greater x y = truth (int_lt y x)
apply_binary GreaterEqual x y = truth (int_le y x)
apply_binary Add x y = exact (x +ℤ y)
apply_binary Sub x y = exact (x -ℤ y)
apply_binary Mul x y = exact (x *ℤ y)
apply_binary Div x y = divided x y (int_div x y)
apply_binary Rem x y = divided x y (int_rem x y)

-- goes on with a number, or stays at a fault
abbrev pub with_value : Answer → (ℤ → Answer) → Answer
with_value (Ok v) go = go v
with_value (Err f) go = Err f

abbrev pub as_index : ℤ → Option ℕ
as_index (pos n) = if nat_lt n ELEMENTS then Some n else None
as_index (negsuc n) = None

-- goes on with an index, or ends with the fault of its range
abbrev pub with_index : {A : Type 0} → Option ℕ → (ℕ → Result A Fault) → Result A Fault
with_index (Some n) go = go n
with_index None go = Err index_range

abbrev pub element_at : ℤ → Elements → Answer
element_at z es = with_index (as_index z) (λ n. Ok (element es n))

abbrev pub term_value : Term → Values → Answer
term_value (num n) s = Ok (pos n)
term_value (var x) s = Ok (number_in (value_at s x))
term_value (prefix op a) s = with_value (term_value a s) (apply_unary op)
term_value (infix' op a b) s = with_value (term_value a s) (λ x. with_value (term_value b s) (apply_binary op x))
term_value (term.element x i) s = with_value (term_value i s) (λ z. element_at z (elements_in (value_at s x)))

abbrev pub value : Expr → Values → Answer
value e s = term_value (term_of e) s
