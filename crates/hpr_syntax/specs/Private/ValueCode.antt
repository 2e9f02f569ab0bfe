-- Numbers that tell values apart.
--
-- value_parts == a value, taken apart; value_back puts it together again
-- value_same  == it is then the same
-- value_coded == values, with their codes
use Rattle.std.specs.Prelude.{◌≡◌, ℤ, ◌⊎◌, List}
use Rattle.std.proofs.Common.{inl, inr, refl}
use Rattle.std.specs.Coded.{Coded, code_by, coded⊎, coded_ℕ, coded_ℤ, coded_list}
use Rattle.std.specs.FinMap.{code}
use Rattle.hpr_arrays.specs.Elements.{Elements}
use Rattle.hpr_syntax.specs.declared.value.Value.{Value}
use Rattle.hpr_syntax.specs.declared.value.Value.TheVariants as value

abbrev pub value_parts : Value → ℤ ⊎ (List ℤ ⊎ Elements)
value_parts (value.Number z) = inl z
value_parts (value.List zs) = inr (inl zs)
value_parts (value.Array es) = inr (inr es)

abbrev pub value_back : ℤ ⊎ (List ℤ ⊎ Elements) → Value
value_back (inl z) = value.Number z
value_back (inr (inl zs)) = value.List zs
value_back (inr (inr es)) = value.Array es

pub value_same : (v : Value) → value_back (value_parts v) ≡ v
value_same (value.Number z) = refl
value_same (value.List zs) = refl
value_same (value.Array es) = refl

abbrev pub value_coded : Coded Value
value_coded = code_by (ℤ ⊎ (List ℤ ⊎ Elements)) (coded⊎ coded_ℤ (coded⊎ (coded_list coded_ℤ) (code coded_ℕ coded_ℤ))) value_parts value_back value_same
