-- What is read in a state behind a part: what the part gave under the name that it defines, and what was there under another.
use Rattle.std.proofs.Common.{◌≡◌, ℕ, pos, Bool, true, false, if◌then◌else◌, Some, List, [], refl, sym, ap}
use Rattle.std.specs.Ordering.{nat_cmp, is_eq}
use Rattle.std.specs.Cmp.{eq_by_cmp_equiv, Equal-is}
use Rattle.std.specs.Cmp.Lexicographic.{slice_cmp, nat_list_cmp_total}
use Rattle.std.specs.FinMap.{empty, get-insert, nat_cmp-IsAntisymmetric, slice_cmp-IsAntisymmetric}
use Rattle.hpr_syntax.specs.declared.rows.Content.{Content}
use Rattle.hpr_syntax.specs.declared.rows.Content.TheVariants.{Assign, If, While, Write, Store}
use Rattle.hpr_syntax.specs.Rows.{assigned}
use Rattle.hpr_terms.specs.Names.{is_stream, is_array}
use Rattle.hpr_syntax.specs.declared.value.Value.{Value}
use Rattle.hpr_syntax.specs.declared.value.Value.TheVariants as value
use Rattle.hpr_syntax.specs.Values.{Values, number_in, written_in, elements_in, blank, value_at, put}
use Rattle.hpr_syntax.specs.Contents.{next_state}

abbrev pub same_name : List ℕ → List ℕ → Bool
same_name x y = is_eq (slice_cmp nat_cmp x y)

pub tied : (x y : List ℕ) → same_name x y ≡ true → x ≡ y
tied x y e = slice_cmp-IsAntisymmetric nat_cmp-IsAntisymmetric x y ((Equal-is (slice_cmp nat_cmp x y)).0 e)

pub same_itself : (x : List ℕ) → same_name x x ≡ true
same_itself x = (eq_by_cmp_equiv nat_list_cmp_total).refl x

pub same_not : (x y : List ℕ) → ¬ (Some y ≡ Some x) → same_name x y ≡ false
same_not x y n = go (same_name x y) refl
  where
    go : (b : Bool) → same_name x y ≡ b → same_name x y ≡ false
    go false e = e
    go true e = absurd (n (ap Some (sym (tied x y e))))

-- where nothing was put there is the number 0, nothing was written, and each element is 0
module _ {A : Type 0} (part : Value → A) (none : A) (list : part (value.List []) ≡ none) (array : part (value.Array empty) ≡ none)
    (number : part (value.Number (pos 0)) ≡ none) where
  blank_by : (stream array' : Bool) → part (if stream then value.List [] else (if array' then value.Array empty else value.Number (pos 0))) ≡ none
  blank_by true b = list
  blank_by false true = array
  blank_by false false = number

pub blank_number : (x : List ℕ) → number_in (blank x) ≡ pos 0
blank_number x = blank_by number_in (pos 0) refl refl refl (is_stream x) (is_array x)

pub blank_written : (x : List ℕ) → written_in (blank x) ≡ []
blank_written x = blank_by written_in [] refl refl refl (is_stream x) (is_array x)

pub blank_elements : (x : List ℕ) → elements_in (blank x) ≡ empty
blank_elements x = blank_by elements_in empty refl refl refl (is_stream x) (is_array x)

-- a state after a value is put
pub get_put : (s : Values) (x : List ℕ) (v : Value) → value_at (put s x v) x ≡ v
get_put s x v = let g = get-insert nat_list_cmp_total s x v x in let f = same_itself x in rw (g, f) refl

pub get_other : (s : Values) (x y : List ℕ) (v : Value) → ¬ (Some y ≡ Some x) → value_at (put s y v) x ≡ value_at s x
get_other s x y v n = let g = get-insert nat_list_cmp_total s y v x in let f = same_not x y n in rw (g, f) refl
