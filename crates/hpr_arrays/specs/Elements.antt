-- The elements of an array.
--
-- Elements           == the elements that aren't 0: a finite map from their indices to numbers
-- element es at      == the element with this index: 0 where the map lacks it
-- with_element es at n == the same elements, but the one with this index is n
use Rattle.std.specs.Prelude.{ℕ, ℤ, pos, if◌then◌else◌, unwrap_or}
use Rattle.std.specs.Ordering.{int_eq, nat_cmp}
use Rattle.std.specs.FinMap.{FinMap, get, insert, remove}

abbrev pub Elements : Type 0
Elements = FinMap nat_cmp ℤ

abbrev pub element : Elements → ℕ → ℤ
element elements at = unwrap_or (get elements at) (pos 0)

abbrev pub with_element : Elements → ℕ → ℤ → Elements
with_element elements at number = if int_eq number (pos 0) then remove elements at else insert elements at number
