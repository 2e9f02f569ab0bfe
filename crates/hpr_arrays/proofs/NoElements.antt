-- Where no element was changed each is 0.
use Rattle.std.proofs.Common.{◌≡◌, ℕ, ℤ, pos, refl}
use Rattle.std.specs.Ordering.{nat_cmp}
use Rattle.std.specs.FinMap.{empty, len, get-empty, len-empty}
use Rattle.hpr_arrays.specs.Elements.{element}

pub no_element : (at : ℕ) → element empty at ≡ pos 0
no_element at = rw (get-empty nat_cmp at) refl

pub none_counted : len (empty {X = ℤ} {R = nat_cmp}) ≡ 0
none_counted = len-empty nat_cmp ℤ
