-- A change that is the only one.
--
-- IsOnlyChange base vs v == each of the variants is base or v, and one of them is v: so it is where each but
--                           one is base, and where all that were changed became the same program
use Rattle.std.specs.Prelude.{◌≡◌, ◌⊎◌, List, Contains}
use Rattle.std.specs.List.{AllByRecursion}
use Rattle.hpr_syntax.specs.Tree.{Tree}

abbrev pub IsOnlyChange : Tree → List Tree → Tree → Type 0
IsOnlyChange base vs v = AllByRecursion (λ w. (w ≡ base) ⊎ (w ≡ v)) vs × Contains vs v
