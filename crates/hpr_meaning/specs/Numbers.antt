-- Names with numbers.
--
-- Numbers       == a finite map from names to numbers
-- numbers_coded == how a proof tells such maps apart
use Rattle.std.specs.Prelude.{ℕ, List}
use Rattle.std.specs.Coded.{Coded, coded_ℕ, coded_list}
use Rattle.std.specs.FinMap.{FinMap, code}
use Rattle.hpr_graph.specs.Order.{name_cmp}

abbrev pub Numbers : Type 0
Numbers = FinMap {K = List ℕ} name_cmp ℕ

abbrev pub numbers_coded : Coded Numbers
numbers_coded = code (coded_list coded_ℕ) coded_ℕ
