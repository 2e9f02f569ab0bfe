-- How a proof tells states apart.
--
-- values_coded == states with numbers that tell them apart
use Rattle.std.specs.Coded.{Coded, coded_ℕ, coded_list}
use Rattle.std.specs.FinMap.{code}
use Rattle.hpr_syntax.specs.Private.ValueCode.{value_coded}
use Rattle.hpr_syntax.specs.Values.{Values}

abbrev pub values_coded : Coded Values
values_coded = code (coded_list coded_ℕ) value_coded
