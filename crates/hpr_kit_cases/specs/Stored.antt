-- What a store in memory keeps.
--
-- rewrite_of r == a file that got other bytes
use Rattle.std.specs.Prelude.{string_bytes}
use Rattle.hpr_kit.specs.Answer.{Rewrite}
use Rattle.hpr_kit_cases.specs.declared.store.Renewal.{Renewal}

abbrev pub rewrite_of : Renewal → Rewrite
rewrite_of r = record { file = string_bytes r.file; had = r.had.items; bytes = r.bytes.items }
