use Rattle.std.proofs.Common.{◌≡◌, drop}
use Rattle.hpr_io.specs.Files.{files_in, lookup}
use Rattle.hpr_data.proofs.texts.bytes_named.Given as goal

abbrev pub invariant-loop-known : goal.invariant-loop-known
invariant-loop-known l = lookup (files_in l.files) l.name ≡ lookup (files_in (drop l.known-index l.files)) l.name
